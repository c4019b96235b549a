use Rattle.std.proofs.Common.{arith, sym, ◌∙◌, ◌≡◌, [], length}
use Rattle.fractal_watch.proofs.Filtered.{none_at, place_is}
use Rattle.fractal_watch.proofs.words.filter_place.Goals as goal

pub returns-then-is_filter-clause-place : goal.returns-then-is_filter-clause-place
returns-then-is_filter-clause-place c =
    let inside = c.loop-place-test.true in
    place_is c.args.words.now c.loop-place.place _ (omega (arith, inside)) c.loop-place.invariant
    (λ low. sym c.is_filter.ensures ∙ c.if-is_filter.true)

pub loop-place-preserved : goal.loop-place-preserved
loop-place-preserved c =
    none_at c.args.words.now c.loop-place.place _ c.loop-place-test.true c.loop-place.invariant
    (sym c.is_filter.ensures ∙ c.if-is_filter.false)

pub returns-clause-place : goal.returns-clause-place
returns-clause-place c =
    let words = c.args.words.now in
    let here : c.loop-place.place ≡ length words =
    omega (arith, c.loop-place-test.false, c.loop-place.auto.place-end) in
    sym here
    ∙ place_is words c.loop-place.place (record { ref_ptr = (0, 0); now = [] }) c.loop-place.auto.place-end
    c.loop-place.invariant (λ low. absurd (omega (arith, low, here)))
