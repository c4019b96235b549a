use Rattle.std.proofs.Common.{arith, ap, refl, subst, ◌≡◌, ◌∙◌, ◌+◌, ◌*◌}
use Rattle.event_step.specs.spec_state.declared.settings.Settings.{Settings}
use Rattle.event_step.specs.event_def.Advancing.{AdvanceAnswers}
use Rattle.conflict_book.specs.BookViews.{view_of}
use Rattle.conflict_book.proofs.Nexts.{halted, not_enough, one_more}
use Rattle.conflict_book.proofs.book.Book.run_least.Goals as goal

pub returns-in-Some : goal.returns-in-Some
returns-in-Some g c =
    let mid = view_of g.P.Placer.policy g.T.Tap.notes c.loop-made.self in
    let new = view_of g.P.Placer.policy g.T.Tap.notes c.advance_once.new.self in
    halted g.row.N.Denot g.N.Naming.image c.loop-made.made (view_of g.P.Placer.policy g.T.Tap.notes c.args.self.now) mid new c.in-Some.halt
    c.is_sound.ensures.sound c.loop-made.invariant
    (subst (λ a. AdvanceAnswers g.row.N.Denot g.N.Naming.image mid a new) c.in-Some.ensures.some c.advance_once.ensures.0)

pub loop-made-preserved : goal.loop-made-preserved
loop-made-preserved g c =
    one_more g.row.N.Denot g.N.Naming.image c.loop-made.made _ _ _ c.advance_once.result c.loop-made.invariant c.advance_once.ensures.0 (c.in_default.ensures.none refl)

pub unreachable-requires : goal.unreachable-requires
unreachable-requires g c =
    let past = c.loop-made-test.false in
    let upto = c.loop-made.auto.made-end in
    let all : c.loop-made.made ≡ c.enough_events-made-end.result = omega (arith, past, upto) in
    not_enough g.row.N.Denot g.N.Naming.image c.loop-made.made (view_of g.P.Placer.policy g.T.Tap.notes c.args.self.now) _ c.is_sound.ensures.sound c.loop-made.invariant
    (all ∙ c.enough_events-made-end.ensures ∙ ap (λ (s : Settings). (s.commits + 1) * (s.budget + 4) + 1) c.settings.ensures.value)
