use Rattle.std.proofs.Common.{rules, arith, ap, sym, ◌∙◌}
use Rattle.guest_image.specs.ImageValue.{ImageValue}
use Rattle.spec_state.specs.Fits.{HistoryValue}
use Rattle.spec_state.proofs.Empty.{stored_empty, indexed_empty, short_empty, count_empty, size_opening}
use Rattle.spec_state.proofs.Noted.{none_noted}
use Rattle.spec_state.proofs.state.State.new.Goals as goal

pub invariant_of-result : goal.invariant_of-result
invariant_of-result g c =
    let nothing = c.in_ok-lists.ensures.none in
    let slots = c.in_ok-made.ensures.slots in
    let none = count_empty c.in_ok-lists.lists.queues.items _ nothing.queues_are in
    let size = size_opening c.initial.result.now _ c.data_size.result c.in_ok-memory.ensures (search rules) ∙ c.data_size.ensures
    ∙ ap (λ (i : ImageValue). i.data_size) c.requires.named.image_is in (
      record {
        valid = c.requires.valid;
        budget_is = c.requires.named.budget_is;
        commits_is = c.requires.named.commits_is;
        limit_is = ap (λ (h : HistoryValue). h.limit) c.in_ok-history.ensures ∙ c.requires.named.commits_is;
      },
      c.in_ok-lists.ensures.tiles,
      c.in_ok-lists.ensures.cores,
      record {
        enough = slots.enough;
        used = slots.used ∙ sym none;
        short = short_empty _ _ _ nothing.queues_are;
        index = slots.index;
        indexed_are = omega (arith, slots.indexed_are);
        marks = slots.marks;
        members = slots.members;
        arrivals = slots.arrivals;
        numbers = slots.numbers;
      },
      stored_empty _ _ _ _ c.in_ok-made.ensures.none nothing.queues_are nothing.finished_are nothing.cores_are size,
      indexed_empty _ _ _ _ _ _ c.in_ok-made.ensures.none nothing.queues_are c.in_ok-made.ensures.index,
      none_noted _ _ c.in_ok-made.ensures.none,
    )
