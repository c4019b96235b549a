use Rattle.std.proofs.Common.{arith, ◌∙◌, length, sym, ap, subst}
use Rattle.std.proofs.lemmas.List.{length_push}
use Rattle.spec_state.specs.Fits.{HistoryValue, HasLimits}
use Rattle.spec_commit.proofs.Committed.{stored_longer}
use Rattle.spec_commit.proofs.committing.enter_commit.Goals as goal

pub invariant_of-state : goal.invariant_of-state
invariant_of-state g c =
    let entries = ap (λ (h : HistoryValue). length h.entries) c.push.ensures ∙ length_push c.state.inside.history.entries c.entry_of-entry.result in (
      subst (HasLimits g.N.Naming.budget g.N.Naming.commits c.state.inside.settings) (ap (λ (h : HistoryValue). h.limit) (sym c.push.ensures)) c.state.invariant.0,
      c.state.invariant.1,
      c.state.invariant.2,
      c.state.invariant.3,
      stored_longer g.N.Naming.image.data_size _ c.push.new.self.entries c.append_with.new.self c.as_domain-state-inside.result c.state.invariant.4 (omega (arith, entries)),
      c.state.invariant.5,
      c.state.invariant.6,
    )
