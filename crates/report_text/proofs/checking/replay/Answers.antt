use Rattle.std.proofs.Common.{◌≡◌, ◌+◌, ◌∙◌, Some, refl, sym, ap, subst, inr, rules, take, length}
use Rattle.run_law.specs.serial_machine.Turn.{turn}
use Rattle.run_law.specs.serial_machine.Run.{IsRun, opening}
use Rattle.run_law.proofs.Proved.{length-opening, Runs-more}
use Rattle.report_text.proofs.Sizes.{turn-keeps}
use Rattle.report_text.proofs.checking.replay.Goals as goal
use Rattle.fractal_vt.proofs.Proved.{take_one_more}

pub loop-index-init : goal.loop-index-init
loop-index-init c = record {
  run = ap (λ s. s.state) (sym c.in-Ok.ensures);
  kept = search rules;
  count = search rules;
  size = ap (λ s. length s.state.memory) c.in-Ok.ensures ∙ length-opening c.args.image.now c.initial.ensures.limits;
  within = search rules;
}

pub returns-then-not-is_same-clause-err : goal.returns-then-not-is_same-clause-err
returns-then-not-is_same-clause-err c = record {
  place = c.loop-index.index;
  told = refl;
  state = c.loop-index.serial.state;
  run = c.loop-index.invariant.run;
  entry = c.entry_at-entry.result;
  stands = c.entry_at-entry.ensures;
  cause = inr (
    search rules,
    record {
      after = c.turn.new.self.state;
      found = c.in-Ok-turn.found;
      turned =
          subst (λ b. turn c.args.image.now b c.loop-index.serial.state c.entry_at-entry.result.name ≡ Some (c.turn.new.self.state, c.in-Ok-turn.found)) c.loop-index.invariant.kept c.in-Ok-turn.ensures.ok;
      other = c.if-not-is_same.ensures;
    },
  );
}

pub loop-index-preserved : goal.loop-index-preserved
loop-index-preserved c =
    let image = c.args.image.now in
    let before = c.loop-index.serial.state in
    let after = c.turn.new.self.state in
    let entry = c.entry_at-entry.result in
    let turned : turn image c.args.budget before entry.name ≡ Some (after, entry) =
    subst (λ b. turn image b before entry.name ≡ Some (after, entry)) c.loop-index.invariant.kept
    (subst (λ e. turn image c.loop-index.serial.budget before entry.name ≡ Some (after, e)) c.if-not-is_same.ensures c.in-Ok-turn.ensures.ok) in
    let keeps = turn-keeps image c.args.budget before after entry.name entry turned in
    record {
      run =
          subst (λ js. IsRun image c.args.budget js after) (sym (take_one_more c.args.journal.now c.loop-index.index entry c.entry_at-entry.ensures))
          (Runs-more image c.args.budget (take c.loop-index.index c.args.journal.now) (opening image) before after entry c.loop-index.invariant.run turned);
      kept = search rules;
      count = keeps.count ∙ ap (λ k. k + 1) c.loop-index.invariant.count;
      size = keeps.size ∙ c.loop-index.invariant.size;
      within = search rules;
    }
