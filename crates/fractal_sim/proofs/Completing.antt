-- Where nothing failed, the status of what was found is the one that is due, or 5 for want of memory.
use Rattle.std.specs.Prelude.{IfSome}
use Rattle.std.proofs.Common.{◌≡◌, ◌⊎◌, inl, inr, refl, ap, ◌∙◌, subst, ℕ, List, Some, None}
use Rattle.std.specs.declared.option.Option.{Option}
use Rattle.run_journal.specs.declared.end.End.{End}
use Rattle.program_call.specs.Call.{Input}
use Rattle.program_call.specs.Complete.{BeginsWithImage, IsKnown}
use Rattle.program_call.specs.Program.{IsDue}
use Rattle.program_call.proofs.Proved.{begins}
use Rattle.fractal_sim.specs.declared.finding.Finding.{Finding}
use Rattle.fractal_sim.specs.declared.finding.Finding.TheVariants as finding
use Rattle.fractal_sim.specs.declared.finding.Saving.{Saving}
use Rattle.fractal_sim.specs.declared.finding.Saving.TheVariants as saving
use Rattle.fractal_sim.specs.Complete as due
use Rattle.fractal_sim.specs.Finding.{IsFound, saving_status, status_by, status_of}
use Rattle.fractal_sim.specs.Given.{front}
use Rattle.fractal_sim.specs.Program.{program}
use Rattle.fractal_sim.specs.Runs.{IsReported}
use Rattle.fractal_sim.specs.Texts.{end_status, played_status}

-- the status of what was found is due, or 5 for want of memory
pub is_due : (input : Input) (bytes : List ℕ) (f : Finding) → IsKnown front input bytes → IsFound input f
    → (status_of f ≡ 5) ⊎ IsDue program input.words bytes (status_of f)
is_due input bytes finding.Memory known found = inl refl
is_due input bytes (finding.Refused line) known found =
    let begun = begins front input bytes found.request found.image found.bytes_behind known found.given in
    inr (inr (due.Refused found.request found.image found.bytes_behind line begun found.command found.wrong))
is_due input bytes (finding.NoScript line) known found =
    let begun = begins front input bytes found.request found.image found.bytes_behind known found.given in
    inr (inr (due.NoScript found.request found.image found.bytes_behind line begun found.command found.wrong))
is_due input bytes (finding.Accepted closed) known found =
    let accepted = found.1 in
    let begun = begins front input bytes accepted.request found.0 accepted.bytes_behind known accepted.given in
    inr (inr (due.Checked accepted.request found.0 accepted.bytes_behind accepted.report begun accepted.command
    accepted.report_is accepted.accepted))
is_due input bytes (finding.Ran image ran steps) known found = go ran.end refl where
  go : (e : Option End) → ran.end ≡ e
      → (status_by end_status e ≡ 5) ⊎ IsDue program input.words bytes (status_by end_status e)
  go None at = inl refl
  go (Some end) at =
      let begun = begins front input bytes found.request image found.bytes_behind known found.given in
      let told = subst (λ e. IfSome e (IsReported found.request.command)) at found.told in
      inr (inr (due.Ended found.request image found.bytes_behind end begun told))
is_due input bytes (finding.Stopped ran steps made) known found = go made where
  begun : BeginsWithImage front input.words bytes found.request found.image found.bytes_behind
  begun = begins front input bytes found.request found.image found.bytes_behind known found.given

  go : (m : Saving) → (saving_status m ≡ 5) ⊎ IsDue program input.words bytes (saving_status m)
  go (saving.Bytes written) = inr (inr (due.Saved found.request found.image found.bytes_behind begun found.command))
  go (saving.Nested depth) = inr (inr (due.Nested found.request found.image found.bytes_behind begun found.command))
  go (saving.TooMany count) = inr (inr (due.TooMany found.request found.image found.bytes_behind begun found.command))
is_due input bytes (finding.Loaded load image ran steps) known found = go ran.end refl where
  go : (e : Option End) → ran.end ≡ e
      → (status_by end_status e ≡ 5) ⊎ IsDue program input.words bytes (status_by end_status e)
  go None at = inl refl
  go (Some end) at =
      inr (inr (due.Loaded found.request load.load load.seed load.size end found.given.asked found.given.command
      (λ unfinished. found.made.over (at ∙ ap Some unfinished))))
is_due input bytes (finding.Played image p) known found = go p.ran.end where
  go : (e : Option End) → (status_by played_status e ≡ 5) ⊎ IsDue program input.words bytes (status_by played_status e)
  go None = inl refl
  go (Some end) =
      let begun = begins front input bytes found.request image found.bytes_behind known found.given in
      inr (inr (due.Played found.request image found.bytes_behind found.made.script end begun found.command
      found.made.script_is))
is_due input bytes (finding.Traced t) known found = go t.ran.end where
  go : (e : Option End) → (status_by (λ end. 0) e ≡ 5) ⊎ IsDue program input.words bytes (status_by (λ end. 0) e)
  go None = inl refl
  go (Some end) =
      let begun = begins front input bytes found.request found.image found.bytes_behind known found.given in
      inr (inr (due.Traced found.request found.image found.bytes_behind found.made.script begun found.command
      found.made.script_is))
