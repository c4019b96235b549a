-- What is found at the front and is told is an answer, whatever the program does with an image.
use Rattle.std.proofs.Common.{◌≡◌, ◌≢◌, ◌⊎◌, ◌∙◌, inl, inr, ap, subst, sym, drop, ℕ, List, [], Some}
use Rattle.std.proofs.lemmas.Bool.{cases_eq}
use Rattle.sim_io.specs.Streams.{SinkState}
use Rattle.guest_image.specs.ImageValue.{ImageValue, image_value}
use Rattle.guest_image.specs.declared.image.Kind.TheVariants.{Ordered}
use Rattle.guest_image.specs.Reading.{image_of}
use Rattle.run_law.proofs.Proved.{lawful}
use Rattle.program_call.specs.declared.input.FrontFault.{FrontFault}
use Rattle.program_call.specs.declared.input.FrontFault.TheVariants as faults
use Rattle.program_call.specs.declared.input.Opened.{Opened}
use Rattle.program_call.specs.declared.outcome.Outcome.{Outcome}
use Rattle.program_call.specs.Answers as table
use Rattle.program_call.specs.Answers.{IsRefused, TellsFrontFault}
use Rattle.program_call.specs.Call.{Input, call_on, input_limit}
use Rattle.program_call.specs.Complete as due
use Rattle.program_call.specs.Complete.{IsDueAtFront, IsKnown}
use Rattle.program_call.specs.Front.{Front}
use Rattle.program_call.specs.Given.{IsFrontFault, IsUnread, ReadsAsAsked, ReadsImage}
use Rattle.program_call.specs.Outcomes.{IsEmpty, IsMade, IsWant, TellsLine, TellsMadeLine}
use Rattle.program_call.specs.Program.{Answers, IsCut, IsDue, IsToldBy, Program, TellsOutcome}
use Rattle.program_call.specs.Reading.{GivesNoImage, OpensWithImage}
use Rattle.program_call.specs.Runs.{HoldsLawfulRun}
use Rattle.program_call.proofs.Reading.{asked_for, asks_all, past_all, read_as_asked, told_bytes}

-- ---- what is found

module _ (front : Front) (input : Input) (asked : front.Asked) (asks : front.asked_in input.words ≡ Some asked)
    (reads : front.Reads asked) where
  -- why a source gave no image is why the call comes to none
  pub fault_given : (fault : FrontFault) → GivesNoImage input.source_before input.source_after fault
      → IsFrontFault front input fault
  fault_given faults.Usage gives = absurd gives
  fault_given faults.Memory gives = asked_for front input asked asks reads gives
  fault_given faults.Unread gives =
      record { asked = asked; asks = asks; reads = reads; read = gives.0; rose = gives.1 }
  fault_given faults.Long gives = record { asked = asked; asks = asks; reads = reads; past = gives }
  fault_given (faults.NoImage fault) gives = record {
    asked = asked;
    bytes = gives.0;
    read = record { asks = asks; reads = reads; read = gives.1 };
    fault_is = gives.2;
  }

  -- and the image that it gave is the one that was read
  pub image_given : (opened : Opened) (behind : List ℕ) → front.IsWithin asked
      → OpensWithImage input.source_before input.source_after opened → behind ≡ drop opened.size opened.bytes.items
      → ReadsImage front input asked opened.image behind
  image_given opened behind within gives behind_is = record {
    bytes = opened.bytes.items;
    size = opened.size;
    read = record { asks = asks; reads = reads; read = gives.read };
    image_is = gives.image_is;
    behind_is = behind_is;
    fits = gives.fits;
    within = within;
  }

-- the status of a call that is refused is due
refusal_is_due : (front : Front) (input : Input) (bytes : List ℕ) (status : ℕ) (line : List ℕ)
    → IsKnown front input bytes → IsRefused front input status line → IsDueAtFront front input.words bytes status
refusal_is_due front input bytes status line known (table.Usage found) = due.Usage found.refused
refusal_is_due front input bytes status line known (table.Long found) =
    let is = told_bytes front input bytes found.asked known found.asks found.reads in
    due.Long found.asked found.asks found.reads
    (past_all bytes input.source_before input.source_after input_limit is found.past)
refusal_is_due front input bytes status line known (table.NoImage fault found) =
    let all = asks_all front input bytes found.bytes found.asked known found.read in
    due.NoImage found.asked fault all.asks all.reads all.within (ap image_of (sym all.same) ∙ found.fault_is)

-- ---- what is told

-- nothing is held where a call comes to no image
pub fault_is_empty : (front : Front) (fault : FrontFault) (before after : SinkState) (o : Outcome)
    → TellsFrontFault front fault before after o → IsEmpty o
fault_is_empty front faults.Usage before after o tells = tells.empty
fault_is_empty front faults.Memory before after o tells = tells.1
fault_is_empty front faults.Unread before after o tells = tells.1
fault_is_empty front faults.Long before after o tells = tells.empty
fault_is_empty front (faults.NoImage fault) before after o (IsMade tells) = tells.empty
fault_is_empty front (faults.NoImage fault) before after o (IsWant is empty same) = empty

-- whatever run an outcome holds is lawful
pub holds_lawful : (program : Program) (image : ImageValue) (input : Input) (o : Outcome)
    → HoldsLawfulRun program.front program.HasImage image input o
holds_lawful program image input o = λ h. lawful image (program.front.budget h.asked) o.journal h.run.state h.run.is_run

-- no image was read: any serves
pub no_image : ImageValue
no_image = image_value Ordered [] [] 0 0 0 []

module _ (program : Program) (image : ImageValue) (input : Input) (before after : SinkState) (o : Outcome) where
  -- a line that tells why there is no run, which is told whole, or of which the sink may have taken a part
  pub line_answers : (status : ℕ) (line : List ℕ) → (IsEmpty o → IsToldBy program image input o status line)
      → (IsEmpty o → IsCut program image input o line)
      → ((bytes : List ℕ) → IsKnown program.front input bytes → IsDue program input.words bytes status)
      → TellsLine status line before after o → Answers program (call_on input before after) o
  line_answers status line answer cut is_due tells = record {
    image = image;
    run = inl tells.empty;
    laws = holds_lawful program image input o;
    told = told (cases_eq o.status 7);
    complete = λ bytes known well.
        let said = tells.told (λ seven. well.sink (tells.failed seven).0) in
        inr (subst (IsDue program input.words bytes) (sym said.0) (is_due bytes known));
  } where
    told : (o.status ≡ 7) ⊎ (o.status ≢ 7) → TellsOutcome program image (call_on input before after) o
    told (inl seven) =
        let failed = tells.failed seven in
        inr (inr (inl record {
          status_is = seven;
          text = line;
          is_text = cut tells.empty;
          took = failed.1;
          failed = failed.0;
        }))
    told (inr other) =
        let well = tells.told other in
        inr (inr (inr record {
          text = line;
          answer = subst (λ s. IsToldBy program image input o s line) (sym well.0) (answer tells.empty);
          took = well.1;
        }))

  -- memory ran out before a run was begun
  pub want_answers : o.status ≡ 5 → IsEmpty o → ReadsAsAsked program.front input → after ≡ before
      → Answers program (call_on input before after) o
  want_answers is empty read same = record {
    image = image;
    run = inl empty;
    laws = holds_lawful program image input o;
    told = inl record { status_is = is; want = inl record { empty = empty; read = read; untouched = same } };
    complete = λ bytes known well. inl is;
  }

  -- so it may for such a line
  pub made_answers : (status : ℕ) (line : List ℕ) → (IsEmpty o → IsToldBy program image input o status line)
      → (IsEmpty o → IsCut program image input o line)
      → ((bytes : List ℕ) → IsKnown program.front input bytes → IsDue program input.words bytes status)
      → ReadsAsAsked program.front input → TellsMadeLine status line before after o
      → Answers program (call_on input before after) o
  made_answers status line answer cut is_due read (IsMade tells) = line_answers status line answer cut is_due tells
  made_answers status line answer cut is_due read (IsWant is empty same) = want_answers is empty read same

  -- the source failed
  unread_answers : o.status ≡ 6 → IsEmpty o → IsUnread program.front input → after ≡ before
      → Answers program (call_on input before after) o
  unread_answers is empty unread same = record {
    image = image;
    run = inl empty;
    laws = holds_lawful program image input o;
    told = inr (inl record { status_is = is; empty = empty; unread = unread; untouched = same });
    complete = λ bytes known well. absurd (well.source unread.rose);
  }

  -- the call is refused
  refused_answers : (status : ℕ) (line : List ℕ) → IsRefused program.front input status line
      → TellsLine status line before after o → Answers program (call_on input before after) o
  refused_answers status line refused tells = line_answers status line
      (λ empty. inl (empty, refused))
      (λ empty. inl (status, empty, refused))
      (λ bytes known. inl (refusal_is_due program.front input bytes status line known refused))
      tells

  -- whatever stood in the way of an image
  pub fault_answers : (fault : FrontFault) → IsFrontFault program.front input fault
      → TellsFrontFault program.front fault before after o → Answers program (call_on input before after) o
  fault_answers faults.Usage found tells = refused_answers 1 program.front.usage_line (table.Usage found) tells
  fault_answers faults.Memory found tells = want_answers tells.0 tells.1 found tells.2
  fault_answers faults.Unread found tells = unread_answers tells.0 tells.1 found tells.2
  fault_answers faults.Long found tells = refused_answers 10 program.front.long_line (table.Long found) tells
  fault_answers (faults.NoImage fault) found (IsMade tells) =
      refused_answers 2 (program.front.image_line fault) (table.NoImage fault found) tells
  fault_answers (faults.NoImage fault) found (IsWant is empty same) =
      want_answers is empty (read_as_asked program.front input found.asked found.bytes found.read) same
