-- Which status and which text report that a call makes no run, and why; and a sink that failed.
use Rattle.std.specs.Prelude.{◌≡◌, ℕ, List}
use Rattle.sim_io.specs.Causes.{Rose}
use Rattle.sim_io.specs.Parts.{TakesFront}
use Rattle.sim_io.specs.Streams.{SinkState}
use Rattle.guest_image.specs.declared.fault.ImageFault.{ImageFault}
use Rattle.program_call.specs.declared.input.FrontFault.{FrontFault}
use Rattle.program_call.specs.declared.input.FrontFault.TheVariants as faults
use Rattle.program_call.specs.declared.outcome.Outcome.{Outcome}
use Rattle.program_call.specs.Call.{Call, Input}
use Rattle.program_call.specs.Front.{Front}
use Rattle.program_call.specs.Given.{IsLong, IsNoImage, IsUnread, IsUsage, ReadsAsAsked}
use Rattle.program_call.specs.Outcomes.{IsEmpty, TellsLine, TellsMadeLine}

module _ (front : Front) where
  -- the call is refused, with this status and this line
  pub data IsRefused (input : Input) : ℕ → List ℕ → Type 0 where
    Usage : IsUsage front input → IsRefused input 1 front.usage_line
    Long : IsLong front input → IsRefused input 10 front.long_line
    NoImage : (fault : ImageFault) → IsNoImage front input fault → IsRefused input 2 (front.image_line fault)

  -- memory ran out before a run was begun: the outcome is empty, no more was read than the arguments request, and
  -- nothing was written
  pub record IsWantOfRun (call : Call) (o : Outcome) : Type 0 where
    pub empty : IsEmpty o
    pub read : ReadsAsAsked front call.input
    pub untouched : call.sink_after ≡ call.sink_before

  -- the source failed (6): the outcome is empty, and the sink was left alone
  pub record TellsSourceFault (call : Call) (o : Outcome) : Type 0 where
    pub status_is : o.status ≡ 6
    pub empty : IsEmpty o
    pub unread : IsUnread front call.input
    pub untouched : call.sink_after ≡ call.sink_before

  -- how it is reported why a call finds no image
  abbrev pub TellsFrontFault : FrontFault → (before after : SinkState) → Outcome → Type 0
  TellsFrontFault faults.Usage before after o = TellsLine 1 front.usage_line before after o
  TellsFrontFault faults.Memory before after o = (o.status ≡ 5) × IsEmpty o × (after ≡ before)
  TellsFrontFault faults.Unread before after o = (o.status ≡ 6) × IsEmpty o × (after ≡ before)
  TellsFrontFault faults.Long before after o = TellsLine 10 front.long_line before after o
  TellsFrontFault (faults.NoImage fault) before after o = TellsMadeLine 2 (front.image_line fault) before after o

-- the sink failed (7): it took the first bytes of such a text, and no other byte
pub record TellsSinkFault (IsText : List ℕ → Type 0) (call : Call) (o : Outcome) : Type 0 where
  pub status_is : o.status ≡ 7
  pub text : List ℕ
  pub is_text : IsText text
  pub took : TakesFront call.sink_before call.sink_after text
  pub failed : Rose call.sink_before.faults call.sink_after.faults
