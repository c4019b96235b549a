-- An access of memory: what it leaves of a task, and the record of its change.
use Rattle.std.proofs.Common.{◌≡◌, ◌∷◌, ◌++◌, ◌/◌, ℕ, List, [], Some, refl, sym, ap, subst, ◌∙◌, arith}
use Rattle.std.specs.Prelude.{is_some, slice_set}
use Rattle.std.proofs.lemmas.Option.{same_Some}
use Rattle.std.proofs.lemmas.List.Elements.{All-push}
use Rattle.line_table.specs.Lines.{IsLines}
use Rattle.line_table.specs.Note.{Note}
use Rattle.memory_law.specs.Notes.{notes_of}
use Rattle.memory_law.proofs.Proved.{notes_of-append}
use Rattle.rv_core.specs.declared.state.Core.{Core}
use Rattle.rv_core.specs.LegValue.{LegValue}
use Rattle.rv_core.specs.Legs.{StopIsInData}
use Rattle.task_request.specs.declared.request.Request.{Request}
use Rattle.task_request.specs.Conditions.{IsInData}
use Rattle.task_request.proofs.Proved.{request_at-reaches}
use Rattle.undo_log.specs.declared.access.Access.{Access}
use Rattle.undo_log.specs.Number.{IsAccessible}
use Rattle.undo_log.specs.Undo.{MemoryCall, access_of, after_call, AllAccessible}
use Rattle.spec_dispatch.specs.spec_state.declared.settings.Settings.{Settings}
use Rattle.spec_dispatch.specs.spec_state.declared.task.Task.{Task}
use Rattle.spec_dispatch.specs.spec_state.View.{View, task_at}
use Rattle.spec_dispatch.specs.spec_state.Tasks.{context_of}
use Rattle.spec_dispatch.specs.spec_state.Filters.{Lines, HasNotes}
use Rattle.spec_dispatch.specs.spec_state.Changes.{Accesses}
use Rattle.spec_access.specs.Asking.{Asks}
use Rattle.spec_dispatch.proofs.Below.spec_state.Proved.{others_set, task_set}

-- what is asked for at a stop inside the data lies in the data
pub asks_inside : (size : ℕ) (view : View) (leg : LegValue) (id : ℕ) (request : Request) → Asks view leg id request
    → StopIsInData size leg.stop → IsInData size request
asks_inside size view leg id request asks inside =
    subst (IsInData size) asks.asks
    (request_at-reaches (context_of view.version asks.task) leg.to leg.stop size size (omega arith) inside)

-- one access more of the data
pub log_accessible : (size : ℕ) (log now : List Access) (access : Access) → now ≡ log ++ access ∷ []
    → AllAccessible size log → IsAccessible size access.offset access.width
    → AllAccessible size now
log_accessible size log now access is all one = subst (AllAccessible size) (sym is)
    (All-push (λ a. IsAccessible size a.offset a.width) log access all one)

-- the note of an access
abbrev note_of : ℕ → Access → Note
note_of line access = record { line = access.offset / line; write = is_some access.new }

-- a filter has one note more, by these settings
abbrev Marks : Settings → Lines → Lines → Note → Type 0
Marks settings was now note =
    (notes : List Note) → IsLines settings.filter settings.line was notes
    → IsLines settings.filter settings.line now (notes ++ note ∷ [])

-- a filter that has one note more
noted : (settings : Settings) (log : List Access) (access : Access) (was now : Lines)
    → Marks settings was now (note_of settings.line access)
    → HasNotes settings was log
    → HasNotes settings now (log ++ access ∷ [])
noted settings log access was now marked had =
    subst (IsLines settings.filter settings.line now) (sym (notes_of-append settings.line log (access ∷ [])))
    (marked (notes_of settings.line log) had)

module _ (id : ℕ) (found task : Task) (call : MemoryCall) (core : List ℕ → Core) (at : Core) (log : List Access)
    (lines : Lines) (memory : List ℕ) where
  abbrev done : View → View
  done view = record view
      { tasks = slice_set view.tasks id (Some (record found { core = at; log = log; lines = lines })); memory = memory }

  accessed_at : (view : View) → task_at view id ≡ Some found → at ≡ core view.memory
      → log ≡ found.log ++ access_of view.memory call ∷ []
      → Marks view.settings found.lines lines (note_of view.settings.line (access_of view.memory call))
      → memory ≡ after_call view.memory call → found ≡ task
      → HasNotes view.settings found.lines found.log
      → Accesses id task call (core view.memory) view (done view)
  accessed_at view there core_is log_is marked memory_is same had =
      subst (λ t. Accesses id t call (core view.memory) view (done view)) same
      (record {
        lines = lines;
        notes = noted view.settings found.log (access_of view.memory call) found.lines lines marked had;
        changes = record {
          changed = task_set view.tasks id found (record found { core = at; log = log; lines = lines }) there
              ∙ (λ i. Some (record found { core = core_is i; log = log_is i; lines = lines }));
          others = others_set view.tasks id (record found { core = at; log = log; lines = lines });
        };
        memory = memory_is;
        frame = refl;
      })

  -- the access of the task that takes a leg, in a state that is seen as the view
  pub accessed : (old seen : View) → seen ≡ old → task_at seen id ≡ Some found → task_at old id ≡ Some task
      → at ≡ core seen.memory
      → log ≡ found.log ++ access_of seen.memory call ∷ []
      → Marks seen.settings found.lines lines (note_of seen.settings.line (access_of seen.memory call))
      → memory ≡ after_call seen.memory call → HasNotes old.settings task.lines task.log
      → Accesses id task call (core old.memory) old (done seen)
  accessed old seen is there takes core_is log_is marked memory_is had =
      let same : found ≡ task = same_Some found task (sym there ∙ ap (λ v. task_at v id) is ∙ takes) in
      let had_at : HasNotes seen.settings found.lines found.log =
      subst (λ t. HasNotes seen.settings t.lines t.log) (sym same)
      (subst (λ v. HasNotes v.settings task.lines task.log) (sym is) had) in
      subst (λ v. Accesses id task call (core v.memory) v (done seen)) is
      (accessed_at seen there core_is log_is marked memory_is same had_at)
