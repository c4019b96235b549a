-- Taking back a set that holds later tasks keeps the replay of the others.
use Rattle.std.proofs.Common.{◌≡◌, ℕ, ◌/◌, Bool, true, false, List, [], ◌∷◌, ◌++◌, length, Option, Some, None, refl}
use Rattle.std.proofs.Common.{sym, ap, subst, ◌∙◌, inl, inr, cond, if◌then◌else◌}
use Rattle.undo_log.specs.declared.access.Access.{Access}
use Rattle.undo_log.specs.Number.{IsAccessible}
use Rattle.undo_log.specs.Undo.{undone}
use Rattle.memory_law.specs.Accesses.{after_accesses, Replays}
use Rattle.memory_law.proofs.Marks.{Marks, Clear, Untouched, UntouchedIfStore, all_of, kept_of, without, IsClosed}
use Rattle.memory_law.proofs.Access.{Untouched-append}
use Rattle.memory_law.proofs.Lines.{lines_apart}
use Rattle.memory_law.proofs.Joins.{taken_back_closed}
use Rattle.memory_law.proofs.Filters.{noted_own}
use Rattle.line_table.specs.Note.{touched_in, wrote_in}
use Rattle.memory_law.specs.Notes.{notes_of}
use Rattle.memory_law.specs.Tasks.{Logged, IsLineSize, IsNoted, AreNotedInFilter, IsWroteIfStore, log_of, logs, In}
use Rattle.memory_law.specs.Tasks.{Earlier, Ascends, undone_set}
use Rattle.memory_law.specs.Chain.{IsReplay}
use Rattle.memory_law.specs.Events.{HoldsLater, TakesBackInLogs}

-- the list without the members of the set
abbrev pub kept : (ℕ → Bool) → List ℕ → List ℕ
kept set [] = []
kept set (id ∷ ids) = if set id then kept set ids else id ∷ kept set ids

-- nothing that one task wrote did the other touch
abbrev pub NoMeeting : (ℕ → Bool) → (ℕ → Bool) → Type 0
NoMeeting wrote touched = (at : ℕ) → wrote at ≡ true → touched at ≡ true → ⊥

module _ (size line : ℕ) (sized : IsLineSize line) where
  untouched_by_notes : (wrote touched wrote' : ℕ → Bool) → NoMeeting wrote touched → (o w : ℕ) → IsAccessible size o w
      → wrote (o / line) ≡ true → (later : List Access) → AreNotedInFilter size line touched wrote' later
      → Untouched o w later
  untouched_by_notes wrote touched wrote' none o w accessible here [] noted = tt
  untouched_by_notes wrote touched wrote' none o w accessible here (a ∷ later) noted = (
    lines_apart size o w a.offset a.width line sized accessible noted.0 (λ same. none _ here (ap touched same ∙ noted.1)),
    untouched_by_notes wrote touched wrote' none o w accessible here later noted.3,
  )

  clear_by_notes : (touched' wrote touched wrote' : ℕ → Bool) → NoMeeting wrote touched → (log later : List Access)
      → AreNotedInFilter size line touched' wrote log → AreNotedInFilter size line touched wrote' later
      → Clear log later
  clear_by_notes touched' wrote touched wrote' none [] later noted noted' = tt
  clear_by_notes touched' wrote touched wrote' none (a ∷ log) later noted noted' =
      (by_store a.new noted.2, clear_by_notes touched' wrote touched wrote' none log later noted.3 noted')
    where
      by_store : (n : Option ℕ) → IsWroteIfStore wrote (a.offset / line) n → UntouchedIfStore a.offset a.width n later
      by_store None here = tt
      by_store (Some v) here = untouched_by_notes wrote touched wrote' none a.offset a.width noted.0 here later noted'

abbrev pub marks_of : (ℕ → Bool) → (ℕ → Option Logged) → List ℕ → Marks
marks_of set tasks [] = []
marks_of set tasks (id ∷ ids) = (set id, log_of (tasks id)) ∷ marks_of set tasks ids

all_marks : (set : ℕ → Bool) (tasks : ℕ → Option Logged) (ids : List ℕ)
    → all_of (marks_of set tasks ids) ≡ logs tasks ids
all_marks set tasks [] = refl
all_marks set tasks (id ∷ ids) = ap (λ rest. log_of (tasks id) ++ rest) (all_marks set tasks ids)

kept_marks : (set : ℕ → Bool) (tasks : ℕ → Option Logged) (ids : List ℕ)
    → kept_of (marks_of set tasks ids) ≡ logs tasks (kept set ids)
kept_marks set tasks [] = refl
kept_marks set tasks (id ∷ ids) = by_mark (set id) (kept_marks set tasks ids)
  where
    by_mark : (b : Bool) → kept_of (marks_of set tasks ids) ≡ logs tasks (kept set ids)
        → kept_of ((b, log_of (tasks id)) ∷ marks_of set tasks ids) ≡ logs tasks (cond b (kept set ids) (id ∷ kept set ids))
    by_mark true rest = rest
    by_mark false rest = ap (λ r. log_of (tasks id) ++ r) rest

without_marks : (set : ℕ → Bool) (tasks : ℕ → Option Logged) (ids : List ℕ) (memory : List ℕ)
    → without memory (marks_of set tasks ids) ≡ undone_set set tasks ids memory
without_marks set tasks [] memory = refl
without_marks set tasks (id ∷ ids) memory = by_mark (set id) (without_marks set tasks ids memory)
  where
    by_mark : (b : Bool) → without memory (marks_of set tasks ids) ≡ undone_set set tasks ids memory
        → without memory ((b, log_of (tasks id)) ∷ marks_of set tasks ids) ≡ cond b (undone (log_of (tasks id)) (undone_set set tasks ids memory)) (undone_set set tasks ids memory)
    by_mark true rest = ap (undone (log_of (tasks id))) rest
    by_mark false rest = rest

Clear-append : (log xs ys : List Access) → Clear log xs → Clear log ys → Clear log (xs ++ ys)
Clear-append [] xs ys one two = tt
Clear-append (a ∷ log) xs ys one two = (by_store a.new one.0 two.0, Clear-append log xs ys one.1 two.1)
  where
    by_store : (n : Option ℕ) → UntouchedIfStore a.offset a.width n xs → UntouchedIfStore a.offset a.width n ys
        → UntouchedIfStore a.offset a.width n (xs ++ ys)
    by_store None p q = tt
    by_store (Some v) p q = Untouched-append a.offset a.width xs ys p q

Clear-nil : (log : List Access) → Clear log []
Clear-nil [] = tt
Clear-nil (a ∷ log) = (by_store a.new, Clear-nil log)
  where
    by_store : (n : Option ℕ) → UntouchedIfStore a.offset a.width n []
    by_store None = tt
    by_store (Some v) = tt

module _ (size line : ℕ) (sized : IsLineSize line) (set : ℕ → Bool) (tasks : ℕ → Option Logged) (noted : (id : ℕ) (task : Logged) → tasks id ≡ Some task → AreNotedInFilter size line task.touched task.wrote task.log) (holds : HoldsLater line set tasks) where
  -- what a member wrote is clear of the later tasks that are no members
  clear_of_kept : (id : ℕ) (task : Logged) → tasks id ≡ Some task → task.dispatched ≡ true → set id ≡ true
      → (ids : List ℕ) → ((k : ℕ) (other : Logged) → In k ids → tasks k ≡ Some other → Earlier task other)
      → Ascends tasks ids → Clear task.log (kept_of (marks_of set tasks ids))
  clear_of_kept id task there runs member [] later ascends = Clear-nil task.log
  clear_of_kept id task there runs member (k ∷ ids) later ascends =
      let rest = clear_of_kept id task there runs member ids (λ j other in'. later j other (inr in')) ascends.4 in
      by_mark (set k) refl rest
    where
      by_mark : (b : Bool) → set k ≡ b → Clear task.log (kept_of (marks_of set tasks ids))
          → Clear task.log (kept_of ((b, log_of (tasks k)) ∷ marks_of set tasks ids))
      by_mark true is rest = rest
      by_mark false is rest =
          let other = ascends.0 in
          let stored = wrote_in (notes_of line task.log) in
          let none : NoMeeting stored other.touched = λ at wrote touched. let in' : set k ≡ true = holds id k task other at there ascends.1 runs ascends.2 member (later k other (inl refl) ascends.1) wrote touched in
          cc in
          let own = noted_own size line task.touched task.wrote task.log (noted id task there) in
          let here : Clear task.log other.log =
          clear_by_notes size line sized (touched_in (notes_of line task.log)) stored other.touched other.wrote none
          task.log other.log own (noted k other ascends.1) in
          Clear-append task.log (log_of (tasks k)) (kept_of (marks_of set tasks ids)) (subst (λ o. Clear task.log (log_of o)) (sym ascends.1) here) rest

  closed_marks : (ids : List ℕ) → Ascends tasks ids → IsClosed (marks_of set tasks ids)
  closed_marks [] ascends = tt
  closed_marks (id ∷ ids) ascends = by_mark (set id) refl (closed_marks ids ascends.4)
    where
      by_mark : (b : Bool) → set id ≡ b → IsClosed (marks_of set tasks ids)
          → IsClosed ((b, log_of (tasks id)) ∷ marks_of set tasks ids)
      by_mark true is rest = (
        subst (λ o. Clear (log_of o) (kept_of (marks_of set tasks ids))) (sym ascends.1) (clear_of_kept id ascends.0 ascends.1 ascends.2 is ids ascends.3 ascends.4),
        rest,
      )
      by_mark false is rest = rest

module _ (set : ℕ → Bool) (old new : ℕ → Option Logged) (takes : TakesBackInLogs set old new) where
  In-kept : (id : ℕ) (ids : List ℕ) → set id ≡ false → In id ids → In id (kept set ids)
  In-kept id [] out at = at
  In-kept id (k ∷ ids) out at = by_mark (set k) refl (In-kept id ids out) at
    where
      by_mark : (b : Bool) → set k ≡ b → (In id ids → In id (kept set ids)) → In id (k ∷ ids)
          → In id (cond b (kept set ids) (k ∷ kept set ids))
      by_mark true is rest (inl here) = absurd (cc (ap set here, out, is))
      by_mark true is rest (inr later) = rest later
      by_mark false is rest (inl here) = inl here
      by_mark false is rest (inr later) = inr (rest later)

  In-of_kept : (id : ℕ) (ids : List ℕ) → In id (kept set ids) → In id ids × (set id ≡ false)
  In-of_kept id [] at = absurd at
  In-of_kept id (k ∷ ids) at = by_mark (set k) refl (In-of_kept id ids) at
    where
      by_mark : (b : Bool) → set k ≡ b → (In id (kept set ids) → In id ids × (set id ≡ false))
          → In id (cond b (kept set ids) (k ∷ kept set ids)) → In id (k ∷ ids) × (set id ≡ false)
      by_mark true is rest later = (inr (rest later).0, (rest later).1)
      by_mark false is rest (inl here) = (inl here, ap set here ∙ is)
      by_mark false is rest (inr later) = (inr (rest later).0, (rest later).1)

  logs_kept : (ids : List ℕ) → logs new (kept set ids) ≡ logs old (kept set ids)
  logs_kept [] = refl
  logs_kept (k ∷ ids) = by_mark (set k) refl (logs_kept ids)
    where
      by_mark : (b : Bool) → set k ≡ b → logs new (kept set ids) ≡ logs old (kept set ids)
          → logs new (cond b (kept set ids) (k ∷ kept set ids)) ≡ logs old (cond b (kept set ids) (k ∷ kept set ids))
      by_mark true is rest = rest
      by_mark false is rest = let same = takes.others k is in cc

  Ascends-kept : (ids : List ℕ) → Ascends old ids → Ascends new (kept set ids)
  Ascends-kept [] ascends = tt
  Ascends-kept (k ∷ ids) ascends = by_mark (set k) refl (Ascends-kept ids ascends.4)
    where
      by_mark : (b : Bool) → set k ≡ b → Ascends new (kept set ids)
          → Ascends new (cond b (kept set ids) (k ∷ kept set ids))
      by_mark true is rest = rest
      by_mark false is rest = (
        ascends.0,
        takes.others k is ∙ ascends.1,
        ascends.2,
        λ j other at there. let was =
            In-of_kept j ids at in ascends.3 j other was.0 (sym (takes.others j was.1) ∙ there),
        rest,
      )

-- members have empty logs, and the others their notes
noted_back : (size line : ℕ) (set : ℕ → Bool) (old new : ℕ → Option Logged) → TakesBackInLogs set old new
    → ((id : ℕ) (task : Logged) → old id ≡ Some task → IsNoted size line task) → (id : ℕ) (task : Logged)
    → new id ≡ Some task → IsNoted size line task
noted_back size line set old new takes noted id task there = by_set (set id) refl
  where
    by_set : (b : Bool) → set id ≡ b → IsNoted size line task
    by_set true is =
        subst (AreNotedInFilter size line task.touched task.wrote) (sym (takes.members id task is there).1) tt
    by_set false is = noted id task (sym (takes.others id is) ∙ there)

-- a set that holds the later tasks it is to hold is taken back, latest first: the others still replay
pub taken_back : (line : ℕ) (set : ℕ → Bool) (old new : ℕ → Option Logged) (serial memory : List ℕ) → IsLineSize line
    → HoldsLater line set old → TakesBackInLogs set old new → (replay : IsReplay line old serial memory)
    → IsReplay line new serial (undone_set set old replay.ids memory)
taken_back line set old new serial memory sized holds takes replay =
    let ids : List ℕ = replay.ids in
    let marks : Marks = marks_of set old ids in
    let closed : IsClosed marks = closed_marks (length serial) line sized set old replay.noted holds ids replay.by_key.ascends in
    let chain : Replays serial (all_of marks) = subst (Replays serial) (sym (all_marks set old ids)) replay.replays in
    let back = taken_back_closed serial marks replay.bytes closed chain in
    let same : kept_of marks ≡ logs new (kept set ids) = kept_marks set old ids ∙ sym (logs_kept set old new takes ids) in
    let before : memory ≡ after_accesses serial (all_of marks) = replay.memory_is ∙ ap (after_accesses serial) (sym (all_marks set old ids)) in
    record {
      ids = kept set ids;
      by_key = record {
        ascends = Ascends-kept set old new takes ids replay.by_key.ascends;
        complete = λ id task there runs. by_set id task there runs (set id) refl;
      };
      replays = subst (Replays serial) same back.0;
      memory_is =
          ap (undone_set set old ids) before ∙ sym (without_marks set old ids (after_accesses serial (all_of marks)))
          ∙ back.1 ∙ ap (after_accesses serial) same;
      noted = noted_back (length serial) line set old new takes replay.noted;
      bytes = replay.bytes;
    }
  where
    by_set : (id : ℕ) (task : Logged) → new id ≡ Some task → task.dispatched ≡ true → (b : Bool) → set id ≡ b
        → In id (kept set replay.ids)
    by_set id task there runs true is = absurd (cc ((takes.members id task is there).0, runs))
    by_set id task there runs false is =
        In-kept set old new takes id replay.ids is (replay.by_key.complete id task (sym (takes.others id is) ∙ there) runs)

-- all tasks taken back, the latest first, leave the serial memory
pub all_back : (line : ℕ) (tasks : ℕ → Option Logged) (serial memory : List ℕ)
    → (replay : IsReplay line tasks serial memory) → undone_set (λ id. true) tasks replay.ids memory ≡ serial
all_back line tasks serial memory replay =
    let all : ℕ → Bool = λ id. true in
    let ids : List ℕ = replay.ids in
    let marks : Marks = marks_of all tasks ids in
    let chain : Replays serial (all_of marks) = subst (Replays serial) (sym (all_marks all tasks ids)) replay.replays in
    let back = taken_back_closed serial marks replay.bytes (all_closed ids) chain in
    let before : memory ≡ after_accesses serial (all_of marks) = replay.memory_is ∙ ap (after_accesses serial) (sym (all_marks all tasks ids)) in
    ap (undone_set all tasks ids) before ∙ sym (without_marks all tasks ids (after_accesses serial (all_of marks)))
    ∙ back.1 ∙ ap (after_accesses serial) (none_kept ids)
  where
    none_kept : (ids : List ℕ) → kept_of (marks_of (λ id. true) tasks ids) ≡ []
    none_kept [] = refl
    none_kept (id ∷ ids) = none_kept ids

    all_closed : (ids : List ℕ) → IsClosed (marks_of (λ id. true) tasks ids)
    all_closed [] = tt
    all_closed (id ∷ ids) =
        (subst (Clear (log_of (tasks id))) (sym (none_kept ids)) (Clear-nil (log_of (tasks id))), all_closed ids)
