-- An abort by its parts: the cascade, the stores that are undone, and the tasks that are taken back.
use Rattle.std.proofs.Common.{◌≡◌, ◌<◌, ◌≤◌, ℕ, Bool, true, false, List, [], length, map, replicate, Option}
use Rattle.std.proofs.Common.{Some, None, refl, sym, ap, subst, ◌∙◌, inl, inr, arith, if◌then◌else◌}
use Rattle.std.specs.Prelude.{◌↔◌, count_by, IsSome, IfSome}
use Rattle.std.proofs.lemmas.List.{length-replicate, get_or-replicate, get_or_past}
use Rattle.std.proofs.lemmas.Bool.{cases_lt}
use Rattle.abort_cascade.specs.Cascade.{Marked, Reached, start, step, IsLeastClosed}
use Rattle.memory_law.specs.Tasks.{IsByKey, undone_set}
use Rattle.spec_state.specs.declared.task.Task.{Task}
use Rattle.spec_state.specs.View.{View, task_at}
use Rattle.spec_state.specs.Groups.{logged_tasks, live_creator}
use Rattle.spec_state.specs.Stored.{IsStored}
use Rattle.spec_state.specs.Tasks.{idle_again}
use Rattle.spec_state.specs.Aborts.{is_marked, is_marked_creator, taken_back, freed_core, Aborts}
use Rattle.spec_state.specs.Queries.{Conflicts}
use Rattle.spec_rollback.specs.Marking.{FindsConflicts}
use Rattle.spec_rollback.specs.Pulled.{pull_in}
use Rattle.spec_rollback.specs.TakenBack.{freed_of_these, TakesThese}
use Rattle.spec_state.specs.declared.effect.TakenTask.{TakenTask}
use Rattle.spec_state.specs.Told.{TellsBack}
use Rattle.spec_rollback.proofs.Told.{tells_none}
use Rattle.spec_rollback.proofs.Marked.{none_counted}
use Rattle.spec_rollback.proofs.Pulled.{pull_is, reached_there}
use Rattle.spec_rollback.proofs.TakenBack.{maps_same, none_taken}
use Rattle.spec_rollback.proofs.Undone.{nothing_back}

-- a cascade of the same first tasks
least_of : (count : ℕ) (pull : ℕ → ℕ → Bool) (firsts others : ℕ → Type 0) (marks : List Bool)
    → ((id : ℕ) → firsts id ↔ others id) → IsLeastClosed count pull firsts marks
    → IsLeastClosed count pull others marks
least_of count pull firsts others marks same least = record {
  holds = λ id is. least.holds id ((same id).1 is);
  closed = least.closed;
  reached = λ id marked. to id (least.reached id marked);
}
  where
    to : (id : ℕ) → Reached count pull firsts id → Reached count pull others id
    to id (start a is) = start a ((same a).0 is)
    to id (step {a} b before in_a in_b pulled) = step b (to a before) in_a in_b pulled

-- an abort of the same first tasks
pub aborts_of : (firsts others : ℕ → Type 0) (old : View) (aborted : ℕ) (new : View)
    → ((id : ℕ) → firsts id ↔ others id) → Aborts firsts old aborted new → Aborts others old aborted new
aborts_of firsts others old aborted new same aborts = record {
  marks = aborts.marks;
  cascade = record {
    pull = aborts.cascade.pull;
    pulls = aborts.cascade.pulls;
    size = aborts.cascade.size;
    least = least_of (length aborts.marks) aborts.cascade.pull firsts others aborts.marks same aborts.cascade.least;
  };
  counted = aborts.counted;
  each = aborts.each;
  memory = aborts.memory;
  queues = aborts.queues;
  finished = aborts.finished;
  cores = aborts.cores;
  frame = aborts.frame;
}

-- what stands under an unmarked id stays
one_taken : (version : ℕ) (marks : List Bool) (id : ℕ) (slot : Option Task)
    → (if is_marked marks id then taken_back version marks id slot else slot) ≡ taken_back version marks id slot
one_taken version marks id slot = by_mark (is_marked marks id) refl slot
  where
    by_mark : (b : Bool) → is_marked marks id ≡ b → (slot : Option Task)
        → (if b then taken_back version marks id slot else slot) ≡ taken_back version marks id slot
    by_mark true is slot = refl
    by_mark false is None = refl
    by_mark false is (Some t) =
        ap (λ b. if b then (if is_marked_creator marks (live_creator t.creator) then None else Some
        (idle_again version t)) else Some t) (sym is)

one_freed : (marks : List Bool) (held : Option ℕ) → freed_of_these (is_marked marks) held ≡ freed_core marks held
one_freed marks None = refl
one_freed marks (Some id) = refl

module _ (firsts : ℕ → Type 0) (old : View) (marks : List Bool) (found : ℕ) (size : length old.tasks ≤ length marks)
    (least : IsLeastClosed (length marks) (pull_in old.settings.line old.tasks) firsts marks)
    (counted : found ≡ count_by (λ mark. mark) marks) where
  pub aborts_by : (memory : List ℕ) (new : View)
      → TakesThese marks (is_marked marks) (record old { memory = memory }) new
      → (ids : List ℕ) → IsByKey (logged_tasks old) ids
      → memory ≡ undone_set (is_marked marks) (logged_tasks old) ids old.memory
      → Aborts firsts old found new
  aborts_by memory new takes ids by_key undone =
      let kept : new.memory ≡ memory = ap (λ (v : View). v.memory) takes.frame in
      record {
        marks = marks;
        cascade =
            record { pull = pull_in old.settings.line old.tasks; pulls = pull_is old; size = size; least = least };
        counted = counted;
        each = λ id. takes.each id ∙ one_taken old.version marks id (task_at old id);
        memory = record { ids = ids; by_key = by_key; memory_is = kept ∙ undone };
        queues = takes.queues;
        finished = takes.finished;
        cores =
            takes.cores
            ∙ maps_same (map (freed_of_these (is_marked marks))) (map (freed_core marks)) old.cores
            (λ cores. maps_same (freed_of_these (is_marked marks)) (freed_core marks) cores (one_freed marks));
        frame =
            takes.frame
            ∙ ap (λ (m : List ℕ). record old
            { tasks = new.tasks; memory = m; queues = new.queues; finished = new.finished; cores = new.cores })
            (sym kept);
      }

-- the same over the view between
pub aborts_from : (firsts : ℕ → Type 0) (old mid new : View) (marks : List Bool) (found : ℕ)
    → length old.tasks ≤ length marks → IsLeastClosed (length marks) (pull_in old.settings.line old.tasks) firsts marks
    → found ≡ count_by (λ mark. mark) marks → mid ≡ record old { memory = mid.memory }
    → TakesThese marks (is_marked marks) mid new
    → ((ids : List ℕ) → IsByKey (logged_tasks old) ids
    → mid.memory ≡ undone_set (is_marked marks) (logged_tasks old) ids old.memory)
    → (ids : List ℕ) → IsByKey (logged_tasks old) ids → Aborts firsts old found new
aborts_from firsts old mid new marks found size least counted rest takes undone ids by_key =
    aborts_by firsts old marks found size least counted mid.memory new
    (subst (λ v. TakesThese marks (is_marked marks) v new) rest takes) ids by_key (undone ids by_key)

-- the members of a cascade of tasks that are there are there
pub members_there : (old mid : View) (firsts marks : List Bool) (count : ℕ) → mid ≡ record old { memory = mid.memory }
    → IsLeastClosed count (pull_in old.settings.line old.tasks) (Marked firsts) marks
    → ((id : ℕ) → Marked firsts id → IsSome (task_at old id)) → (id : ℕ) → Marked marks id → IsSome (task_at mid id)
members_there old mid firsts marks count rest least there id marked =
    subst (λ (v : View). IsSome (task_at v id)) (sym rest)
    (reached_there old count (Marked firsts) there id (least.reached id marked))

-- marks of which none is set
off_marks : (n id : ℕ) → is_marked (replicate n false) id ≡ false
off_marks n id = elim (cases_lt id n) [
  | inl below ↦ get_or-replicate n id false false below
  | inr past ↦ get_or_past (replicate n false) id false
      (let long = length-replicate n false in omega (arith, long, past))
]

nothing_by : (size : ℕ) (view : View) → IsStored size view → (firsts : ℕ → Type 0) → ((id : ℕ) → firsts id → ⊥)
    → (marks : List Bool) → length view.tasks ≤ length marks
    → ((id : ℕ) → is_marked marks id ≡ false) → (ids : List ℕ) → IsByKey (logged_tasks view) ids
    → Aborts firsts view 0 view
nothing_by size view stored firsts none marks long off ids by_key =
    let least : IsLeastClosed (length marks) (pull_in view.settings.line view.tasks) firsts marks = record {
      holds = λ id is. absurd (none id is);
      closed = λ a b in_a in_b pulled marked. absurd (cc (marked, off a));
      reached = λ id marked. absurd (cc (marked, off id));
    } in
    let counted = sym (none_counted marks (λ id marked. absurd (cc (marked, off id)))) in
    let takes : TakesThese marks (is_marked marks) view view =
    subst (λ these. TakesThese marks these view view) (λ i id. sym (off id) i) (none_taken size view stored marks) in
    aborts_by firsts view marks 0 long least counted view.memory view takes ids by_key
    (sym (nothing_back (is_marked marks) (logged_tasks view) ids view.memory off))

-- where there is no first task nothing is taken back
pub nothing_aborted : (size : ℕ) (view : View) → IsStored size view → (firsts : ℕ → Type 0)
    → ((id : ℕ) → firsts id → ⊥) → (ids : List ℕ) → IsByKey (logged_tasks view) ids → Aborts firsts view 0 view
nothing_aborted size view stored firsts none =
    let marks = replicate (length view.tasks) false in
    nothing_by size view stored firsts none marks
    (let long = length-replicate (length view.tasks) false in omega (arith, long)) (off_marks (length view.tasks))

-- ---- aborts that are told

-- an abort of these first tasks, of which this is told
abbrev pub AbortsTelling : (ℕ → Type 0) → View → ℕ → List TakenTask → View → Type 0
AbortsTelling firsts old aborted told new = (a : Aborts firsts old aborted new) × TellsBack old a.marks told

pub telling_of : (firsts others : ℕ → Type 0) (old : View) (aborted : ℕ) (told : List TakenTask) (new : View)
    → ((id : ℕ) → firsts id ↔ others id) → AbortsTelling firsts old aborted told new
    → AbortsTelling others old aborted told new
unfolding aborts_of
telling_of firsts others old aborted told new same (aborts, tells) =
    (aborts_of firsts others old aborted new same aborts, tells)

pub telling_from : (firsts : ℕ → Type 0) (old mid new : View) (marks : List Bool) (found : ℕ) (told : List TakenTask)
    → length old.tasks ≤ length marks → IsLeastClosed (length marks) (pull_in old.settings.line old.tasks) firsts marks
    → found ≡ count_by (λ mark. mark) marks → mid ≡ record old { memory = mid.memory }
    → TakesThese marks (is_marked marks) mid new
    → ((ids : List ℕ) → IsByKey (logged_tasks old) ids
    → mid.memory ≡ undone_set (is_marked marks) (logged_tasks old) ids old.memory)
    → TellsBack old marks told
    → (ids : List ℕ) → IsByKey (logged_tasks old) ids → AbortsTelling firsts old found told new
unfolding aborts_by aborts_from
telling_from firsts old mid new marks found told size least counted rest takes undone tells ids by_key =
    (aborts_from firsts old mid new marks found size least counted rest takes undone ids by_key, tells)

pub nothing_told : (size : ℕ) (view : View) → IsStored size view → (firsts : ℕ → Type 0)
    → ((id : ℕ) → firsts id → ⊥) → (ids : List ℕ) → IsByKey (logged_tasks view) ids → AbortsTelling firsts view 0 [] view
unfolding aborts_by nothing_by nothing_aborted
nothing_told size view stored firsts none ids by_key = (
  nothing_aborted size view stored firsts none ids by_key,
  tells_none view (replicate (length view.tasks) false)
      (off_marks (length view.tasks)),
)

-- where the task of this id is there, the cascades of the first tasks that it gives are taken back, and are told
abbrev TellsFor : (Task → ℕ → Type 0) → View → View → ℕ → List TakenTask → ℕ → Type 0
TellsFor firsts old new aborted told id = IfSome (task_at old id)
    (λ t. (ids : List ℕ) → IsByKey (logged_tasks old) ids → AbortsTelling (firsts t) old aborted told new)

pub conflicts_told : (old mid new : View) (aborted : ℕ) (told : List TakenTask) (line : ℕ) (write : Bool)
    (found : ℕ) (marks : List Bool) (id : ℕ) → mid ≡ old → 0 < found
    → IfSome (task_at old id) (λ t. FindsConflicts old t line write found marks)
    → ((ids : List ℕ) → IsByKey (logged_tasks mid) ids → AbortsTelling (Marked marks) mid aborted told new)
    → TellsFor (λ t. Conflicts old t line write) old new aborted told id
conflicts_told old mid new aborted told line write found marks id same is finds aborts =
    by_slot (task_at old id) finds
  where
    by_slot : (slot : Option Task) → IfSome slot (λ t. FindsConflicts old t line write found marks)
        → IfSome slot (λ t. (ids : List ℕ) → IsByKey (logged_tasks old) ids
        → AbortsTelling (Conflicts old t line write) old aborted told new)
    by_slot None finds = tt
    by_slot (Some t) finds = λ ids by_key.
        telling_of (Marked marks) (Conflicts old t line write) old aborted told new (finds.some is)
        (subst (λ (v : View). (ids : List ℕ) → IsByKey (logged_tasks v) ids
        → AbortsTelling (Marked marks) v aborted told new) same aborts ids by_key)

pub no_conflict_told : (size : ℕ) (old new : View) (line : ℕ) (write : Bool) (found : ℕ) (marks : List Bool) (id : ℕ)
    → IsStored size old → new ≡ old → found ≡ 0
    → IfSome (task_at old id) (λ t. FindsConflicts old t line write found marks)
    → TellsFor (λ t. Conflicts old t line write) old new 0 [] id
no_conflict_told size old new line write found marks id stored same is finds = by_slot (task_at old id) finds
  where
    by_slot : (slot : Option Task) → IfSome slot (λ t. FindsConflicts old t line write found marks)
        → IfSome slot (λ t. (ids : List ℕ) → IsByKey (logged_tasks old) ids
        → AbortsTelling (Conflicts old t line write) old 0 [] new)
    by_slot None finds = tt
    by_slot (Some t) finds = λ ids by_key.
        subst (AbortsTelling (Conflicts old t line write) old 0 []) (sym same)
        (nothing_told size old stored (Conflicts old t line write) (finds.none is) ids by_key)
