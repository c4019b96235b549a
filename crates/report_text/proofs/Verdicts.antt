-- The verdicts on a report exclude each other.
use Rattle.std.proofs.Common.{◌≡◌, ◌≢◌, ℕ, zero, suc, ◌+◌, ◌<◌, ◌≤◌, ◌⊎◌, ◌||◌, List, [], ◌∷◌, length, take, Some, None}
use Rattle.std.proofs.Common.{Bool, true, false, refl, sym, ap, ◌∙◌, subst, arith, if◌then◌else◌, inl, inr}
use Rattle.std.specs.declared.option.Option.{Option}
use Rattle.std.specs.List.{list_any, slice_get}
use Rattle.std.specs.Option.{unwrap_or}
use Rattle.std.proofs.lemmas.Option.{slice_get_within, same_Some}
use Rattle.std.proofs.lemmas.Bool.{or_parts}
use Rattle.guest_image.specs.ImageValue.{ImageValue}
use Rattle.task_desc.specs.declared.desc.Name.{Name}
use Rattle.pending_list.specs.declared.task.PendingTask.{PendingTask}
use Rattle.run_journal.specs.declared.journal.Entry.{Entry}
use Rattle.run_law.specs.serial_machine.declared.fault.TurnFault.{TurnFault}
use Rattle.run_law.specs.serial_machine.declared.fault.TurnFault.TheVariants as faults
use Rattle.run_law.specs.serial_machine.BagValue.{BagValue}
use Rattle.run_law.specs.serial_machine.State.{SerialState}
use Rattle.run_law.specs.serial_machine.Turn.{turn, turn_from_stack, RefusesTurn, find_named, is_named, is_least}
use Rattle.run_law.specs.serial_machine.Turn.{is_pending}
use Rattle.run_law.specs.serial_machine.Turn.{inner}
use Rattle.run_law.specs.serial_machine.Run.{Runs, IsRun, IsEnd, opening}
use Rattle.run_law.proofs.Below.serial_machine.Proved.{is_pending-inner, least-none}
use Rattle.report_text.specs.declared.report.Report.{Report}
use Rattle.report_text.specs.declared.verdict.Verdict.TheVariants as verdicts
use Rattle.report_text.specs.Report.{window_of}
use Rattle.report_text.specs.Check.{IsReplayed, IsNoTurn, IsWrongEntry, IsWrongOutput, DifferFirst, IsWrongWord}
use Rattle.report_text.specs.Check.{IsWrongEnd, IsReportOf, AgreeOnTheLine}
use Rattle.report_text.proofs.Replays.{none-other, trap-none}
use Rattle.run_law.proofs.Proved.{Runs-same}

-- ---- runs

state-same : (a b : SerialState) (e f : Entry)
    → ◌≡◌ {A = Option (SerialState × Entry)} (Some (a, e)) (Some (b, f)) → a ≡ b
state-same a b e f h = ap (λ o. (unwrap_or {T = SerialState × Entry} o (a, e)).0) h

entry-same : (a b : SerialState) (e f : Entry)
    → ◌≡◌ {A = Option (SerialState × Entry)} (Some (a, e)) (Some (b, f)) → e ≡ f
entry-same a b e f h = ap (λ o. (unwrap_or {T = SerialState × Entry} o (a, e)).1) h

-- an entry is that of a turn from this state
record IsTurn (image : ImageValue) (budget : ℕ) (s : SerialState) (e : Entry) : Type 0 where
  next : SerialState
  turned_so : turn image budget s e.name ≡ Some (next, e)

-- each entry of a run is that of a turn from the state before it
turn-in-run : (image : ImageValue) (budget : ℕ) (s : SerialState) (es : List Entry) (after mid : SerialState)
    (k : ℕ) (e : Entry)
    → Runs image budget s es after → slice_get es k ≡ Some e → Runs image budget s (take k es) mid
    → IsTurn image budget mid e
turn-in-run image budget s [] after mid k e h stands g = absurd (none-other e stands)
turn-in-run image budget s (x ∷ xs) after mid zero e (m, t, r) stands g =
    let same : x ≡ e = same_Some x e stands in
    let P : Entry → Type 0 = λ y. turn image budget s y.name ≡ Some (m, y) in
    record { next = m; turned_so = ap (λ z. turn image budget z e.name) (sym g) ∙ subst P same t }
turn-in-run image budget s (x ∷ xs) after mid (suc k) e (m, t, r) stands (n, u, q) =
    let same : m ≡ n = state-same m n x x (sym t ∙ u) in
    let P : SerialState → Type 0 = λ z. Runs image budget z xs after in
    turn-in-run image budget n xs after mid k e (subst P same r) stands q

-- ---- lists

slice_get-front : {X : Type 0} (xs : List X) (i n : ℕ) → i < n → slice_get (take n xs) i ≡ slice_get xs i
slice_get-front [] i zero lt = absurd (omega (arith, lt))
slice_get-front [] i (suc n) lt = refl
slice_get-front (x ∷ xs) i zero lt = absurd (omega (arith, lt))
slice_get-front (x ∷ xs) zero (suc n) lt = refl
slice_get-front (x ∷ xs) (suc i) (suc n) lt = slice_get-front xs i n (omega (arith, lt))

take-front : {X : Type 0} (xs : List X) (i n : ℕ) → i < n → take i (take n xs) ≡ take i xs
take-front [] zero n lt = refl
take-front [] (suc i) zero lt = refl
take-front [] (suc i) (suc n) lt = refl
take-front (x ∷ xs) zero n lt = refl
take-front (x ∷ xs) (suc i) zero lt = absurd (omega (arith, lt))
take-front (x ∷ xs) (suc i) (suc n) lt = ap (λ r. x ∷ r) (take-front xs i n (omega (arith, lt)))

order : (m n : ℕ) → (m < n) ⊎ ((m ≡ n) ⊎ (n < m))
order zero zero = inr (inl refl)
order zero (suc n) = inl (omega arith)
order (suc m) zero = inr (inr (omega arith))
order (suc m) (suc n) = raised (order m n) where
  raised : (m < n) ⊎ ((m ≡ n) ⊎ (n < m)) → (suc m < suc n) ⊎ ((suc m ≡ suc n) ⊎ (suc n < suc m))
  raised (inl h) = inl (omega (arith, h))
  raised (inr (inl h)) = inr (inl (ap suc h))
  raised (inr (inr h)) = inr (inr (omega (arith, h)))

-- ---- turns that are refused

find-none : (name : Name) (tasks : List PendingTask) → list_any (is_named name) tasks ≡ false
    → find_named name tasks ≡ None
find-none name [] h = refl
find-none name (t ∷ ts) h = go (is_named name t) h (find-none name ts) where
  go : (b : Bool) → (b || list_any (is_named name) ts) ≡ false
      → (list_any (is_named name) ts ≡ false → find_named name ts ≡ None)
      → (if b then Some t else find_named name ts) ≡ None
  go true h ih = cc
  go false h ih = ih h

unpending-none : (image : ImageValue) (budget : ℕ) (s : SerialState) (name : Name) (stack : List BagValue)
    → is_pending name stack ≡ false → turn_from_stack image budget s name stack ≡ None
unpending-none image budget s name [] h = refl
unpending-none image budget s name (bag ∷ outer) h = rw (find-none name bag.tasks (or_parts _ _ h).0) refl

least-false : (ts u : ℕ) (tasks : List PendingTask) (b : Bool) → is_least ts tasks ≡ b → (is_least ts tasks ≡ true → ⊥)
    → is_least ts tasks ≡ false
least-false ts u tasks true is never = absurd (never is)
least-false ts u tasks false is never = is

refused-none : (image : ImageValue) (budget : ℕ) (s : SerialState) (name : Name) (fault : TurnFault)
    → RefusesTurn image budget s name fault → fault ≢ faults.Memory → turn image budget s name ≡ None
unfolding turn
refused-none image budget s name faults.NotPending h other =
    unpending-none image budget s name (inner s.stack) (is_pending-inner name s.stack ∙ h)
refused-none image budget s name (faults.NotTop depth) h other = rw (h.top, h.elsewhere) refl
refused-none image budget s name (faults.NotLeast ts) h other =
    let no : is_least h.task.ts h.bag.tasks ≡ false = least-false h.task.ts ts h.bag.tasks (is_least h.task.ts h.bag.tasks) refl (λ least. least-none h.task.ts ts h.bag.tasks least h.smaller h.stands) in
    rw (h.top, h.found, no) refl
refused-none image budget s name (faults.Trap cause pc) h other = trap-none image budget s name cause pc h
refused-none image budget s name faults.Memory h other = absurd (other refl)

-- ---- wrong lines

-- a wrong entry below the limit is no turn
no-turn : (image : ImageValue) (commits budget place : ℕ) (s : SerialState) (e : Entry) (why : Option TurnFault)
    → IsNoTurn image commits budget place s e why → place < commits → IsTurn image budget s e → ⊥
no-turn image commits budget place s e None (inl at) lt t = omega (arith, at, lt)
no-turn image commits budget place s e None (inr (below, o)) lt t =
    o.other (entry-same o.after t.next o.found e (sym o.turned ∙ t.turned_so))
no-turn image commits budget place s e (Some fault) (below, refused, other) lt t =
    none-other (t.next, e) (sym (refused-none image budget s e.name fault refused other) ∙ t.turned_so)

within-limit : (image : ImageValue) (commits budget place : ℕ) (s : SerialState) (e : Entry) (why : Option TurnFault)
    → IsNoTurn image commits budget place s e why → place ≤ commits
within-limit image commits budget place s e None (inl at) = omega (arith, at)
within-limit image commits budget place s e None (inr (below, o)) = omega (arith, below)
within-limit image commits budget place s e (Some fault) (below, refused, other) = omega (arith, below)

-- no run goes past a wrong entry below the limit
entry-stops : (image : ImageValue) (commits budget : ℕ) (journal : List Entry) (line : ℕ) (why : Option TurnFault) (w : IsWrongEntry image commits budget journal line why) (n : ℕ) (after : SerialState)
    → IsRun image budget (take n journal) after → w.place < n → w.place < commits → ⊥
entry-stops image commits budget journal line why w n after run lt below =
    let P : List Entry → Type 0 = λ es. Runs image budget (opening image) es w.state in
    no-turn image commits budget w.place w.state w.entry why w.cause below
    (turn-in-run image budget (opening image) (take n journal) after w.state w.place w.entry run
    (slice_get-front journal w.place n lt ∙ w.stands) (subst P (sym (take-front journal w.place n lt)) w.run))

-- nor is a journal with a wrong entry a run within the limit
entry-run : (image : ImageValue) (commits budget : ℕ) (journal : List Entry) (line : ℕ) (why : Option TurnFault) (after : SerialState)
    → IsWrongEntry image commits budget journal line why → IsReplayed image commits budget journal after → ⊥
entry-run image commits budget journal line why after w r =
    let lt : w.place < length journal = slice_get_within journal w.place w.entry w.stands in
    no-turn image commits budget w.place w.state w.entry why w.cause (omega (arith, lt, r.within))
    (turn-in-run image budget (opening image) journal after w.state w.place w.entry r.run w.stands w.run)

entry-entry : (image : ImageValue) (commits budget : ℕ) (journal : List Entry) (k l : ℕ) (x y : Option TurnFault)
    → IsWrongEntry image commits budget journal k x → IsWrongEntry image commits budget journal l y → k ≡ l
entry-entry image commits budget journal k l x y v w = go (order v.place w.place) where
  go : (v.place < w.place) ⊎ ((v.place ≡ w.place) ⊎ (w.place < v.place)) → k ≡ l
  go (inl lt) =
      absurd (entry-stops image commits budget journal k x v w.place w.state w.run lt (omega (arith, lt, within-limit image commits budget w.place w.state w.entry y w.cause)))
  go (inr (inl e)) = v.told ∙ ap (λ p. p + 2) e ∙ sym w.told
  go (inr (inr lt)) =
      absurd (entry-stops image commits budget journal l y w v.place v.state v.run lt (omega (arith, lt, within-limit image commits budget v.place v.state v.entry x v.cause)))

-- two lists differ first at one place
differ-once : {X : Type 0} (xs ys : List X) (p q : ℕ) → DifferFirst xs ys p → DifferFirst xs ys q → p ≡ q
differ-once xs ys p q v w = go (order p q) where
  below : (i n : ℕ) → i < n → take n xs ≡ take n ys → slice_get xs i ≡ slice_get ys i
  below i n lt same = sym (slice_get-front xs i n lt) ∙ ap (λ zs. slice_get zs i) same ∙ slice_get-front ys i n lt

  go : (p < q) ⊎ ((p ≡ q) ⊎ (q < p)) → p ≡ q
  go (inl lt) = absurd (v.other (below p q lt w.same))
  go (inr (inl e)) = e
  go (inr (inr lt)) = absurd (w.other (below q p lt v.same))

-- the states that a replayed journal leads to are one
replayed-same : (image : ImageValue) (commits budget : ℕ) (journal : List Entry) (a b : SerialState)
    → IsReplayed image commits budget journal a → IsReplayed image commits budget journal b → a ≡ b
replayed-same image commits budget journal a b h g = Runs-same image budget journal (opening image) a b h.run g.run

-- the output isn't at once the run's and not
output-clash : (image : ImageValue) (commits budget : ℕ) (report : Report) (line : ℕ) (why : Option TurnFault) (s : SerialState)
    → IsWrongOutput image commits budget report line why → IsReplayed image commits budget report.journal s
    → report.output ≡ s.output → ⊥
output-clash image commits budget report line why s w r is =
    w.other (is ∙ ap (λ z. z.output) (replayed-same image commits budget report.journal s w.state r w.run))

-- nor is the window
word-clash : (image : ImageValue) (commits budget : ℕ) (report : Report) (line : ℕ) (why : Option TurnFault)
    (s : SerialState)
    → IsWrongWord image commits budget report line why → IsReplayed image commits budget report.journal s
    → report.window ≡ window_of image s.memory → ⊥
word-clash image commits budget report line why s w r is =
    let same : s ≡ w.state = replayed-same image commits budget report.journal s w.state r w.run in
    w.other.other (ap (λ ws. slice_get ws w.place) (is ∙ ap (λ z. window_of image z.memory) same))

word-word : (image : ImageValue) (commits budget : ℕ) (report : Report) (k l : ℕ) (x y : Option TurnFault)
    → IsWrongWord image commits budget report k x → IsWrongWord image commits budget report l y → k ≡ l
word-word image commits budget report k l x y v w =
    let same : w.state ≡ v.state = replayed-same image commits budget report.journal w.state v.state w.run v.run in
    let P : SerialState → Type 0 = λ z. DifferFirst report.window (window_of image z.memory) w.place in
    v.told
    ∙ ap (λ p. length report.journal + 3 + p) (differ-once report.window (window_of image v.state.memory) v.place w.place v.other (subst P same w.other))
    ∙ sym w.told

abbrev IsWrong : ImageValue → ℕ → ℕ → Report → ℕ → Option TurnFault → Type 0
IsWrong image commits budget report line why =
    IsWrongEntry image commits budget report.journal line why
    ⊎ IsWrongOutput image commits budget report line why
    ⊎ IsWrongWord image commits budget report line why
    ⊎ IsWrongEnd image commits budget report line why

-- a report that is a run's has no wrong line
yes-no : (image : ImageValue) (commits budget : ℕ) (report : Report) (line : ℕ) (why : Option TurnFault)
    → IsReportOf image commits budget report → IsWrong image commits budget report line why → ⊥
yes-no image commits budget report line why y (inl w) =
    entry-run image commits budget report.journal line why y.state w y.run
yes-no image commits budget report line why y (inr (inl w)) =
    output-clash image commits budget report line why y.state w y.run y.output
yes-no image commits budget report line why y (inr (inr (inl w))) =
    word-clash image commits budget report line why y.state w y.run y.window
yes-no image commits budget report line why y (inr (inr (inr w))) =
    let same : y.state ≡ w.state = replayed-same image commits budget report.journal y.state w.state y.run w.run in
    let P : SerialState → Type 0 = λ z. IsEnd image budget commits report.journal z report.end in
    w.other (subst P same y.end)

-- two wrong lines are one
line-same : (image : ImageValue) (commits budget : ℕ) (report : Report) (k l : ℕ) (x y : Option TurnFault)
    → IsWrong image commits budget report k x → IsWrong image commits budget report l y → k ≡ l
line-same image commits budget report k l x y (inl v) (inl w) =
    entry-entry image commits budget report.journal k l x y v w
line-same image commits budget report k l x y (inl v) (inr (inl w)) =
    absurd (entry-run image commits budget report.journal k x w.state v w.run)
line-same image commits budget report k l x y (inl v) (inr (inr (inl w))) =
    absurd (entry-run image commits budget report.journal k x w.state v w.run)
line-same image commits budget report k l x y (inl v) (inr (inr (inr w))) =
    absurd (entry-run image commits budget report.journal k x w.state v w.run)
line-same image commits budget report k l x y (inr (inl v)) (inl w) =
    absurd (entry-run image commits budget report.journal l y v.state w v.run)
line-same image commits budget report k l x y (inr (inl v)) (inr (inl w)) = v.told ∙ sym w.told
line-same image commits budget report k l x y (inr (inl v)) (inr (inr (inl w))) =
    absurd (output-clash image commits budget report k x w.state v w.run w.output)
line-same image commits budget report k l x y (inr (inl v)) (inr (inr (inr w))) =
    absurd (output-clash image commits budget report k x w.state v w.run w.output)
line-same image commits budget report k l x y (inr (inr (inl v))) (inl w) =
    absurd (entry-run image commits budget report.journal l y v.state w v.run)
line-same image commits budget report k l x y (inr (inr (inl v))) (inr (inl w)) =
    absurd (output-clash image commits budget report l y v.state w v.run v.output)
line-same image commits budget report k l x y (inr (inr (inl v))) (inr (inr (inl w))) =
    word-word image commits budget report k l x y v w
line-same image commits budget report k l x y (inr (inr (inl v))) (inr (inr (inr w))) =
    absurd (word-clash image commits budget report k x w.state v w.run w.window)
line-same image commits budget report k l x y (inr (inr (inr v))) (inl w) =
    absurd (entry-run image commits budget report.journal l y v.state w v.run)
line-same image commits budget report k l x y (inr (inr (inr v))) (inr (inl w)) =
    absurd (output-clash image commits budget report l y v.state w v.run v.output)
line-same image commits budget report k l x y (inr (inr (inr v))) (inr (inr (inl w))) =
    absurd (word-clash image commits budget report l y v.state w v.run v.window)
line-same image commits budget report k l x y (inr (inr (inr v))) (inr (inr (inr w))) = v.told ∙ sym w.told

pub agree : AgreeOnTheLine
agree image commits budget report verdicts.Yes verdicts.Yes some other h g = refl
agree image commits budget report verdicts.Yes (verdicts.Illegal line why) some other h g =
    absurd (yes-no image commits budget report line why h g)
agree image commits budget report verdicts.Yes verdicts.Memory some other h g = absurd (other refl)
agree image commits budget report (verdicts.Illegal line why) verdicts.Yes some other h g =
    absurd (yes-no image commits budget report line why g h)
agree image commits budget report (verdicts.Illegal k x) (verdicts.Illegal l y) some other h g =
    ap Some (line-same image commits budget report k l x y h g)
agree image commits budget report (verdicts.Illegal k x) verdicts.Memory some other h g = absurd (other refl)
agree image commits budget report verdicts.Memory w some other h g = absurd (some refl)
