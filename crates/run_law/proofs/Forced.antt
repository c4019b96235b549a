-- Where no two tasks share the least timestamp, a run is the only one of its length.
use Rattle.std.proofs.Common.{◌≡◌, refl, sym, ap, ◌∙◌, subst, ◌≤◌, ◌++◌, ◌==◌, ◌&&◌, ℕ, Bool, true, false, List, []}
use Rattle.std.proofs.Common.{◌∷◌, length, filter, Some, if◌then◌else◌, arith, append_assoc}
use Rattle.std.proofs.lemmas.Grind.{common_steps}
use Rattle.std.proofs.lemmas.Option.{none-some, same_Some}
use Rattle.std.proofs.lemmas.Bool.Decides.{nat_tests}
use Rattle.guest_image.specs.ImageValue.{ImageValue}
use Rattle.task_desc.specs.declared.desc.Name.{Name}
use Rattle.pending_list.specs.declared.task.PendingTask.{PendingTask}
use Rattle.run_journal.specs.declared.journal.Entry.{Entry}
use Rattle.serial_machine.specs.State.{SerialState}
use Rattle.serial_machine.specs.Turn.{turn, inner, is_named, is_least, find_named}
use Rattle.serial_machine.specs.Run.{Runs, IsRun, opening}
use Rattle.run_law.specs.Laws.{IsUntied, AreUntied, IsForced}
use Rattle.run_law.proofs.Turned.{turn-did}
use Rattle.run_law.proofs.RunSteps.{Runs-more}

-- a task that is found passes the test, so one at least does
counted : (p : PendingTask → Bool) (name : Name) (tasks : List PendingTask) (t : PendingTask)
    → find_named name tasks ≡ Some t → p t ≡ true → 1 ≤ length (filter p tasks)
counted p name [] t f h = absurd (none-some _ f)
counted p name (x ∷ xs) t f h = go (is_named name x) f (p x) refl (counted p name xs t) where
  go : (b : Bool) → (if b then Some x else find_named name xs) ≡ Some t → (c : Bool) → p x ≡ c
      → (find_named name xs ≡ Some t → p t ≡ true → 1 ≤ length (filter p xs))
      → 1 ≤ length (if c then x ∷ filter p xs else filter p xs)
  go b f true e ih = omega arith
  go false f false e ih = ih f h
  go true f false e ih =
      let same = same_Some _ _ f in absurd (let k : p x ≡ true = rw same h in grind (arith, common_steps))

-- at most one passes the test, so two that are found are one
alone : (p : PendingTask → Bool) (name other : Name) (tasks : List PendingTask) (t u : PendingTask)
    → length (filter p tasks) ≤ 1
    → find_named name tasks ≡ Some t → p t ≡ true → find_named other tasks ≡ Some u → p u ≡ true → t ≡ u
alone p name other [] t u once f h g k = absurd (none-some _ f)
alone p name other (x ∷ xs) t u once f h g k =
    go (is_named name x) f (is_named other x) g (p x) refl once (alone p name other xs t u) where
      go : (a : Bool) → (if a then Some x else find_named name xs) ≡ Some t → (b : Bool)
          → (if b then Some x else find_named other xs) ≡ Some u → (c : Bool) → p x ≡ c
          → length (if c then x ∷ filter p xs else filter p xs) ≤ 1
          → (length (filter p xs) ≤ 1 → find_named name xs ≡ Some t → p t ≡ true → find_named other xs ≡ Some u → p u ≡ true → t ≡ u)
          → t ≡ u
      go true f true g c e once ih = sym (same_Some _ _ f) ∙ same_Some _ _ g
      go false f false g true e once ih = ih (omega (arith, once)) f h g k
      go false f false g false e once ih = ih once f h g k
      go true f false g true e once ih = absurd (omega (arith, once, counted p other xs u g k))
      go true f false g false e once ih =
          absurd (let z : p x ≡ true = rw (same_Some _ _ f) h in grind (arith, common_steps))
      go false f true g true e once ih = absurd (omega (arith, once, counted p name xs t f h))
      go false f true g false e once ih =
          absurd (let z : p x ≡ true = rw (same_Some _ _ g) k in grind (arith, common_steps))

abbrev make : ℕ → ℕ → Name
make i c = record { creator = c; index = i }

-- a task that is found has the name
found-name : (name : Name) (tasks : List PendingTask) (t : PendingTask) → find_named name tasks ≡ Some t → t.name ≡ name
found-name name [] t f = absurd (none-some _ f)
found-name name (x ∷ xs) t f = go (is_named name x) refl f (found-name name xs t) where
  go : (b : Bool) → is_named name x ≡ b → (if b then Some x else find_named name xs) ≡ Some t
      → (find_named name xs ≡ Some t → t.name ≡ name) → t.name ≡ name
  go true e f ih = ap (λ q. q.name) (sym (same_Some _ _ f)) ∙ own x.name name e
    where
      own : (a b : Name) → ((a.creator == b.creator) && (a.index == b.index)) ≡ true → a ≡ b
      own a b h =
          let c : a.creator ≡ b.creator = grind (arith, nat_tests, common_steps) in
          let i : a.index ≡ b.index = grind (arith, nat_tests, common_steps) in
          ap (λ k. make a.index k) c ∙ ap (λ k. make k b.creator) i
  go false e f ih = ih f

-- two turns that begin in one state
same-name : (image : ImageValue) (budget : ℕ) (s mid other : SerialState) (e f : Entry) → IsUntied (inner s.stack)
    → turn image budget s e.name ≡ Some (mid, e) → turn image budget s f.name ≡ Some (other, f) → e.name ≡ f.name
same-name image budget s mid other e f untied h k =
    let d = turn-did image budget s mid e.name e h in
    let g = turn-did image budget s other f.name f k in
    let bags : g.bag ≡ d.bag = cc (g.may.top, d.may.top) in
    let once = subst IsUntied d.may.top untied in
    let found : find_named f.name d.bag.tasks ≡ Some g.task = subst (λ b. find_named f.name b.tasks ≡ Some g.task) bags g.may.found in
    let least : is_least g.task.ts d.bag.tasks ≡ true = subst (λ b. is_least g.task.ts b.tasks ≡ true) bags g.may.least in
    let tasks = alone (λ t. is_least t.ts d.bag.tasks) e.name f.name d.bag.tasks d.task g.task once d.may.found d.may.least found least in
    sym (found-name e.name d.bag.tasks d.task d.may.found) ∙ ap (λ t. t.name) tasks
    ∙ found-name f.name d.bag.tasks g.task found

-- two runs from one state that is reached by these entries
forced-from : (image : ImageValue) (budget : ℕ) (front : List Entry) (s : SerialState) → IsRun image budget front s
    → (one two : List Entry) (after other : SerialState) → Runs image budget s one after
    → AreUntied image budget (front ++ one) → Runs image budget s two other
    → length two ≡ length one → (two ≡ one) × (other ≡ after)
forced-from image budget front s run [] [] after other r u q len = (refl, sym q ∙ r)
forced-from image budget front s run [] (f ∷ fs) after other r u q len = absurd (omega (arith, len))
forced-from image budget front s run (e ∷ es) [] after other r u q len = absurd (omega (arith, len))
forced-from image budget front s run (e ∷ es) (f ∷ fs) after other (mid, h, rest) untied (mid2, k, rest2) len =
    let names = same-name image budget s mid mid2 e f (untied front s e (record { entries_behind = es; stands = refl; run = run })) h k in
    let both = same_Some _ _ (sym h ∙ ap (turn image budget s) names ∙ k) in
    let again : Runs image budget mid fs other = subst (λ m. Runs image budget m fs other) (sym (ap (λ p. p.0) both)) rest2 in
    let still : AreUntied image budget ((front ++ e ∷ []) ++ es) = subst (AreUntied image budget) (sym (append_assoc front (e ∷ []) es)) untied in
    let ih = forced-from image budget (front ++ e ∷ []) mid (Runs-more image budget front (opening image) s mid e run h) es fs after other rest still again (omega (arith, len)) in
    (ap (λ x. x ∷ fs) (sym (ap (λ p. p.1) both)) ∙ ap (λ xs. e ∷ xs) ih.0, ih.1)

pub forced : (image : ImageValue) → (budget : ℕ) → (journal : List Entry) → (state : SerialState)
    → IsRun image budget journal state → IsForced image budget journal state
forced image budget journal state run untied other after again len =
    forced-from image budget [] (opening image) refl journal other state after run untied again len
