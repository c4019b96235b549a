-- An access joins a task's log where no later task conflicts.
use Rattle.std.proofs.Common.{Less, ◌≡◌, ◌≢◌, ◌⊎◌, ℕ, ◌/◌, Bool, true, false, List, [], ◌∷◌, ◌++◌, length, Option, Some}
use Rattle.std.proofs.Common.{None, refl, sym, ap, subst, ◌∙◌, inl, inr, append_assoc}
use Rattle.std.proofs.lemmas.Bool.{cases_eq}
use Rattle.fractal_vt.specs.Levels.{levels_cmp}
use Rattle.undo_log.specs.declared.access.Access.{Access}
use Rattle.undo_log.specs.Number.{number_at, after_write, IsAccessible}
use Rattle.memory_law.specs.Accesses.{after_accesses, Replays, Apart}
use Rattle.memory_law.proofs.Marks.{Untouched, Unwritten, ApartIfStore}
use Rattle.memory_law.proofs.Lines.{lines_apart}
use Rattle.memory_law.proofs.Joins.{load_joins, store_joins, length-after_accesses}
use Rattle.memory_law.specs.Tasks.{Logged, IsLineSize, IsNoted, AreNotedInFilter, IsWroteIfStore, log_of, logs, In}
use Rattle.memory_law.specs.Tasks.{Earlier, Ascends, IsByKey}
use Rattle.memory_law.specs.Chain.{IsReplay}
use Rattle.memory_law.specs.Events.{AccessesInLogs, NoLaterWrote, NoLaterTouched}
use Rattle.memory_law.proofs.Latest.{not_self}

module _ (size line : ℕ) (sized : IsLineSize line) (o w : ℕ) (accessible : IsAccessible size o w) where
  untouched_line : (touched wrote : ℕ → Bool) → touched (o / line) ≡ false → (log : List Access)
      → AreNotedInFilter size line touched wrote log → Untouched o w log
  untouched_line touched wrote none [] noted = tt
  untouched_line touched wrote none (a ∷ log) noted = (
    lines_apart size o w a.offset a.width line sized accessible noted.0 (λ same. absurd (cc (ap touched same, noted.1, none))),
    untouched_line touched wrote none log noted.3,
  )

  unwritten_line : (touched wrote : ℕ → Bool) → wrote (o / line) ≡ false → (log : List Access)
      → AreNotedInFilter size line touched wrote log → Unwritten o w log
  unwritten_line touched wrote none [] noted = tt
  unwritten_line touched wrote none (a ∷ log) noted =
      (by_store a.new noted.2, unwritten_line touched wrote none log noted.3)
    where
      by_store : (n : Option ℕ) → IsWroteIfStore wrote (a.offset / line) n → ApartIfStore o w a.offset a.width n
      by_store None at = tt
      by_store (Some v) at =
          lines_apart size o w a.offset a.width line sized accessible noted.0 (λ same. absurd (cc (ap wrote same, at, none)))

pub Untouched-append : (o w : ℕ) (us vs : List Access) → Untouched o w us → Untouched o w vs → Untouched o w (us ++ vs)
Untouched-append o w [] vs p q = q
Untouched-append o w (u ∷ us) vs p q = (p.0, Untouched-append o w us vs p.1 q)

-- no store shares a byte with a range that no access shares one with
Untouched-unwritten : (o w : ℕ) (log : List Access) → Untouched o w log → Unwritten o w log
Untouched-unwritten o w [] p = tt
Untouched-unwritten o w (a ∷ log) p = (by_store a.new p.0, Untouched-unwritten o w log p.1)
  where
    by_store : (n : Option ℕ) → Apart o w a.offset a.width → ApartIfStore o w a.offset a.width n
    by_store None q = tt
    by_store (Some v) q = q

Unwritten-append : (o w : ℕ) (us vs : List Access) → Unwritten o w us → Unwritten o w vs → Unwritten o w (us ++ vs)
Unwritten-append o w [] vs p q = q
Unwritten-append o w (u ∷ us) vs p q = (p.0, Unwritten-append o w us vs p.1 q)

-- the logs before and after the access, split where it joins
pub record Splits (old new : ℕ → Option Logged) (ids : List ℕ) (access : Access) (Rest : List Access → Type 0) : Type 0 where
  pub front : List Access
  pub back : List Access
  pub before : logs old ids ≡ front ++ back
  pub after : logs new ids ≡ front ++ access ∷ back
  pub rest : Rest back

module _ (line : ℕ) (memory : List ℕ) (old new : ℕ → Option Logged) (id : ℕ) (was now : Logged) (access : Access) (grows : AccessesInLogs line memory old new id was now access) where
  -- the logs of other tasks are as they were
  logs_others : (ids : List ℕ) → (In id ids → ⊥) → logs new ids ≡ logs old ids
  logs_others [] out = refl
  logs_others (k ∷ ids) out =
      let other : k ≢ id = λ here. out (inl (sym here)) in
      let same = grows.others k other in
      let rest = logs_others ids (λ at. out (inr at)) in
      cc

  pub splits : (Rest : List Access → Type 0) → Rest [] → ((xs ys : List Access) → Rest xs → Rest ys → Rest (xs ++ ys))
      → ((k : ℕ) (y : Logged) → old k ≡ Some y → y.dispatched ≡ true → Earlier was y → Rest y.log) → (ids : List ℕ)
      → Ascends old ids → In id ids → Splits old new ids access Rest
  splits Rest none more clear [] ascends at = absurd at
  splits Rest none more clear (k ∷ ids) ascends at = by_case (cases_eq k id) (splits Rest none more clear ids ascends.4)
    where
      -- all later ones are clear
      later : (rest : List ℕ) → ((j : ℕ) (other : Logged) → In j rest → old j ≡ Some other → Earlier was other)
          → Ascends old rest → Rest (logs old rest)
      later [] above up = none
      later (j ∷ rest) above up =
          more (log_of (old j)) (logs old rest)
          (subst (λ t. Rest (log_of t)) (sym up.1) (clear j up.0 up.1 up.2 (above j up.0 (inl refl) up.1)))
          (later rest (λ i other in'. above i other (inr in')) up.4)

      by_case : (k ≡ id) ⊎ (k ≢ id) → (In id ids → Splits old new ids access Rest)
          → Splits old new (k ∷ ids) access Rest
      by_case (inl here) go =
          let there' : old k ≡ Some was = ap old here ∙ grows.there in
          let same : Some ascends.0 ≡ Some was = sym ascends.1 ∙ there' in
          let eq : ascends.0 ≡ was = cc in
          let above : (j : ℕ) (other : Logged) → In j ids → old j ≡ Some other → Earlier was other = λ j other in' at'. subst (λ t. Earlier t other) eq (ascends.3 j other in' at') in
          let out : In id ids → ⊥ = λ in'. not_self was (above id was in' grows.there) in
          let log_old : log_of (old k) ≡ was.log = ap log_of there' in
          let log_new : log_of (new k) ≡ was.log ++ access ∷ [] = ap log_of (ap new here ∙ grows.changed) ∙ grows.log in
          record {
            front = was.log;
            back = logs old ids;
            before = ap (λ l. l ++ logs old ids) log_old;
            after =
                ap (λ l. l ++ logs new ids) log_new ∙ append_assoc was.log (access ∷ []) (logs new ids)
                ∙ ap (λ r. was.log ++ access ∷ r) (logs_others ids out);
            rest = later ids above ascends.4;
          }
      by_case (inr other) go =
          let inner = go (in_rest at) in
          record {
            front = log_of (old k) ++ inner.front;
            back = inner.back;
            before =
                ap (λ r. log_of (old k) ++ r) inner.before ∙ sym (append_assoc (log_of (old k)) inner.front inner.back);
            after =
                ap (λ t. log_of t ++ logs new ids) (grows.others k other) ∙ ap (λ r. log_of (old k) ++ r) inner.after
                ∙ sym (append_assoc (log_of (old k)) inner.front (access ∷ inner.back));
            rest = inner.rest;
          }
        where
          in_rest : In id (k ∷ ids) → In id ids
          in_rest (inl here) = absurd (other (sym here))
          in_rest (inr later') = later'

  Ascends_grown : (ids : List ℕ) → Ascends old ids → Ascends new ids
  Ascends_grown [] ascends = tt
  Ascends_grown (k ∷ ids) ascends = by_case (cases_eq k id) (Ascends_grown ids ascends.4)
    where
      levels_of_new : (j : ℕ) (y : Logged) → new j ≡ Some y → (z : Logged) × (old j ≡ Some z) × (z.levels ≡ y.levels)
      levels_of_new j y at = elim (cases_eq j id) [
        | inl here ↦ let same : Some now ≡ Some y = sym grows.changed ∙ sym (ap new here) ∙ at in let eq : now ≡ y = cc in (was, ap old here ∙ grows.there, sym grows.levels ∙ ap (λ t. t.levels) eq)
        | inr other ↦ (y, sym (grows.others j other) ∙ at, refl)
      ]

      above : (task : Logged) → task.levels ≡ ascends.0.levels → (j : ℕ) (other : Logged) → In j ids
          → new j ≡ Some other → Earlier task other
      above task same j other in' at =
          let z = levels_of_new j other at in
          subst (λ l. levels_cmp l other.levels ≡ Less) (sym same) (subst (λ l. levels_cmp ascends.0.levels l ≡ Less) z.2 (ascends.3 j z.0 in' z.1))

      by_case : (k ≡ id) ⊎ (k ≢ id) → Ascends new ids → Ascends new (k ∷ ids)
      by_case (inl here) rest =
          let same : Some ascends.0 ≡ Some was = sym ascends.1 ∙ ap old here ∙ grows.there in
          let eq : ascends.0 ≡ was = cc in
          (now, ap new here ∙ grows.changed, grows.dispatched ∙ sym (ap (λ t. t.dispatched) eq) ∙ ascends.2, above now (grows.levels ∙ sym (ap (λ t. t.levels) eq)), rest)
      by_case (inr other) rest = (ascends.0, grows.others k other ∙ ascends.1, ascends.2, above ascends.0 refl, rest)

  IsByKey_grown : (ids : List ℕ) → IsByKey old ids → IsByKey new ids
  IsByKey_grown ids by_key =
      record {
        ascends = Ascends_grown ids by_key.ascends;
        complete = λ k task at runs. elim (cases_eq k id) [
          | inl here ↦
              let same : Some now ≡ Some task = sym grows.changed ∙ sym (ap new here) ∙ at in
              let eq : now ≡ task = cc in
              subst (λ j. In j ids) (sym here) (by_key.complete id was grows.there (sym grows.dispatched ∙ ap (λ t. t.dispatched) eq ∙ runs))
          | inr other ↦ by_key.complete k task (sym (grows.others k other) ∙ at) runs
        ];
      }

  -- the filters of all tasks leave nothing out
  noted_grown : (serial : List ℕ) → length memory ≡ length serial
      → ((k : ℕ) (task : Logged) → old k ≡ Some task → IsNoted (length serial) line task) → (k : ℕ) (task : Logged)
      → new k ≡ Some task → IsNoted (length serial) line task
  noted_grown serial long noted k task there = elim (cases_eq k id) [
    | inl here ↦
        let same : Some now ≡ Some task = sym grows.changed ∙ sym (ap new here) ∙ there in
        let eq : now ≡ task = cc in
        subst (IsNoted (length serial) line) eq (subst (λ n. IsNoted n line now) long grows.noted)
    | inr other ↦ noted k task (sym (grows.others k other) ∙ there)
  ]

  -- no later task wrote the line: a load keeps the replay
  pub load_keeps : (serial : List ℕ) → IsLineSize line → access.new ≡ None → NoLaterWrote old was (access.offset / line)
      → IsReplay line old serial memory → IsReplay line new serial memory
  load_keeps serial sized is_load none replay =
      let long : length memory ≡ length serial = ap length replay.memory_is ∙ length-after_accesses serial (logs old replay.ids) in
      let accessible : IsAccessible (length serial) access.offset access.width = subst (λ n. IsAccessible n access.offset access.width) long grows.accessible in
      let split = splits (Unwritten access.offset access.width) tt (Unwritten-append access.offset access.width) (λ k y at runs later. unwritten_line (length serial) line sized access.offset access.width accessible y.touched y.wrote (none k y at runs later) y.log (replay.noted k y at)) replay.ids replay.by_key.ascends (replay.by_key.complete id was grows.there grows.was_dispatched) in
      let is : memory ≡ after_accesses serial (split.front ++ split.back) = replay.memory_is ∙ ap (after_accesses serial) split.before in
      let joined = load_joins serial split.front split.back access is_load accessible.within (grows.old_is ∙ ap (λ m. number_at m access.offset access.width) is) split.rest (subst (Replays serial) split.before replay.replays) in
      record {
        ids = replay.ids;
        by_key = IsByKey_grown replay.ids replay.by_key;
        replays = subst (Replays serial) (sym split.after) joined.0;
        memory_is = is ∙ sym joined.1 ∙ ap (after_accesses serial) (sym split.after);
        noted = noted_grown serial long replay.noted;
        bytes = replay.bytes;
      }

  -- no later task touched the line: a store keeps the replay, with the number written
  pub store_keeps : (serial : List ℕ) (v : ℕ) → IsLineSize line → access.new ≡ Some v
      → NoLaterTouched old was (access.offset / line) → IsReplay line old serial memory
      → IsReplay line new serial (after_write memory access.offset access.width v)
  store_keeps serial v sized is_store none replay =
      let long : length memory ≡ length serial = ap length replay.memory_is ∙ length-after_accesses serial (logs old replay.ids) in
      let accessible : IsAccessible (length serial) access.offset access.width = subst (λ n. IsAccessible n access.offset access.width) long grows.accessible in
      let split = splits (Untouched access.offset access.width) tt (Untouched-append access.offset access.width) (λ k y at runs later. untouched_line (length serial) line sized access.offset access.width accessible y.touched y.wrote (none k y at runs later) y.log (replay.noted k y at)) replay.ids replay.by_key.ascends (replay.by_key.complete id was grows.there grows.was_dispatched) in
      let is : memory ≡ after_accesses serial (split.front ++ split.back) = replay.memory_is ∙ ap (after_accesses serial) split.before in
      let joined = store_joins serial split.front split.back access v is_store accessible.within (grows.old_is ∙ ap (λ m. number_at m access.offset access.width) is) split.rest (Untouched-unwritten access.offset access.width split.back split.rest) (subst (Replays serial) split.before replay.replays) in
      record {
        ids = replay.ids;
        by_key = IsByKey_grown replay.ids replay.by_key;
        replays = subst (Replays serial) (sym split.after) joined.0;
        memory_is =
            ap (λ m. after_write m access.offset access.width v) is ∙ sym joined.1
            ∙ ap (after_accesses serial) (sym split.after);
        noted = noted_grown serial long replay.noted;
        bytes = replay.bytes;
      }
