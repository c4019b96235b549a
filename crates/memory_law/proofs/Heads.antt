-- A task joins the ids where it is dispatched, and the first one leaves them where it commits.
use Rattle.std.proofs.Common.{◌≡◌, ◌≢◌, ◌⊎◌, ℕ, false, List, [], ◌∷◌, ◌++◌, length, Option, Some, refl, sym, ap, subst}
use Rattle.std.proofs.Common.{◌∙◌, inl, inr}
use Rattle.std.proofs.lemmas.Bool.{cases_eq}
use Rattle.fractal_vt.specs.Levels.{level_cmp}
use Rattle.fractal_vt.proofs.Proved.{level_cmp_total, levels_cmp_total, not_both}
use Rattle.memory_law.specs.Accesses.{after_accesses, Replays}
use Rattle.memory_law.proofs.Replays.{after_accesses-append, Replays-front, Replays-back}
use Rattle.memory_law.proofs.Joins.{AreBytes-after_accesses, length-after_accesses}
use Rattle.memory_law.specs.Tasks.{Logged, IsNoted, AreNotedInFilter, log_of, logs, In, Earlier, Ascends}
use Rattle.memory_law.specs.Chain.{IsReplay}
use Rattle.memory_law.specs.Events.{DispatchesInLogs, CommitsInLogs}
use Rattle.memory_law.proofs.Latest.{not_self, member_dispatched}

pub record Inserts (old new : ℕ → Option Logged) (id : ℕ) (ids : List ℕ) : Type 0 where
  pub longer : List ℕ
  pub ascends : Ascends new longer
  pub same_logs : logs new longer ≡ logs old ids
  pub here : In id longer
  pub holds : (k : ℕ) → In k ids → In k longer
  pub only : (k : ℕ) → In k longer → (k ≡ id) ⊎ In k ids

module _ (old new : ℕ → Option Logged) (id : ℕ) (now : Logged) (starts : DispatchesInLogs old new id now) where
  -- no listed task is the one that is dispatched
  listed_other : (k : ℕ) (ids : List ℕ) → Ascends old ids → In k ids → k ≢ id
  listed_other k ids up at here =
      let runs = member_dispatched old k ids at up in
      let off : runs.0.dispatched ≡ false = starts.idle runs.0 (ap old (sym here) ∙ runs.1) in
      cc (runs.2, off)

  same_line : (ids : List ℕ) → Ascends old ids → Ascends new ids
  same_line [] up = tt
  same_line (k ∷ ids) up = (
    up.0,
    starts.others k (listed_other k (k ∷ ids) up (inl refl)) ∙ up.1,
    up.2,
    λ j other at there. up.3 j other at (sym (starts.others j (listed_other j (k ∷ ids) up (inr at))) ∙ there),
    same_line ids up.4,
  )

  same_logs' : (ids : List ℕ) → Ascends old ids → logs new ids ≡ logs old ids
  same_logs' [] up = refl
  same_logs' (k ∷ ids) up =
      let one = starts.others k (listed_other k (k ∷ ids) up (inl refl)) in
      let rest = same_logs' ids up.4 in
      cc

  empty_log : log_of (new id) ≡ []
  empty_log = ap log_of starts.changed ∙ starts.log

  is_now : (k : ℕ) (x : Logged) → k ≡ id → new k ≡ Some x → now ≡ x
  is_now k x here at = let both : Some now ≡ Some x = sym starts.changed ∙ sym (ap new here) ∙ at in cc

  pub inserts : (ids : List ℕ) → Ascends old ids → Inserts old new id ids
  inserts [] up =
      record {
        longer = id ∷ [];
        ascends = (now, starts.changed, starts.dispatched, λ j other at there. absurd at, tt);
        same_logs = ap (λ l. l ++ []) empty_log;
        here = inl refl;
        holds = λ k at. absurd at;
        only = λ k at. elim at [ inl e ↦ inl e | inr no_more ↦ absurd no_more ];
      }
  inserts (k ∷ ids) up =
      by_order (starts.ordered k up.0 (listed_other k (k ∷ ids) up (inl refl)) up.1 up.2) (inserts ids up.4)
    where
      by_order : Earlier up.0 now ⊎ Earlier now up.0 → Inserts old new id ids → Inserts old new id (k ∷ ids)
      by_order (inl before) rest =
          record {
            longer = k ∷ rest.longer;
            ascends = (
              up.0,
              starts.others k (listed_other k (k ∷ ids) up (inl refl)) ∙ up.1,
              up.2,
              λ j other at there. elim (rest.only j at) [
                | inl here ↦ subst (Earlier up.0) (is_now j other here there) before
                | inr listed ↦ up.3 j other listed (sym (starts.others j (listed_other j (k ∷ ids) up (inr listed))) ∙ there)
              ],
              rest.ascends,
            );
            same_logs =
                (let one = starts.others k (listed_other k (k ∷ ids) up (inl refl)) in let r = rest.same_logs in cc);
            here = inr rest.here;
            holds = λ j at. elim at [ inl e ↦ inl e | inr later ↦ inr (rest.holds j later) ];
            only = λ j at. elim at [
              | inl e ↦ inr (inl e)
              | inr later ↦ elim (rest.only j later) [ inl e ↦ inl e | inr m ↦ inr (inr m) ]
            ];
          }
      by_order (inr after) rest =
          record {
            longer = id ∷ k ∷ ids;
            ascends = (
              now,
              starts.changed,
              starts.dispatched,
              λ j other at there. elim at [
                | inl here ↦
                    let both : Some up.0 ≡ Some other = sym up.1 ∙ sym (starts.others k (listed_other k (k ∷ ids) up (inl refl))) ∙ sym (ap new here) ∙ there in
                    let eq : up.0 ≡ other = cc in
                    subst (Earlier now) eq after
                | inr listed ↦
                    let above : Earlier up.0 other = up.3 j other listed (sym (starts.others j (listed_other j (k ∷ ids) up (inr listed))) ∙ there) in
                    levels_cmp_total.trans now.levels up.0.levels other.levels after above
              ],
              same_line (k ∷ ids) up,
            );
            same_logs = (let e = empty_log in let r = same_logs' (k ∷ ids) up in cc);
            here = inl refl;
            holds = λ j at. inr at;
            only = λ j at. elim at [ inl e ↦ inl e | inr m ↦ inr m ];
          }

  pub dispatch_keeps : (line : ℕ) (serial memory : List ℕ) → IsReplay line old serial memory
      → IsReplay line new serial memory
  dispatch_keeps line serial memory replay =
      let ins = inserts replay.ids replay.by_key.ascends in
      record {
        ids = ins.longer;
        by_key = record {
          ascends = ins.ascends;
          complete = λ k task at runs. elim (cases_eq k id) [
            | inl here ↦ subst (λ j. In j ins.longer) (sym here) ins.here
            | inr other ↦ ins.holds k (replay.by_key.complete k task (sym (starts.others k other) ∙ at) runs)
          ];
        };
        replays = subst (Replays serial) (sym ins.same_logs) replay.replays;
        memory_is = replay.memory_is ∙ ap (after_accesses serial) (sym ins.same_logs);
        noted = λ k task at. elim (cases_eq k id) [
          | inl here ↦
              let same : now ≡ task = is_now k task here at in
              subst (AreNotedInFilter (length serial) line task.touched task.wrote) (sym (ap (λ t. t.log) (sym same) ∙ starts.log)) tt
          | inr other ↦ replay.noted k task (sym (starts.others k other) ∙ at)
        ];
        bytes = replay.bytes;
      }

module _ (old new : ℕ → Option Logged) (id : ℕ) (task : Logged) (leaves : CommitsInLogs old new id task) where
  rest_line : (ids : List ℕ) → Ascends old ids → (In id ids → ⊥) → Ascends new ids × (logs new ids ≡ logs old ids)
  rest_line [] up out = (tt, refl)
  rest_line (k ∷ ids) up out =
      let rest = rest_line ids up.4 (λ at. out (inr at)) in
      let other : k ≢ id = λ here. out (inl (sym here)) in
      let same = leaves.others k other in (
        (up.0, same ∙ up.1, up.2, (λ j x at there. up.3 j x at (elim (cases_eq j id) [ inl here ↦ absurd (out (inr (subst (λ i. In i ids) here at))) | inr differs ↦ sym (leaves.others j differs) ∙ there ])), rest.0),
        (let r = rest.1 in cc),
      )

  pub commit_keeps : (line : ℕ) (serial memory : List ℕ) → IsReplay line old serial memory
      → Replays serial task.log × IsReplay line new (after_accesses serial task.log) memory
  commit_keeps line serial memory replay =
      by_line replay.ids refl replay.by_key.ascends (replay.by_key.complete id task leaves.there leaves.dispatched)
    where
      by_line : (ids : List ℕ) → replay.ids ≡ ids → Ascends old ids → In id ids
          → Replays serial task.log × IsReplay line new (after_accesses serial task.log) memory
      by_line [] is up at = absurd at
      by_line (k ∷ ids) is up at = by_head (cases_eq k id)
        where
          by_head : (k ≡ id) ⊎ (k ≢ id)
              → Replays serial task.log × IsReplay line new (after_accesses serial task.log) memory
          by_head (inr other) =
              let in_rest : In id ids = elim at [ inl here ↦ absurd (other (sym here)) | inr later ↦ later ] in
              absurd (not_both level_cmp level_cmp_total task.levels up.0.levels (leaves.least k up.0 other up.1 up.2) (up.3 id task in_rest leaves.there))
          by_head (inl here) =
              let both : Some up.0 ≡ Some task = sym up.1 ∙ ap old here ∙ leaves.there in
              let eq : up.0 ≡ task = cc in
              let out : In id ids → ⊥ = λ at'. not_self task (subst (λ t. Earlier t task) eq (up.3 id task at' leaves.there)) in
              let rest = rest_line ids up.4 out in
              let all : logs old replay.ids ≡ task.log ++ logs old ids = ap (logs old) is ∙ ap (λ o. log_of o ++ logs old ids) (up.1 ∙ ap Some eq) in
              let chain : Replays serial (task.log ++ logs old ids) = subst (Replays serial) all replay.replays in (
                Replays-front serial task.log (logs old ids) chain,
                record {
                  ids = ids;
                  by_key = record {
                    ascends = rest.0;
                    complete = λ j x there runs. elim (cases_eq j id) [
                      | inl gone ↦ absurd (cc (leaves.gone, ap new gone, there))
                      | inr differs ↦
                          let was : In j (k ∷ ids) = subst (In j) is (replay.by_key.complete j x (sym (leaves.others j differs) ∙ there) runs) in
                          elim was [ inl e ↦ absurd (differs (e ∙ here)) | inr later ↦ later ]
                    ];
                  };
                  replays =
                      subst (Replays (after_accesses serial task.log)) (sym rest.1) (Replays-back serial task.log (logs old ids) chain);
                  memory_is =
                      replay.memory_is ∙ ap (after_accesses serial) all
                      ∙ after_accesses-append serial task.log (logs old ids)
                      ∙ ap (after_accesses (after_accesses serial task.log)) (sym rest.1);
                  noted = λ j x there. elim (cases_eq j id) [
                    | inl gone ↦ absurd (cc (leaves.gone, ap new gone, there))
                    | inr differs ↦ subst (λ n. IsNoted n line x) (sym (length-after_accesses serial task.log)) (replay.noted j x (sym (leaves.others j differs) ∙ there))
                  ];
                  bytes = AreBytes-after_accesses serial task.log replay.bytes;
                },
              )
