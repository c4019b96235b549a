-- Spilled tasks as a list; several spills, one after another; and a split, which is a spill read backwards.
use Rattle.std.proofs.Common.{◌≡◌, ◌≢◌, ◌⊎◌, ℕ, ◌≤◌, Bool, true, List, [], ◌∷◌, ◌++◌, Option, Some, refl, sym, ap}
use Rattle.std.proofs.Common.{subst, ◌∙◌, inl, inr}
use Rattle.std.proofs.lemmas.Bool.{cases_eq}
use Rattle.task_law.specs.Tasks.{In, BagCreator, Committed, Live, BagTask, IsFree, Names, SpilledBagTask, IsSpilled}
use Rattle.task_law.specs.Sound.{IsFresh, NamesDiffer, AreSound, SameFree}
use Rattle.task_law.specs.Moves.{with_name, SpillsInBags, spilled_of, SpillsOneInBags, CoalescesInBags}
use Rattle.task_law.specs.Moves.{CoalesceKeepsTasks, SplitKeepsTasks}
use Rattle.task_law.proofs.Spill.{free_forth, free_back, family_forth, family_back, distinct_forth, distinct_back}
use Rattle.task_law.proofs.Spill.{apart_forth, apart_back, firm_forth, firm_back}

module _ {X : Type 0} where
  pub In-more : (front back : List X) (e x : X) → In x (front ++ back) → In x (front ++ e ∷ back)
  In-more [] back e x is = inr is
  In-more (f ∷ front) back e x (inl here) = inl here
  In-more (f ∷ front) back e x (inr there) = inr (In-more front back e x there)

  pub In-this : (front back : List X) (e : X) → In e (front ++ e ∷ back)
  In-this [] back e = inl refl
  In-this (f ∷ front) back e = inr (In-this front back e)

  pub In-only : (front back : List X) (e x : X) → In x (front ++ e ∷ back) → In x (front ++ back) ⊎ (x ≡ e)
  In-only [] back e x (inl here) = inr here
  In-only [] back e x (inr there) = inl there
  In-only (f ∷ front) back e x (inl here) = inl (inl here)
  In-only (f ∷ front) back e x (inr there) =
      elim (In-only front back e x there) [ inl was ↦ inl (inr was) | inr this ↦ inr this ]

-- names that differ, with one more and with one fewer
pub NamesDiffer-more : (front back : List SpilledBagTask) (e : SpilledBagTask) → IsFresh e.task.name (front ++ back)
    → NamesDiffer (front ++ back) → NamesDiffer (front ++ e ∷ back)
NamesDiffer-more [] back e fresh differ = (fresh, differ)
NamesDiffer-more (f ∷ front) back e fresh differ = (
  λ x at same. elim (In-only front back e x at) [
    | inl was ↦ differ.0 x was same
    | inr this ↦ fresh f (inl refl) (sym same ∙ ap (λ z. z.task.name) this)
  ],
  NamesDiffer-more front back e (λ x at. fresh x (inr at)) differ.1,
)

pub NamesDiffer-less : (front back : List SpilledBagTask) (e : SpilledBagTask) → NamesDiffer (front ++ e ∷ back)
    → NamesDiffer (front ++ back) × IsFresh e.task.name (front ++ back)
NamesDiffer-less [] back e differ = (differ.1, differ.0)
NamesDiffer-less (f ∷ front) back e differ =
    let rest = NamesDiffer-less front back e differ.1 in (
      (λ x at. differ.0 x (In-more front back e x at), rest.0),
      λ x at same. fresh x at same rest.1,
    )
  where
    fresh : (x : SpilledBagTask) → In x (f ∷ (front ++ back)) → x.task.name ≡ e.task.name
        → IsFresh e.task.name (front ++ back) → ⊥
    fresh x (inl here) same none = differ.0 e (In-this front back e) (sym same ∙ ap (λ z. z.task.name) here)
    fresh x (inr there) same none = none x there same

module _ (count least : ℕ) (runs : Bool) where
  -- a spill at a place of the list is a spill
  pub as_spill : (old new : ℕ → Option BagTask) (before after : List SpilledBagTask) (id : ℕ) (one : SpillsOneInBags count least runs old new before after id)
      → SpillsInBags count least old new (IsSpilled before) (IsSpilled after) id one.task one.name
  as_spill old new before after id one =
      record {
        there = one.there;
        idle = one.idle;
        gone = one.gone;
        others = one.others;
        named = one.named;
        more =
            λ depth p at. subst (In (record { depth = depth; task = p })) (sym one.after_is) (In-more one.front one.back (spilled_of one.name one.task) (record { depth = depth; task = p }) (subst (In (record { depth = depth; task = p })) one.before_is at));
        is_spilled =
            subst (In (spilled_of one.name one.task)) (sym one.after_is) (In-this one.front one.back (spilled_of one.name one.task));
        only =
            λ depth p at. elim (In-only one.front one.back (spilled_of one.name one.task) (record { depth = depth; task = p }) (subst (In (record { depth = depth; task = p })) one.after_is at)) [
              | inl was ↦ inl (subst (In (record { depth = depth; task = p })) (sym one.before_is) was)
              | inr this ↦ inr (ap {A = SpilledBagTask} (λ z. z.depth) this, ap {A = SpilledBagTask} (λ z. z.task) this)
            ];
      }

  module _ (old new : ℕ → Option BagTask) (before after : List SpilledBagTask) (id : ℕ) (one : SpillsOneInBags count least runs old new before after id) where
    pub spill_same_free : SameFree count old before new after
    spill_same_free depth p =
        let spills = as_spill old new before after id one in (
          free_forth count least old new (IsSpilled before) (IsSpilled after) id one.task one.name spills depth p,
          free_back count least old new (IsSpilled before) (IsSpilled after) id one.task one.name spills depth p,
        )

    -- the task that is spilled is none of those that are dispatched
    dispatched_other : (k : ℕ) (x : BagTask) → old k ≡ Some x → x.dispatched ≡ true → k ≢ id
    dispatched_other k x at runs here =
        let both : Some x ≡ Some one.task = sym at ∙ ap old here ∙ one.there in
        let eq : x ≡ one.task = cc in
        cc (ap (λ z. z.dispatched) eq, runs, one.idle)

    -- its name is new among the spilled ones
    name_fresh : AreSound count least runs old before → IsFresh one.name before
    name_fresh sound e at same = sound.apart id one.task one.name e.depth e.task one.there one.named at same

    pub spill_keeps : AreSound count least runs old before → AreSound count least runs new after
    spill_keeps sound =
        let spills = as_spill old new before after id one in
        record {
          counted =
              λ k x turn index at is. sound.counted k x turn index (sym (one.others k (λ here. cc (one.gone, ap new here, at))) ∙ at) is;
          distinct =
              distinct_forth count least old new (IsSpilled before) (IsSpilled after) id one.task one.name spills sound.distinct;
          apart =
              apart_forth count least old new (IsSpilled before) (IsSpilled after) id one.task one.name spills sound.distinct sound.apart;
          differ =
              subst NamesDiffer (sym one.after_is) (NamesDiffer-more one.front one.back (spilled_of one.name one.task) (subst (IsFresh one.name) one.before_is (name_fresh sound)) (subst NamesDiffer one.before_is sound.differ));
          firm =
              firm_forth count least old new (IsSpilled before) (IsSpilled after) id one.task one.name spills runs one.heir sound.firm;
          families = λ k x at is.
              let other : k ≢ id = λ here. (cc (one.gone, ap new here, at)) in
              family_forth count least old new (IsSpilled before) (IsSpilled after) id one.task one.name spills k x
              (sound.families k x (sym (one.others k other) ∙ at) is);
        }

    names_low : {turn index : ℕ} (c : BagCreator) → c ≡ Committed turn index → Names count least c one.name
        → turn ≤ count
    names_low {turn} {index} (Committed t i) is names = let same : t ≡ turn = cc in subst (λ n. n ≤ count) same names.1
    names_low (Live t i) is names = absurd (cc (is))

    pub split_keeps : AreSound count least runs new after → AreSound count least runs old before
    split_keeps sound =
        let spills = as_spill old new before after id one in
        let less = NamesDiffer-less one.front one.back (spilled_of one.name one.task) (subst NamesDiffer one.after_is sound.differ) in
        let fresh : IsFresh one.name before = subst (IsFresh one.name) (sym one.before_is) less.1 in
        record {
          counted = λ k x turn index at is. elim (cases_eq k id) [
            | inl here ↦
                let both : Some x ≡ Some one.task = sym at ∙ ap old here ∙ one.there in
                let eq : x ≡ one.task = cc in
                names_low one.task.creator (sym (ap (λ z. z.creator) eq) ∙ is) one.named
            | inr other ↦ sound.counted k x turn index (one.others k other ∙ at) is
          ];
          distinct = distinct_back count least old new (IsSpilled before) (IsSpilled after) id one.task one.name spills
              (λ k x at same. sound.apart k x one.name one.task.depth (with_name one.name one.task) at (subst (λ c. Names count least c one.name) (sym same) one.named) spills.is_spilled refl)
              sound.distinct;
          apart =
              apart_back count least old new (IsSpilled before) (IsSpilled after) id one.task one.name spills (λ depth p at. fresh (record { depth = depth; task = p }) at) sound.apart;
          differ = subst NamesDiffer (sym one.before_is) less.0;
          firm =
              firm_back count least old new (IsSpilled before) (IsSpilled after) id one.task one.name spills runs sound.firm;
          families = λ k x at is.
              let same : new k ≡ old k = one.others k (dispatched_other k x at is) in
              family_back count least old new (IsSpilled before) (IsSpilled after) id one.task one.name spills k x (sound.families k x (same ∙ at) is);
        }

  pub coalesce_keeps : (ids : List ℕ) (old new : ℕ → Option BagTask) (before after : List SpilledBagTask)
      → CoalescesInBags count least runs ids old before new after
      → SameFree count old before new after × (AreSound count least runs old before → AreSound count least runs new after)
  coalesce_keeps [] old new before after is =
      let same : new ≡ old = (λ i k. is.0 k i) in (
        λ depth p. (
          λ f. subst (λ es. IsFree new (IsSpilled es) count depth p) (sym is.1) (subst (λ t. IsFree t (IsSpilled before) count depth p) (sym same) f),
          λ f. subst (λ t. IsFree t (IsSpilled before) count depth p) same (subst (λ es. IsFree new (IsSpilled es) count depth p) is.1 f),
        ),
        λ sound. subst (λ es. AreSound count least runs new es) (sym is.1) (subst (λ t. AreSound count least runs t before) (sym same) sound),
      )
  coalesce_keeps (id ∷ ids) old new before after is =
      let rest = coalesce_keeps ids is.0 new is.1 after is.3 in (
        λ depth p. let one =
            spill_same_free old is.0 before is.1 id is.2 depth p in let more =
            rest.0 depth p in (λ f. more.0 (one.0 f), λ f. one.1 (more.1 f)),
        λ sound. rest.1 (spill_keeps old is.0 before is.1 id is.2 sound),
      )

pub coalesces_keep : CoalesceKeepsTasks
coalesces_keep ids old new before after count least runs is =
    coalesce_keeps count least runs ids old new before after is

pub splits_keep : SplitKeepsTasks
splits_keep id old new before after count least runs one = (
  λ depth p. let same = spill_same_free count least runs new old after before id one depth p in (same.1, same.0),
  split_keeps count least runs new old after before id one,
)
