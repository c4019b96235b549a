-- Each operation of the cell keeps the rule.
use Rattle.std.proofs.Common.{◌≡◌, ◌≢◌, ℕ, zero, suc, ◌^◌, ◌<◌, List, [], ◌∷◌, ◌++◌, All, length, set, ⊎_elim, refl}
use Rattle.std.proofs.Common.{sym, subst, ◌∙◌, arith}
use mathlib.Core.Option.{some, some-injective, some-ne-none}
use lib.ListN.{get_elem?}
use Rattle.std.proofs.lemmas.List.Elements.{All-nil, All-cons, All-weaker}
use Rattle.atomic_table.proofs.Lists.{at_set, at_snoc, set_again}
use Rattle.crossbeam_utils.specs.Register.{Turns, Forks, Merges}
use Rattle.progress_cell.specs.Readings.{IsAtMost, StandsIn, last_of, opening_reading}
use Rattle.progress_cell.specs.Rule.{reading_of, readings_of, joined_of, Telling, PassFits, AllFit, RuleHolds}
use Rattle.progress_cell.specs.Steps.{PassStores, PassSees, PassConfirms, new_reader, with_joined}
use Rattle.progress_cell.specs.declared.reading.Reading.{Reading}
use Rattle.progress_cell.specs.declared.view.PassView.{PassView}
use Rattle.progress_cell.specs.declared.view.PassView.TheVariants.{Writes, Reads, Spent}
use Rattle.progress_cell.proofs.Places.{IsAtMost-refl, IsAtMost-trans, last_pushed, last_place, NeverFalls-push}
use Rattle.progress_cell.proofs.Places.{StandsIn-longer, StandsIn-last, StandsIn-one, StandsIn-last_seen}

-- one pass knows something else, and what the others know fits still
AllFit-set : (old new : Telling) (before after : List ℕ) (views : List PassView) (pass : ℕ) (w : PassView)
    → ((other : ℕ) (u : PassView) → other ≢ pass → PassFits old before other u → PassFits new after other u)
    → PassFits new after pass w → AllFit old before views → AllFit new after (set views pass w)
AllFit-set old new before after views pass w others own fit j u at =
    ⊎_elim
    (λ (t : (j ≡ pass) × (w ≡ u)). subst (λ (k : ℕ). PassFits new after k u) (sym t.0) (subst (PassFits new after pass) t.1 own))
    (λ (t : (j ≢ pass) × (get_elem? views j ≡ some u)). others j u t.0 (fit j u t.1))
    (at_set views pass j w u at)

-- one more pass
AllFit-push : (telling : Telling) (words : List ℕ) (views : List PassView) (w : PassView)
    → ((pass : ℕ) → PassFits telling words pass w) → AllFit telling words views → AllFit telling words (views ++ w ∷ [])
AllFit-push telling words views w fits fit j u at =
    ⊎_elim (λ (was : get_elem? views j ≡ some u). fit j u was) (λ (same : w ≡ u). subst (PassFits telling words j) same (fits j)) (at_snoc views w u j at)

-- what the writer's pass knows is what was told and taken in
writer_knows : (telling : Telling) (words : List ℕ) (pass : ℕ) (v : PassView) → v ≡ Writes (readings_of v) (joined_of v)
    → PassFits telling words pass v
    → (pass ≡ telling.writer) × (readings_of v ≡ telling.told) × (joined_of v ≡ telling.joined)
writer_knows telling words pass v writes fits = subst (PassFits telling words pass) writes fits

-- what a reader's pass knows stands in what was told
reader_knows : (telling : Telling) (words : List ℕ) (pass : ℕ) (v : PassView) → v ≡ Reads (readings_of v)
    → PassFits telling words pass v
    → StandsIn (readings_of v) telling.told × IsAtMost (last_of (readings_of v)) (reading_of words)
reader_knows telling words pass v reads fits = subst (PassFits telling words pass) reads fits

-- a new board keeps the rule
pub opens : RuleHolds (0 ∷ 0 ∷ []) (Writes (opening_reading ∷ []) [] ∷ [])
opens = record {
  telling = record { writer = 0; told = opening_reading ∷ []; joined = [] };
  told = record {
    some = omega arith;
    last = refl;
    narrow = omega arith;
    never_falls = λ i j d before within. absurd (omega (arith, before, within));
    joined_stand = All-nil _;
  };
  fit = first_fits;
}
  where
    first_fits : AllFit (record { writer = 0; told = opening_reading ∷ []; joined = [] }) (0 ∷ 0 ∷ []) (Writes (opening_reading ∷ []) [] ∷ [])
    first_fits zero u at =
        subst (PassFits (record { writer = 0; told = opening_reading ∷ []; joined = [] }) (0 ∷ 0 ∷ []) 0) (some-injective _ _ at) (refl, refl, refl)
    first_fits (suc j) u at = absurd (some-ne-none u (sym at))

-- the passes beside the writer's fit when it tells a reading that isn't below the words
others_fit : (old : Telling) (before : List ℕ) (reading : Reading) → IsAtMost (reading_of before) reading
    → (other : ℕ) (u : PassView) → other ≢ old.writer → PassFits old before other u
    → PassFits (record old { told = old.told ++ reading ∷ [] }) (reading.commits ∷ reading.output ∷ []) other u
others_fit old before reading above other (Writes told joined) apart fits = absurd (apart fits.0)
others_fit old before reading above other (Reads seen) apart fits =
    (StandsIn-longer seen old.told reading fits.0, IsAtMost-trans _ _ _ fits.1 above)
others_fit old before reading above other Spent apart fits = tt

-- a store by the writer's pass
pub stores : (pass : ℕ) (v : PassView) (reading : Reading) → v ≡ Writes (readings_of v) (joined_of v)
    → reading.commits < 2 ^ 32 → IsAtMost (last_of (readings_of v)) reading
    → Turns RuleHolds pass v (λ _. reading.commits ∷ reading.output ∷ []) PassStores
stores pass v reading writes narrow above x views kept at =
    let mine = writer_knows kept.telling x pass v writes (kept.fit pass v at) in
    let old : Telling = kept.telling in
    let over : IsAtMost (last_of old.told) reading = subst (λ told. IsAtMost (last_of told) reading) mine.1 above in
    let new : Telling = record old { told = old.told ++ reading ∷ [] } in
    let w : PassView = Writes new.told old.joined in (
      w,
      record {
        telling = new;
        told = record {
          some = omega (arith, length_push old.told reading);
          last = sym (last_pushed old.told reading);
          narrow = narrow;
          never_falls = NeverFalls-push old.told reading kept.told.never_falls over;
          joined_stand =
              All-weaker (λ seen. StandsIn seen old.told) (λ seen. StandsIn seen new.told) (λ seen. StandsIn-longer seen old.told reading) old.joined kept.told.joined_stand;
        };
        fit = AllFit-set old new x (reading.commits ∷ reading.output ∷ []) views pass w
            (λ other u apart. others_fit old x reading (subst (λ r. IsAtMost r reading) (sym kept.told.last) over) other u (λ same. apart (same ∙ sym mine.0)))
            (mine.0, refl, refl)
            kept.fit;
      },
      (λ i. Writes (sym mine.1 i ++ reading ∷ []) (sym mine.2 i)),
    )
  where
    length_push : (told : List Reading) (reading : Reading) → 0 < length (told ++ reading ∷ [])
    length_push [] reading = omega arith
    length_push (x ∷ xs) reading = omega arith

-- a load by a reader's pass
pub sees : (pass : ℕ) (v : PassView) → v ≡ Reads (readings_of v) → Turns RuleHolds pass v (λ x. x) PassSees
sees pass v reads x views kept at =
    let mine = reader_knows kept.telling x pass v reads (kept.fit pass v at) in
    let told : List Reading = kept.telling.told in
    let w : PassView = Reads (readings_of v ++ reading_of x ∷ []) in (
      w,
      record {
        telling = kept.telling;
        told = kept.told;
        fit = AllFit-set kept.telling kept.telling x x views pass w (λ other u apart fits. fits) (
          subst (λ r. StandsIn (readings_of v ++ r ∷ []) told) (sym kept.told.last) (StandsIn-last (readings_of v) told kept.told.some mine.0),
          subst (λ r. IsAtMost r (reading_of x)) (sym (last_pushed (readings_of v) (reading_of x))) (IsAtMost-refl _),
        )
            kept.fit;
      },
      (refl, mine.1, kept.told.narrow),
    )

-- a load by the writer's pass
pub confirms : (pass : ℕ) (v : PassView) → v ≡ Writes (readings_of v) (joined_of v)
    → Turns RuleHolds pass v (λ x. x) PassConfirms
confirms pass v writes x views kept at =
    let mine = writer_knows kept.telling x pass v writes (kept.fit pass v at) in
    let stand : All (λ seen. StandsIn seen kept.telling.told) (joined_of v) = subst (All (λ seen. StandsIn seen kept.telling.told)) (sym mine.2) kept.told.joined_stand in (
      v,
      subst (RuleHolds x) (sym (set_again views pass v at)) kept,
      (refl, subst (λ told. All (λ seen. StandsIn seen told) (joined_of v)) (sym mine.1) stand),
    )

-- one more pass, which knows what fits
one_more : (x : List ℕ) (views : List PassView) (pass : ℕ) (v w : PassView) → (kept : RuleHolds x views)
    → get_elem? views pass ≡ some v → ((other : ℕ) → PassFits kept.telling x other w)
    → RuleHolds x (set views pass v ++ w ∷ [])
one_more x views pass v w kept at fits =
    subst (λ l. RuleHolds x (l ++ w ∷ [])) (sym (set_again views pass v at)) (record {
      telling = kept.telling;
      told = kept.told;
      fit = AllFit-push kept.telling x views w fits kept.fit;
    })

-- making a pass of the writer's
pub makes : (pass : ℕ) (v : PassView) → v ≡ Writes (readings_of v) (joined_of v)
    → Forks RuleHolds pass v v (new_reader v)
makes pass v writes x views kept at =
    let mine = writer_knows kept.telling x pass v writes (kept.fit pass v at) in
    let told : List Reading = kept.telling.told in
    let end = last_place told kept.told.some in
    let one : StandsIn (last_of told ∷ []) told = StandsIn-one told end.0 (last_of told) end.2 in
    let below : IsAtMost (last_of told) (reading_of x) = subst (λ r. IsAtMost r (reading_of x)) kept.told.last (IsAtMost-refl _) in
    one_more x views pass v (new_reader v) kept at (λ other. (
      subst (λ readings. StandsIn (last_of readings ∷ []) told) (sym mine.1) one,
      subst (λ readings. IsAtMost (last_of readings) (reading_of x)) (sym mine.1) below,
    ))

-- splitting a reader's pass
pub splits : (pass : ℕ) (v : PassView) → v ≡ Reads (readings_of v) → 0 < length (readings_of v)
    → Forks RuleHolds pass v v (new_reader v)
splits pass v reads begun x views kept at =
    let mine = reader_knows kept.telling x pass v reads (kept.fit pass v at) in
    one_more x views pass v (new_reader v) kept at (λ other. (StandsIn-last_seen (readings_of v) kept.telling.told begun mine.0, mine.1))

-- a reader's whole view goes over to a new pass
pub leaves : (pass : ℕ) (v : PassView) → v ≡ Reads (readings_of v) → Forks RuleHolds pass v Spent v
leaves pass v reads x views kept at =
    let mine = reader_knows kept.telling x pass v reads (kept.fit pass v at) in
    let fits : (other : ℕ) → PassFits kept.telling x other v = λ other. subst (PassFits kept.telling x other) (sym reads) mine in
    let left : AllFit kept.telling x (set views pass Spent) = AllFit-set kept.telling kept.telling x x views pass Spent (λ other u apart held. held) tt kept.fit in
    record {
      telling = kept.telling;
      told = kept.told;
      fit = AllFit-push kept.telling x (set views pass Spent) v fits left;
    }

-- the passes beside the writer's fit when it takes a reader's in
others_stay : (old : Telling) (words : List ℕ) (seen : List Reading) (other : ℕ) (u : PassView) → other ≢ old.writer
    → PassFits old words other u → PassFits (record old { joined = seen ∷ old.joined }) words other u
others_stay old words seen other (Writes told joined) apart fits = absurd (apart fits.0)
others_stay old words seen other (Reads readings) apart fits = fits
others_stay old words seen other Spent apart fits = tt

-- joining a reader's pass to the writer's
pub joins : (pass : ℕ) (v : PassView) (other : ℕ) (w : PassView) → v ≡ Writes (readings_of v) (joined_of v)
    → w ≡ Reads (readings_of w) → Merges RuleHolds pass v other w (with_joined v w) Spent
joins pass v other w writes reads x views kept at apart there =
    let mine = writer_knows kept.telling x pass v writes (kept.fit pass v at) in
    let old : Telling = kept.telling in
    let new : Telling = record old { joined = readings_of w ∷ old.joined } in
    let was : get_elem? views other ≡ some w = ⊎_elim
    (λ (t : (other ≡ pass) × (with_joined v w ≡ w)). absurd (apart t.0))
    (λ (t : (other ≢ pass) × (get_elem? views other ≡ some w)). t.1)
    (at_set views pass other (with_joined v w) w there) in
    let its = reader_knows old x other w reads (kept.fit other w was) in
    let both : AllFit new x (set views pass (with_joined v w)) = AllFit-set old new x x views pass (with_joined v w)
    (λ j u away. others_stay old x (readings_of w) j u (λ same. away (same ∙ sym mine.0)))
    (mine.0, mine.1, (λ i. readings_of w ∷ mine.2 i))
    kept.fit in
    record {
      telling = new;
      told = record {
        some = kept.told.some;
        last = kept.told.last;
        narrow = kept.told.narrow;
        never_falls = kept.told.never_falls;
        joined_stand =
            All-cons (λ seen. StandsIn seen old.told) (readings_of w) old.joined its.0 kept.told.joined_stand;
      };
      fit = AllFit-set new new x x (set views pass (with_joined v w)) other Spent (λ j u away held. held) tt both;
    }
