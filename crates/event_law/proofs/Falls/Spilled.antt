-- What makes room for the least spilled task leaves it the least one.
use Rattle.std.proofs.Common.{ℕ, zero, suc, ◌≡◌, ◌≢◌, ◌⊎◌, inl, inr, List, [], ◌∷◌, Some, refl, sym, ap, subst, ◌∙◌}
use Rattle.std.proofs.Common.{arith}
use Rattle.std.specs.Prelude.{Contains, slice_get, slice_index_or}
use Rattle.std.specs.List.{AllZip}
use Rattle.std.proofs.lemmas.Bool.{cases_eq}
use Rattle.std.proofs.lemmas.Bool.Decides.{nat_tests}
use Rattle.std.proofs.lemmas.List.{get_or-set_same, get_or-set_other}
use Rattle.std.specs.Ordering.{nat_cmp, ordering_then}
use Rattle.std.specs.declared.cmp.Ordering.{Ordering}
use Rattle.std.specs.declared.cmp.Ordering.TheVariants.{Less, Equal, Greater}
use Rattle.fractal_vt.specs.Keys.{key_cmp, levels}
use Rattle.fractal_vt.specs.declared.key.Key.{Key}
use Rattle.fractal_vt.proofs.Proved.{then_greater}
use Rattle.guest_image.specs.ImageValue.{ImageValue}
use Rattle.order_law.proofs.Proved.{below_reopened}
use Rattle.spill_store.specs.SpilledTasks.{Spilled, open_key}
use Rattle.spill_store.specs.Pushing.{after_pushes}
use Rattle.event_def.specs.spec_state.declared.task.Task.{Task}
use Rattle.event_def.specs.spec_state.View.{View, task_at, block_at}
use Rattle.event_def.specs.spec_state.Aborts.{Aborts, OnlyNode}
use Rattle.event_def.specs.spec_state.Groups.{keyed_task}
use Rattle.event_def.specs.spec_state.Least.{Spot, Queued, Spilled_at, HasKey, IsLeastSpilled, place_cmp, spot_cmp}
use Rattle.event_def.specs.spec_state.Least.{ranked_cmp}
use Rattle.event_def.specs.spec_state.Room.{Splitter, Coalesces, IsSpilledAs, MakesRoom, queue_has_room, coalesces}
use Rattle.event_def.specs.spec_state.Room.{aborts_victim}
use Rattle.event_def.specs.spec_state.Room.{aborts_creator}
use Rattle.spec_law.specs.Sound.{Sound, SoundSizes}
use Rattle.spec_law.proofs.Proved.{abort_of_one_is_sound, added_stands, each_now, inside, pushes_each}
use Rattle.spec_law.proofs.Proved.{queued_at, queued_was, StandsAt}
use Rattle.event_law.proofs.Keeps.Events.{spilled_no_heir}

-- of two tiles one comes first, whatever the places
tiles_decide : (tile u p q r s : ℕ) → u ≢ tile → place_cmp tile p u q ≡ place_cmp tile r u s
tiles_decide tile u p q r s other = by_case (nat_cmp tile u) refl
  where
    by_case : (o : Ordering) → nat_cmp tile u ≡ o → ordering_then o (nat_cmp p q) ≡ ordering_then o (nat_cmp r s)
    by_case Less is = refl
    by_case Equal is = absurd (other (grind (arith, nat_tests, is)))
    by_case Greater is = refl

-- each of the spilled tasks is a task of the view as it is spilled, under some id
spilled_under : (view : View) (ids : List ℕ) (moved : List Spilled) → AllZip (IsSpilledAs view) ids moved
    → (s : Spilled) → Contains moved s → (id : ℕ) × IsSpilledAs view id s
spilled_under view ids [] zip s has = absurd (omega (arith, has.1))
spilled_under view [] (e ∷ moved) zip s has = absurd zip
spilled_under view (k ∷ ids) (e ∷ moved) zip s (zero, below, at) = (k, subst (IsSpilledAs view k) at zip.0)
spilled_under view (k ∷ ids) (e ∷ moved) zip s (suc i, below, at) =
    spilled_under view ids moved zip.1 s (i, omega (arith, below), at)

module _ (old new : View) (tile : ℕ) (least : IsLeastSpilled old tile) (sizes : SoundSizes old) where
  -- the least key
  abbrev low : Key
  low = least.least.key

  -- each queued task is above it
  below_queued : (k : ℕ) (t : Task) → task_at old k ≡ Some t → key_cmp low t.key ≡ Less
  below_queued k t there =
      let at = queued_at old sizes k t there in
      then_greater (key_cmp low t.key) (least.least.least (Queued t.tile at.0) t.key (k, t, at.1, refl))

  -- a task of the new blocks was in the old ones, before or behind the least one as it is now, or is above it
  abbrev WasOrAbove : ℕ → ℕ → ℕ → Spilled → Type 0
  WasOrAbove to u p e =
      ((q : ℕ) × (slice_get (block_at old u) q ≡ Some e) × (place_cmp tile to u p ≡ place_cmp tile least.place u q)) ⊎ (key_cmp low (open_key e) ≡ Less)

  -- where it stands at some place of its block, each queued task is above it, and each spilled one was there or is above it, it is the least one
  -- still
  stays_least : (to : ℕ) → slice_get (block_at new tile) to ≡ Some least.least.has.0
      → ((k : ℕ) (t : Task) → task_at new k ≡ Some t → key_cmp low t.key ≡ Less)
      → ((u p : ℕ) (e : Spilled) → slice_get (block_at new u) p ≡ Some e → WasOrAbove to u p e)
      → IsLeastSpilled new tile
  stays_least to stays queued spilled =
      record {
        place = to;
        least = record { key = low; has = (least.least.has.0, stays, least.least.has.2); least = by_spot };
      }
    where
      by_spot : (other : Spot) (key : Key) → HasKey new other key
          → ranked_cmp least.least.key (Spilled_at tile to) key other ≢ Greater
      by_spot (Queued u p) key has = λ greater.
          (let less : key_cmp low key ≡ Less = ap (key_cmp low) has.3 ∙ queued has.0 has.1 has.2.there in
          absurd (cc (sym (ap (λ o. ordering_then o (spot_cmp (Spilled_at tile to) (Queued u p))) less) ∙ greater)))
      by_spot (Spilled_at u p) key has = elim (spilled u p has.0 has.1) [
        | inl was ↦ λ greater.
            least.least.least (Spilled_at u was.0) key (has.0, was.1, has.2) (sym (ap (ordering_then (key_cmp low key)) was.2) ∙ greater)
        | inr above ↦ λ greater.
            (let less : key_cmp low key ≡ Less = ap (key_cmp low) has.2 ∙ above in
            absurd (cc (sym (ap (λ o. ordering_then o (spot_cmp (Spilled_at tile to) (Spilled_at u p))) less) ∙ greater)))
      ]

  -- an abort leaves it the least one
  abort_leaves : (firsts : ℕ → Type 0) (aborted : ℕ) → Aborts firsts old aborted new → IsLeastSpilled new tile
  abort_leaves firsts aborted aborts =
      stays_least least.place (same tile least.place least.least.has.0 least.least.has.1)
      (each_now aborts (λ k t. key_cmp low t.key ≡ Less)
      (λ k t there out. below_queued k t there)
      (λ k now back. below_reopened (levels low) (keyed_task back.was) (below_queued k back.was back.there)))
      (λ u p e at. inl (p, subst (λ blocks. slice_get (slice_index_or blocks u []) p ≡ Some e) (ap (λ view. view.blocks) aborts.frame) at, refl))
    where
      same : (u p : ℕ) (e : Spilled) → slice_get (block_at old u) p ≡ Some e → slice_get (block_at new u) p ≡ Some e
      same u p e at =
          subst (λ blocks. slice_get (slice_index_or blocks u []) p ≡ Some e) (sym (ap (λ view. view.blocks) aborts.frame)) at

  -- so does a coalescing of its tile
  coalesce_leaves : (image : ImageValue) (sound : Sound image old) → Coalesces tile old new → IsLeastSpilled new tile
  coalesce_leaves image sound c =
      stays_least stands.to (ap (λ block. slice_get block stands.to) block_now ∙ stands.there)
      (λ k t at. below_queued k t (queued_was image old new sound.heir sound.serial tile sound.tasks sound.sizes c k t at)) was_or_above
    where
      block_now : block_at new tile ≡ after_pushes (block_at old tile) c.moved
      block_now =
          ap (λ blocks. slice_index_or blocks tile []) c.blocks
          ∙ get_or-set_same old.blocks tile (after_pushes (block_at old tile) c.moved) [] (inside image old new sound.heir sound.serial tile sound.tasks sound.sizes c)

      block_kept : (u : ℕ) → u ≢ tile → block_at new u ≡ block_at old u
      block_kept u other =
          ap (λ blocks. slice_index_or blocks u []) c.blocks
          ∙ get_or-set_other old.blocks tile u (after_pushes (block_at old tile) c.moved) [] other

      stands : StandsAt c.moved (block_at old tile) (after_pushes (block_at old tile) c.moved) least.place least.least.has.0
      stands =
          added_stands c.moved (block_at old tile) (after_pushes (block_at old tile) c.moved) least.place least.least.has.0
          (pushes_each c.moved (block_at old tile)) least.least.has.1

      moved_above : (e : Spilled) → Contains c.moved e → key_cmp low (open_key e) ≡ Less
      moved_above e has =
          let under = spilled_under old c.ids c.moved c.spilled e has in
          ap (λ s. key_cmp low (open_key s)) under.1.spilled_is
          ∙ below_reopened (levels low) (keyed_task under.1.task) (below_queued under.0 under.1.task under.1.there)

      was_or_above : (u p : ℕ) (e : Spilled) → slice_get (block_at new u) p ≡ Some e → WasOrAbove stands.to u p e
      was_or_above u p e at = elim (cases_eq u tile) [
        | inl here ↦
            elim (stands.others p e (ap (λ block. slice_get block p) (sym block_now) ∙ (ap (λ t. slice_get (block_at new t) p) (sym here) ∙ at))) [
              | inl was ↦
                  inl (was.0, ap (λ t. slice_get (block_at old t) was.0) here ∙ was.1, ap (ordering_then (nat_cmp tile u)) was.2)
              | inr moved ↦ inr (moved_above e moved)
            ]
        | inr other ↦ inl (p, ap (λ block. slice_get block p) (sym (block_kept u other)) ∙ at, tiles_decide tile u stands.to p least.place p other)
      ]

-- whatever makes room for the least spilled task leaves it the least one
pub room_leaves_spilled : (image : ImageValue) (old : View) (sound : Sound image old) (tile : ℕ)
    → IsLeastSpilled old tile → {aborted : ℕ} {mid : View}
    → MakesRoom tile Splitter old aborted mid → IsLeastSpilled mid tile
room_leaves_spilled image old sound tile least (queue_has_room free) = least
room_leaves_spilled image old sound tile least (coalesces new full moves) =
    coalesce_leaves old new tile least sound.sizes image sound moves
room_leaves_spilled image old sound tile least (aborts_victim aborted v x mid new full none asks victim firm aborts moves) =
    let no_heir : sound.heir ≢ Some v = λ heir. absurd (cc (sym heir ∙ spilled_no_heir old tile sound.heir least sound.is_heir)) in
    let now = (abort_of_one_is_sound image v x old aborted mid sound victim.there no_heir aborts).0 in
    coalesce_leaves mid new tile (abort_leaves old mid tile least sound.sizes (OnlyNode v) aborted aborts) now.sizes image now moves
room_leaves_spilled image old sound tile least (aborts_creator aborted v creator x new full none asks victim loose made_by aborts) =
    abort_leaves old new tile least sound.sizes (OnlyNode creator) aborted aborts
