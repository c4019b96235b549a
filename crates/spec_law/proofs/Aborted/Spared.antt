-- The heir is in no cascade of another task.
use Rattle.std.proofs.Common.{◌≡◌, ℕ, Bool, true, false, List, Option, Some, None, refl, sym, ap, subst, ◌∙◌}
use Rattle.std.specs.Ordering.{ordering_reverse, ordering_then}
use Rattle.std.specs.declared.cmp.Ordering.TheVariants.{Less, Greater}
use Rattle.fractal_vt.specs.Keys.{key_cmp}
use Rattle.fractal_vt.proofs.Proved.{key_cmp_total}
use Rattle.guest_image.specs.ImageValue.{ImageValue}
use Rattle.spec_state.specs.declared.task.Task.{Task}
use Rattle.spec_state.specs.View.{View, task_at, queue_at}
use Rattle.spec_state.specs.Least.{IsLeastTask, IsHeir, IsQueuedAt, Queued, spot_cmp}
use Rattle.spec_state.specs.Aborts.{is_marked}
use Rattle.spec_law.specs.Sound.{Sound, SoundSizes}
use Rattle.spec_law.specs.AbortLaws.{CascadeSparesHeir, ConflictsSpareHeir}
use Rattle.spec_law.proofs.Tasks.Places.{contains_get}
use Rattle.spec_law.proofs.Aborted.Pulled.{IsTaskAbove}
use Rattle.spec_law.proofs.Aborted.Cascades.{cascade_is_later, conflicts_are_later}

-- a queued task stands at a place of its tile's queue
pub queued_at : (view : View) → SoundSizes view → (id : ℕ) (task : Task) → task_at view id ≡ Some task
    → (place : ℕ) × IsQueuedAt view task.tile place id task
queued_at view sizes id task there =
    let place = contains_get (queue_at view task.tile) id ((sizes.queued_are task.tile id).1 (task, there, refl, tt)) in
    (place.0, record { queued = place.1; there = there })

-- the least spot has the key of the least task
pub least_key : (view : View) (id : ℕ) (x : Task) (is : IsLeastTask view id x) → is.least.key ≡ x.key
least_key view id x is =
    let has = is.least.has in
    let first : Some has.0 ≡ Some id = sym has.2.queued ∙ is.queued_at.queued in
    let same_id : has.0 ≡ id = cc in
    let both : Some has.1 ≡ Some x = sym has.2.there ∙ ap (task_at view) same_id ∙ is.queued_at.there in
    let same : has.1 ≡ x = cc in
    has.3 ∙ ap (λ t. t.key) same

-- no queued task is below the least one
pub not_below_least : (view : View) → SoundSizes view → (least id : ℕ) (x task : Task) → IsLeastTask view least x
    → task_at view id ≡ Some task → key_cmp task.key x.key ≡ Less → ⊥
not_below_least view sizes least id x task is there below =
    let spot = queued_at view sizes id task there in
    let greater : key_cmp is.least.key task.key ≡ Greater =
    ap (λ k. key_cmp k task.key) (least_key view least x is) ∙ key_cmp_total.antisymm x.key task.key
    ∙ ap ordering_reverse below
    in
    is.least.least (Queued task.tile spot.0) task.key (id, task, spot.1, refl)
    (ap (λ o. ordering_then o (spot_cmp (Queued x.tile is.place) (Queued task.tile spot.0))) greater)

-- the heir is the least task
pub heir_is_least : (view : View) (heir : Option ℕ) (h : ℕ) → IsHeir view heir → heir ≡ Some h
    → (x : Task) × IsLeastTask view h x
heir_is_least view None h is same = absurd (cc)
heir_is_least view (Some id) h is same = let eq : id ≡ h = cc in (is.0, subst (λ k. IsLeastTask view k is.0) eq is.1)

-- where the heir, if it were marked, would lie above a task that is there, it is unmarked
spared_by : (image : ImageValue) (view : View) (sound : Sound image view) (id : ℕ) (task : Task) (marks : List Bool)
    → task_at view id ≡ Some task
    → (h : ℕ) → sound.heir ≡ Some h → (is_marked marks h ≡ true → IsTaskAbove view task h) → is_marked marks h ≡ false
spared_by image view sound id task marks there h heir above = by_mark (is_marked marks h) refl
  where
    by_mark : (b : Bool) → is_marked marks h ≡ b → is_marked marks h ≡ false
    by_mark false is = is
    by_mark true is =
        let least = heir_is_least view sound.heir h sound.is_heir heir in
        let up = above is in
        let both : Some up.0 ≡ Some least.0 = sym up.1 ∙ least.1.queued_at.there in
        let same : up.0 ≡ least.0 = cc in
        absurd (not_below_least view sound.sizes h id least.0 task least.1 there (subst (λ t. key_cmp task.key t.key ≡ Less) same up.2))

pub cascade_spares_heir : CascadeSparesHeir
cascade_spares_heir image view first task marks sound there other cascade h heir =
    spared_by image view sound first task marks there h heir
    (λ marked. cascade_is_later image view first task marks sound there cascade h marked (λ same. other (heir ∙ ap Some same)))

pub conflicts_spare_heir : ConflictsSpareHeir
conflicts_spare_heir image view id line task write marks sound there cascade h heir =
    spared_by image view sound id task marks there h heir (λ marked. conflicts_are_later image view id line task write marks sound there cascade h marked)
