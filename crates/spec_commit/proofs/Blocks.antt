-- One block of several is replaced: what is seen of the blocks.
use Rattle.std.proofs.Common.{◌≡◌, ◌<◌, ◌≤◌, ◌+◌, ℕ, List, [], length, map, Option, refl, sym, ap, subst, ◌∙◌, arith}
use Rattle.std.proofs.Common.{Some, None, slice_index_or, slice_set}
use Rattle.std.proofs.lemmas.List.{get_or-map, map-set, get_or-set_same, get_or-set_other}
use Rattle.std.specs.Prelude.{Result, Ok, Err, OnOk, IfSome}
use Rattle.std.specs.declared.alloc.AllocError.{AllocError}
use Rattle.fractal_vt.specs.declared.level.Level.{Level}
use Rattle.run_journal.specs.declared.journal.Entry.{Entry}
use Rattle.spill_store.specs.SpilledTasks.{Spilled, BlockValue, TakesLeast, after_push}
use Rattle.tile_queues.specs.Queue.{QueueValue}
use Rattle.spec_state.specs.declared.settings.Settings.{Settings}
use Rattle.spec_state.specs.declared.task.Task.{Task}
use Rattle.spec_state.specs.View.{View}
use Rattle.spec_state.specs.Fits.{view_of_parts}
use Rattle.spill_store.specs.Fronts.{lists_in}
use Rattle.spec_state.specs.StateValue.{Spare, HasNoLessSpare}
use Rattle.spec_state.proofs.Proved.{same_lists, spare_at, spare_before, spare_grows}
use Rattle.spec_commit.specs.Spilling.{KeepsOtherSpare}

-- what is said of a task that is there
pub if_there : (found : Option Task) (task : Task) → found ≡ Some task → (said : Task → Type 0) → said task
    → IfSome found said
if_there None task is said of = tt
if_there (Some other) task is said of = subst said (let same : task ≡ other = cc in same) of

-- what stands in the place of a block now
pub tasks_now : (blocks : List BlockValue) (tile : ℕ) (after : BlockValue) → tile < length blocks
    → slice_index_or (lists_in (slice_set blocks tile after)) tile [] ≡ after.tasks
tasks_now blocks tile after within =
    ap (λ lists. slice_index_or lists tile []) (map-set (λ b. b.tasks) blocks tile after)
    ∙ get_or-set_same (lists_in blocks) tile after.tasks [] (subst (λ n. tile < n) (sym (Rattle.std.proofs.lemmas.List.length-map blocks (λ (b : BlockValue). b.tasks))) within)

-- and what stood there
pub tasks_was : (blocks : List BlockValue) (tile : ℕ) (block : BlockValue) → tile < length blocks
    → block ≡ slice_index_or blocks tile block → slice_index_or (lists_in blocks) tile [] ≡ block.tasks
tasks_was blocks tile block within is =
    get_or-map (λ (b : BlockValue). b.tasks) blocks tile block [] within ∙ ap (λ (b : BlockValue). b.tasks) (sym is)

-- the lists with this one in its place
pub tasks_set : (blocks : List BlockValue) (tile : ℕ) (after : BlockValue) → tile < length blocks
    → lists_in (slice_set blocks tile after) ≡ slice_set (lists_in blocks) tile (slice_index_or (lists_in (slice_set blocks tile after)) tile [])
tasks_set blocks tile after within =
    map-set (λ (b : BlockValue). b.tasks) blocks tile after
    ∙ ap (slice_set (lists_in blocks) tile) (sym (tasks_now blocks tile after within))

-- the least spilled task is taken out of that block
pub taken_seen : (blocks : List BlockValue) (tile : ℕ) (block after : BlockValue) (s : Spilled) → tile < length blocks
    → block ≡ slice_index_or blocks tile block → TakesLeast block.tasks after.tasks s
    → (lists : List (List Spilled)) → lists_in blocks ≡ lists
    → TakesLeast (slice_index_or lists tile []) (slice_index_or (lists_in (slice_set blocks tile after)) tile []) s
taken_seen blocks tile block after s within is takes lists same =
    subst (λ lists. TakesLeast (slice_index_or lists tile []) (slice_index_or (lists_in (slice_set blocks tile after)) tile []) s) same
    (subst (λ spilled. TakesLeast spilled (slice_index_or (lists_in (slice_set blocks tile after)) tile []) s) (sym (tasks_was blocks tile block within is))
    (subst (λ spilled. TakesLeast block.tasks spilled s) (sym (tasks_now blocks tile after within)) takes))

-- all else of the view stays
pub block_seen : (version : ℕ) (settings : Settings) (tasks : List (Option Task)) (memory : List ℕ) (history : List Entry) (output : List ℕ) (next : ℕ) (path : List Level)
    (queues finished : List QueueValue) (cores : List (List (Option ℕ))) (blocks : List BlockValue) (tile : ℕ) (after : BlockValue) → tile < length blocks
    → (view : View)
    → view_of_parts version settings tasks memory history output next path queues finished cores (lists_in blocks) ≡ view
    → view_of_parts version settings tasks memory history output next path queues finished cores (lists_in (slice_set blocks tile after))
    ≡ record view { blocks = slice_set view.blocks tile (slice_index_or (lists_in (slice_set blocks tile after)) tile []) }
block_seen version settings tasks memory history output next path queues finished cores blocks tile after within view same =
    subst (λ (view : View). view_of_parts version settings tasks memory history output next path queues finished cores (lists_in (slice_set blocks tile after))
    ≡ record view { blocks = slice_set view.blocks tile (slice_index_or (lists_in (slice_set blocks tile after)) tile []) }) same
    (ap (view_of_parts version settings tasks memory history output next path queues finished cores) (tasks_set blocks tile after within))

-- nothing spare is less where that block has no less to spare
pub no_less_seen : (log spawns output : ℕ) (blocks : List BlockValue) (tile : ℕ) (block after : BlockValue)
    → block ≡ slice_index_or blocks tile block → block.spare ≤ after.spare
    → (kept : Spare) → record { log = log; spawns = spawns; output = output; blocks = map (λ b. b.spare) blocks } ≡ kept
    → HasNoLessSpare kept (record { log = log; spawns = spawns; output = output; blocks = map (λ b. b.spare) (slice_set blocks tile after) })
no_less_seen log spawns output blocks tile block after is more kept same =
    subst (λ (kept : Spare). HasNoLessSpare kept (record { log = log; spawns = spawns; output = output; blocks = map (λ (b : BlockValue). b.spare) (slice_set blocks tile after) })) same
    (record { log = omega arith; spawns = omega arith; output = omega arith; blocks = spare_grows blocks tile block after is more })

-- a task is pushed into that block
pub push_seen : (version : ℕ) (settings : Settings) (tasks : List (Option Task)) (memory : List ℕ) (history : List Entry) (output : List ℕ) (next : ℕ) (path : List Level)
    (queues finished : List QueueValue) (cores : List (List (Option ℕ))) (blocks : List BlockValue) (tile : ℕ) (block after : BlockValue) (s : Spilled) → tile < length blocks
    → block ≡ slice_index_or blocks tile block → after.tasks ≡ after_push block.tasks s
    → (view : View)
    → view_of_parts version settings tasks memory history output next path queues finished cores (lists_in blocks) ≡ view
    → view_of_parts version settings tasks memory history output next path queues finished cores (lists_in (slice_set blocks tile after))
    ≡ record view { blocks = slice_set view.blocks tile (after_push (slice_index_or view.blocks tile []) s) }
push_seen version settings tasks memory history output next path queues finished cores blocks tile block after s within is pushes view same =
    subst (λ (view : View). view_of_parts version settings tasks memory history output next path queues finished cores (lists_in (slice_set blocks tile after))
    ≡ record view { blocks = slice_set view.blocks tile (after_push (slice_index_or view.blocks tile []) s) }) same
    (ap (view_of_parts version settings tasks memory history output next path queues finished cores)
    (map-set (λ (b : BlockValue). b.tasks) blocks tile after
    ∙ ap (slice_set (lists_in blocks) tile) (pushes ∙ ap (λ spilled. after_push spilled s) (sym (tasks_was blocks tile block within is)))))

-- its tasks stay
pub same_seen : (version : ℕ) (settings : Settings) (tasks : List (Option Task)) (memory : List ℕ) (history : List Entry) (output : List ℕ) (next : ℕ) (path : List Level)
    (queues finished : List QueueValue) (cores : List (List (Option ℕ))) (blocks : List BlockValue) (tile : ℕ) (block after : BlockValue)
    → block ≡ slice_index_or blocks tile block → after.tasks ≡ block.tasks
    → (view : View)
    → view_of_parts version settings tasks memory history output next path queues finished cores (lists_in blocks) ≡ view
    → view_of_parts version settings tasks memory history output next path queues finished cores (lists_in (slice_set blocks tile after)) ≡ view
same_seen version settings tasks memory history output next path queues finished cores blocks tile block after is stays view same =
    ap (view_of_parts version settings tasks memory history output next path queues finished cores) (same_lists blocks tile block after is stays)
    ∙ same

-- where the block has at most one push less to spare, so has its tile
pub spare_seen : (blocks : List BlockValue) (tile : ℕ) (block after : BlockValue) → tile < length blocks
    → block ≡ slice_index_or blocks tile block → block.spare ≤ after.spare + 1
    → (spares : List ℕ) → map (λ (b : BlockValue). b.spare) blocks ≡ spares
    → slice_index_or spares tile 0 ≤ slice_index_or (map (λ (b : BlockValue). b.spare) (slice_set blocks tile after)) tile 0 + 1
spare_seen blocks tile block after within is less spares same =
    subst (λ spares. slice_index_or spares tile 0 ≤ slice_index_or (map (λ (b : BlockValue). b.spare) (slice_set blocks tile after)) tile 0 + 1) same
    (let was = spare_before blocks tile block is within in let now = spare_at blocks tile after within in omega (arith, was, now, less))

pub covers_seen : (spares : List ℕ) (tile spare : ℕ) → slice_index_or spares tile 0 ≡ spare
    → (result : Result (Unit {0}) AllocError) → OnOk result (8 ≤ spare) → OnOk result (8 ≤ slice_index_or spares tile 0)
covers_seen spares tile spare is (Ok done) enough = omega (arith, is, enough)
covers_seen spares tile spare is (Err error) enough = tt

-- what is spare for other tiles stays
pub other_spare : (log spawns output : ℕ) (blocks : List BlockValue) (tile : ℕ) (after : BlockValue) (kept : Spare)
    → record { log = log; spawns = spawns; output = output; blocks = map (λ (b : BlockValue). b.spare) blocks } ≡ kept
    → KeepsOtherSpare tile kept (record { log = log; spawns = spawns; output = output; blocks = map (λ (b : BlockValue). b.spare) (slice_set blocks tile after) })
other_spare log spawns output blocks tile after kept same =
    subst (λ (kept : Spare). KeepsOtherSpare tile kept (record { log = log; spawns = spawns; output = output; blocks = map (λ (b : BlockValue). b.spare) (slice_set blocks tile after) })) same
    (record {
      other_blocks = λ t other.
          ap (λ spares. slice_index_or spares t 0) (map-set (λ (b : BlockValue). b.spare) blocks tile after)
          ∙ get_or-set_other (map (λ (b : BlockValue). b.spare) blocks) tile t after.spare 0 other;
      frame = refl;
    })

-- blocks that are an equal list
pub in_blocks : (version : ℕ) (settings : Settings) (tasks : List (Option Task)) (memory : List ℕ) (history : List Entry) (output : List ℕ) (next : ℕ) (path : List Level)
    (queues finished : List QueueValue) (cores : List (List (Option ℕ))) (new blocks : List BlockValue) → new ≡ blocks
    → view_of_parts version settings tasks memory history output next path queues finished cores (lists_in new) ≡ view_of_parts version settings tasks memory history output next path queues finished cores (lists_in blocks)
in_blocks version settings tasks memory history output next path queues finished cores new blocks same =
    ap (λ bs. view_of_parts version settings tasks memory history output next path queues finished cores
    (lists_in bs)) same

pub in_spares : (new blocks : List BlockValue) (P : List ℕ → Type 0) → new ≡ blocks
    → P (map (λ (b : BlockValue). b.spare) blocks) → P (map (λ (b : BlockValue). b.spare) new)
in_spares new blocks P same = subst (λ bs. P (map (λ (b : BlockValue). b.spare) bs)) (sym same)

pub in_spare : (log spawns output : ℕ) (new blocks : List BlockValue) (P : Spare → Type 0) → new ≡ blocks
    → P (record { log = log; spawns = spawns; output = output; blocks = map (λ (b : BlockValue). b.spare) blocks })
    → P (record { log = log; spawns = spawns; output = output; blocks = map (λ (b : BlockValue). b.spare) new })
in_spare log spawns output new blocks P same =
    subst (λ bs. P (record { log = log; spawns = spawns; output = output; blocks = map (λ (b : BlockValue). b.spare) bs })) (sym same)

-- where by an Ok the tile's block has 8 pushes to spare, the block that was put there has them
pub on_after : (result : Result (Unit {0}) AllocError) (new blocks : List BlockValue) (tile : ℕ) (after : BlockValue)
    → new ≡ slice_set blocks tile after → tile < length blocks
    → OnOk result ((block : BlockValue) → block ≡ slice_index_or new tile block → 8 ≤ block.spare)
    → OnOk result (8 ≤ after.spare)
on_after (Ok done) new blocks tile after is within all =
    all after (sym (ap (λ bs. slice_index_or bs tile after) is ∙ get_or-set_same blocks tile after after within))
on_after (Err error) new blocks tile after is within all = tt

pub rest_seen : (version : ℕ) (settings : Settings) (tasks : List (Option Task)) (memory : List ℕ) (history : List Entry) (output : List ℕ) (next : ℕ) (path : List Level)
    (queues finished : List QueueValue) (cores : List (List (Option ℕ))) (blocks new : List BlockValue) (tile : ℕ) (after : BlockValue) → new ≡ slice_set blocks tile after → tile < length blocks
    → (view : View)
    → view_of_parts version settings tasks memory history output next path queues finished cores (lists_in blocks) ≡ view
    → view_of_parts version settings tasks memory history output next path queues finished cores (lists_in new)
    ≡ record view { blocks = slice_set view.blocks tile (slice_index_or (lists_in new) tile []) }
rest_seen version settings tasks memory history output next path queues finished cores blocks new tile after is within view same =
    subst (λ bs. view_of_parts version settings tasks memory history output next path queues finished cores
    (lists_in bs)
    ≡ record view { blocks = slice_set view.blocks tile (slice_index_or (lists_in bs) tile []) }) (sym is)
    (block_seen version settings tasks memory history output next path queues finished cores blocks tile after within view same)
