-- A logged run whose log replays on a memory is one for data of that memory's size, and so is an end call.
use Rattle.std.proofs.Common.{◌≡◌, ◌≤◌, ◌+◌, ◌-◌, ◌%◌, ◌==◌, ◌∷◌, ◌++◌, ℕ, Bool, true, false, List, [], length, not}
use Rattle.std.proofs.Common.{nat_lt, Option, Some, None, refl, sym, ap, subst, ◌∙◌, arith, if◌then◌else◌}
use Rattle.std.proofs.lemmas.Bool.Decides.{nat_tests}
use Rattle.std.proofs.lemmas.Grind.{common_steps}
use Rattle.guest_image.specs.Fetch.{fetched_word}
use Rattle.guest_image.specs.ImageValue.{ImageValue}
use Rattle.memory_law.specs.Accesses.{Replays}
use Rattle.memory_law.proofs.Proved.{length-after_accesses, Replays-back, Replays-front}
use Rattle.rv_core.specs.declared.state.Core.{Core}
use Rattle.rv_core.specs.declared.state.Stop.{Stop}
use Rattle.rv_core.specs.declared.state.Stop.TheVariants as stop
use Rattle.rv_core.specs.Legs.{next_at, word_next, instr_next, effect_next, load_next, store_next, after_store_of}
use Rattle.rv_core.specs.Legs.{plain_loaded, traps}
use Rattle.guest_image.specs.declared.memory_map.TheConstants.{DATA_START}
use Rattle.rv_core.specs.Memory.{is_within, is_in_stack, load_width, store_width}
use Rattle.rv_core.specs.Next.{Next, Goes, Stops}
use Rattle.rv_table.specs.declared.instr.Effect.{Effect}
use Rattle.rv_table.specs.declared.instr.Effect.TheVariants as does
use Rattle.rv_table.specs.declared.instr.Instr.{Instr}
use Rattle.rv_table.specs.declared.instr.LoadWidth.{LoadWidth}
use Rattle.rv_table.specs.declared.instr.StoreWidth.{StoreWidth}
use Rattle.rv_table.specs.Exec.{acts_on}
use Rattle.rv_table.specs.Table.{instr_of_word}
use Rattle.task_request.specs.declared.request.Request.{Request}
use Rattle.task_request.specs.declared.request.Request.TheVariants as ask
use Rattle.task_request.specs.Conditions.{IsCall}
use Rattle.task_request.specs.TaskState.{TaskState, context}
use Rattle.task_request.proofs.Proved.{request_at-call, request_at-end, request_at-load, request_at-store}
use Rattle.task_desc.specs.declared.desc.Ctx.{Ctx}
use Rattle.task_law.specs.Logged.{CoreAsks, LoggedRun, none, plain, call, load, store}
use Rattle.undo_log.specs.declared.access.Access.{Access}

-- what stands next is no trap, and an access ends within so many bytes of data
abbrev Reaches : ℕ → Next → Type 0
Reaches size (Goes core) = Unit {0}
Reaches size (Stops (stop.Load width rd addr)) = addr + load_width width ≤ DATA_START + size
Reaches size (Stops (stop.Store width addr value)) = addr + store_width width ≤ DATA_START + size
Reaches size (Stops stop.Call) = Unit {0}
Reaches size (Stops (stop.Trap cause pc)) = ⊥
Reaches size (Stops stop.Quantum) = Unit {0}

-- what lies within one size and ends within another lies within that one
within_other : (start size other addr n : ℕ) → is_within start size addr n ≡ true → addr + n ≤ start + other
    → is_within start other addr n ≡ true
within_other start size other addr n within ends = grind (arith, nat_tests, common_steps)

-- what does not depend on the size of the data beyond its own access
module _ (image : ImageValue) (size other budget : ℕ) (core : Core) where
  -- where an access within the one size ends within the other, the test of its range has one answer
  in_range : (start addr n : ℕ) (found : Next) (cause : ℕ) → (Reaches other found → addr + n ≤ start + other)
      → Reaches other (if is_within start size addr n then found else traps core cause)
      → (if is_within start other addr n then found else traps core cause) ≡ (if is_within start size addr n then found else traps core cause)
  in_range start addr n found cause ends reaches = by_test (is_within start size addr n) refl reaches
    where
      by_test : (b : Bool) → is_within start size addr n ≡ b → Reaches other (if b then found else traps core cause)
          → (if is_within start other addr n then found else traps core cause) ≡ (if b then found else traps core cause)
      by_test true within reach =
          ap (λ b. if b then found else traps core cause) (within_other start size other addr n within (ends reach))
      by_test false within reach = absurd reach

  -- a load
  load_same : (width : LoadWidth) (rd addr : ℕ) (raw : Option ℕ) → Reaches other (load_next size core width rd addr raw)
      → load_next other core width rd addr raw ≡ load_next size core width rd addr raw
  load_same width rd addr (Some raw) reaches = refl
  load_same width rd addr None reaches =
      in_range DATA_START addr (load_width width) (Stops (stop.Load width rd addr)) 5 (λ reach. reach) reaches

  -- a store
  store_same : (width : StoreWidth) (addr value : ℕ)
      → Reaches other (store_next image.version size core width addr value)
      → store_next image.version other core width addr value ≡ store_next image.version size core width addr value
  store_same width addr value = by_test (is_in_stack image.version addr (store_width width))
    where
      by_test : (b : Bool)
          → Reaches other (if b then Goes (after_store_of core width addr value)
          else if is_within DATA_START size addr (store_width width) then Stops (stop.Store width addr value) else traps core 7)
          → (if b then Goes (after_store_of core width addr value)
          else if is_within DATA_START other addr (store_width width) then Stops (stop.Store width addr value) else traps core 7)
          ≡ (if b then Goes (after_store_of core width addr value)
          else if is_within DATA_START size addr (store_width width) then Stops (stop.Store width addr value) else traps core 7)
      by_test true reach = refl
      by_test false reach =
          in_range DATA_START addr (store_width width) (Stops (stop.Store width addr value)) 7 (λ r. r) reach

  -- a test whose other branch is a trap
  either_same : (b : Bool) (cause : ℕ) (one two : Next) → (Reaches other two → one ≡ two)
      → Reaches other (if b then traps core cause else two)
      → (if b then traps core cause else one) ≡ (if b then traps core cause else two)
  either_same true cause one two same reaches = absurd reaches
  either_same false cause one two same reaches = same reaches

  -- what an instruction does
  effect_same : (effect : Effect) → Reaches other (effect_next image size core effect)
      → effect_next image other core effect ≡ effect_next image size core effect
  effect_same (does.Plain pc rd value) reaches = refl
  effect_same (does.Load width rd addr) reaches =
      either_same (not (addr % load_width width == 0)) 4 (load_next other core width rd addr (plain_loaded image core.stack addr (load_width width)))
      (load_next size core width rd addr (plain_loaded image core.stack addr (load_width width)))
      (load_same width rd addr (plain_loaded image core.stack addr (load_width width))) reaches
  effect_same (does.Store width addr value) reaches =
      either_same (not (addr % store_width width == 0)) 6
      (store_next image.version other core width addr value) (store_next image.version size core width addr value)
      (store_same width addr value) reaches
  effect_same does.Call reaches = refl
  effect_same does.Break reaches = absurd reaches
  effect_same does.Misaligned reaches = absurd reaches

  -- an instruction
  instr_same : (instr : Option Instr) → Reaches other (instr_next image size core instr)
      → instr_next image other core instr ≡ instr_next image size core instr
  instr_same None reaches = absurd reaches
  instr_same (Some instr) reaches = effect_same (acts_on core.pc core.regs instr) reaches

  -- a word
  word_same : (word : Option ℕ) → Reaches other (word_next image size core word)
      → word_next image other core word ≡ word_next image size core word
  word_same None reaches = absurd reaches
  word_same (Some word) reaches = instr_same (instr_of_word word) reaches

  -- what stands at the core
  next_same : Reaches other (next_at image size budget core)
      → next_at image other budget core ≡ next_at image size budget core
  unfolding next_at
  next_same reaches = by_test (nat_lt core.used budget) reaches
    where
      by_test : (b : Bool)
          → Reaches other (if b then word_next image size core (fetched_word image.text core.pc) else traps core 17)
          → (if b then word_next image other core (fetched_word image.text core.pc) else traps core 17) ≡ (if b then word_next image size core (fetched_word image.text core.pc) else traps core 17)
      by_test true reach = word_same (fetched_word image.text core.pc) reach
      by_test false reach = absurd reach

  -- what stands next at one size, where it reaches no further than the other, stands next there too
  pub stands_so : (found : Next) → next_at image size budget core ≡ found → Reaches other found
      → next_at image other budget core ≡ found
  stands_so found at reaches = next_same (subst (Reaches other) (sym at) reaches) ∙ at

-- an access that fits ends within so many bytes of data
ends_within : (start addr offset width bytes size : ℕ) → offset ≡ addr - start → width ≡ bytes → offset + width ≤ size
    → addr + bytes ≤ start + size
ends_within start addr offset width bytes size is_offset is_width inside = omega (arith, is_offset, is_width, inside)

module _ (image : ImageValue) (budget size : ℕ) (ctx : Ctx) (start : TaskState) (memory : List ℕ) where
  -- the last access of a log that replays fits
  last_fits : (log : List Access) (access : Access) → Replays memory (log ++ access ∷ [])
      → access.offset + access.width ≤ length memory
  last_fits log access chain =
      let fits = (Replays-back memory log (access ∷ []) chain).0 in
      omega (arith, fits.within, length-after_accesses memory log)

  -- what a task asks for at one size it asks for at the memory's, where it reaches no further
  asks_on : {task : TaskState} {request : Request} (asks : CoreAsks image budget size ctx task request)
      → Reaches (length memory) (Stops asks.found)
      → CoreAsks image budget (length memory) ctx task request
  asks_on {task} asks reaches = record {
    found = asks.found;
    stands = stands_so image size (length memory) budget task.core (Stops asks.found) asks.stands reaches;
    asks = asks.asks;
  }

  call_on : {task : TaskState} {request : Request} → CoreAsks image budget size ctx task request → IsCall request
      → CoreAsks image budget (length memory) ctx task request
  call_on {task} asks is_call =
      let at_call = request_at-call (context ctx task) task.core asks.found (subst IsCall (sym asks.asks) is_call) in
      let Near : Stop → Type 0 = λ found. Reaches (length memory) (Stops found) in
      asks_on asks (subst Near (sym at_call) tt)

  -- an end call
  pub end_on : {task : TaskState} → CoreAsks image budget size ctx task ask.End
      → CoreAsks image budget (length memory) ctx task ask.End
  end_on {task} asks =
      let at_call = request_at-end (context ctx task) task.core asks.found asks.asks in
      let Near : Stop → Type 0 = λ found. Reaches (length memory) (Stops found) in
      asks_on asks (subst Near (sym at_call) tt)

  load_on : {task : TaskState} (access : Access) {width : LoadWidth} {rd : ℕ}
      → CoreAsks image budget size ctx task (ask.Load width rd access.offset)
      → access.width ≡ load_width width → access.offset + access.width ≤ length memory
      → CoreAsks image budget (length memory) ctx task (ask.Load width rd access.offset)
  load_on {task} access {width} {rd} asks is_width inside =
      let at = request_at-load (context ctx task) task.core asks.found width rd access.offset asks.asks in
      let Near : Stop → Type 0 = λ found. Reaches (length memory) (Stops found) in
      asks_on asks (subst Near (sym at.is) (ends_within DATA_START at.addr access.offset access.width (load_width width) (length memory) at.offset_is is_width inside))

  store_on : {task : TaskState} (access : Access) {value : ℕ}
      → CoreAsks image budget size ctx task (ask.Store access.offset access.width value)
      → access.offset + access.width ≤ length memory
      → CoreAsks image budget (length memory) ctx task (ask.Store access.offset access.width value)
  store_on {task} access {value} asks inside =
      let at = request_at-store (context ctx task) task.core asks.found access.offset access.width value asks.asks in
      let Near : Stop → Type 0 = λ found. Reaches (length memory) (Stops found) in
      asks_on asks (subst Near (sym at.is) (ends_within DATA_START at.addr access.offset access.width (store_width at.width) (length memory) at.offset_is at.bytes_is inside))

  -- a run whose log replays on the memory is one for data of its size
  pub logged_on : {log : List Access} {task : TaskState} → LoggedRun image budget size ctx start log task
      → Replays memory log
      → LoggedRun image budget (length memory) ctx start log task
  logged_on none chain = none
  logged_on (plain {log} {task} core run at) chain =
      plain core (logged_on run chain) (stands_so image size (length memory) budget task.core (Goes core) at tt)
  logged_on (call {log} {task} request after run asks is_call goes) chain =
      call request after (logged_on run chain) (call_on asks is_call) is_call goes
  logged_on (load {log} {task} access width rd run asks is_width is_load) chain =
      load access width rd (logged_on run (Replays-front memory log (access ∷ []) chain))
      (load_on access asks is_width (last_fits log access chain)) is_width is_load
  logged_on (store {log} {task} access value run asks is_store) chain =
      store access value (logged_on run (Replays-front memory log (access ∷ []) chain))
      (store_on access asks (last_fits log access chain)) is_store
