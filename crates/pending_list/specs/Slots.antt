-- Tasks in slots, in the order of their arrival; a slot that a task left stays vacant.
use Rattle.std.specs.Prelude.{◌≡◌, ◌≢◌, ℕ, ◌+◌, ◌*◌, ◌^◌, ◌-◌, ◌<◌, ◌≤◌, true, false, List, [], ◌∷◌, take, length}
use Rattle.std.specs.Prelude.{slice_index_or, if◌then◌else◌}
use Rattle.task_desc.specs.declared.desc.Name.{Name}
use Rattle.pending_list.specs.declared.task.PendingTask.{PendingTask}
use Rattle.pending_list.specs.declared.slot.Slot.{Slot}
use Rattle.pending_list.specs.Pending.{is_named, name_before}
use Rattle.pending_list.specs.Tournament.{no_rank}

-- the tasks in the slots that aren't vacant
abbrev pub present : List Slot → List PendingTask
present [] = []
present (s ∷ slots) = if s.here then s.task ∷ present slots else present slots

-- a vacant slot
abbrev pub vacant : Slot
vacant = record {
  task = record { name = record { creator = 0; index = 0 }; entry = 0; ts = 0; args = [] };
  here = false;
}

-- the slot at a place, and a vacant one past the end
abbrev pub slot_at : List Slot → ℕ → Slot
slot_at slots k = slice_index_or slots k vacant

-- names come one before the other, in vacant slots too
abbrev pub NamesRise : List Slot → Type 0
NamesRise slots = (i j : ℕ) → i < j → j < length slots
    → name_before (slot_at slots i).task.name (slot_at slots j).task.name ≡ true

-- those before this place have a name before this one, and no other has
pub record IsFirstNotBefore (name : Name) (slots : List Slot) (place : ℕ) : Type 0 where
  pub within : place ≤ length slots
  pub before : (k : ℕ) → k < place → name_before (slot_at slots k).task.name name ≡ true
  pub behind : (k : ℕ) → place ≤ k → k < length slots → name_before (slot_at slots k).task.name name ≡ false

-- the task of a name is at this place, and no other slot has the name
pub record IsPlaceOfName (name : Name) (slots : List Slot) (place : ℕ) : Type 0 where
  pub within : place < length slots
  pub here : (slot_at slots place).here ≡ true
  pub named : is_named name (slot_at slots place).task ≡ true
  pub others : (k : ℕ) → k < length slots → k ≢ place → is_named name (slot_at slots k).task ≡ false

-- no task of a name is there
abbrev pub IsNowhere : Name → List Slot → Type 0
IsNowhere name slots = (k : ℕ) → k < length slots → (slot_at slots k).here ≡ true
    → is_named name (slot_at slots k).task ≡ false

-- the last slot, if there is one, is not vacant
abbrev pub EndsHere : List Slot → Type 0
EndsHere slots = 0 < length slots → (slot_at slots (length slots - 1)).here ≡ true

-- the slots without the vacant ones at the end
pub record IsTrimmed (old new : List Slot) : Type 0 where
  pub fewer : length new ≤ length old
  pub front : new ≡ take (length new) old
  pub vacant : (k : ℕ) → length new ≤ k → (slot_at old k).here ≡ false
  pub ends : EndsHere new

-- the rank of the slot at a place: by timestamp, then by place
abbrev pub rank_of : ℕ → Slot → ℕ
rank_of k slot = if slot.here then slot.task.ts * 2 ^ 32 + k else no_rank

-- slots in order, and the rank of each; no task follows them
pub record AreRanked (slots : List Slot) (ranks : List ℕ) (capacity : ℕ) : Type 0 where
  pub within : length slots ≤ length ranks
  pub held : length ranks ≤ capacity
  pub few : length ranks < 2 ^ 32
  pub stamps : (k : ℕ) → k < length slots → (slot_at slots k).task.ts < 2 ^ 32
  pub ranked : (k : ℕ) → k < length ranks → slice_index_or ranks k no_rank ≡ rank_of k (slot_at slots k)
  pub rises : NamesRise slots
  pub ends : EndsHere slots
