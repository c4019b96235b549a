-- Pending tasks in the order of their arrival: by name, and by timestamp.
use Rattle.std.specs.Prelude.{◌≡◌, ℕ, ◌==◌, ◌&&◌, ◌||◌, not, nat_lt, Bool, true, List, [], ◌∷◌, filter, Option}
use Rattle.std.specs.Prelude.{Some, None, if◌then◌else◌, All}
use Rattle.task_desc.specs.declared.desc.Name.{Name}
use Rattle.pending_list.specs.declared.task.PendingTask.{PendingTask}

-- the pending tasks, and how many more can join them before memory is taken again
pub record PendingValue : Type 0 where
  pub tasks : List PendingTask
  pub spare : ℕ

-- whether a task has a name
abbrev pub is_named : Name → PendingTask → Bool
is_named name task = (task.name.creator == name.creator) && (task.name.index == name.index)

-- the first task with a name
abbrev pub find_named : Name → List PendingTask → Option PendingTask
find_named name [] = None
find_named name (t ∷ ts) = if is_named name t then Some t else find_named name ts

-- the tasks but those of a name
abbrev pub without_name : Name → List PendingTask → List PendingTask
without_name name tasks = filter (λ t. not (is_named name t)) tasks

-- whether a name comes before another: by creators, then by places among a creator's children
abbrev pub name_before : Name → Name → Bool
name_before a b = nat_lt a.creator b.creator || ((a.creator == b.creator) && nat_lt a.index b.index)

-- each of the tasks has a name before this one
abbrev pub AllBefore : Name → List PendingTask → Type 0
AllBefore name tasks = All (λ t. name_before t.name name ≡ true) tasks

-- the second task where its timestamp is smaller or no first exists, and else the first
abbrev pub earlier : Option PendingTask → Option PendingTask → Option PendingTask
earlier None found = found
earlier (Some a) None = Some a
earlier (Some a) (Some b) = if nat_lt b.ts a.ts then Some b else Some a

-- the first of the tasks with the least timestamp
abbrev pub first_least : List PendingTask → Option PendingTask
first_least [] = None
first_least (t ∷ ts) = earlier (Some t) (first_least ts)
