-- The line of counts: groups of numbers under their names, in the order of docs/machine/FIGURES.md.
use Rattle.std.specs.Prelude.{◌-◌, ◌^◌, ℕ, List, [], ◌∷◌, ◌++◌, codes, decimal, if◌then◌else◌, nat_lt}
use Rattle.watch_text.specs.Fields.{items_text}
use Rattle.watch_counts.specs.declared.accesses.AccessCounts.{AccessCounts}
use Rattle.watch_counts.specs.declared.acts.ActCounts.{ActCounts}
use Rattle.watch_counts.specs.declared.causes.CauseCounts.{CauseCounts}
use Rattle.watch_counts.specs.declared.counts.Counts.{Counts}
use Rattle.watch_counts.specs.declared.places.PlaceCounts.{PlaceCounts}
use Rattle.watch_text.specs.spec_state.View.{View}
use Rattle.watch_counts.specs.declared.text.NamedCount.{NamedCount}
use Rattle.watch_counts.specs.Work.{work_left}

-- a number under a name
pub record Named : Type 0 where
  pub name : List ℕ
  pub number : ℕ

-- what the code has of it
abbrev pub named_of : NamedCount → Named
named_of named = record { name = named.name.now; number = named.count }

-- a number of at most 64 bits; one that stopped at its greatest, or that would be beyond it, says so in place of it
unfoldable pub count_text : ℕ → List ℕ
count_text count = if nat_lt count (2 ^ 64 - 1) then decimal count else codes "\"stopped\""

abbrev pub named_text : Named → List ℕ
named_text named = codes "\"" ++ named.name ++ codes "\":" ++ count_text named.number

-- a group of numbers under a name, behind another
unfoldable pub group_text : List ℕ → List Named → List ℕ
group_text name group = codes ",\"" ++ name ++ codes "\":{" ++ items_text named_text group ++ codes "}"

-- numbers in a list under a name
unfoldable pub list_text : List ℕ → List ℕ → List ℕ
list_text name counts = codes ",\"" ++ name ++ codes "\":[" ++ items_text count_text counts ++ codes "]"

abbrev pub named : List ℕ → ℕ → Named
named name number = record { name = name; number = number }

abbrev pub work_group : Counts → ℕ → List Named
work_group c left =
    named (codes "executed") c.work.executed ∷ named (codes "useful") c.work.useful
    ∷ named (codes "wasted") c.work.wasted ∷ named (codes "left") left ∷ named (codes "refused") c.work.refused ∷ []

abbrev pub run_group : Counts → List Named
run_group c =
    named (codes "acts") c.acts ∷ named (codes "rounds") c.rounds ∷ named (codes "advances") c.advances
    ∷ named (codes "opening") c.opening ∷ named (codes "spilled") c.spilled ∷ []

abbrev pub acts_group : ActCounts → List Named
acts_group c =
    named (codes "dispatch") c.dispatch ∷ named (codes "step") c.step ∷ named (codes "take") c.take
    ∷ named (codes "give") c.give ∷ named (codes "abort") c.abort ∷ named (codes "commit") c.commit
    ∷ named (codes "coalesce") c.coalesce ∷ named (codes "split") c.split ∷ named (codes "advance") c.advance ∷ []

abbrev pub stalls_group : Counts → List Named
stalls_group c =
    named (codes "task_queue") c.stalls.task_queue ∷ named (codes "commit_queue") c.stalls.commit_queue
    ∷ named (codes "split") c.stalls.splits ∷ []

abbrev pub accesses_group : AccessCounts → List Named
accesses_group c =
    named (codes "loads") c.loads ∷ named (codes "stores") c.stores ∷ named (codes "bytes") c.bytes ∷ []

abbrev pub causes_group : CauseCounts → List Named
causes_group c =
    named (codes "load") c.load ∷ named (codes "store") c.store ∷ named (codes "commit_queue") c.commit_queue
    ∷ named (codes "task_queue") c.task_queue ∷ named (codes "core") c.core ∷ named (codes "asked") c.asked ∷ []

abbrev pub places_group : PlaceCounts → List Named
places_group c =
    named (codes "queued") c.queued ∷ named (codes "running") c.running ∷ named (codes "stalled") c.stalled
    ∷ named (codes "trapped") c.trapped ∷ named (codes "finished") c.finished ∷ named (codes "spilled") c.spilled ∷ []

-- how many events were made
unfoldable pub events_text : ℕ → List ℕ
events_text events = codes "{\"counts\":" ++ count_text events

-- work, and how far the story came
unfoldable pub run_text : Counts → ℕ → List ℕ
run_text c left =
    events_text c.events ++ group_text (codes "work") (work_group c left) ++ group_text (codes "run") (run_group c)
    ++ group_text (codes "stalls") (stalls_group c)

-- events and acts by kind
unfoldable pub acts_text : Counts → List ℕ
acts_text c =
    group_text (codes "made") (acts_group c.made) ++ group_text (codes "told") (acts_group c.told)
    ++ group_text (codes "passed") (acts_group c.passed)

-- what tasks did that committed, and those that were aborted
unfoldable pub tasks_text : Counts → List ℕ
tasks_text c =
    group_text (codes "committed") (accesses_group c.committed) ++ group_text (codes "undone") (accesses_group c.undone)
    ++ group_text (codes "taken") (causes_group c.taken) ++ group_text (codes "discarded") (causes_group c.discarded)

-- where tasks are
unfoldable pub places_text : Counts → List ℕ
places_text c =
    group_text (codes "now") (places_group c.standing) ++ group_text (codes "over_events") (places_group c.over_events)
    ++ group_text (codes "over_rounds") (places_group c.over_rounds)
    ++ group_text (codes "greatest") (places_group c.greatest)

-- committed tasks by depth and kind of their domain, and the subdomains that they made
unfoldable pub domains_text : Counts → List ℕ
domains_text c =
    list_text (codes "commits_ordered") c.commits.ordered ++ list_text (codes "commits_unordered") c.commits.unordered
    ++ list_text (codes "made_ordered") c.domains.ordered ++ list_text (codes "made_unordered") c.domains.unordered

-- by how long tasks are, and by tile
unfoldable pub lists_text : Counts → List ℕ
lists_text c =
    list_text (codes "lengths") c.lengths ++ list_text (codes "tile_useful") c.tiles.useful
    ++ list_text (codes "tile_wasted") c.tiles.wasted ++ list_text (codes "tile_taken") c.tiles.taken

-- all groups
unfoldable pub groups_text : Counts → ℕ → List ℕ
groups_text c left = run_text c left ++ acts_text c ++ tasks_text c ++ places_text c

-- the line of counts, where uncommitted tasks have executed so many instructions
unfoldable pub counts_text : Counts → ℕ → List ℕ
counts_text c left = groups_text c left ++ domains_text c ++ lists_text c ++ codes "}\n"

-- that of counts on a machine
abbrev pub counts_line : Counts → View → List ℕ
counts_line c view = counts_text c (work_left view)
