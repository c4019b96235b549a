-- What the code has of counts: each number is the least of the count and 2^64 - 1.
use Rattle.std.specs.Prelude.{◌-◌, ◌^◌, ℕ, map, min}
use Rattle.watch_counts.specs.declared.accesses.AccessCounts.{AccessCounts}
use Rattle.watch_counts.specs.declared.acts.ActCounts.{ActCounts}
use Rattle.watch_counts.specs.declared.causes.CauseCounts.{CauseCounts}
use Rattle.watch_counts.specs.declared.counts.Counts.{Counts}
use Rattle.watch_counts.specs.declared.domains.DomainCounts.{DomainCounts}
use Rattle.watch_counts.specs.declared.places.PlaceCounts.{PlaceCounts}
use Rattle.watch_counts.specs.declared.stalls.StallCounts.{StallCounts}
use Rattle.watch_counts.specs.declared.tiles.TileCounts.{TileCounts}
use Rattle.watch_counts.specs.declared.work.WorkCounts.{WorkCounts}

-- a count that stops at its greatest
unfoldable pub capped : ℕ → ℕ
capped count = min count (2 ^ 64 - 1)

abbrev pub capped_acts : ActCounts → ActCounts
capped_acts c = record {
  dispatch = capped c.dispatch;
  step = capped c.step;
  take = capped c.take;
  give = capped c.give;
  abort = capped c.abort;
  commit = capped c.commit;
  coalesce = capped c.coalesce;
  split = capped c.split;
  advance = capped c.advance;
}

abbrev pub capped_work : WorkCounts → WorkCounts
capped_work c = record {
  executed = capped c.executed;
  useful = capped c.useful;
  wasted = capped c.wasted;
  refused = capped c.refused;
}

abbrev pub capped_accesses : AccessCounts → AccessCounts
capped_accesses c = record { loads = capped c.loads; stores = capped c.stores; bytes = capped c.bytes }

abbrev pub capped_causes : CauseCounts → CauseCounts
capped_causes c = record {
  load = capped c.load;
  store = capped c.store;
  commit_queue = capped c.commit_queue;
  task_queue = capped c.task_queue;
  core = capped c.core;
  asked = capped c.asked;
}

abbrev pub capped_stalls : StallCounts → StallCounts
capped_stalls c =
    record { task_queue = capped c.task_queue; commit_queue = capped c.commit_queue; splits = capped c.splits }

abbrev pub capped_places : PlaceCounts → PlaceCounts
capped_places c = record {
  queued = capped c.queued;
  running = capped c.running;
  stalled = capped c.stalled;
  trapped = capped c.trapped;
  finished = capped c.finished;
  spilled = capped c.spilled;
}

abbrev pub capped_domains : DomainCounts → DomainCounts
capped_domains c = record { ordered = map capped c.ordered; unordered = map capped c.unordered }

abbrev pub capped_tiles : TileCounts → TileCounts
capped_tiles c = record {
  useful = map capped c.useful;
  wasted = map capped c.wasted;
  taken = map capped c.taken;
}

abbrev pub capped_counts : Counts → Counts
capped_counts c = record {
  acts = capped c.acts;
  told = capped_acts c.told;
  passed = capped_acts c.passed;
  events = capped c.events;
  made = capped_acts c.made;
  rounds = capped c.rounds;
  advances = capped c.advances;
  work = capped_work c.work;
  committed = capped_accesses c.committed;
  undone = capped_accesses c.undone;
  taken = capped_causes c.taken;
  discarded = capped_causes c.discarded;
  opening = capped c.opening;
  spilled = capped c.spilled;
  stalls = capped_stalls c.stalls;
  stalled_cores = c.stalled_cores;
  standing = capped_places c.standing;
  over_events = capped_places c.over_events;
  over_rounds = capped_places c.over_rounds;
  greatest = capped_places c.greatest;
  commits = capped_domains c.commits;
  domains = capped_domains c.domains;
  lengths = map capped c.lengths;
  tiles = capped_tiles c.tiles;
}
