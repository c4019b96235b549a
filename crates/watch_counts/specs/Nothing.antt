-- Where nothing was counted.
use Rattle.std.specs.Prelude.{false, replicate}
use Rattle.watch_counts.specs.declared.accesses.AccessCounts.{AccessCounts}
use Rattle.watch_counts.specs.declared.acts.ActCounts.{ActCounts}
use Rattle.watch_counts.specs.declared.causes.CauseCounts.{CauseCounts}
use Rattle.watch_counts.specs.declared.counts.Counts.{Counts}
use Rattle.watch_counts.specs.declared.domains.DomainCounts.{DomainCounts}
use Rattle.watch_counts.specs.declared.places.PlaceCounts.{PlaceCounts}
use Rattle.watch_counts.specs.declared.stalls.StallCounts.{StallCounts}
use Rattle.watch_counts.specs.declared.tiles.TileCounts.{TileCounts}
use Rattle.watch_counts.specs.declared.work.WorkCounts.{WorkCounts}

abbrev pub no_acts : ActCounts
no_acts = record {
  dispatch = 0;
  step = 0;
  take = 0;
  give = 0;
  abort = 0;
  commit = 0;
  coalesce = 0;
  split = 0;
  advance = 0;
}

abbrev pub no_work : WorkCounts
no_work = record { executed = 0; useful = 0; wasted = 0; refused = 0 }

abbrev pub no_accesses : AccessCounts
no_accesses = record { loads = 0; stores = 0; bytes = 0 }

abbrev pub no_causes : CauseCounts
no_causes = record { load = 0; store = 0; commit_queue = 0; task_queue = 0; core = 0; asked = 0 }

abbrev pub no_stalls : StallCounts
no_stalls = record { task_queue = 0; commit_queue = 0; splits = 0 }

abbrev pub no_places : PlaceCounts
no_places = record { queued = 0; running = 0; stalled = 0; trapped = 0; finished = 0; spilled = 0 }

abbrev pub no_domains : DomainCounts
no_domains = record { ordered = replicate 16 0; unordered = replicate 16 0 }

abbrev pub no_tiles : TileCounts
no_tiles = record { useful = replicate 16 0; wasted = replicate 16 0; taken = replicate 16 0 }

abbrev pub no_counts : Counts
no_counts = record {
  acts = 0;
  told = no_acts;
  passed = no_acts;
  events = 0;
  made = no_acts;
  rounds = 0;
  advances = 0;
  work = no_work;
  committed = no_accesses;
  undone = no_accesses;
  taken = no_causes;
  discarded = no_causes;
  opening = 0;
  spilled = 0;
  stalls = no_stalls;
  stalled_cores = replicate 64 false;
  standing = no_places;
  over_events = no_places;
  over_rounds = no_places;
  greatest = no_places;
  commits = no_domains;
  domains = no_domains;
  lengths = replicate 17 0;
  tiles = no_tiles;
}
