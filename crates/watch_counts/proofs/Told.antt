-- The line of counts that stopped is that of the true ones.
use Rattle.std.proofs.Common.{◌≡◌, ℕ, ◌++◌, ◌∷◌, [], List, ap, map, refl, codes}
use Rattle.watch_text.specs.Fields.{items_text, more_items}
use Rattle.watch_counts.specs.declared.counts.Counts.{Counts}
use Rattle.watch_counts.specs.Capped.{capped, capped_counts}
use Rattle.watch_counts.specs.Texts.{Named, accesses_group, acts_group, acts_text, causes_group, count_text}
use Rattle.watch_counts.specs.Texts.{counts_text, domains_text, events_text, group_text, groups_text, list_text}
use Rattle.watch_counts.specs.Texts.{lists_text, named_text, places_group, places_text, run_group, run_text}
use Rattle.watch_counts.specs.Texts.{stalls_group, tasks_text, work_group}
use Rattle.watch_counts.proofs.Stopping.{text_capped}

abbrev capped_named : Named → Named
capped_named named = record { name = named.name; number = capped named.number }

one_named : (named : Named) → named_text (capped_named named) ≡ named_text named
one_named named = ap (λ text. codes "\"" ++ named.name ++ codes "\":" ++ text) (text_capped named.number)

more_named : (group : List Named)
    → more_items named_text (map capped_named group) ≡ more_items named_text group
more_named [] = refl
more_named (named ∷ group) = λ i. (codes "," ++ one_named named i) ++ more_named group i

all_named : (group : List Named) → items_text named_text (map capped_named group) ≡ items_text named_text group
all_named [] = refl
all_named (named ∷ group) = λ i. one_named named i ++ more_named group i

more_counts : (counts : List ℕ) → more_items count_text (map capped counts) ≡ more_items count_text counts
more_counts [] = refl
more_counts (count ∷ counts) = λ i. (codes "," ++ text_capped count i) ++ more_counts counts i

all_counts : (counts : List ℕ) → items_text count_text (map capped counts) ≡ items_text count_text counts
all_counts [] = refl
all_counts (count ∷ counts) = λ i. text_capped count i ++ more_counts counts i

in_group : (name : List ℕ) (group : List Named) → group_text name (map capped_named group) ≡ group_text name group
unfolding group_text
in_group name group = λ i. codes ",\"" ++ name ++ codes "\":{" ++ all_named group i ++ codes "}"

in_list : (name counts : List ℕ) → list_text name (map capped counts) ≡ list_text name counts
unfolding list_text
in_list name counts = λ i. codes ",\"" ++ name ++ codes "\":[" ++ all_counts counts i ++ codes "]"

in_events : (events : ℕ) → events_text (capped events) ≡ events_text events
unfolding events_text
in_events events = ap (λ text. codes "{\"counts\":" ++ text) (text_capped events)

in_run : (c : Counts) (left : ℕ) → run_text (capped_counts c) (capped left) ≡ run_text c left
unfolding run_text
in_run c left = λ i. in_events c.events i ++ in_group (codes "work") (work_group c left) i
    ++ in_group (codes "run") (run_group c) i ++ in_group (codes "stalls") (stalls_group c) i

in_acts : (c : Counts) → acts_text (capped_counts c) ≡ acts_text c
unfolding acts_text
in_acts c = λ i. in_group (codes "made") (acts_group c.made) i ++ in_group (codes "told") (acts_group c.told) i
    ++ in_group (codes "passed") (acts_group c.passed) i

in_tasks : (c : Counts) → tasks_text (capped_counts c) ≡ tasks_text c
unfolding tasks_text
in_tasks c = λ i. in_group (codes "committed") (accesses_group c.committed) i
    ++ in_group (codes "undone") (accesses_group c.undone) i ++ in_group (codes "taken") (causes_group c.taken) i
    ++ in_group (codes "discarded") (causes_group c.discarded) i

in_places : (c : Counts) → places_text (capped_counts c) ≡ places_text c
unfolding places_text
in_places c = λ i. in_group (codes "now") (places_group c.standing) i
    ++ in_group (codes "over_events") (places_group c.over_events) i
    ++ in_group (codes "over_rounds") (places_group c.over_rounds) i
    ++ in_group (codes "greatest") (places_group c.greatest) i

in_domains : (c : Counts) → domains_text (capped_counts c) ≡ domains_text c
unfolding domains_text
in_domains c = λ i. in_list (codes "commits_ordered") c.commits.ordered i
    ++ in_list (codes "commits_unordered") c.commits.unordered i
    ++ in_list (codes "made_ordered") c.domains.ordered i ++ in_list (codes "made_unordered") c.domains.unordered i

in_lists : (c : Counts) → lists_text (capped_counts c) ≡ lists_text c
unfolding lists_text
in_lists c = λ i. in_list (codes "lengths") c.lengths i ++ in_list (codes "tile_useful") c.tiles.useful i
    ++ in_list (codes "tile_wasted") c.tiles.wasted i ++ in_list (codes "tile_taken") c.tiles.taken i

in_groups : (c : Counts) (left : ℕ) → groups_text (capped_counts c) (capped left) ≡ groups_text c left
unfolding groups_text
in_groups c left = λ i. in_run c left i ++ in_acts c i ++ in_tasks c i ++ in_places c i

pub told_capped : (c : Counts) (left : ℕ) → counts_text (capped_counts c) (capped left) ≡ counts_text c left
unfolding counts_text
told_capped c left = λ i. in_groups c left i ++ in_domains c i ++ in_lists c i ++ codes "}\n"
