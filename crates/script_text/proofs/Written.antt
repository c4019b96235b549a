-- The lines of the taps' lists, which are written one tap after another.
use Rattle.std.proofs.Common.{◌≡◌, ℕ, ◌+◌, ◌<◌, List, length, map, take, get_or, Ok, Err, refl, ap, ◌∙◌, arith}
use Rattle.std.specs.List.{flat_map, enumerate_from}
use Rattle.std.proofs.lemmas.List.{get_or-map}
use Rattle.std.proofs.lemmas.List.FromFn.{get_or-enumerate_from, length-enumerate_from}
use Rattle.sim_io.specs.Parts.{Writes}
use Rattle.sim_io.specs.Streams.{SinkState}
use Rattle.sim_io.proofs.Proved.{Wrote, wrote_item, wrote_item_front, wrote_items}
use Rattle.script_text.specs.Traces.{tap_lines}

tap_at : (lists : List (List ℕ)) (i : ℕ) (d : List ℕ) → i < length lists
    → get_or (enumerate_from 0 lists) i (0, d) ≡ (i, get_or lists i d)
tap_at lists i d lt = let k : 0 + i ≡ i = omega arith in rw (get_or-enumerate_from 0 lists i (0, d) lt, k) refl

-- one tap more
pub tap_written : {E : Type 0} (lists : List (List ℕ)) (i : ℕ) (list : List ℕ) (a b c : SinkState) → i < length lists
    → get_or lists i list ≡ list → Wrote a b (flat_map tap_lines (take i (enumerate_from 0 lists)))
    → Writes {E = E} b c (Ok tt) (tap_lines (i, list))
    → Wrote a c (flat_map tap_lines (take (i + 1) (enumerate_from 0 lists)))
tap_written {E} lists i list a b c lt at w h =
    wrote_item {E = E} tap_lines (enumerate_from 0 lists) i (0, list) a b c (rw length-enumerate_from lt) w (rw (tap_at lists i list lt, at) h)

-- and then a front of one
pub tap_failed : {E : Type 0} (lists : List (List ℕ)) (i : ℕ) (list : List ℕ) (a b c : SinkState) (e : E)
    → i < length lists
    → get_or lists i list ≡ list → Wrote a b (flat_map tap_lines (take i (enumerate_from 0 lists)))
    → Writes b c (Err e) (tap_lines (i, list)) → Writes a c (Err e) (flat_map tap_lines (enumerate_from 0 lists))
tap_failed lists i list a b c e lt at w h =
    wrote_item_front tap_lines (enumerate_from 0 lists) i (0, list) a b c e (rw length-enumerate_from lt) w (rw (tap_at lists i list lt, at) h)

-- all taps
pub taps_written : {E : Type 0} (lists : List (List ℕ)) (i : ℕ) (a b : SinkState) → i ≡ length lists
    → Wrote a b (flat_map tap_lines (take i (enumerate_from 0 lists)))
    → Writes {E = E} a b (Ok tt) (flat_map tap_lines (enumerate_from 0 lists))
taps_written {E} lists i a b e w =
    wrote_items {E = E} tap_lines (enumerate_from 0 lists) i a b (rw length-enumerate_from e) w

-- the items of the vector at a place
pub items_at : {X : Type 0} (f : X → List ℕ) (xs : List X) (i : ℕ) (x : X) → i < length xs → get_or xs i x ≡ x
    → get_or (map f xs) i (f x) ≡ f x
items_at f xs i x lt at = get_or-map f xs i x (f x) lt ∙ ap f at
