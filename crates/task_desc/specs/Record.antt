-- The record of a spilled task, in 64 bytes:
--   0 entry address, 4 timestamp, 8, 12 and 16 arguments, 20 hint, 24 the name's creator, 28 the name's index (4 bytes
--   each), 32 depth, 34 kinds (2 bytes each), 36 to 63 zeros; all numbers little-endian.
use Rattle.std.specs.Prelude.{ℕ, ◌≤◌, ◌<◌, ◌^◌, ◌==◌, ◌&&◌, nat_le, nat_lt, Bool, List, [], ◌∷◌, ◌++◌, drop}
use Rattle.std.specs.Prelude.{replicate, slice_index, Option, Some, None, if◌then◌else◌}
use Rattle.std.specs.List.{list_all}
use Rattle.guest_image.specs.Numbers.{word_at, half_at, word_bytes, half_bytes}
use Rattle.task_desc.specs.declared.calls.TheConstants.{MAX_DEPTH}
use Rattle.task_desc.specs.declared.desc.Desc.{Desc}

-- the depth is that of a domain, and kinds has no bit at or past the depth
pub record IsDesc (desc : Desc) : Type 0 where
  pub inside : 1 ≤ desc.depth
  pub shallow : desc.depth ≤ MAX_DEPTH
  pub kinds : desc.kinds < 2 ^ desc.depth

-- the bytes of a descriptor
unfoldable pub record_bytes : Desc → List ℕ
record_bytes desc =
    word_bytes desc.entry ++ word_bytes desc.ts
    ++ word_bytes (slice_index desc.args 0) ++ word_bytes (slice_index desc.args 1)
    ++ word_bytes (slice_index desc.args 2)
    ++ word_bytes desc.hint ++ word_bytes desc.name.creator ++ word_bytes desc.name.index
    ++ half_bytes desc.depth ++ half_bytes desc.kinds ++ replicate 28 0

-- the numbers in the fields of a record
unfoldable pub fields_of : List ℕ → Desc
fields_of bytes =
    record {
      name = record { creator = word_at bytes 24; index = word_at bytes 28 };
      entry = word_at bytes 0;
      ts = word_at bytes 4;
      args = word_at bytes 8 ∷ word_at bytes 12 ∷ word_at bytes 16 ∷ [];
      hint = word_at bytes 20;
      depth = half_at bytes 32;
      kinds = half_at bytes 34;
    }

-- the test of a descriptor's depth and kinds
abbrev pub is_desc : Desc → Bool
is_desc desc = nat_le 1 desc.depth && nat_le desc.depth MAX_DEPTH && nat_lt desc.kinds (2 ^ desc.depth)

-- whether the bytes are a record: depth and kinds are a descriptor's, and zeros fill it up
unfoldable pub is_record : List ℕ → Bool
is_record bytes = is_desc (fields_of bytes) && list_all (λ byte. byte == 0) (drop 36 bytes)

-- the descriptor of a record
unfoldable pub desc_of : List ℕ → Option Desc
desc_of bytes = if is_record bytes then Some (fields_of bytes) else None
