-- What a slab whose values stay ends as, where a `&mut` to one of them is returned.
use Rattle.std.specs.Prelude.{ℕ, Option}
use Rattle.std.specs.Borrow.{Lends, LendsIf, Fml, RattleType, MutBor}
use Rattle.slab.specs.Slab.{Slab, with_value}
use Rattle.kept_slab.specs.contracts.KeptSlab.{the_row}

module _ (T : RattleType) (s : MutBor (Slab T.Denot)) (key : ℕ) where
  -- once the borrow r ends, the key has the last value written through r
  abbrev pub lends_value : MutBor T.Denot → Fml
  lends_value r = Lends (the_row T) T s r (with_value s.now key)

  -- the same where r is a reference, and at `None` the slab stays as it is
  abbrev pub lends_get : Option (MutBor T.Denot) → Fml
  lends_get r = LendsIf (the_row T) T s r (with_value s.now key) s.now
