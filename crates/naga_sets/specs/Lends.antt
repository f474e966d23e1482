-- The `HandleVec` after the `&mut` borrow of one of its values ends.
use Rattle.std.specs.Prelude.{ℕ, Option, slice_set}
use Rattle.std.specs.Borrow.{Lends, LendsIf, Fml, RattleType, MutBor}
use Rattle.naga_sets.specs.declared.handle_vec.HandleVec.{HandleVec}
use Rattle.naga_sets.specs.contracts.handle_vec.HandleVec.{the_row}

module _ (T U : RattleType) (values : MutBor (HandleVec T.Denot U.Denot)) (index : ℕ) where
  -- once the borrow `r` ends, the value at `index` is the last value written through `r`
  abbrev pub lends_value : MutBor U.Denot → Fml
  lends_value r = Lends (the_row T U) U values r (slice_set values.now index)

  -- once the borrow in `r` ends, the value at `index` is the last value written through it; if `r` is `None`, the
  -- vector is unchanged
  abbrev pub lends_get : Option (MutBor U.Denot) → Fml
  lends_get r = LendsIf (the_row T U) U values r (slice_set values.now index) values.now
