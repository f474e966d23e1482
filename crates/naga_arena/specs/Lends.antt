-- The arena after the `&mut` borrow of one of its values ends.
use Rattle.std.specs.Prelude.{ℕ}
use Rattle.std.specs.Borrow.{Lends, Fml, RattleType, MutBor}
use Rattle.naga_arena.specs.declared.arena.Arena.{Arena}
use Rattle.naga_arena.specs.Arena.{with_value}
use Rattle.naga_arena.specs.contracts.arena.Arena.{the_row}

module _ (T : RattleType) where
  -- once the borrow `r` ends, the element at `index` has the last value written through `r`
  abbrev pub lends_value : MutBor (Arena T.Denot) → ℕ → MutBor T.Denot → Fml
  lends_value arena index r = Lends (the_row T) T arena r (with_value arena.now index)
