-- Members inserted into a set, as far as its bound allows.
use Rattle.std.specs.Prelude.{ℕ, List, nat_lt, if◌then◌else◌}
use Rattle.std.specs.List.{fold}
use Rattle.std.specs.Option.{option_map_or}
use Rattle.naga_sets.specs.HandleSet.{BoundedSet, with_member}
use Rattle.naga_valid.specs.Operands.{expression_of}
use Rattle.naga_valid.specs.declared.reference.Reference.{Reference}

-- the set with one more member, if the member is below the bound
unfoldable pub put : BoundedSet → ℕ → BoundedSet
put s handle = if nat_lt handle s.bound then with_member s handle else s

-- the set with more members, those of the list that are below the bound
abbrev pub puts : BoundedSet → List ℕ → BoundedSet
puts = fold put

-- the set with one more member, if the reference is one to an expression below the bound
abbrev pub put_reference : BoundedSet → Reference → BoundedSet
put_reference s to = option_map_or (put s) (expression_of to) s
