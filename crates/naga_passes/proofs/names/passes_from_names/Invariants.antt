use Rattle.std.proofs.Common.{◌≡◌, ◌+◌, ◌++◌, ℕ, List, Option, None, Some, Bor, length, map}
use Rattle.naga_passes.specs.Names.{names_in, names_left}
use Rattle.naga_passes.specs.Pass.{name_of}
use Rattle.naga_passes.proofs.names.passes_from_names.Given as goal

-- the names of the passes so far, and those that are left, are the names in the text
abbrev pub invariant-loop-rest : goal.invariant-loop-rest
invariant-loop-rest l = map name_of l.passes.items ++ names_left l.rest ≡ names_in l.names

abbrev remaining : Option (Bor (List ℕ)) → ℕ
remaining None = 0
remaining (Some list) = length list.now + 1

abbrev pub decreases-loop-rest : goal.decreases-loop-rest
decreases-loop-rest l = remaining l.rest
