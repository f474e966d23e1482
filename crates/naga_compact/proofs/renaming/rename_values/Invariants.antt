use Rattle.std.proofs.Common.{◌≡◌}
use Rattle.naga_compact.specs.Renaming.Functions.{map_value}
use Rattle.naga_compact.proofs.MappedListLemmas.{mapped_to}
use Rattle.naga_compact.proofs.renaming.rename_values.Given as goal

-- the values before the index are renamed
abbrev pub invariant-values : goal.invariant-values
invariant-values g l = l.arena ≡ mapped_to (map_value (g.T.Rename.renamed (g.N.NewHandles.renaming l.new))) l.index l.initial.arena
