use Rattle.std.proofs.Common.{◌≡◌}
use Rattle.indexmap.specs.IndexMap.{with_entries}
use Rattle.naga_compact.specs.Renaming.Types.{rename_value}
use Rattle.naga_compact.proofs.MappedListLemmas.{mapped_to}
use Rattle.naga_compact.proofs.renaming.types.rename_predeclared.Given as goal

-- the types before the index are renamed
abbrev pub invariant-types : goal.invariant-types
invariant-types g l = l.types ≡ with_entries l.initial.types (mapped_to (rename_value (g.N.NewHandles.renaming l.new)) l.index l.initial.types.entries)
