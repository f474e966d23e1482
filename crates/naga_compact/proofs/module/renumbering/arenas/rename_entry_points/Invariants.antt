use Rattle.naga_compact.specs.Renaming.Functions.{IsRenamedEntryPoint}
use Rattle.naga_compact.specs.Renaming.Renumbering.{renaming_of}
use Rattle.naga_compact.proofs.ZippedListLemmas.{AllZipTo}
use Rattle.naga_compact.proofs.module.renumbering.arenas.rename_entry_points.Given as goal

-- the entry points before the index are renamed
abbrev pub invariant-entry_points : goal.invariant-entry_points
invariant-entry_points l =
    AllZipTo (IsRenamedEntryPoint (renaming_of l.renumbering)) l.entry_point-index l.initial.entry_points l.entry_points
