use Rattle.naga_compact.specs.Renaming.Functions.{IsRenamedFunction}
use Rattle.naga_compact.specs.Renaming.Renumbering.{renaming_of}
use Rattle.naga_compact.proofs.ZippedListLemmas.{AllZipTo, OnValues}
use Rattle.naga_compact.proofs.module.renumbering.arenas.rename_functions.Given as goal

-- the functions before the index are renamed
abbrev pub invariant-functions : goal.invariant-functions
invariant-functions l =
    AllZipTo (OnValues (IsRenamedFunction (renaming_of l.renumbering))) l.index l.initial.functions l.functions
