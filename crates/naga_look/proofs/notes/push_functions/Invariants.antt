use Rattle.std.proofs.Common.{◌≡◌, ◌++◌, take}
use Rattle.std.specs.Prelude.{flat_map}
use Rattle.naga_arena.specs.Arena.{values}
use Rattle.naga_look.specs.Report.{headed_functions, notes_on}
use Rattle.naga_look.proofs.notes.push_functions.Given as goal

-- the notes on the functions before the index were appended
abbrev pub invariant-functions : goal.invariant-functions
invariant-functions l =
    l.text ≡ l.initial.text ++ flat_map (notes_on l.module l.limit) (take l.index (headed_functions (values l.module.functions)))
