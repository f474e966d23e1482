use Rattle.std.proofs.Common.{◌≡◌, ◌++◌, take}
use Rattle.std.specs.Prelude.{flat_map}
use Rattle.naga_arena.specs.Arena.{values}
use Rattle.naga_look.specs.Report.{headed_functions}
use Rattle.naga_look.specs.Stats.{note_of}
use Rattle.naga_look.proofs.stats.notes.push_functions.Given as goal

-- the notes on the functions before the index were appended
abbrev pub invariant-functions : goal.invariant-functions
invariant-functions l =
    l.notes ≡ l.initial.notes ++ flat_map (note_of l.rule) (take l.index (headed_functions (values l.functions)))
