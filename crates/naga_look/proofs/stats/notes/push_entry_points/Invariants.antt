use Rattle.std.proofs.Common.{◌≡◌, ◌++◌, take}
use Rattle.std.specs.Prelude.{flat_map}
use Rattle.naga_look.specs.Report.{headed_entry_points}
use Rattle.naga_look.specs.Stats.{note_of}
use Rattle.naga_look.proofs.stats.notes.push_entry_points.Given as goal

-- the notes on the entry points before the position were appended
abbrev pub invariant-entry_points : goal.invariant-entry_points
invariant-entry_points l =
    l.notes ≡ l.initial.notes ++ flat_map (note_of l.rule) (take l.position (headed_entry_points l.entry_points))
