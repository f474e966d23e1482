use Rattle.std.proofs.Common.{◌≡◌, ◌++◌, take}
use Rattle.std.specs.Prelude.{flat_map}
use Rattle.naga_look.specs.Report.{headed_entry_points, notes_on}
use Rattle.naga_look.proofs.notes.push_entry_points.Given as goal

-- the notes on the entry points before the position were appended
abbrev pub invariant-entry_points : goal.invariant-entry_points
invariant-entry_points l =
    l.text ≡ l.initial.text ++ flat_map (notes_on l.module l.limit) (take l.position (headed_entry_points l.entry_points))
