use Rattle.std.proofs.Common.{◌≡◌, ◌++◌, drop}
use Rattle.std.specs.Prelude.{flat_map, option_copied}
use Rattle.std.specs.List.{enumerate_from}
use Rattle.naga_look.specs.Graph.{entry_point_text}
use Rattle.naga_look.proofs.graph.push_entry_points.Given as goal

-- the entry points that are left are still to be written
abbrev pub invariant-loop-position : goal.invariant-loop-position
invariant-loop-position l =
    l.text ++ flat_map (entry_point_text l.«module» (option_copied l.old)) (enumerate_from l.position (drop l.position l.entry_points))
    ≡ l.initial.text ++ flat_map (entry_point_text l.«module» (option_copied l.old)) (enumerate_from 0 l.entry_points)
