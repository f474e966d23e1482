use Rattle.std.proofs.Common.{◌≡◌, ◌++◌}
use Rattle.std.specs.Prelude.{flat_map, option_copied}
use Rattle.naga_look.specs.Graph.{function_text}
use Rattle.naga_look.proofs.graph.push_functions.Given as goal

-- the functions that are left are still to be written
abbrev pub invariant-loop-handle : goal.invariant-loop-handle
invariant-loop-handle l =
    l.text ++ flat_map (function_text l.«module» (option_copied l.old)) l.handle-iterator
    ≡ l.initial.text ++ flat_map (function_text l.«module» (option_copied l.old)) l.fn.functions
