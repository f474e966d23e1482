use Rattle.std.proofs.Common.{◌≡◌, ◌++◌}
use Rattle.std.specs.Prelude.{flat_map, option_copied}
use Rattle.std.specs.List.{enumerate_from}
use Rattle.naga_arena.specs.Arena.{values}
use Rattle.naga_text.specs.Module.{function_lines}
use Rattle.naga_text.proofs.function.push_functions.Given as goal

-- the functions that are left are still to be written
abbrev pub invariant-loop-handle : goal.invariant-loop-handle
invariant-loop-handle l =
    l.text ++ flat_map (function_lines (option_copied l.old) l.owner) l.handle-iterator
    ≡ l.initial.text ++ flat_map (function_lines (option_copied l.old) l.owner) (enumerate_from 0 (values l.functions))
