use Rattle.std.proofs.Common.{◌≡◌, ◌++◌}
use Rattle.std.specs.Prelude.{flat_map}
use Rattle.std.specs.List.{enumerate_from}
use Rattle.naga_arena.specs.Arena.{values}
use Rattle.naga_text.specs.Types.{type_line}
use Rattle.naga_text.proofs.element.push_types.Given as goal

-- the elements that are left are still to be written
abbrev pub invariant-loop-handle : goal.invariant-loop-handle
invariant-loop-handle l =
    l.text ++ flat_map type_line l.handle-iterator
    ≡ l.initial.text ++ flat_map type_line (enumerate_from 0 (values l.types))
