use Rattle.std.proofs.Common.{◌≡◌, ◌++◌}
use Rattle.std.specs.Prelude.{flat_map}
use Rattle.std.specs.List.{enumerate_from}
use Rattle.naga_arena.specs.Arena.{values}
use Rattle.naga_text.specs.Module.{expression_line}
use Rattle.naga_text.proofs.function.push_typed_expressions.Given as goal

-- the expressions that are left are still to be written
abbrev pub invariant-loop-handle : goal.invariant-loop-handle
invariant-loop-handle l =
    l.text ++ flat_map (expression_line l.types l.resolved l.function) l.handle-iterator
    ≡ l.initial.text ++ flat_map (expression_line l.types l.resolved l.function) (enumerate_from 0 (values l.function.expressions))
