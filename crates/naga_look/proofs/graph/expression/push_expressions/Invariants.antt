use Rattle.std.proofs.Common.{◌≡◌, ◌++◌}
use Rattle.std.specs.Prelude.{flat_map}
use Rattle.naga_look.specs.Graph.{expression_text}
use Rattle.naga_look.proofs.graph.expression.push_expressions.Given as goal

-- the expressions that are left are still to be written
abbrev pub invariant-loop-handle : goal.invariant-loop-handle
invariant-loop-handle l =
    l.text ++ flat_map (expression_text l.«module» l.function l.place) l.handle-iterator
    ≡ l.initial.text ++ flat_map (expression_text l.«module» l.function l.place) l.fn.expressions
