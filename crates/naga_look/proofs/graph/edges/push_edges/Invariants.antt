use Rattle.std.proofs.Common.{◌≡◌, ◌++◌}
use Rattle.std.specs.Prelude.{flat_map}
use Rattle.naga_valid.specs.Expressions.{references_of_expression}
use Rattle.naga_look.proofs.EdgesLemmas.{reference_edge}
use Rattle.naga_look.proofs.graph.edges.push_edges.Given as goal

-- the references that are left are still to be written
abbrev pub invariant-loop-reference : goal.invariant-loop-reference
invariant-loop-reference l =
    l.text ++ flat_map (reference_edge l.place l.from) l.reference-iterator
    ≡ l.initial.text ++ flat_map (reference_edge l.place l.from) (references_of_expression l.expression)
