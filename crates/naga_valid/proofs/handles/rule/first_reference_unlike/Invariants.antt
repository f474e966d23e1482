use Rattle.naga_valid.specs.Expressions.{references_of_expression}
use Rattle.naga_valid.proofs.IsRestLemmas.{IsRest}
use Rattle.naga_valid.proofs.handles.rule.first_reference_unlike.Given as goal

abbrev pub invariant-loop-reference : goal.invariant-loop-reference
invariant-loop-reference g l =
    IsRest (g.R.Rule.Permits l.module l.rule l.index) l.reference-iterator (references_of_expression l.expression)
