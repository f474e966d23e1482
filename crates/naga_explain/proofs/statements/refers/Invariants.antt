use Rattle.std.proofs.Common.{◌≡◌}
use Rattle.naga_valid.specs.Statements.{references_of_statement}
use Rattle.naga_valid.proofs.IsRestLemmas.{IsRest}
use Rattle.naga_explain.proofs.statements.refers.Given as goal

-- none of the handles and ranges so far is this one
abbrev pub invariant-references : goal.invariant-references
invariant-references l = IsRest (λ other. ¬ (other ≡ l.reference)) l.other-iterator (references_of_statement l.statement)
