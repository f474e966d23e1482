use Rattle.std.proofs.Common.{ℕ, List, Option, Some, None}
use Rattle.std.specs.List.{Contains}
use Rattle.std.specs.Prelude.{IfSome}
use Rattle.naga_valid.specs.Operands.{expressions_of}
use Rattle.naga_valid.specs.Statements.{references_of_statement}
use Rattle.naga_flow.specs.Results.{result_of}
use Rattle.naga_flow.proofs.ResultsLemmas.{ResultIsNamed, result-named}
use Rattle.naga_flow.proofs.laws.results_are_named.Goals as goal

if_some : (result : Option ℕ) (names : List ℕ) → ResultIsNamed result names → IfSome result (λ x. Contains names x)
if_some None names h = tt
if_some (Some x) names h = h

pub returns : goal.returns
returns c statement = if_some (result_of statement) (expressions_of (references_of_statement statement)) (result-named statement)
