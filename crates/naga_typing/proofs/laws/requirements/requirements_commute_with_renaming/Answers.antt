use Rattle.naga_typing.proofs.RequiredRenamedLemmas.{required_by-renamed, required_by_expression-renamed}
use Rattle.naga_typing.proofs.laws.requirements.requirements_commute_with_renaming.Goals as goal

pub returns-clause-expressions : goal.returns-clause-expressions
returns-clause-expressions c = required_by_expression-renamed

pub returns-clause-statements : goal.returns-clause-statements
returns-clause-statements c = required_by-renamed
