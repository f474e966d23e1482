use Rattle.naga_passes.proofs.ListsLemmas.{Lists-joined, Lists-parts, text-joined}
use Rattle.naga_passes.proofs.laws.listed_names_are_joined_by_commas.Goals as goal

pub returns-clause-joined : goal.returns-clause-joined
returns-clause-joined c = text-joined

pub returns-clause-parts : goal.returns-clause-parts
returns-clause-parts c = Lists-parts

pub returns-clause-names : goal.returns-clause-names
returns-clause-names c = Lists-joined
