use Rattle.naga_passes.proofs.ListsLemmas.{IsUnknown-first, Lists-known, Lists-one}
use Rattle.naga_passes.proofs.laws.names_are_read_in_one_way.Goals as goal

pub returns-clause-one : goal.returns-clause-one
returns-clause-one c = Lists-one

pub returns-clause-known : goal.returns-clause-known
returns-clause-known c = Lists-known

pub returns-clause-first : goal.returns-clause-first
returns-clause-first c = IsUnknown-first
