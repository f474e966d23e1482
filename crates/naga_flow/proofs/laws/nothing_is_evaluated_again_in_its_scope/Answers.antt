use Rattle.std.proofs.Common.{◌++◌}
use Rattle.std.proofs.lemmas.List.Elements.{Contains-append_left}
use Rattle.naga_flow.specs.Uses.{values_of}
use Rattle.naga_flow.proofs.OnceLemmas.{BlockRuns-once, StatementRuns-once}
use Rattle.naga_flow.proofs.laws.nothing_is_evaluated_again_in_its_scope.Goals as goal

pub returns-clause-before : goal.returns-clause-before
returns-clause-before c scope block turns answers run x once has d = BlockRuns-once scope x d has once

pub returns-clause-after : goal.returns-clause-after
returns-clause-after c scope front last span turns answers run x once has d =
    StatementRuns-once (values_of front ++ scope) x d (Contains-append_left (values_of front) scope x has) once.1

pub returns-clause-continuing : goal.returns-clause-continuing
returns-clause-continuing c scope body continuing break_if turns answers run x once has d =
    BlockRuns-once (values_of body ++ scope) x d (Contains-append_left (values_of body) scope x has) once.1
