use Rattle.naga_arena.specs.Arena.{values}
use Rattle.naga_valid.specs.Declarations.{references_of_filter}
use Rattle.naga_valid.specs.Places.{lengths}
use Rattle.naga_valid.proofs.FindsElementLemmas.{FindsElement-none_at, FindsElement-some_at}
use Rattle.naga_valid.proofs.handles.declarations.check_diagnostic_filters.Goals as goal

pub returns-in-None : goal.returns-in-None
returns-in-None c =
    FindsElement-none_at references_of_filter (λ limits index. record limits { diagnostic_filters = index }) (values c.args.module.now.diagnostic_filters) c.iter.result c.iter.ensures.rest c.args.limits.now (lengths c.args.module.now) c.requires c.in-None.ensures

pub returns-in-Some : goal.returns-in-Some
returns-in-Some c =
    FindsElement-some_at references_of_filter (λ limits index. record limits { diagnostic_filters = index }) (values c.args.module.now.diagnostic_filters) c.iter.result c.iter.ensures.rest c.args.limits.now (lengths c.args.module.now) c.requires c.in-Some.found.0 c.in-Some.found.1 c.in-Some.ensures
