use Rattle.naga_arena.specs.Arena.{values}
use Rattle.naga_valid.specs.Declarations.{references_of_global_variable}
use Rattle.naga_valid.specs.Places.{lengths}
use Rattle.naga_valid.proofs.FindsElementLemmas.{FindsElement-none_at, FindsElement-some_at}
use Rattle.naga_valid.proofs.handles.declarations.check_global_variables.Goals as goal

pub returns-in-None : goal.returns-in-None
returns-in-None c =
    FindsElement-none_at references_of_global_variable (λ limits index. limits) (values c.args.module.now.global_variables) c.iter.result c.iter.ensures.rest c.args.limits.now (lengths c.args.module.now) c.requires c.in-None.ensures

pub returns-in-Some : goal.returns-in-Some
returns-in-Some c =
    FindsElement-some_at references_of_global_variable (λ limits index. limits) (values c.args.module.now.global_variables) c.iter.result c.iter.ensures.rest c.args.limits.now (lengths c.args.module.now) c.requires c.in-Some.found.0 c.in-Some.found.1 c.in-Some.ensures
