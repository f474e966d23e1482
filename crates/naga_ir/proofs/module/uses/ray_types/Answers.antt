use Rattle.std.proofs.Common.{◌∙◌}
use Rattle.naga_arena.specs.Arena.{values}
use Rattle.naga_ir.proofs.ListAnyLemmas.{list_any-walked}
use Rattle.naga_ir.specs.Uses.{is_acceleration_structure, is_ray_query}
use Rattle.naga_ir.proofs.module.uses.ray_types.Goals as goal

pub returns-clause-queries : goal.returns-clause-queries
returns-clause-queries c =
    c.loop-ty.invariant.0 ∙ list_any-walked (λ type. is_ray_query type.inner) (values c.args.types.now) _ c.loop-ty.ty-iterator c.next.new.self (c.into_iter-ty-iterator.ensures.into_iter_gives ∙ c.iter-ty-items.ensures.rest) c.loop-ty.yielded c.loop-ty.yielded_by c.next.result c.next.ensures.steps c.in-None.is

pub returns-clause-structures : goal.returns-clause-structures
returns-clause-structures c =
    c.loop-ty.invariant.1 ∙ list_any-walked (λ type. is_acceleration_structure type.inner) (values c.args.types.now) _ c.loop-ty.ty-iterator c.next.new.self (c.into_iter-ty-iterator.ensures.into_iter_gives ∙ c.iter-ty-items.ensures.rest) c.loop-ty.yielded c.loop-ty.yielded_by c.next.result c.next.ensures.steps c.in-None.is
