use Rattle.std.proofs.Common.{◌∙◌, sym}
use Rattle.naga_arena.specs.Arena.{values}
use Rattle.naga_ir.proofs.ListAnyLemmas.{list_any-found, list_any-walked}
use Rattle.naga_ir.specs.Uses.{has_mesh_member}
use Rattle.naga_ir.proofs.module.uses.have_mesh_member.Goals as goal

pub returns-then-has_mesh_member : goal.returns-then-has_mesh_member
returns-then-has_mesh_member c =
    sym (list_any-found (λ type. has_mesh_member type.inner) (values c.args.types.now) _ c.loop-ty.ty-iterator c.next.new.self (c.into_iter-ty-iterator.ensures.into_iter_gives ∙ c.iter-ty-items.ensures.rest) c.loop-ty.yielded c.loop-ty.yielded_by c.next.result c.next.ensures.steps (c.in-Some.field-0-0, c.in-Some.ty) c.in-Some.is (sym c.has_mesh_member.ensures ∙ c.if-has_mesh_member.true))

pub returns : goal.returns
returns c =
    sym c.loop-ty.invariant ∙ list_any-walked (λ type. has_mesh_member type.inner) (values c.args.types.now) _ c.loop-ty.ty-iterator c.next.new.self (c.into_iter-ty-iterator.ensures.into_iter_gives ∙ c.iter-ty-items.ensures.rest) c.loop-ty.yielded c.loop-ty.yielded_by c.next.result c.next.ensures.steps c.in-None.is
