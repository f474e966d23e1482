use Rattle.std.proofs.Common.{◌≡◌, ◌∙◌, ◌++◌, ◌+◌, ◌-◌, ℕ, arith, length, refl, subst, sym}
use Rattle.std.specs.List.{zip}
use Rattle.naga_bounds.specs.Restricted.{front_count, front_len, groups, moving}
use Rattle.naga_bounds.proofs.GroupsLemmas.{IsMovedTo, moved-front, moved-next, moved-none, moved-position, moved-within}
use Rattle.naga_bounds.proofs.rebuild.push_groups.Goals as goal

pub expressions-init : goal.expressions-init
expressions-init c = record {
  moved = moved-none (moving c.args.plan.now) c.args.plan.now c.args.old.now c.args.building.now.entries c.requires.front _
      (c.into_iter-handle-iterator.ensures.into_iter_gives ∙ c.drain-handle-items.ensures.rest);
  capacity = refl;
}

pub push_group-requires-clause-at : goal.push_group-requires-clause-at
push_group-requires-clause-at c =
    let plan = c.args.plan.now in
    let old = c.args.old.now in
    let total = c.args.building.now.entries ++ groups (moving plan) (zip plan old) 0 (front_len plan) in
    let front = moved-front (moving plan) plan old total c.requires.all _ c.expressions.handle-iterator c.expressions.building.entries c.expressions.front
    c.expressions.invariant.moved (c.in-Some.handle, (c.in-Some.expression, c.in-Some.span)) c.next.new.self c.in-Some.ensures.steps c.change-change.result c.change-change.ensures in
    let places = moved-within (moving plan) plan old total c.requires.all _ c.expressions.handle-iterator c.expressions.building.entries c.expressions.front
    c.expressions.invariant.moved (c.in-Some.handle, (c.in-Some.expression, c.in-Some.span)) c.next.new.self c.in-Some.ensures.steps c.change-change.result c.change-change.ensures in
    omega (arith, front, places, c.requires.bound)

pub push_group-requires-clause-room : goal.push_group-requires-clause-room
push_group-requires-clause-room c =
    let plan = c.args.plan.now in
    let old = c.args.old.now in
    let total = c.args.building.now.entries ++ groups (moving plan) (zip plan old) 0 (front_len plan) in
    let places = moved-within (moving plan) plan old total c.requires.all _ c.expressions.handle-iterator c.expressions.building.entries c.expressions.front
    c.expressions.invariant.moved (c.in-Some.handle, (c.in-Some.expression, c.in-Some.span)) c.next.new.self c.in-Some.ensures.steps c.change-change.result c.change-change.ensures in
    omega (arith, places, c.requires.room, c.expressions.invariant.moved.len, c.expressions.invariant.capacity)

pub expressions-preserved : goal.expressions-preserved
expressions-preserved c =
    let plan = c.args.plan.now in
    let old = c.args.old.now in
    let total = c.args.building.now.entries ++ groups (moving plan) (zip plan old) 0 (front_len plan) in
    let position = length old - length c.expressions.handle-iterator in
    let new = moved-next (moving plan) plan old total c.requires.all position c.expressions.handle-iterator c.expressions.building.entries c.expressions.front
    c.expressions.invariant.moved (c.in-Some.handle, (c.in-Some.expression, c.in-Some.span)) c.next.new.self c.in-Some.ensures.steps c.change-change.result c.change-change.ensures
    c.push_group.new.building.entries c.push_group.ensures.entries in
    let past = moved-position (moving plan) plan old total c.requires.all position c.expressions.handle-iterator c.expressions.building.entries c.expressions.front
    c.expressions.invariant.moved (c.in-Some.handle, (c.in-Some.expression, c.in-Some.span)) c.next.new.self c.in-Some.ensures.steps c.change-change.result c.change-change.ensures in
    record {
      moved = subst (λ at. IsMovedTo (moving plan) plan old total at c.next.new.self c.push_group.new.building.entries (c.expressions.front + c.front_count-front.result)) (sym past)
          (subst (λ count. IsMovedTo (moving plan) plan old total (position + 1) c.next.new.self c.push_group.new.building.entries (c.expressions.front + count)) (sym c.front_count-front.ensures.value) new);
      capacity = c.push_group.ensures.capacity ∙ c.expressions.invariant.capacity;
    }
