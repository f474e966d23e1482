use Rattle.std.proofs.Common.{◌≡◌, ◌≤◌, ◌∙◌, ◌++◌, ap, arith, length, subst, sym}
use Rattle.std.proofs.lemmas.List.{take_all}
use Rattle.std.specs.List.{zip}
use Rattle.std.specs.Prelude.{slice_get, Some}
use Rattle.naga_arena.specs.Arena.{span_at}
use Rattle.naga_arena.proofs.ZipLemmas.{length-zip_equal}
use Rattle.naga_bounds.specs.Restricted.{front_of, fronts, literal, with_span}
use Rattle.naga_bounds.proofs.GroupsLemmas.{fronts-next, fronts-room}
use Rattle.naga_bounds.proofs.rebuild.push_fronts.Goals as goal

pub push_front-requires-clause-room : goal.push_front-requires-clause-room
push_front-requires-clause-room c =
    let plan = c.args.plan.now in
    let old = c.args.old.now in
    let at : slice_get plan c.expressions.index ≡ Some c.change.result = ap (slice_get plan) (sym c.at-handle.ensures) ∙ c.change.ensures in
    let room = fronts-room c.args.building.now.entries c.expressions.building.entries plan old c.expressions.index c.change.result (literal 0)
    (omega (arith, c.requires.all, c.len-index-end.ensures.value)) c.requires.all at c.expressions.invariant.done in
    omega (arith, room, c.requires.room, c.expressions.invariant.capacity)

pub expressions-preserved : goal.expressions-preserved
expressions-preserved c =
    let plan = c.args.plan.now in
    let old = c.args.old.now in
    let at : slice_get plan c.expressions.index ≡ Some c.change.result = ap (slice_get plan) (sym c.at-handle.ensures) ∙ c.change.ensures in
    record {
      done = fronts-next c.args.building.now.entries c.expressions.building.entries c.push_front.new.building.entries plan old c.expressions.index c.change.result (literal 0)
          (omega (arith, c.requires.all, c.len-index-end.ensures.value)) c.requires.all at c.expressions.invariant.done
          (c.push_front.ensures.entries ∙ (λ i. c.expressions.building.entries ++ with_span ((c.get_span.ensures ∙ ap (span_at old) c.at-handle.ensures) i) (front_of c.change.result)));
      capacity = c.push_front.ensures.capacity ∙ c.expressions.invariant.capacity;
    }

pub returns-clause-entries : goal.returns-clause-entries
returns-clause-entries c =
    let plan = c.args.plan.now in
    let old = c.args.old.now in
    let past : length (zip plan old) ≤ c.expressions.index =
    omega (arith, length-zip_equal plan old (sym c.requires.all), c.requires.all, c.len-index-end.ensures.value, c.expressions-test.false) in
    c.expressions.invariant.done ∙ ap (λ some. c.args.building.now.entries ++ fronts some) (take_all c.expressions.index (zip plan old) past)
