use Rattle.std.proofs.Common.{◌≡◌, ◌≤◌, ◌∙◌, Some, ap, arith, length, subst, sym, take}
use Rattle.std.proofs.lemmas.List.{length-map}
use Rattle.std.specs.Prelude.{All, slice_get}
use Rattle.naga_arena.specs.Arena.{values}
use Rattle.naga_flow.specs.Bodies.{BodyPasses}
use Rattle.naga_flow.proofs.BodiesLemmas.{All-take_all, All-take_next}
use Rattle.naga_flow.proofs.bodies.check_functions.Goals as goal

pub returns-in-Err : goal.returns-in-Err
returns-in-Err c = record {
  whole = c.index.result.now;
  at = c.index.ensures;
  fault = c.in-Err.ensures.fault;
  earlier = subst (λ i. All BodyPasses (take i (values c.args.functions.now))) (sym c.at-handle.ensures) c.functions.invariant;
}

pub functions-preserved : goal.functions-preserved
functions-preserved c =
    let at : slice_get (values c.args.functions.now) c.functions.index ≡ Some c.index.result.now = ap (slice_get (values c.args.functions.now)) (sym c.at-handle.ensures) ∙ c.index.ensures in
    All-take_next BodyPasses (values c.args.functions.now) c.functions.index c.index.result.now at c.functions.invariant c.in_default.ensures.passes

pub returns : goal.returns
returns c =
    let len : length (values c.args.functions.now) ≡ length c.args.functions.now = length-map c.args.functions.now _ in
    let past : length (values c.args.functions.now) ≤ c.functions.index = omega (arith, len, c.len-index-end.ensures.value, c.functions-test.false) in
    All-take_all BodyPasses (values c.args.functions.now) c.functions.index past c.functions.invariant
