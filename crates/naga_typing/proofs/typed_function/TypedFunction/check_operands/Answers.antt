use Rattle.std.proofs.Common.{◌≡◌, ◌∙◌, Some, ap, arith, subst, sym, take}
use Rattle.std.specs.Prelude.{All, slice_get}
use Rattle.naga_arena.specs.Arena.{values}
use Rattle.naga_flow.proofs.BodiesLemmas.{All-take_next}
use Rattle.naga_typing.specs.Expressions.{ExpressionFits}
use Rattle.naga_typing.specs.TypedFunctions.{FitsIn}
use Rattle.naga_typing.proofs.typed_function.TypedFunction.check_operands.Goals as goal

pub returns-in-Err : goal.returns-in-Err
returns-in-Err c = record {
  inside = c.index.result.now;
  at = c.index.ensures;
  within = omega (arith, c.at-expression.ensures, c.expressions-test.true);
  first = c.in-Err.ensures;
  earlier = subst (λ i. All (ExpressionFits (FitsIn c.args.self.now)) (take i (values c.args.expressions.now))) (sym c.at-expression.ensures) c.expressions.invariant;
}

pub expressions-preserved : goal.expressions-preserved
expressions-preserved c =
    let at : slice_get (values c.args.expressions.now) c.expressions.index ≡ Some c.index.result.now =
    ap (slice_get (values c.args.expressions.now)) (sym c.at-expression.ensures) ∙ c.index.ensures in
    All-take_next (ExpressionFits (FitsIn c.args.self.now)) (values c.args.expressions.now) c.expressions.index c.index.result.now at
    c.expressions.invariant c.in_default.ensures

pub returns : goal.returns
returns c =
    let same : c.expressions.index ≡ c.args.count = omega (arith, c.expressions-test.false, c.expressions.auto.index-end) in
    subst (λ i. All (ExpressionFits (FitsIn c.args.self.now)) (take i (values c.args.expressions.now))) same c.expressions.invariant
