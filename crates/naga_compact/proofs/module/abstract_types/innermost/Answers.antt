use Rattle.std.proofs.Common.{◌∙◌, sym, length}
use Rattle.naga_compact.specs.Module.AbstractTypes.{innermost}
use Rattle.naga_compact.proofs.InnermostLemmas.{innermost-end, innermost-none, innermost-step}
use Rattle.naga_compact.proofs.module.abstract_types.innermost.Goals as goal

pub steps-preserved : goal.steps-preserved
steps-preserved c =
    innermost-step c.args.types.now c.len-end.result c.steps.counter c.steps.reached (innermost (length c.args.types.now) c.args.types.now c.args.ty) c.in-Some.base
    c.steps-test.true (sym c.array_base.ensures ∙ c.in-Some.is) c.steps.invariant

pub returns-in-None : goal.returns-in-None
returns-in-None c =
    innermost-none c.args.types.now c.len-end.result c.steps.counter c.steps.reached (innermost (length c.args.types.now) c.args.types.now c.args.ty)
    c.steps-test.true (sym c.array_base.ensures ∙ c.in-None.is) c.steps.invariant

pub returns : goal.returns
returns c =
    innermost-end c.args.types.now c.len-end.result c.steps.counter c.steps.reached (innermost (length c.args.types.now) c.args.types.now c.args.ty)
    c.steps-test.false c.steps.invariant
