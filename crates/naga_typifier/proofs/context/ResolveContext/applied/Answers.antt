use Rattle.std.proofs.Common.{option_and_then, option_copied, ap, ◌∙◌}
use Rattle.naga_ir.specs.declared.types.TypeInner.{TypeInner}
use Rattle.naga_typifier.specs.Context.{context_of}
use Rattle.naga_typifier.specs.Math.{applied, rule_of}
use Rattle.naga_typifier.specs.declared.math.MathRule.{MathRule}
use Rattle.naga_typifier.proofs.context.ResolveContext.applied.Goals as goal

pub returns : goal.returns
returns c =
    let ctx = context_of c.args.self.now in
    c.applied.ensures
    ∙ ap (λ (rule : MathRule). applied ctx rule c.args.argument.now c.in_ok-inner.inner.now
    (option_copied c.args.second)) c.of.ensures
    ∙ ap (option_and_then (λ (contents : TypeInner). applied ctx (rule_of c.args.fun) c.args.argument.now contents
    (option_copied c.args.second))) c.in_ok-inner.ensures
