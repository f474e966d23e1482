use Rattle.std.proofs.Common.{Option, option_and_then, slice_get, ap, ◌∙◌}
use Rattle.naga_ir.specs.declared.types.TypeInner.{TypeInner}
use Rattle.naga_typifier.specs.Context.{context_of, inner_of}
use Rattle.naga_typifier.specs.Math.{applied, rule_of}
use Rattle.naga_typifier.specs.Table.{optional}
use Rattle.naga_typifier.specs.declared.resolution.TypeResolution.{TypeResolution}
use Rattle.naga_typifier.proofs.context.ResolveContext.computed.Goals as goal

pub returns : goal.returns
returns c =
    let ctx = context_of c.args.self.now in
    let ty = c.in_ok-get.field-0.now in
    c.applied.ensures
    ∙ ap (λ (second : Option TypeInner). option_and_then (λ (contents : TypeInner).
    applied ctx (rule_of c.args.fun) ty contents second) (inner_of ctx ty)) c.optional-second.ensures
    ∙ ap (option_and_then (λ (of_arg : TypeResolution). option_and_then (λ (contents : TypeInner).
    applied ctx (rule_of c.args.fun) of_arg contents (optional ctx (slice_get c.args.known.now) c.args.arg1))
    (inner_of ctx of_arg))) c.in_ok-get.ensures
