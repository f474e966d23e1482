use Rattle.naga_layouter.proofs.CheckLemmas.{checked}
use Rattle.naga_layouter.proofs.check.check_layouts.Goals as goal

pub returns : goal.returns
returns c =
    checked c.args.module.now c.to_ctx-gctx.result c.check_parts.result
    (record {
      types = c.to_ctx-gctx.ensures.types;
      constants = c.to_ctx-gctx.ensures.constants;
      overrides = c.to_ctx-gctx.ensures.overrides;
      global_expressions = c.to_ctx-gctx.ensures.global_expressions;
    })
    c.check_parts.ensures
