use Rattle.naga_valid.proofs.IsClosedOverLemmas.{IsClosedOver-global}
use Rattle.naga_valid.proofs.laws.contexts.context_is_closed_over_global_expressions.Goals as goal

pub returns : goal.returns
returns c = IsClosedOver-global c.args.module.now c.requires.valid c.args.ctx c.requires.context
