use Rattle.naga_json_read.proofs.DocumentLemmas.{module-taken}
use Rattle.naga_json_read.proofs.take.module.take_module.Goals as goal

pub returns : goal.returns
returns c = module-taken c.take_last.result c.args.text.now c.in-Ok.reader c.in-Ok.ensures c.take_last.ensures.taken c.take_last.ensures.distinct
