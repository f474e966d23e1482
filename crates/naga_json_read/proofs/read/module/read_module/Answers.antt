use Rattle.naga_json_read.proofs.read.module.read_module.Goals as goal

pub returns-in-Err-clause-meaning : goal.returns-in-Err-clause-meaning
returns-in-Err-clause-meaning c = (c.in_ok-module.module, c.in_ok-module.ensures.0, c.in-Err.ensures.fault)
