use Rattle.json.specs.Value.{value_view}
use Rattle.naga_schema.proofs.FindLemmas.{found_exactly}
use Rattle.naga_schema.proofs.LawsLemmas.{module-read}
use Rattle.naga_schema.proofs.module.find_module_fault.Goals as goal

pub returns-clause-read : goal.returns-clause-read
returns-clause-read c = found_exactly c.find_fault.result _ _ c.find_fault.ensures.first (module-read (value_view c.args.value.now))
