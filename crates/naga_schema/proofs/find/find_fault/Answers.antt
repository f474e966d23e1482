use Rattle.json.specs.Value.{value_view}
use Rattle.naga_json.specs.declared.nesting.TheConstants.{MAX_NESTING}
use Rattle.naga_schema.proofs.LeadsLemmas.{found_leads}
use Rattle.naga_schema.proofs.find.find_fault.Goals as goal

pub returns-clause-leads : goal.returns-clause-leads
returns-clause-leads c = found_leads c.find.result (value_view c.args.value.now) MAX_NESTING c.args.of c.find.ensures
