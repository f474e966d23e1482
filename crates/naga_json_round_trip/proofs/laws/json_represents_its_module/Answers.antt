use Rattle.naga_json_round_trip.proofs.ModuleLemmas.{IsRead-module}
use Rattle.naga_json_round_trip.proofs.laws.json_represents_its_module.Goals as goal

pub returns : goal.returns
returns c = λ whole j fits is. (IsRead-module whole j fits is).reads
