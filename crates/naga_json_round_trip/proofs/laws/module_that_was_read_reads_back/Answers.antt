use Rattle.naga_json_round_trip.proofs.ModuleLemmas.{ModuleFits-read}
use Rattle.naga_json_round_trip.proofs.laws.module_that_was_read_reads_back.Goals as goal

pub returns : goal.returns
returns c = ModuleFits-read
