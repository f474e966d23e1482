use Rattle.naga_json.proofs.UnspannedLemmas.{Writes-unspanned_module}
use Rattle.naga_json.proofs.laws.spans_are_not_written.Goals as goal

pub returns : goal.returns
returns c = Writes-unspanned_module
