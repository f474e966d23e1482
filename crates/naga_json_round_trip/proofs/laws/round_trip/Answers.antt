use Rattle.naga_json_round_trip.proofs.ModuleLemmas.{IsRead-module}
use Rattle.naga_json.proofs.TextLemmas.{document-print}
use Rattle.naga_json_round_trip.proofs.laws.round_trip.Goals as goal

pub returns : goal.returns
returns c = λ whole j fits is shallow.
    let read = IsRead-module whole j fits is in
    rw (document-print j read.numbers shallow) read.reads
