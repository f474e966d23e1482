use Rattle.naga_json.proofs.TextLemmas.{document-print}
use Rattle.naga_json_round_trip.proofs.ModuleLemmas.{IsRead-module, same_if_read}
use Rattle.naga_json_round_trip.proofs.laws.module_that_is_read_again_is_the_same.Goals as goal

pub returns : goal.returns
returns c = λ whole j result fits is shallow reads.
    let read = IsRead-module whole j fits is in
    same_if_read result _ _ reads (rw (document-print j read.numbers shallow) read.reads)
