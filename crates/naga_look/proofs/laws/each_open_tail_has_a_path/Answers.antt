use Rattle.naga_look.proofs.OpenEndsLemmas.{open_ends-length}
use Rattle.naga_look.proofs.laws.each_open_tail_has_a_path.Goals as goal

pub returns : goal.returns
returns c = open_ends-length
