use Rattle.std.proofs.Common.{ap, ◌∙◌}
use Rattle.naga_sets.specs.Words.{bit_set}
use Rattle.naga_sets.proofs.BitSetLemmas.{bit_set-append_zeros}
use Rattle.naga_sets.proofs.handle_set.words.extend_to.Goals as goal

pub returns-then-len-capacity-clause-same : goal.returns-then-len-capacity-clause-same
returns-then-len-capacity-clause-same c = ap bit_set c.push_reserved.ensures.items ∙ bit_set-append_zeros c.args.words.now.items 1
