use Rattle.std.proofs.Common.{vec_len, arith}
use Rattle.std.specs.Result.{is_ok}
use Rattle.naga_sets.proofs.BitSetLemmas.{bit_set-extended}
use Rattle.naga_sets.proofs.handle_set.words.lengthen.Goals as goal

pub returns-clause-same : goal.returns-clause-same
returns-clause-same c = bit_set-extended c.args.words.now.items c.resize.new.self.items c.args.len (vec_len c.args.words.now) (is_ok c.resize.result) c.args.words.now.ok.0 (omega arith) c.resize.ensures.items
