use Rattle.naga_look.proofs.ClosedCountsLemmas.{statement_count-ClosedBy}
use Rattle.naga_look.proofs.laws.closing_inserts_a_return_for_each_open_tail.Goals as goal

pub returns : goal.returns
returns c = statement_count-ClosedBy
