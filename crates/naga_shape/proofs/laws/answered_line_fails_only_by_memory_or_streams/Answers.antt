use Rattle.naga_shape.proofs.MayEndWithLemmas.{MayEndWith-answered}
use Rattle.naga_shape.proofs.laws.answered_line_fails_only_by_memory_or_streams.Goals as goal

pub returns : goal.returns
returns c = MayEndWith-answered
