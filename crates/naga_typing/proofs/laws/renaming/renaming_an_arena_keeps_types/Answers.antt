use Rattle.naga_typing.proofs.IsCompactedLemmas.{IsCompacted-types}
use Rattle.naga_typing.proofs.laws.renaming.renaming_an_arena_keeps_types.Goals as goal

pub returns : goal.returns
returns c = λ r kept stays ctx new is all old renamed compacted types after of_old of_new. IsCompacted-types r kept stays ctx new is all old renamed compacted types after of_old of_new
