use Rattle.naga_namer.proofs.KeysDifferLemmas.{keys-differ}
use Rattle.naga_namer.proofs.laws.keys_differ.Goals as goal

pub returns : goal.returns
returns c = keys-differ
