use Rattle.naga_typing.proofs.KeepsTypesLemmas.{KeepsAllTypes-of}
use Rattle.naga_typing.proofs.laws.compacting.compacting_a_module_keeps_types.Goals as goal

pub returns : goal.returns
returns c = KeepsAllTypes-of
