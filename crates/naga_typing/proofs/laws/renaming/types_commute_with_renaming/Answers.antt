use Rattle.naga_typing.proofs.RenamedLemmas.{renamed-types}
use Rattle.naga_typing.proofs.laws.renaming.types_commute_with_renaming.Goals as goal

pub returns : goal.returns
returns c = renamed-types
