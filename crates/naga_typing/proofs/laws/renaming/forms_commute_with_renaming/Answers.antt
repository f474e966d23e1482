use Rattle.naga_typing.proofs.RenameFormLemmas.{form-renamed}
use Rattle.naga_typing.proofs.laws.renaming.forms_commute_with_renaming.Goals as goal

pub returns : goal.returns
returns c = form-renamed
