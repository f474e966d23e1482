use Rattle.naga_layouter.proofs.CheckLemmas.{sizes-known}
use Rattle.naga_layouter.proofs.laws.valid_modules_have_known_sizes.Goals as goal

pub returns : goal.returns
returns c = sizes-known c.args.module.now c.requires.valid c.args.ctx c.requires.context
