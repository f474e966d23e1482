use Rattle.naga_valid.proofs.IsKnownSizeLemmas.{IsKnownSize-valid}
use Rattle.naga_valid.proofs.laws.contexts.context_contains_override_of_size.Goals as goal

pub returns : goal.returns
returns c =
    IsKnownSize-valid c.args.module.now c.requires.valid c.args.ctx c.requires.context c.args.handle c.args.ty.now c.args.size c.requires.found c.requires.size
