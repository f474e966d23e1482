use Rattle.naga_valid.proofs.HandlesOfDeclarationsLemmas.{init-of_override, type-of_override}
use Rattle.naga_valid.proofs.laws.handles.handles_of_override_are_in_arenas.Goals as goal

pub returns : goal.returns
returns c =
    record {
      ty = type-of_override c.args.module.now c.requires.valid c.args.handle c.args.declared.now c.requires.found;
      init = init-of_override c.args.module.now c.requires.valid c.args.handle c.args.declared.now c.requires.found;
    }
