use Rattle.naga_valid.proofs.HandlesOfDeclarationsLemmas.{init-of_constant, type-of_constant}
use Rattle.naga_valid.proofs.laws.handles.handles_of_constant_are_in_arenas.Goals as goal

pub returns : goal.returns
returns c =
    record {
      ty = type-of_constant c.args.module.now c.requires.valid c.args.handle c.args.constant.now c.requires.found;
      init = init-of_constant c.args.module.now c.requires.valid c.args.handle c.args.constant.now c.requires.found;
    }
