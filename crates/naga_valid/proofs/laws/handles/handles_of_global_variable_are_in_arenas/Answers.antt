use Rattle.naga_valid.proofs.HandlesOfDeclarationsLemmas.{init-of_variable, type-of_variable}
use Rattle.naga_valid.proofs.laws.handles.handles_of_global_variable_are_in_arenas.Goals as goal

pub returns : goal.returns
returns c =
    record {
      ty = type-of_variable c.args.module.now c.requires.valid c.args.handle c.args.variable.now c.requires.found;
      init = init-of_variable c.args.module.now c.requires.valid c.args.handle c.args.variable.now c.requires.found;
    }
