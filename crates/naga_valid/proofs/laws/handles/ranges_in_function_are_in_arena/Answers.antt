use Rattle.naga_valid.proofs.HandlesOfDeclarationsLemmas.{range-of_function}
use Rattle.naga_valid.proofs.laws.handles.ranges_in_function_are_in_arena.Goals as goal

pub returns : goal.returns
returns c = range-of_function c.args.module.now c.requires.valid c.args.handle c.args.function.now c.requires.found
