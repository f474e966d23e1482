use Rattle.naga_valid.proofs.ParentsPrecedeLemmas.{leaf-function}
use Rattle.naga_valid.proofs.laws.filters.filter_of_function_is_in_arena.Goals as goal

pub returns : goal.returns
returns c = leaf-function c.args.module.now c.requires.valid c.args.handle c.args.function.now c.requires.found
