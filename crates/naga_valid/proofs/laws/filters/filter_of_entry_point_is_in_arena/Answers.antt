use Rattle.naga_valid.proofs.ParentsPrecedeLemmas.{leaf-entry_point}
use Rattle.naga_valid.proofs.laws.filters.filter_of_entry_point_is_in_arena.Goals as goal

pub returns : goal.returns
returns c = leaf-entry_point c.args.module.now c.requires.valid c.args.position c.args.entry.now c.requires.found
