use Rattle.naga_valid.proofs.HandlesOfDeclarationsLemmas.{range-of_entry_point}
use Rattle.naga_valid.proofs.laws.handles.ranges_in_entry_point_are_in_arena.Goals as goal

pub returns : goal.returns
returns c = range-of_entry_point c.args.module.now c.requires.valid c.args.position c.args.entry.now c.requires.found
