use Rattle.naga_valid.proofs.HandlesAreValidLemmas.{HandlesAreValid-entry_point}
use Rattle.naga_valid.proofs.laws.functions.entry_point_is_within_limits.Goals as goal

pub returns : goal.returns
returns c =
    HandlesAreValid-entry_point c.args.module.now c.requires.valid c.args.position c.args.entry.now c.requires.found
