use Rattle.naga_valid.proofs.laws.handles.handles_are_within_limits.Goals as goal

pub returns : goal.returns
returns c = c.requires.references c.args.place
