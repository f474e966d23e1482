use Rattle.naga_flow.proofs.path.+write_path.Given as goal

-- a statement inside another one has a lower number
abbrev pub decreases-write_path : goal.decreases-write_path
decreases-write_path g l = l.number
