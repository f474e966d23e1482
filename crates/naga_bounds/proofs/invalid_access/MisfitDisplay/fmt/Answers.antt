use Rattle.naga_bounds.proofs.invalid_access.MisfitDisplay.fmt.Goals as goal

-- the index of a handle is the handle
pub returns-clause-writes : goal.returns-clause-writes
returns-clause-writes g c = rw (← c.index-expression.ensures.value) c.write.ensures.writes
