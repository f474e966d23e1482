use Rattle.naga_valid.proofs.invalid_handle.write_range_fault.Goals as goal

pub returns : goal.returns
returns g c = rw (← c.range_fault-fault.ensures) c.write.ensures.writes
