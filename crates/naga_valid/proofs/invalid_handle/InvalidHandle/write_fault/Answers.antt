use Rattle.naga_valid.proofs.invalid_handle.InvalidHandle.write_fault.Goals as goal

pub returns-in-InitDependency : goal.returns-in-InitDependency
returns-in-InitDependency g c = rw (c.in-InitDependency.is, ← c.index-init.ensures.value) c.write-in-InitDependency.ensures.writes

pub returns-in-SizeDependency : goal.returns-in-SizeDependency
returns-in-SizeDependency g c =
    rw (c.in-SizeDependency.is, ← c.index-expression.ensures.value, ← c.index-ty.ensures.value) c.write-in-SizeDependency.ensures.writes

pub returns-in-OverrideDependency : goal.returns-in-OverrideDependency
returns-in-OverrideDependency g c =
    rw (c.in-OverrideDependency.is, ← c.index-size.ensures.value, ← c.index-ty-in-OverrideDependency.ensures.value) c.write-in-OverrideDependency.ensures.writes
