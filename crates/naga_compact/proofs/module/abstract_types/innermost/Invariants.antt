use Rattle.std.proofs.Common.{◌≡◌, ◌-◌, length}
use Rattle.naga_compact.specs.Module.AbstractTypes.{innermost}
use Rattle.naga_compact.proofs.module.abstract_types.innermost.Given as goal

-- the type that is reached leads to the same type as the first one
abbrev pub invariant-steps : goal.invariant-steps
invariant-steps l = innermost (l.end - l.counter) l.types l.reached ≡ innermost (length l.types) l.types l.fn.ty
