-- The reasons why passes stop.
use Rattle.naga_bounds.specs.declared.restrict_error.Obstacle.{Obstacle}
use Rattle.naga_bounds.specs.declared.restrict_error.Obstacle.TheVariants as obstacle
use Rattle.naga_bounds.specs.declared.restrict_error.RestrictError.{RestrictError}
use Rattle.naga_passes.specs.declared.pass_error.PassFault.{PassFault}
use Rattle.naga_passes.specs.declared.pass_error.PassFault.TheVariants.{Memory, Restrict}

-- the reason for this obstacle, which is that of the error
abbrev pub fault_by : Obstacle → RestrictError → PassFault
fault_by obstacle.Memory error = Memory
fault_by _ error = Restrict error

-- the reason why restricting stops with this error
abbrev pub fault_of : RestrictError → PassFault
fault_of error = fault_by error.obstacle error
