use Rattle.std.proofs.Common.{◌-◌, length}
use Rattle.naga_schema.specs.Path.{allowed_names}
use Rattle.naga_schema.proofs.allowed.+write_more.Given as goal

abbrev pub decreases-write_more : goal.decreases-write_more
decreases-write_more g l = length (allowed_names l.allowed.now) - l.position
