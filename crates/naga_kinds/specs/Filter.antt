-- The severities and the results of reports.
use Rattle.std.specs.Prelude.{◌≡◌, Result, Ok, Err}
use Rattle.naga_kinds.specs.declared.diagnostic_filter.Severity.{Severity}
use Rattle.naga_kinds.specs.declared.diagnostic_filter.Severity.TheVariants.{Off, Info, Warning, Error}
use Rattle.naga_kinds.specs.declared.diagnostic_filter.StandardFilterableTriggeringRule.{StandardFilterableTriggeringRule}
use Rattle.naga_kinds.specs.declared.diagnostic_filter.StandardFilterableTriggeringRule.TheVariants.{DerivativeUniformity}
use Rattle.log.specs.declared.level.Level.{Level}
use Rattle.log.specs.declared.level.Level.TheVariants as level

-- the severity of a rule if no filter changes it, according to WGSL's table
abbrev pub default_of : StandardFilterableTriggeringRule → Severity
default_of DerivativeUniformity = Error

-- reporting `error` with this severity returns `result`: `Off` makes no report, `Info` and `Warning` are handled at the
-- corresponding level, and `Error` returns the error
abbrev pub Reports : {E : Type 0} → (Level → Type 0) → Severity → E → Result (Unit {0}) E → Type 0
Reports handled Off error result = result ≡ Ok tt
Reports handled Info error result = (result ≡ Ok tt) × handled level.Info
Reports handled Warning error result = (result ≡ Ok tt) × handled level.Warn
Reports handled Error error result = result ≡ Err error
