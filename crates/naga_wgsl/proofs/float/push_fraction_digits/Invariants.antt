use Rattle.std.proofs.Common.{◌++◌}
use Rattle.naga_wgsl.specs.Floats.{fraction_digits}
use Rattle.naga_wgsl.proofs.LeadingDigitsLemmas.{IsReached}
use Rattle.naga_wgsl.proofs.float.push_fraction_digits.Given as goal

-- the digits before the place are written
abbrev pub invariant-digits : goal.invariant-digits
invariant-digits l = IsReached (l.initial.text ++ fraction_digits l.fraction) l.text l.rest l.unit

abbrev pub decreases-digits : goal.decreases-digits
decreases-digits l = l.unit
