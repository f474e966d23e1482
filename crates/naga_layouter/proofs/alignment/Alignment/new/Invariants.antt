-- The number is none of the powers before.
use Rattle.std.proofs.Common.{◌≢◌, ◌^◌, ◌<◌, ℕ}
use Rattle.naga_layouter.proofs.alignment.Alignment.new.Given as goal

abbrev pub invariant-each : goal.invariant-each
invariant-each l = (k : ℕ) → k < l.exponent → l.n ≢ 2 ^ k
