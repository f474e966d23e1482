use Rattle.std.proofs.Common.{subst, sym, ◌∙◌}
use Rattle.json_fault.specs.Awaits.{IsAbsent}
use Rattle.json_fault.specs.declared.expected.Expected.TheVariants as wants
use Rattle.json_fault.specs.declared.mode.Mode.TheVariants.{InNumber}
use Rattle.json_fault.proofs.AwaitsLemmas
use Rattle.json_fault.proofs.expectation.absent_in_number.Goals as goal

pub returns-then-is_ascii_digit : goal.returns-then-is_ascii_digit
returns-then-is_ascii_digit c =
    subst (λ part. IsAbsent (InNumber part) c.args.byte wants.NoLeadingZero) (sym c.in-Zero.is)
    (AwaitsLemmas.zero_absent c.args.byte (sym c.is_ascii_digit.ensures.value ∙ c.if-is_ascii_digit.true))
