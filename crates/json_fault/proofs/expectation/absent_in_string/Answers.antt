use Rattle.std.proofs.Common.{subst, sym, rules}
use Rattle.json_fault.specs.Awaits.{IsAbsentPart}
use Rattle.json_fault.specs.declared.expected.Expected.TheVariants as wants
use Rattle.json_fault.proofs.AwaitsLemmas
use Rattle.json_fault.proofs.expectation.absent_in_string.Goals as goal

pub returns-then-byte-lt32 : goal.returns-then-byte-lt32
returns-then-byte-lt32 c =
    subst (λ part. IsAbsentPart part c.args.byte wants.NoControlCharacter) (sym c.in-Plain.is)
    (AwaitsLemmas.plain_absent c.args.byte c.if-byte-lt32.true)

pub returns-then-value-lt16 : goal.returns-then-value-lt16
returns-then-value-lt16 c =
    subst (λ part. IsAbsentPart part c.args.byte wants.NoLowSurrogate) (sym c.in-UnitD.is)
    (AwaitsLemmas.unitd_absent c.args.byte (search rules) (search rules))
