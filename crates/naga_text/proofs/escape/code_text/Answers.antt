use Rattle.std.proofs.Common.{ap, arith, length, false}
use Rattle.std.specs.Fmt.{digits}
use Rattle.std.proofs.lemmas.List.{length-append}
use Rattle.naga_text.proofs.DigitsLemmas.{length-digits-le}
use Rattle.naga_text.proofs.escape.code_text.Goals as goal

-- a character has at most six digits
pub push_hexadecimal-requires : goal.push_hexadecimal-requires
push_hexadecimal-requires c =
    omega (arith, ap length c.short_text-text.ensures, length-digits-le 5 c.args.c (omega (arith, c.ranges.c)) (omega (arith, c.ranges.c)))

pub push_str-requires : goal.push_str-requires
push_str-requires c = (
  omega arith,
  omega (
    arith,
    ap length c.push_hexadecimal.ensures,
    length-append c.short_text-text.result.bytes (digits 16 false c.args.c),
    ap length c.short_text-text.ensures,
    length-digits-le 5 c.args.c (omega (arith, c.ranges.c)) (omega (arith, c.ranges.c)),
  ),
)
