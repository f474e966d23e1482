use Rattle.std.proofs.Common.{◌∙◌, ◌++◌, ◌/◌, ◌%◌, ◌∷◌, [], ap, arith, length, sym, false}
use Rattle.std.specs.Fmt.{digit_glyph, digits}
use Rattle.std.proofs.lemmas.List.{append_assoc, length-append}
use Rattle.std.proofs.lemmas.Fmt.{hex_one_digit}
use Rattle.naga_text.proofs.DigitsLemmas.{digits-step}
use Rattle.naga_text.proofs.escape.+push_hexadecimal.Goals as goal

pub push_digit-requires-clause-fits : goal.push_digit-requires-clause-fits
push_digit-requires-clause-fits t c =
    omega (arith, c.requires, ap length (hex_one_digit false c.args.number c.if-number-lt16.true))

pub push_hexadecimal-requires : goal.push_hexadecimal-requires
push_hexadecimal-requires t c = (
  omega (arith, c.decreases),
  omega (
    arith,
    c.requires,
    ap length (digits-step c.args.number c.if-number-lt16.false c.ranges.number.fits),
    length-append (digits 16 false (c.args.number / 16)) (digit_glyph false (c.args.number % 16) ∷ []),
  ),
)

pub push_digit-requires-else-number-lt16-clause-fits : goal.push_digit-requires-else-number-lt16-clause-fits
push_digit-requires-else-number-lt16-clause-fits t c =
    omega (
      arith,
      c.requires,
      ap length c.push_hexadecimal.ensures,
      length-append c.args.text.now.bytes (digits 16 false (c.args.number / 16)),
      ap length (digits-step c.args.number c.if-number-lt16.false c.ranges.number.fits),
      length-append (digits 16 false (c.args.number / 16)) (digit_glyph false (c.args.number % 16) ∷ []),
    )

pub returns-then-number-lt16 : goal.returns-then-number-lt16
returns-then-number-lt16 t c = c.push_digit.ensures ∙ ap (λ rest. c.args.text.now.bytes ++ rest) (sym (hex_one_digit false c.args.number c.if-number-lt16.true))

pub returns-else-number-lt16 : goal.returns-else-number-lt16
returns-else-number-lt16 t c =
    let last = digit_glyph false (c.args.number % 16) ∷ [] in
    c.push_digit-else-number-lt16.ensures ∙ ap (λ front. front ++ last) c.push_hexadecimal.ensures
    ∙ append_assoc c.args.text.now.bytes (digits 16 false (c.args.number / 16)) last
    ∙ ap (λ rest. c.args.text.now.bytes ++ rest) (sym (digits-step c.args.number c.if-number-lt16.false c.ranges.number.fits))
