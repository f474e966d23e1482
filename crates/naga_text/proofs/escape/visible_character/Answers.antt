use Rattle.std.proofs.Common.{ap, arith, length}
use Rattle.std.proofs.lemmas.Str.{len_utf8_bounds, length-encode}
use Rattle.naga_text.proofs.escape.visible_character.Goals as goal

pub push-requires : goal.push-requires
push-requires c =
    (omega arith, omega (arith, ap length c.new-text.ensures, length-encode c.args.c, (len_utf8_bounds c.args.c).1))
