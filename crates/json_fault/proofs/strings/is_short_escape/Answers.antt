use Rattle.std.proofs.Common.{◌||◌, ◌==◌, refl, arith}
use Rattle.std.proofs.lemmas.Bool.{agree_below_at}
use Rattle.std.specs.Prelude.{is_some}
use Rattle.json.specs.Text.{short_escape}
use Rattle.json_fault.proofs.strings.is_short_escape.Goals as goal

pub returns : goal.returns
unfolding short_escape
returns c = agree_below_at (λ x. (x == 34) || (x == 92) || (x == 47) || (x == 98) || (x == 102) || (x == 110) || (x == 114) || (x == 116)) (λ x. is_some (short_escape x)) 256 c.args.byte refl (omega arith)
