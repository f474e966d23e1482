use Rattle.std.proofs.Common.{◌∙◌, sym, ◌^◌}
use Rattle.json.specs.Value.{value_view}
use Rattle.naga_json.specs.Numbers.{natural_in, not_zero}
use Rattle.naga_json.proofs.BindLemmas.{at_some}
use Rattle.naga_json.proofs.NumbersLemmas.{not_zero-new}
use Rattle.naga_json_values.proofs.numbers.NonZeroU32Coded.read_value.Goals as goal

pub returns : goal.returns
returns c =
    let number = c.in_ok-number.number in
    sym c.ok_or.ensures.ok_part ∙ not_zero-new number c.new.result c.new.ensures ∙ sym (at_some (natural_in (2 ^ 32) (value_view c.args.value.now)) number not_zero (sym c.in_ok-number.ensures))
