use Rattle.json_fault.specs.declared.mode.Mode.TheVariants.{Value, FirstItem, InKey, InString}
use Rattle.json_fault.proofs.AwaitsLemmas
use Rattle.json_fault.proofs.expectation.absent.Goals as goal

pub returns-in-Value : goal.returns-in-Value
returns-in-Value c = AwaitsLemmas.opens-absent c.args.mode Value c.args.byte _ c.in-Value.is (AwaitsLemmas.value_absent c.args.byte) c.absent_value.ensures

pub returns-in-FirstItem : goal.returns-in-FirstItem
returns-in-FirstItem c =
    AwaitsLemmas.opens-absent c.args.mode FirstItem c.args.byte _ c.in-FirstItem.is (AwaitsLemmas.item_absent c.args.byte) c.absent_value-in-FirstItem.ensures

pub returns-in-InKey : goal.returns-in-InKey
returns-in-InKey c =
    AwaitsLemmas.part-absent c.args.mode (InKey c.in-InKey.part) c.in-InKey.part c.args.byte _ c.in-InKey.is
    (AwaitsLemmas.key_absent c.in-InKey.part c.args.byte) c.absent_in_string.ensures

pub returns-in-InString : goal.returns-in-InString
returns-in-InString c =
    AwaitsLemmas.part-absent c.args.mode (InString c.in-InString.part) c.in-InString.part c.args.byte _ c.in-InString.is
    (AwaitsLemmas.string_absent c.in-InString.part c.args.byte) c.absent_in_string-in-InString.ensures
