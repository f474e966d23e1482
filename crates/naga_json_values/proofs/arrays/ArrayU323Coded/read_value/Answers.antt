use Rattle.std.proofs.Common.{rules}
use Rattle.json.specs.Value.{value_view}
use Rattle.naga_json.specs.Codec.{word_codec}
use Rattle.naga_json_values.proofs.ItemsLemmas.{three_items_read}
use Rattle.naga_json_values.proofs.arrays.ArrayU323Coded.read_value.Goals as goal

pub returns-in_err-items : goal.returns-in_err-items
returns-in_err-items c = three_items_read word_codec.decode (value_view c.args.value.now) _ (search rules)

pub returns-in_err-x : goal.returns-in_err-x
returns-in_err-x c = three_items_read word_codec.decode (value_view c.args.value.now) _ (search rules)

pub returns-in_err-y : goal.returns-in_err-y
returns-in_err-y c = three_items_read word_codec.decode (value_view c.args.value.now) _ (search rules)

pub returns-in_err-z : goal.returns-in_err-z
returns-in_err-z c = three_items_read word_codec.decode (value_view c.args.value.now) _ (search rules)

pub returns : goal.returns
returns c = three_items_read word_codec.decode (value_view c.args.value.now) _ (search rules)
