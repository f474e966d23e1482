use Rattle.std.proofs.Common.{rules}
use Rattle.json.specs.Value.{value_view}
use Rattle.naga_json.specs.Codec.{handle_codec, option_codec}
use Rattle.naga_json_values.proofs.ItemsLemmas.{three_items_read}
use Rattle.naga_json_values.proofs.arrays.ArrayOptionHandleExpression3Coded.read_value.Goals as goal

pub returns-in_err-items : goal.returns-in_err-items
returns-in_err-items c = three_items_read (option_codec handle_codec).decode (value_view c.args.value.now) _ (search rules)

pub returns-in_err-first : goal.returns-in_err-first
returns-in_err-first c = three_items_read (option_codec handle_codec).decode (value_view c.args.value.now) _ (search rules)

pub returns-in_err-second : goal.returns-in_err-second
returns-in_err-second c = three_items_read (option_codec handle_codec).decode (value_view c.args.value.now) _ (search rules)

pub returns-in_err-third : goal.returns-in_err-third
returns-in_err-third c = three_items_read (option_codec handle_codec).decode (value_view c.args.value.now) _ (search rules)

pub returns : goal.returns
returns c = three_items_read (option_codec handle_codec).decode (value_view c.args.value.now) _ (search rules)
