use Rattle.std.proofs.Common.{rules}
use Rattle.json.specs.Value.{value_view}
use Rattle.naga_json.specs.derived.Kinds.{swizzle_component_codec}
use Rattle.naga_json_values.proofs.ItemsLemmas.{four_items_read}
use Rattle.naga_json_values.proofs.arrays.ArraySwizzleComponent4Coded.read_value.Goals as goal

pub returns-in_err-items : goal.returns-in_err-items
returns-in_err-items c = four_items_read swizzle_component_codec.decode (value_view c.args.value.now) _ (search rules)

pub returns-in_err-first : goal.returns-in_err-first
returns-in_err-first c = four_items_read swizzle_component_codec.decode (value_view c.args.value.now) _ (search rules)

pub returns-in_err-second : goal.returns-in_err-second
returns-in_err-second c = four_items_read swizzle_component_codec.decode (value_view c.args.value.now) _ (search rules)

pub returns-in_err-third : goal.returns-in_err-third
returns-in_err-third c = four_items_read swizzle_component_codec.decode (value_view c.args.value.now) _ (search rules)

pub returns-in_err-fourth : goal.returns-in_err-fourth
returns-in_err-fourth c = four_items_read swizzle_component_codec.decode (value_view c.args.value.now) _ (search rules)

pub returns : goal.returns
returns c = four_items_read swizzle_component_codec.decode (value_view c.args.value.now) _ (search rules)
