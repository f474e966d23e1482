use Rattle.std.proofs.Common.{Ok, rules, string_bytes}
use Rattle.std.specs.declared.alloc.Global.{Global}
use Rattle.std.specs.declared.string.String.{String}
use Rattle.json.specs.Value.{value_view}
use Rattle.naga_json.specs.Codec.{text_codec}
use Rattle.naga_json_values.proofs.ItemsLemmas.{pair_of_items_read}
use Rattle.naga_json_types.proofs.diagnostic_filter.text_pair.Goals as goal

pub returns-in_err-items : goal.returns-in_err-items
returns-in_err-items c = pair_of_items_read text_codec.decode (λ (pair : String Global × String Global). (string_bytes pair.0, string_bytes pair.1)) (value_view c.args.value.now) _ (search rules)

pub returns-in_err-first : goal.returns-in_err-first
returns-in_err-first c = pair_of_items_read text_codec.decode (λ (pair : String Global × String Global). (string_bytes pair.0, string_bytes pair.1)) (value_view c.args.value.now) _ (search rules)

pub returns-in_err-second : goal.returns-in_err-second
returns-in_err-second c = pair_of_items_read text_codec.decode (λ (pair : String Global × String Global). (string_bytes pair.0, string_bytes pair.1)) (value_view c.args.value.now) _ (search rules)

pub returns : goal.returns
returns c = pair_of_items_read text_codec.decode (λ (pair : String Global × String Global). (string_bytes pair.0, string_bytes pair.1)) (value_view c.args.value.now) (Ok (c.in_ok-first.first, c.in_ok-second.second)) (search rules)
