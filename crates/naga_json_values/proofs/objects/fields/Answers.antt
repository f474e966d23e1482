use Rattle.std.proofs.Common.{◌≡◌, ◌∙◌, rules, length}
use Rattle.json.specs.Value.{value_view, members_view}
use Rattle.naga_json_values.proofs.ObjectsLemmas.{fields_in-object, fields_in-others, member_count-length}
use Rattle.naga_json_values.proofs.objects.fields.Goals as goal

pub returns-then-count_fields-len : goal.returns-then-count_fields-len
returns-then-count_fields-len c =
    let sized : length c.in-Some.members.now.items ≡ c.len.result = search rules in
    fields_in-object c.args.names.now (value_view c.args.value.now) (members_view c.in-Some.members.now.items) c.count_fields.result c.len.result c.in-Some.ensures c.count_fields.ensures (member_count-length value_view c.in-Some.members.now.items ∙ sized) c.if-count_fields-len.true

pub returns-else-count_fields-len : goal.returns-else-count_fields-len
returns-else-count_fields-len c =
    let sized : length c.in-Some.members.now.items ≡ c.len.result = search rules in
    fields_in-others c.args.names.now (value_view c.args.value.now) (members_view c.in-Some.members.now.items) c.count_fields.result c.len.result c.in-Some.ensures c.count_fields.ensures (member_count-length value_view c.in-Some.members.now.items ∙ sized) c.if-count_fields-len.false
