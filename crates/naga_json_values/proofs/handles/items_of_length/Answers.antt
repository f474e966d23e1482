use Rattle.std.proofs.Common.{◌≡◌, ◌∙◌, sym, rules, length}
use Rattle.json.specs.Value.{value_view, items_view}
use Rattle.naga_json_values.proofs.HandlesLemmas.{items_in-list, items_in-others, item_count-length}
use Rattle.naga_json_values.proofs.handles.items_of_length.Goals as goal

pub returns-then-len-count : goal.returns-then-len-count
returns-then-len-count c =
    let items = c.in-Some.items.now.items in
    let sized : length items ≡ c.len.result = search rules in
    items_in-list (value_view c.args.value.now) (items_view items) c.args.count c.in-Some.ensures (item_count-length value_view items ∙ sized ∙ c.if-len-count.true)

pub returns-else-len-count : goal.returns-else-len-count
returns-else-len-count c =
    let items = c.in-Some.items.now.items in
    let sized : length items ≡ c.len.result = search rules in
    items_in-others (value_view c.args.value.now) (items_view items) c.args.count c.in-Some.ensures (λ e. c.if-len-count.false (sym sized ∙ sym (item_count-length value_view items) ∙ e))
