use Rattle.std.proofs.Common.{◌≡◌, rules, length, arith}
use Rattle.json.specs.Value.{value_view, items_view}
use Rattle.naga_json_values.proofs.HandlesLemmas.{item_count-length}
use Rattle.naga_json_types.proofs.ArenasLemmas.{arena_items_in-short, arena_items_in-long}
use Rattle.naga_json_types.proofs.arenas.arena_items.Goals as goal

pub returns-then-len-clause-value : goal.returns-then-len-clause-value
returns-then-len-clause-value c =
    let items = c.in-Some.items.now.items in
    let sized : length items ≡ c.len.result = search rules in
    let count = item_count-length value_view items in
    arena_items_in-short (value_view c.args.value.now) (items_view items) c.in-Some.ensures (omega arith)

pub returns-else-len-clause-value : goal.returns-else-len-clause-value
returns-else-len-clause-value c =
    let items = c.in-Some.items.now.items in
    let sized : length items ≡ c.len.result = search rules in
    let count = item_count-length value_view items in
    arena_items_in-long (value_view c.args.value.now) (items_view items) c.in-Some.ensures (omega arith)
