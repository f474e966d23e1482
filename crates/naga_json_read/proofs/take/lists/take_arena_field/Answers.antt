use Rattle.std.proofs.Common.{◌≡◌, ap, rules, arith, length}
use Rattle.naga_json.specs.Arenas.{arena_in, arena_value}
use Rattle.naga_json_tokens.proofs.TakesHolderLemmas.{takes_field}
use Rattle.naga_json_tokens.proofs.TakesListsLemmas.{takes_shorter}
use Rattle.naga_json_types.proofs.TakesArenasLemmas.{short-appended, takes_arena, takes_more_values}
use Rattle.naga_json_read.proofs.take.lists.take_arena_field.Goals as goal

pub items-smaller : goal.items-smaller
items-smaller g c =
    let unmoved : c.take_end_array.new.self ≡ c.items.reader = search rules in
    let shorter = takes_shorter _ _ _ _ c.in_ok-item.ensures in
    omega (arith, ap length unmoved)

pub items-preserved : goal.items-preserved
items-preserved g c =
    let unmoved : c.take_end_array.new.self ≡ c.items.reader = search rules in record {
      taken =
          takes_more_values g.T.FromJson.value_of g.T.FromJson.meaning c.items.arena c.append.new.self c.in_ok-item.item c.take_begin_list.new.reader c.take_end_array.new.self c.take.new.reader
          (rw unmoved c.items.invariant.taken) c.in_ok-item.ensures c.in-Ok.ensures.appended;
      short = short-appended c.items.arena c.append.new.self c.in_ok-item.item _ c.in-Ok.field-0 c.in-Ok.ensures c.items.invariant.short;
    }

pub returns : goal.returns
returns g c =
    let values = arena_value g.T.FromJson.value_of c.items.arena in
    takes_field c.args.name.now (arena_in g.T.FromJson.meaning) values c.args.reader.now c.take_key.new.reader c.take_end_array.new.self c.in_ok-take_key.ensures
    (takes_arena g.T.FromJson.value_of g.T.FromJson.meaning c.items.arena c.take_key.new.reader c.take_begin_list.new.reader c.items.reader c.take_end_array.new.self
    c.in_ok-take_begin_list.ensures c.items.invariant.taken (search rules) c.items.invariant.short)
