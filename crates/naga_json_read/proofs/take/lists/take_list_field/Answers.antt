use Rattle.std.proofs.Common.{◌≡◌, ap, rules, arith, length, map}
use Rattle.naga_json.specs.Lists.{each_in}
use Rattle.naga_json_tokens.proofs.TakesHolderLemmas.{takes_field}
use Rattle.naga_json_tokens.proofs.TakesListsLemmas.{takes_list, takes_more_viewed, takes_shorter}
use Rattle.naga_json_read.proofs.take.lists.take_list_field.Goals as goal

pub items-smaller : goal.items-smaller
items-smaller g c =
    let unmoved : c.take_end_array.new.self ≡ c.items.reader = search rules in
    let shorter = takes_shorter _ _ _ _ c.in_ok-item.ensures in
    omega (arith, ap length unmoved)

pub items-preserved : goal.items-preserved
items-preserved g c =
    let unmoved : c.take_end_array.new.self ≡ c.items.reader = search rules in
    takes_more_viewed g.T.FromJson.value_of g.T.FromJson.meaning c.items.found.items c.push.new.self.items c.in_ok-item.item c.take_begin_list.new.reader c.take_end_array.new.self c.take.new.reader
    (rw unmoved c.items.invariant) c.in_ok-item.ensures c.in-Ok.ensures.items

pub returns : goal.returns
returns g c =
    let meaning = g.T.FromJson.meaning in
    let values = map g.T.FromJson.value_of c.items.found.items in
    takes_field c.args.name.now (each_in meaning) values c.args.reader.now c.take_key.new.reader c.take_end_array.new.self c.in_ok-take_key.ensures
    (takes_list meaning values c.take_key.new.reader c.take_begin_list.new.reader c.items.reader c.take_end_array.new.self
    c.in_ok-take_begin_list.ensures c.items.invariant (search rules))
