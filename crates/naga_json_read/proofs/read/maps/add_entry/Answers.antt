use Rattle.std.proofs.Common.{◌≡◌, sym, rules, true, false, is_some, nat_eq}
use Rattle.indexmap.specs.IndexMap.{get, insert_entry}
use Rattle.naga_json_read.proofs.MapsLemmas.{with_entry-new, with_entry-repeated}
use Rattle.naga_json_read.proofs.read.maps.add_entry.Goals as goal

pub returns-then-contains_key : goal.returns-then-contains_key
returns-then-contains_key g c =
    let found : is_some (get nat_eq c.args.entries.now c.args.key) ≡ true = search rules in
    λ _. sym (with_entry-repeated nat_eq g.V.FromJson.value_of c.args.entries.now c.args.key (g.V.FromJson.value_of c.args.value) found)

pub returns : goal.returns
returns g c =
    let absent : is_some (get nat_eq c.args.entries.now c.args.key) ≡ false = search rules in
    let inserted : c.insert.new.self.entries ≡ insert_entry nat_eq c.args.entries.now.entries c.args.key c.args.value = search rules in
    with_entry-new nat_eq g.V.FromJson.value_of c.args.entries.now c.insert.new.self c.args.key c.args.value absent inserted
