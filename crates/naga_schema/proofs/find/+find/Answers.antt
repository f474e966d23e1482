use Rattle.std.proofs.Common.{◌≡◌, ◌≢◌, ◌+◌, length, ◌∙◌, ◌≤◌, sym, ap, rules, map, true, false, Some, None, option_map, is_some, arith}
use Rattle.json.specs.Json.{array}
use Rattle.json.specs.Value.{value_view, items_view}
use Rattle.json.proofs.Trees.{view-Array}
use Rattle.naga_json.specs.Lists.{item_count}
use Rattle.naga_json.specs.Maps.{key_in}
use Rattle.naga_schema.specs.Fault.{fault, field_fault, find_field, fits_length, has_key, has_name, missing_fault, missing_field}
use Rattle.naga_schema.proofs.FindLemmas.{names_before}
use Rattle.naga_schema.specs.Path.{found_of, within}
use Rattle.naga_schema.specs.Path as path
use Rattle.naga_schema.specs.Shape.{field_view}
use Rattle.naga_schema.proofs.FindLemmas.{entries-end, entries-next, entries-no_key, entries-repeated, entries-stop, finds, item_count-length, items-end, items-next, items-stop, keys-new, list-fits, list-other, members-end, members-next, members-repeated, members-stop, members-unknown, no_only_member}
use Rattle.naga_schema.proofs.find.+find.Goals as goal

pub find_in_items-returns-then-is_some : goal.find_in_items-returns-then-is_some
find_in_items-returns-then-is_some t c =
    let items = c.deref-item-items.ensures.value in
    let before = rw items at c.items-test.true in
    let item = rw items at c.item-item.is in
    let own : option_map found_of c.in_ok-found.found ≡ within (path.item c.items.position) (fault (value_view c.item-item.result) c.args.depth c.args.of) =
    c.in_ok-found.ensures ∙ ap (within (path.item c.items.position)) c.in_ok-find.ensures in
    let some : is_some c.in_ok-found.found ≡ true = search rules in
    items-stop c.args.items.now.items c.items.position c.args.depth c.args.of _ c.items.invariant c.item-item.result before item c.in_ok-found.found own some

pub find_in_items-items-preserved : goal.find_in_items-items-preserved
find_in_items-items-preserved t c =
    let items = c.deref-item-items.ensures.value in
    let before = rw items at c.items-test.true in
    let item = rw items at c.item-item.is in
    let own : option_map found_of c.in_ok-found.found ≡ within (path.item c.items.position) (fault (value_view c.item-item.result) c.args.depth c.args.of) =
    c.in_ok-found.ensures ∙ ap (within (path.item c.items.position)) c.in_ok-find.ensures in
    let none : is_some c.in_ok-found.found ≡ false = search rules in
    items-next c.args.items.now.items c.items.position c.args.depth c.args.of _ c.items.invariant c.item-item.result before item c.in_ok-found.found own none

pub find_in_items-returns : goal.find_in_items-returns
find_in_items-returns t c =
    let items = c.deref-item-items.ensures.value in
    let past : length c.args.items.now.items ≤ c.items.position = omega (arith, ap length items, c.items-test.false) in
    items-end c.args.items.now.items c.items.position c.args.depth c.args.of _ c.items.invariant past

pub find_in_entries-returns-in_default : goal.find_in_entries-returns-in_default
find_in_entries-returns-in_default t c =
    let items = c.deref-member-items.ensures.value in
    let before = rw items at c.entries-test.true in
    let item = rw items at c.member-item.is in
    let none : None ≡ key_in (c.args.greatest + 1) c.member-item.result.0.now = search rules in
    finds c.here.result _ _ c.here.ensures (entries-no_key c.args.members.now.items c.entries.member-index c.args.greatest c.entries.keys.keys c.args.depth c.args.of _ c.entries.invariant c.member-item.result before item none)

pub find_in_entries-returns-then-not-branch : goal.find_in_entries-returns-then-not-branch
find_in_entries-returns-then-not-branch t c =
    let items = c.deref-member-items.ensures.value in
    let before = rw items at c.entries-test.true in
    let item = rw items at c.member-item.is in
    let has : Some c.in-Some.key ≡ key_in (c.args.greatest + 1) c.member-item.result.0.now = search rules in
    let same : has_key c.entries.keys.keys c.in-Some.key ≡ true = search rules in
    finds c.here-then-not-branch.result _ _ c.here-then-not-branch.ensures (entries-repeated c.args.members.now.items c.entries.member-index c.args.greatest c.entries.keys.keys c.args.depth c.args.of _ c.entries.invariant c.member-item.result before item c.in-Some.key has same)

pub find_in_entries-returns-then-is_some : goal.find_in_entries-returns-then-is_some
find_in_entries-returns-then-is_some t c =
    let items = c.deref-member-items.ensures.value in
    let before = rw items at c.entries-test.true in
    let item = rw items at c.member-item.is in
    let has : Some c.in-Some.key ≡ key_in (c.args.greatest + 1) c.member-item.result.0.now = search rules in
    let new : has_key c.entries.keys.keys c.in-Some.key ≡ false = search rules in
    let own : option_map found_of c.in_ok-found.found ≡ within (path.entry c.member-item.result.0.now) (fault (value_view c.member-item.result.1) c.args.depth c.args.of) =
    c.in_ok-found.ensures ∙ ap (within (path.entry c.member-item.result.0.now)) c.in_ok-find.ensures in
    let some : is_some c.in_ok-found.found ≡ true = search rules in
    entries-stop c.args.members.now.items c.entries.member-index c.args.greatest c.entries.keys.keys c.args.depth c.args.of _ c.entries.invariant c.member-item.result before item c.in-Some.key has new c.in_ok-found.found own some

pub find_in_entries-entries-preserved : goal.find_in_entries-entries-preserved
find_in_entries-entries-preserved t c =
    let items = c.deref-member-items.ensures.value in
    let before = rw items at c.entries-test.true in
    let item = rw items at c.member-item.is in
    let has : Some c.in-Some.key ≡ key_in (c.args.greatest + 1) c.member-item.result.0.now = search rules in
    let new : has_key c.entries.keys.keys c.in-Some.key ≡ false = search rules in
    let own : option_map found_of c.in_ok-found.found ≡ within (path.entry c.member-item.result.0.now) (fault (value_view c.member-item.result.1) c.args.depth c.args.of) =
    c.in_ok-found.ensures ∙ ap (within (path.entry c.member-item.result.0.now)) c.in_ok-find.ensures in
    let none : is_some c.in_ok-found.found ≡ false = search rules in
    entries-next c.args.members.now.items c.entries.member-index c.args.greatest c.entries.keys.keys c.args.depth c.args.of _ c.entries.invariant c.member-item.result before item c.in-Some.key has new c.in_ok-found.found own c.insert.new.self.keys (keys-new _ _ _ c.in_ok-insert.ensures.keys new) none

pub find_in_entries-returns : goal.find_in_entries-returns
find_in_entries-returns t c =
    let items = c.deref-member-items.ensures.value in
    let past : length c.args.members.now.items ≤ c.entries.member-index = omega (arith, ap length items, c.entries-test.false) in
    entries-end c.args.members.now.items c.entries.member-index c.args.greatest c.entries.keys.keys c.args.depth c.args.of _ c.entries.invariant past

pub find_in_holder-returns-then-len-ne1 : goal.find_in_holder-returns-then-len-ne1
find_in_holder-returns-then-len-ne1 t c =
    let sized : c.len.result ≡ length c.args.members.now.items = search rules in
    let other : length c.args.members.now.items ≢ 1 = λ e. c.if-len-ne1.true (sized ∙ e) in
    rw (no_only_member value_view c.args.members.now.items other) c.here.ensures

pub find_in_list-returns-then-fits : goal.find_in_list-returns-then-fits
find_in_list-returns-then-fits t c =
    let items = c.in-Array.items.items in
    let seen : value_view c.args.value.now ≡ array (items_view items) = ap value_view c.in-Array.is ∙ view-Array c.in-Array.items in
    let sized : c.len.result ≡ length items = search rules in
    let fit : fits_length c.args.length (item_count (items_view items)) ≡ true = ap (fits_length c.args.length) (item_count-length items ∙ sym sized) ∙ sym c.if-fits.ensures in
    finds c.find_in_items.result _ _ c.find_in_items.ensures (list-fits _ _ seen c.args.length c.args.depth c.args.of fit)

pub find_in_list-returns-else-fits : goal.find_in_list-returns-else-fits
find_in_list-returns-else-fits t c =
    let items = c.in-Array.items.items in
    let seen : value_view c.args.value.now ≡ array (items_view items) = ap value_view c.in-Array.is ∙ view-Array c.in-Array.items in
    let sized : c.len.result ≡ length items = search rules in
    let other : fits_length c.args.length (item_count (items_view items)) ≡ false = ap (fits_length c.args.length) (item_count-length items ∙ sym sized) ∙ sym c.if-fits.ensures in
    finds c.here.result _ _ c.here.ensures (list-other _ _ seen c.args.length c.args.depth c.args.of other)

pub find_in_members-returns-in_default : goal.find_in_members-returns-in_default
find_in_members-returns-in_default t c =
    let items = c.deref-member-items.ensures.value in
    let before = rw items at c.members-test.true in
    let item = rw items at c.member-item.is in
    let none : None ≡ find_field (map field_view c.args.fields.now) c.member-item.result.0.now = search rules in
    finds c.here.result _ _ c.here.ensures (members-unknown c.args.members.now.items c.members.position (map field_view c.args.fields.now) c.args.depth _ c.members.invariant c.member-item.result before item none)

pub find_in_members-returns-then-has_member : goal.find_in_members-returns-then-has_member
find_in_members-returns-then-has_member t c =
    let items = c.deref-member-items.ensures.value in
    let before = rw items at c.members-test.true in
    let item = rw items at c.member-item.is in
    let has : Some (c.in-Some.presence, c.in-Some.of) ≡ find_field (map field_view c.args.fields.now) c.member-item.result.0.now = search rules in
    let same : has_name (names_before c.members.position c.args.members.now.items) c.member-item.result.0.now ≡ true = search rules in
    finds c.here-then-has_member.result _ _ c.here-then-has_member.ensures (members-repeated c.args.members.now.items c.members.position (map field_view c.args.fields.now) c.args.depth _ c.members.invariant c.member-item.result before item c.in-Some.presence c.in-Some.of has same)

pub find_in_members-returns-then-is_some : goal.find_in_members-returns-then-is_some
find_in_members-returns-then-is_some t c =
    let items = c.deref-member-items.ensures.value in
    let before = rw items at c.members-test.true in
    let item = rw items at c.member-item.is in
    let has : Some (c.in-Some.presence, c.in-Some.of) ≡ find_field (map field_view c.args.fields.now) c.member-item.result.0.now = search rules in
    let new : has_name (names_before c.members.position c.args.members.now.items) c.member-item.result.0.now ≡ false = search rules in
    let own : option_map found_of c.in_ok-found.found ≡ within (path.field c.member-item.result.0.now) (field_fault c.in-Some.presence (value_view c.member-item.result.1) (fault (value_view c.member-item.result.1) c.args.depth c.in-Some.of)) =
    c.in_ok-found.ensures ∙ ap (within (path.field c.member-item.result.0.now)) c.in_ok-find_in_field.ensures in
    let some : is_some c.in_ok-found.found ≡ true = search rules in
    members-stop c.args.members.now.items c.members.position (map field_view c.args.fields.now) c.args.depth _ c.members.invariant c.member-item.result before item c.in-Some.presence c.in-Some.of has new c.in_ok-found.found own some

pub find_in_members-members-preserved : goal.find_in_members-members-preserved
find_in_members-members-preserved t c =
    let items = c.deref-member-items.ensures.value in
    let before = rw items at c.members-test.true in
    let item = rw items at c.member-item.is in
    let has : Some (c.in-Some.presence, c.in-Some.of) ≡ find_field (map field_view c.args.fields.now) c.member-item.result.0.now = search rules in
    let new : has_name (names_before c.members.position c.args.members.now.items) c.member-item.result.0.now ≡ false = search rules in
    let own : option_map found_of c.in_ok-found.found ≡ within (path.field c.member-item.result.0.now) (field_fault c.in-Some.presence (value_view c.member-item.result.1) (fault (value_view c.member-item.result.1) c.args.depth c.in-Some.of)) =
    c.in_ok-found.ensures ∙ ap (within (path.field c.member-item.result.0.now)) c.in_ok-find_in_field.ensures in
    let none : is_some c.in_ok-found.found ≡ false = search rules in
    members-next c.args.members.now.items c.members.position (map field_view c.args.fields.now) c.args.depth _ c.members.invariant c.member-item.result before item c.in-Some.presence c.in-Some.of has new c.in_ok-found.found own none

pub find_in_members-returns-in-Some-missing : goal.find_in_members-returns-in-Some-missing
find_in_members-returns-in-Some-missing t c =
    let items = c.deref-member-items.ensures.value in
    let past : length c.args.members.now.items ≤ c.members.position = omega (arith, ap length items, c.members-test.false) in
    let first : Some c.in-Some-missing.name.now ≡ missing_field (map field_view c.args.fields.now) (map (λ m. m.0.now) c.args.members.now.items) = search rules in
    finds c.here-in-Some-missing.result _ _ c.here-in-Some-missing.ensures (ap missing_fault first ∙ members-end c.args.members.now.items c.members.position (map field_view c.args.fields.now) c.args.depth _ c.members.invariant past)

pub find_in_members-returns-in-None : goal.find_in_members-returns-in-None
find_in_members-returns-in-None t c =
    let items = c.deref-member-items.ensures.value in
    let past : length c.args.members.now.items ≤ c.members.position = omega (arith, ap length items, c.members-test.false) in
    let none : None ≡ missing_field (map field_view c.args.fields.now) (map (λ m. m.0.now) c.args.members.now.items) = search rules in
    ap missing_fault none ∙ members-end c.args.members.now.items c.members.position (map field_view c.args.fields.now) c.args.depth _ c.members.invariant past
