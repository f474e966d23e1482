use Rattle.std.proofs.Common.{◌≡◌, drop, map, []}
use Rattle.json.specs.Value.{items_view, members_view}
use Rattle.naga_schema.specs.Fault.{entries_fault, items_fault, members_fault}
use Rattle.naga_schema.proofs.FindLemmas.{names_before}
use Rattle.naga_schema.specs.Shape.{field_view}
use Rattle.naga_schema.proofs.find.+find.Given as goal

-- the first fault in the items from the position on is the first fault of the list
abbrev pub invariant-find_in_items-items : goal.invariant-find_in_items-items
invariant-find_in_items-items l =
    items_fault (items_view (drop l.position l.items.items)) l.position l.depth l.of
    ≡ items_fault (items_view l.items.items) 0 l.depth l.of

-- the first fault in the entries from the position on, after the keys before it, is the first fault of the map
abbrev pub invariant-find_in_entries-entries : goal.invariant-find_in_entries-entries
invariant-find_in_entries-entries l =
    entries_fault (members_view (drop l.member-index l.members.items)) l.greatest l.keys.keys l.depth l.of
    ≡ entries_fault (members_view l.members.items) l.greatest [] l.depth l.of

-- the first fault in the members from the position on, after the names before it, is the first fault of the struct
abbrev pub invariant-find_in_members-members : goal.invariant-find_in_members-members
invariant-find_in_members-members l =
    members_fault (members_view (drop l.position l.members.items)) (map field_view l.fields) (names_before l.position l.members.items) l.depth
    ≡ members_fault (members_view l.members.items) (map field_view l.fields) [] l.depth
