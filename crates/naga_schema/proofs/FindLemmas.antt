-- One more item of a list, entry of a map, or member of a struct.
use Rattle.std.specs.Prelude.{IfOk, if◌then◌else◌, nat_eq}
use Rattle.std.proofs.Common.{◌≡◌, not, ◌≢◌, suc, add-one, ◌∙◌, sym, ap, refl, ℕ, ◌+◌, ◌<◌, ◌≤◌, List, [], ◌∷◌, ◌++◌, length, get_or, drop, map, take, Bool, true, false, Option, Some, None, Result, Ok, Err, option_map, is_some}
use Rattle.std.proofs.lemmas.List.{drop_all, drop_more, map-append, take_all, take_more}
use Rattle.std.specs.Borrow.{Bor}
use Rattle.std.specs.declared.alloc.AllocError.{AllocError}
use Rattle.indexmap.specs.IndexSet.{insert_key}
use Rattle.json.specs.Json.{Json, Items, array}
use Rattle.json.specs.Find.{as_array}
use Rattle.json.specs.declared.value.Value.{Value}
use Rattle.json.specs.Value.{value_view, items_view, members_of, members_view}
use Rattle.naga_json.specs.Lists.{item_count}
use Rattle.naga_json.specs.Objects.{only_member}
use Rattle.naga_json.specs.Maps.{key_in}
use Rattle.naga_schema.specs.declared.fault.Fault.{Fault}
use Rattle.naga_schema.specs.declared.schema.Length.{Length}
use Rattle.naga_schema.specs.declared.schema.Presence.{Presence}
use Rattle.naga_schema.specs.declared.derived.type_name.TypeName.{TypeName}
use Rattle.naga_schema.specs.Fault.{entries_fault, entry_fault, fault, field_fault, find_field, fits_length, has_key, has_name, inside, is_accepted, items_fault, list_fault, member_fault, members_fault, missing_fault, missing_field}
use Rattle.naga_schema.specs.Finds.{Finds}
use Rattle.naga_schema.specs.Path as path
use Rattle.naga_schema.specs.Path.{Found, found_of, here, or_later, within}
use Rattle.naga_schema.specs.Shape.{Field, field_names}

-- the names of the members before a position
abbrev pub names_before : {A : Type 0} → ℕ → List (Bor (List ℕ) × A) → List (List ℕ)
names_before position ms = map (λ m. m.0.now) (take position ms)

-- a fault that was found is the first of all
stops : (found : Option Fault) (a b whole : Option Found) → option_map found_of found ≡ a → is_some found ≡ true → or_later a b ≡ whole → option_map found_of found ≡ whole
stops None a b whole e some first = absurd (cc)
stops (Some f) a b whole e some first = ap (λ z. or_later z b) e ∙ first

-- where none was found, the first is among the later ones
goes_on : (found : Option Fault) (a b : Option Found) → option_map found_of found ≡ a → is_some found ≡ false → b ≡ or_later a b
goes_on None a b e none = ap (λ z. or_later z b) e
goes_on (Some f) a b e none = absurd (cc)

-- what was found is the fault, as also another one that is the same
pub finds : (result : Result (Option Fault) AllocError) (a b : Option Found) → Finds result a → a ≡ b → Finds result b
finds (Ok found) a b is same = is ∙ same
finds (Err error) a b is same = tt

first_drop : {X : Type 0} (xs : List X) (i : ℕ) (x : X) → i < length xs → x ≡ get_or xs i x → drop i xs ≡ x ∷ drop (i + 1) xs
first_drop xs i x before is = drop_more xs i x before ∙ ap (λ y. y ∷ drop (i + 1) xs) (sym is)

-- ---- items

module _ {A : Type 0} (xs : List (Value A)) (i depth : ℕ) (of : TypeName) (whole : Option Found) (so_far : items_fault (items_view (drop i xs)) i depth of ≡ whole) where
  -- no item is left
  pub items-end : length xs ≤ i → None ≡ whole
  unfolding inside
  items-end past = sym (ap (λ l. items_fault (items_view l) i depth of) (drop_all i xs past)) ∙ so_far

  module _ (x : Value A) (before : i < length xs) (is : x ≡ get_or xs i x) (found : Option Fault) (own : option_map found_of found ≡ within (path.item i) (fault (value_view x) depth of)) where
    items-turn : or_later (within (path.item i) (fault (value_view x) depth of)) (items_fault (items_view (drop (i + 1) xs)) (i + 1) depth of) ≡ whole
    unfolding inside
    items-turn = sym (ap (λ l. items_fault (items_view l) i depth of) (first_drop xs i x before is)) ∙ so_far

    -- the item has a fault
    pub items-stop : is_some found ≡ true → option_map found_of found ≡ whole
    items-stop some = stops found _ _ whole own some items-turn

    -- the item has none
    pub items-next : is_some found ≡ false → items_fault (items_view (drop (i + 1) xs)) (i + 1) depth of ≡ whole
    items-next none = goes_on found _ _ own none ∙ items-turn

-- ---- entries

-- the keys after one that is new
pub keys-new : (keys next : List ℕ) (key : ℕ) → next ≡ insert_key nat_eq keys key → has_key keys key ≡ false → next ≡ keys ++ key ∷ []
keys-new keys next key is new = is ∙ ap (λ more. if more then keys else keys ++ key ∷ []) new

entry-repeated : (name keys : List ℕ) (own : Option Found) (after : ℕ → Option Found) (key : ℕ) → has_key keys key ≡ true → here (path.repeated_key name) ≡ entry_fault name keys own after (Some key)
entry-repeated name keys own after key same = rw same refl

entry-new : (name keys : List ℕ) (own : Option Found) (after : ℕ → Option Found) (key : ℕ) → has_key keys key ≡ false → or_later (within (path.entry name) own) (after key) ≡ entry_fault name keys own after (Some key)
entry-new name keys own after key same = rw same refl

module _ {A : Type 0} (xs : List (Bor (List ℕ) × Value A)) (i greatest : ℕ) (keys : List ℕ) (depth : ℕ) (of : TypeName) (whole : Option Found) (so_far : entries_fault (members_view (drop i xs)) greatest keys depth of ≡ whole) where
  -- no entry is left
  pub entries-end : length xs ≤ i → None ≡ whole
  unfolding inside
  entries-end past = sym (ap (λ l. entries_fault (members_view l) greatest keys depth of) (drop_all i xs past)) ∙ so_far

  module _ (x : Bor (List ℕ) × Value A) (before : i < length xs) (is : x ≡ get_or xs i x) where
    entries-turn : entry_fault x.0.now keys (fault (value_view x.1) depth of) (λ key. entries_fault (members_view (drop (i + 1) xs)) greatest (keys ++ key ∷ []) depth of) (key_in (greatest + 1) x.0.now) ≡ whole
    unfolding inside
    entries-turn = sym (ap (λ l. entries_fault (members_view l) greatest keys depth of) (first_drop xs i x before is)) ∙ so_far

    -- the key is none
    pub entries-no_key : None ≡ key_in (greatest + 1) x.0.now → here (path.no_key x.0.now) ≡ whole
    entries-no_key none =
        ap (entry_fault x.0.now keys (fault (value_view x.1) depth of) (λ key. entries_fault (members_view (drop (i + 1) xs)) greatest (keys ++ key ∷ []) depth of)) none ∙ entries-turn

    module _ (key : ℕ) (has : Some key ≡ key_in (greatest + 1) x.0.now) where
      entries-key : entry_fault x.0.now keys (fault (value_view x.1) depth of) (λ k. entries_fault (members_view (drop (i + 1) xs)) greatest (keys ++ k ∷ []) depth of) (Some key) ≡ whole
      entries-key =
          ap (entry_fault x.0.now keys (fault (value_view x.1) depth of) (λ k. entries_fault (members_view (drop (i + 1) xs)) greatest (keys ++ k ∷ []) depth of)) has ∙ entries-turn

      -- the key is that of an entry before it
      pub entries-repeated : has_key keys key ≡ true → here (path.repeated_key x.0.now) ≡ whole
      entries-repeated same = entry-repeated x.0.now keys (fault (value_view x.1) depth of) (λ k. entries_fault (members_view (drop (i + 1) xs)) greatest (keys ++ k ∷ []) depth of) key same ∙ entries-key

      module _ (new : has_key keys key ≡ false) (found : Option Fault) (own : option_map found_of found ≡ within (path.entry x.0.now) (fault (value_view x.1) depth of)) where
        -- the entry has a fault
        pub entries-stop : is_some found ≡ true → option_map found_of found ≡ whole
        entries-stop some = stops found (within (path.entry x.0.now) (fault (value_view x.1) depth of)) (entries_fault (members_view (drop (i + 1) xs)) greatest (keys ++ key ∷ []) depth of) whole own some (entry-new x.0.now keys (fault (value_view x.1) depth of) (λ k. entries_fault (members_view (drop (i + 1) xs)) greatest (keys ++ k ∷ []) depth of) key new ∙ entries-key)

        -- the entry has none
        pub entries-next : (next : List ℕ) → next ≡ keys ++ key ∷ [] → is_some found ≡ false → entries_fault (members_view (drop (i + 1) xs)) greatest next depth of ≡ whole
        entries-next next more none =
            ap (λ k. entries_fault (members_view (drop (i + 1) xs)) greatest k depth of) more ∙ goes_on found (within (path.entry x.0.now) (fault (value_view x.1) depth of)) (entries_fault (members_view (drop (i + 1) xs)) greatest (keys ++ key ∷ []) depth of) own none ∙ entry-new x.0.now keys (fault (value_view x.1) depth of) (λ k. entries_fault (members_view (drop (i + 1) xs)) greatest (keys ++ k ∷ []) depth of) key new ∙ entries-key

-- ---- members

member-repeated : (fields : List Field) (name : List ℕ) (j : Json) (seen : List (List ℕ)) (own : TypeName → Option Found) (after : Option Found) (field : Presence × TypeName) → has_name seen name ≡ true
    → here (path.repeated_field name) ≡ member_fault fields name j seen own after (Some field)
member-repeated fields name j seen own after field same = rw same refl

member-new : (fields : List Field) (name : List ℕ) (j : Json) (seen : List (List ℕ)) (own : TypeName → Option Found) (after : Option Found) (field : Presence × TypeName) → has_name seen name ≡ false
    → or_later (within (path.field name) (field_fault field.0 j (own field.1))) after ≡ member_fault fields name j seen own after (Some field)
member-new fields name j seen own after field same = rw same refl

-- the names of one more member
pub names_more : {A : Type 0} (xs : List (Bor (List ℕ) × A)) (i : ℕ) (x : Bor (List ℕ) × A) → i < length xs → x ≡ get_or xs i x → names_before (i + 1) xs ≡ names_before i xs ++ x.0.now ∷ []
names_more xs i x before is =
    ap (map (λ m. m.0.now)) (take_more xs i x before ∙ ap (λ y. take i xs ++ y ∷ []) (sym is)) ∙ map-append (λ m. m.0.now) (take i xs) (x ∷ [])

module _ {A : Type 0} (xs : List (Bor (List ℕ) × Value A)) (i : ℕ) (fields : List Field) (depth : ℕ) (whole : Option Found) (so_far : members_fault (members_view (drop i xs)) fields (names_before i xs) depth ≡ whole) where
  -- no member is left
  pub members-end : length xs ≤ i → missing_fault (missing_field fields (map (λ m. m.0.now) xs)) ≡ whole
  unfolding inside
  members-end past =
      sym (ap (λ l. missing_fault (missing_field fields (map (λ m. m.0.now) l))) (take_all i xs past))
      ∙ sym (ap (λ l. members_fault (members_view l) fields (names_before i xs) depth) (drop_all i xs past)) ∙ so_far

  module _ (x : Bor (List ℕ) × Value A) (before : i < length xs) (is : x ≡ get_or xs i x) where
    members-turn : member_fault fields x.0.now (value_view x.1) (names_before i xs) (λ of. fault (value_view x.1) depth of) (members_fault (members_view (drop (i + 1) xs)) fields (names_before i xs ++ x.0.now ∷ []) depth) (find_field fields x.0.now) ≡ whole
    unfolding inside
    members-turn =
        sym (ap (λ l. members_fault (members_view l) fields (names_before i xs) depth) (first_drop xs i x before is)) ∙ so_far

    -- the struct has no such field
    pub members-unknown : None ≡ find_field fields x.0.now → here (path.unknown_field x.0.now (field_names fields)) ≡ whole
    members-unknown none =
        ap (member_fault fields x.0.now (value_view x.1) (names_before i xs) (λ of. fault (value_view x.1) depth of) (members_fault (members_view (drop (i + 1) xs)) fields (names_before i xs ++ x.0.now ∷ []) depth)) none ∙ members-turn

    module _ (presence : Presence) (of : TypeName) (has : Some (presence, of) ≡ find_field fields x.0.now) where
      members-field : member_fault fields x.0.now (value_view x.1) (names_before i xs) (λ o. fault (value_view x.1) depth o) (members_fault (members_view (drop (i + 1) xs)) fields (names_before i xs ++ x.0.now ∷ []) depth) (Some (presence, of)) ≡ whole
      members-field =
          ap (member_fault fields x.0.now (value_view x.1) (names_before i xs) (λ o. fault (value_view x.1) depth o) (members_fault (members_view (drop (i + 1) xs)) fields (names_before i xs ++ x.0.now ∷ []) depth)) has ∙ members-turn

      -- a member before it has the same name
      pub members-repeated : has_name (names_before i xs) x.0.now ≡ true → here (path.repeated_field x.0.now) ≡ whole
      members-repeated same = member-repeated fields x.0.now (value_view x.1) (names_before i xs) (λ o. fault (value_view x.1) depth o) (members_fault (members_view (drop (i + 1) xs)) fields (names_before i xs ++ x.0.now ∷ []) depth) (presence, of) same ∙ members-field

      module _ (new : has_name (names_before i xs) x.0.now ≡ false) (found : Option Fault) (own : option_map found_of found ≡ within (path.field x.0.now) (field_fault presence (value_view x.1) (fault (value_view x.1) depth of))) where
        -- the value has a fault
        pub members-stop : is_some found ≡ true → option_map found_of found ≡ whole
        members-stop some =
            stops found (within (path.field x.0.now) (field_fault presence (value_view x.1) (fault (value_view x.1) depth of))) (members_fault (members_view (drop (i + 1) xs)) fields (names_before i xs ++ x.0.now ∷ []) depth) whole own some (member-new fields x.0.now (value_view x.1) (names_before i xs) (λ o. fault (value_view x.1) depth o) (members_fault (members_view (drop (i + 1) xs)) fields (names_before i xs ++ x.0.now ∷ []) depth) (presence, of) new ∙ members-field)

        -- the value has none
        pub members-next : is_some found ≡ false → members_fault (members_view (drop (i + 1) xs)) fields (names_before (i + 1) xs) depth ≡ whole
        members-next none =
            ap (λ seen. members_fault (members_view (drop (i + 1) xs)) fields seen depth) (names_more xs i x before is)
            ∙ goes_on found (within (path.field x.0.now) (field_fault presence (value_view x.1) (fault (value_view x.1) depth of))) (members_fault (members_view (drop (i + 1) xs)) fields (names_before i xs ++ x.0.now ∷ []) depth) own none ∙ member-new fields x.0.now (value_view x.1) (names_before i xs) (λ o. fault (value_view x.1) depth o) (members_fault (members_view (drop (i + 1) xs)) fields (names_before i xs ++ x.0.now ∷ []) depth) (presence, of) new ∙ members-field

-- ---- lists and variants

pub item_count-length : {A : Type 0} (xs : List (Value A)) → item_count (items_view xs) ≡ length xs
item_count-length [] = refl
item_count-length (x ∷ xs) = add-one (item_count (items_view xs)) ∙ ap suc (item_count-length xs)

module _ (j : Json) (js : Items) (seen : j ≡ array js) (size : Length) (depth : ℕ) (of : TypeName) where
  -- a list that has the right length
  pub list-fits : fits_length size (item_count js) ≡ true → items_fault js 0 depth of ≡ list_fault size ((inside j).items 0 depth of) (as_array j)
  unfolding inside
  list-fits fits = rw (seen, fits) refl

  -- a list that has another length
  pub list-other : fits_length size (item_count js) ≡ false → here (path.no_list size) ≡ list_fault size ((inside j).items 0 depth of) (as_array j)
  unfolding inside
  list-other other = rw (seen, other) refl

-- an object that does not have one member
pub no_only_member : {A : Type 0} (view : A → Json) (ms : List (Bor (List ℕ) × A)) → length ms ≢ 1 → only_member (members_of (map (λ m. (m.0, view m.1)) ms)) ≡ None
no_only_member view [] h = refl
no_only_member view (m ∷ []) h = absurd (h refl)
no_only_member view (m ∷ n ∷ ms) h = refl

-- a fault is found exactly if there is one
pub found_exactly : (result : Result (Option Fault) AllocError) (found : Option Found) (accepted : Bool) → Finds result found → is_accepted found ≡ accepted → IfOk result (λ fault. is_some fault ≡ not accepted)
found_exactly (Ok None) found accepted is same = ap not (ap is_accepted is ∙ same)
found_exactly (Ok (Some f)) found accepted is same = ap not (ap is_accepted is ∙ same)
found_exactly (Err error) found accepted is same = tt
