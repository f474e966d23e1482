-- The path of a fault leads to a JSON that has the fault by itself.
use Rattle.std.proofs.Common.{◌≡◌, ◌∙◌, ap, refl, sym, ℕ, zero, suc, ◌+◌, nat_eq, List, [], ◌∷◌, ◌++◌, Bool, true, false, cond, ◌||◌, Option, Some, None, Result, Ok, Err, IfSome, is_some, arith}
use Rattle.std.specs.Prelude.{IfOk}
use Rattle.std.specs.declared.alloc.AllocError.{AllocError}
use Rattle.std.proofs.lemmas.Slice.Eq.{bytes_eq-Decides}
use Rattle.std.specs.Bool.{Decides}
use Rattle.std.specs.Str.{bytes_eq}
use Rattle.std.proofs.lemmas.Bool.Decides.{nat_tests}
use Rattle.std.proofs.lemmas.List.Folds.{list_any-append}
use Rattle.json.specs.Json.{Json, null, boolean, number, string, array, object, Items, no_items, item, Members, no_members, member}
use Rattle.json.specs.Find.{as_array, get_item}
use Rattle.naga_json.specs.Numbers.{◌>>=◌}
use Rattle.naga_json.specs.Lists.{item_count}
use Rattle.naga_json.specs.Maps.{key_in}
use Rattle.naga_json.specs.Objects.{find_row, variant_in}
use Rattle.naga_schema.specs.Finds.{Finds}
use Rattle.naga_schema.specs.declared.fault.Fault.{Fault}
use Rattle.naga_schema.specs.declared.schema.Presence.{Presence}
use Rattle.naga_schema.specs.declared.derived.type_name.TypeName.{TypeName}
use Rattle.naga_schema.specs.Leaf.{accepts_leaf}
use Rattle.naga_schema.specs.declared.schema.Length.{Length}
use Rattle.naga_schema.specs.declared.schema.Length.TheVariants as size
use Rattle.naga_schema.specs.Fault.{block_fault, entries_fault, entry_fault, enum_fault, fits_length, has_key, holder_fault, in_order, list_fault, fault, field_fault, find_field, has_name, inside, items_fault, member_fault, members_fault, missing_fault, missing_field, shape_fault, without_bound}
use Rattle.naga_schema.specs.Leads.{LeadsToFault, end_of, first_member, part_at}
use Rattle.naga_schema.specs.Path.{Blame, Found, Into, found_of, here, or_later, within}
use Rattle.naga_schema.specs.Path as path
use Rattle.naga_schema.specs.Shape.{Field, Shape, Variant, field_names, variant_names}
use Rattle.naga_schema.specs.Shape as shape
use Rattle.naga_schema.specs.derived.Types.{shape_of}
use Rattle.naga_schema.proofs.TestsLemmas.{has_name-append}

-- the path and the cause of a fault, if there is one
path_in : Option Found → List Into
path_in None = []
path_in (Some found) = found.0

blame_in : Blame → Option Found → Blame
blame_in other None = other
blame_in other (Some found) = found.1

first_in : Into → List Into → Into
first_in other [] = other
first_in other (into ∷ rest) = into

rest_of : List Into → List Into
rest_of [] = []
rest_of (into ∷ rest) = rest

-- a fault in a part has the path of the part's fault, after the step to the part
split : (into step : Into) (rest : List Into) (blame : Blame) (found : Found) → within step (Some found) ≡ Some (into ∷ rest, blame) → (into ≡ step) × (Some found ≡ Some (rest, blame))
unfolding path_in blame_in first_in rest_of
split into step rest blame found e =
    let paths : step ∷ found.0 ≡ into ∷ rest = ap path_in e in
    (sym (ap (first_in step) paths), ap Some (both found (rest, blame) (ap rest_of paths) (ap (blame_in blame) e)))
  where
    both : (a b : Found) → a.0 ≡ b.0 → a.1 ≡ b.1 → a ≡ b
    both a b p q = λ i. (p i, q i)

-- ---- items

-- A fault in a part of a JSON is one of a part that is there.
pub record Step (into : Into) (rest : List Into) (blame : Blame) (j : Json) : Type 0 where
  pub part : Json
  pub depth : ℕ
  pub of : TypeName
  pub at : part_at into j ≡ Some part
  pub own : fault part depth of ≡ Some (rest, blame)

-- A fault in the items of a list is one of an item that is there.
pub record ItemStep (into : Into) (rest : List Into) (blame : Blame) (js : Items) (position depth : ℕ) (of : TypeName) : Type 0 where
  pub index : ℕ
  pub part : Json
  pub into_is : into ≡ path.item (position + index)
  pub at : get_item index js ≡ Some part
  pub own : fault part depth of ≡ Some (rest, blame)

item-step : (js : Items) (position depth : ℕ) (of : TypeName) (into : Into) (rest : List Into) (blame : Blame) → items_fault js position depth of ≡ Some (into ∷ rest, blame) → ItemStep into rest blame js position depth of
unfolding inside
item-step no_items position depth of into rest blame e = absurd (cc)
item-step (item j js) position depth of into rest blame e =
    by_own (fault j depth of) refl e (item-step js (position + 1) depth of into rest blame)
  where
    by_own : (own : Option Found) → fault j depth of ≡ own → or_later (within (path.item position) own) (items_fault js (position + 1) depth of) ≡ Some (into ∷ rest, blame)
        → (items_fault js (position + 1) depth of ≡ Some (into ∷ rest, blame) → ItemStep into rest blame js (position + 1) depth of)
        → ItemStep into rest blame (item j js) position depth of
    by_own None is here_first later =
        let next = later here_first in
        record { index = suc next.index; part = next.part; into_is = next.into_is ∙ ap path.item (omega arith); at = next.at; own = next.own }
    by_own (Some found) is here_first later =
        let parts = split into (path.item position) rest blame found here_first in
        record { index = 0; part = j; into_is = parts.0 ∙ ap path.item (omega arith); at = refl; own = is ∙ parts.1 }

-- ---- members

-- no fault of a JSON by itself is one of a part
not_here : {X : Type 0} (own blame : Blame) (into : Into) (rest : List Into) → here own ≡ Some (into ∷ rest, blame) → X
unfolding path_in
not_here own blame into rest e = let paths : [] ≡ into ∷ rest = ap path_in e in absurd (cc)

not_either : {X : Type 0} (b : Bool) (one other blame : Blame) (into : Into) (rest : List Into) → cond b (here one) (here other) ≡ Some (into ∷ rest, blame) → X
not_either true one other blame into rest e = not_here one blame into rest e
not_either false one other blame into rest e = not_here other blame into rest e

same_name : (name : List ℕ) → bytes_eq name name ≡ true
same_name name = by_test (bytes_eq name name) (bytes_eq-Decides name name)
  where
    by_test : (b : Bool) → Decides b (name ≡ name) → b ≡ true
    by_test true decides = refl
    by_test false decides = absurd (cc (decides.1 refl))

neither : (a b : Bool) → (a || b) ≡ false → (a ≡ false) × (b ≡ false)
neither true b e = absurd (cc)
neither false b e = (refl, e)

-- A fault in the members of a struct is one of a field that is there.
pub record MemberStep (into : Into) (rest : List Into) (blame : Blame) (ms : Members) (seen : List (List ℕ)) (depth : ℕ) : Type 0 where
  pub name : List ℕ
  pub part : Json
  pub of : TypeName
  pub into_is : into ≡ path.field name
  pub at : first_member name ms ≡ Some part
  pub new : has_name seen name ≡ false
  pub own : fault part depth of ≡ Some (rest, blame)

module _ (into : Into) (rest : List Into) (blame : Blame) (depth : ℕ) (name : List ℕ) (j : Json) (ms : Members) (seen : List (List ℕ)) (field : Presence × TypeName) (after : Option Found)
    (later : after ≡ Some (into ∷ rest, blame) → MemberStep into rest blame ms (seen ++ name ∷ []) depth) (new : has_name seen name ≡ false) where
  field_own : (b : Bool) (own : Option Found) (found : Found) → cond b None own ≡ Some found → own ≡ Some found
  field_own true own found e = absurd (cc)
  field_own false own found e = e

  member-own : (own : Option Found) → field_fault field.0 j (fault j depth field.1) ≡ own → or_later (within (path.field name) own) after ≡ Some (into ∷ rest, blame) → MemberStep into rest blame (member name j ms) seen depth
  member-own None is here_first =
      let next = later here_first in
      let apart = neither (has_name seen next.name) (bytes_eq name next.name) (sym (has_name-append seen name next.name) ∙ next.new) in
      record { name = next.name; part = next.part; of = next.of; into_is = next.into_is; at = rw apart.1 next.at; new = apart.0; own = next.own }
  member-own (Some found) is here_first =
      let parts = split into (path.field name) rest blame found here_first in
      record { name = name; part = j; of = field.1; into_is = parts.0; at = rw (same_name name) refl; new = new; own = field_own _ (fault j depth field.1) found is ∙ parts.1 }

module _ (into : Into) (rest : List Into) (blame : Blame) (depth : ℕ) (name : List ℕ) (j : Json) (ms : Members) (seen : List (List ℕ)) (after : Option Found)
    (later : after ≡ Some (into ∷ rest, blame) → MemberStep into rest blame ms (seen ++ name ∷ []) depth) where
  member-again : (field : Presence × TypeName) (again : Bool) → has_name seen name ≡ again
      → cond again (here (path.repeated_field name)) (or_later (within (path.field name) (field_fault field.0 j (fault j depth field.1))) after) ≡ Some (into ∷ rest, blame) → MemberStep into rest blame (member name j ms) seen depth
  member-again field true is e = not_here (path.repeated_field name) blame into rest e
  member-again field false is e =
      member-own into rest blame depth name j ms seen field after later is (field_fault field.0 j (fault j depth field.1)) refl e

  member-named : (fields : List Field) (found : Option (Presence × TypeName)) → member_fault fields name j seen (λ of. fault j depth of) after found ≡ Some (into ∷ rest, blame) → MemberStep into rest blame (member name j ms) seen depth
  member-named fields None e = not_here (path.unknown_field name (field_names fields)) blame into rest e
  member-named fields (Some field) e = member-again field (has_name seen name) refl e

no-missing : {X : Type 0} (missing : Option (List ℕ)) (into : Into) (rest : List Into) (blame : Blame) → missing_fault missing ≡ Some (into ∷ rest, blame) → X
no-missing None into rest blame e = absurd (cc)
no-missing (Some name) into rest blame e = not_here (path.missing_field name) blame into rest e

member-step : (ms : Members) (fields : List Field) (seen : List (List ℕ)) (depth : ℕ) (into : Into) (rest : List Into) (blame : Blame) → members_fault ms fields seen depth ≡ Some (into ∷ rest, blame) → MemberStep into rest blame ms seen depth
unfolding inside
member-step no_members fields seen depth into rest blame e =
    no-missing (missing_field fields seen) into rest blame e
member-step (member name j ms) fields seen depth into rest blame e =
    member-named into rest blame depth name j ms seen (members_fault ms fields (seen ++ name ∷ []) depth) (member-step ms fields (seen ++ name ∷ []) depth into rest blame) fields (find_field fields name) e

-- ---- entries

same_key : (key : ℕ) → nat_eq key key ≡ true
same_key key = grind (arith, nat_tests)

value_or : Option ℕ → ℕ
value_or None = 0
value_or (Some n) = n

-- names that represent different keys are different
other_name : (a b : List ℕ) (bound k l : ℕ) → key_in bound a ≡ Some k → key_in bound b ≡ Some l → nat_eq l k ≡ false → bytes_eq a b ≡ false
unfolding value_or
other_name a b bound k l first second apart = by_test (bytes_eq a b) refl
  where
    by_test : (test : Bool) → bytes_eq a b ≡ test → test ≡ false
    by_test true is =
        let same : k ≡ l = ap value_or (sym first ∙ ap (key_in bound) ((bytes_eq-Decides a b).0 is) ∙ second) in
        sym (same_key l) ∙ ap (nat_eq l) (sym same) ∙ apart
    by_test false is = refl

-- A fault in the entries of a map is one of an entry that is there.
pub record EntryStep (into : Into) (rest : List Into) (blame : Blame) (ms : Members) (greatest : ℕ) (keys : List ℕ) (depth : ℕ) (of : TypeName) : Type 0 where
  pub name : List ℕ
  pub part : Json
  pub key : ℕ
  pub into_is : into ≡ path.entry name
  pub at : first_member name ms ≡ Some part
  pub key_is : key_in (greatest + 1) name ≡ Some key
  pub new : has_key keys key ≡ false
  pub own : fault part depth of ≡ Some (rest, blame)

module _ (into : Into) (rest : List Into) (blame : Blame) (greatest depth : ℕ) (of : TypeName) (name : List ℕ) (j : Json) (ms : Members) (keys : List ℕ) (key : ℕ) (key_is : key_in (greatest + 1) name ≡ Some key) (after : Option Found)
    (later : after ≡ Some (into ∷ rest, blame) → EntryStep into rest blame ms greatest (keys ++ key ∷ []) depth of) where
  entry-own : (own : Option Found) → fault j depth of ≡ own → has_key keys key ≡ false → or_later (within (path.entry name) own) after ≡ Some (into ∷ rest, blame) → EntryStep into rest blame (member name j ms) greatest keys depth of
  entry-own None is new here_first =
      let next = later here_first in
      let apart = neither (has_key keys next.key) (nat_eq next.key key || false) (sym (list_any-append (λ other. nat_eq next.key other) keys (key ∷ [])) ∙ next.new) in
      record {
        name = next.name;
        part = next.part;
        key = next.key;
        into_is = next.into_is;
        at = rw (other_name name next.name (greatest + 1) key next.key key_is next.key_is (neither (nat_eq next.key key) false apart.1).0) next.at;
        key_is = next.key_is;
        new = apart.0;
        own = next.own;
      }
  entry-own (Some found) is new here_first =
      let parts = split into (path.entry name) rest blame found here_first in
      record { name = name; part = j; key = key; into_is = parts.0; at = rw (same_name name) refl; key_is = key_is; new = new; own = is ∙ parts.1 }

module _ (into : Into) (rest : List Into) (blame : Blame) (greatest depth : ℕ) (of : TypeName) (name : List ℕ) (j : Json) (ms : Members) (keys : List ℕ)
    (later : (key : ℕ) → entries_fault ms greatest (keys ++ key ∷ []) depth of ≡ Some (into ∷ rest, blame) → EntryStep into rest blame ms greatest (keys ++ key ∷ []) depth of) where
  entry-again : (key : ℕ) → key_in (greatest + 1) name ≡ Some key → (again : Bool) → has_key keys key ≡ again
      → cond again (here (path.repeated_key name)) (or_later (within (path.entry name) (fault j depth of)) (entries_fault ms greatest (keys ++ key ∷ []) depth of)) ≡ Some (into ∷ rest, blame) → EntryStep into rest blame (member name j ms) greatest keys depth of
  entry-again key key_is true is e = not_here (path.repeated_key name) blame into rest e
  entry-again key key_is false is e =
      entry-own into rest blame greatest depth of name j ms keys key key_is (entries_fault ms greatest (keys ++ key ∷ []) depth of) (later key) (fault j depth of) refl is e

  entry-key : (found : Option ℕ) → key_in (greatest + 1) name ≡ found → entry_fault name keys (fault j depth of) (λ key. entries_fault ms greatest (keys ++ key ∷ []) depth of) found ≡ Some (into ∷ rest, blame) → EntryStep into rest blame (member name j ms) greatest keys depth of
  entry-key None is e = not_here (path.no_key name) blame into rest e
  entry-key (Some key) is e = entry-again key is (has_key keys key) refl e

entry-step : (ms : Members) (greatest : ℕ) (keys : List ℕ) (depth : ℕ) (of : TypeName) (into : Into) (rest : List Into) (blame : Blame) → entries_fault ms greatest keys depth of ≡ Some (into ∷ rest, blame) → EntryStep into rest blame ms greatest keys depth of
unfolding inside
entry-step no_members greatest keys depth of into rest blame e = absurd (cc)
entry-step (member name j ms) greatest keys depth of into rest blame e =
    entry-key into rest blame greatest depth of name j ms keys (λ key. entry-step ms greatest (keys ++ key ∷ []) depth of into rest blame) (key_in (greatest + 1) name) refl e

-- ---- all types

module _ (into : Into) (rest : List Into) (blame : Blame) where
  leaf-step : {X : Type 0} (b : Bool) (own : Blame) → cond b None (here own) ≡ Some (into ∷ rest, blame) → X
  leaf-step true own e = absurd (cc)
  leaf-step false own e = not_here own blame into rest e

  -- the items of a list
  list-step : (js : Items) (size : Length) (depth : ℕ) (of : TypeName) (fits : Bool) → cond fits (items_fault js 0 depth of) (here (path.no_list size)) ≡ Some (into ∷ rest, blame) → Step into rest blame (array js)
  list-step js size depth of true e =
      let next = item-step js 0 depth of into rest blame e in
      record { part = next.part; depth = depth; of = of; at = ap (λ step. part_at step (array js)) (next.into_is ∙ ap path.item (omega arith)) ∙ next.at; own = next.own }
  list-step js size depth of false e = not_here (path.no_list size) blame into rest e

  struct-step : (ms : Members) (fields : List Field) (depth : ℕ) → members_fault ms fields [] depth ≡ Some (into ∷ rest, blame) → Step into rest blame (object ms)
  struct-step ms fields depth e =
      let next = member-step ms fields [] depth into rest blame e in
      record { part = next.part; depth = depth; of = next.of; at = ap (λ step. part_at step (object ms)) next.into_is ∙ next.at; own = next.own }

  map-step : (ms : Members) (greatest depth : ℕ) (of : TypeName) → entries_fault ms greatest [] depth of ≡ Some (into ∷ rest, blame) → Step into rest blame (object ms)
  map-step ms greatest depth of e =
      let next = entry-step ms greatest [] depth of into rest blame e in
      record { part = next.part; depth = depth; of = of; at = ap (λ step. part_at step (object ms)) next.into_is ∙ next.at; own = next.own }

  range-step : (ms : Members) (fields : List Field) (depth : ℕ) (b : Bool) (found : Option Found) → members_fault ms fields [] depth ≡ found → or_later found (cond b None (here path.inverted)) ≡ Some (into ∷ rest, blame) → Step into rest blame (object ms)
  range-step ms fields depth b None is e = leaf-step b path.inverted e
  range-step ms fields depth b (Some found) is e = struct-step ms fields depth (is ∙ e)

  no-name : {X : Type 0} (has other : Bool) (name : List ℕ) (allowed : List (List ℕ)) → cond has None (cond other (here (path.without_value name)) (here (path.unknown_variant name allowed))) ≡ Some (into ∷ rest, blame) → X
  no-name true other name allowed e = absurd (cc)
  no-name false other name allowed e = not_either other (path.without_value name) (path.unknown_variant name allowed) blame into rest e

  holder-own : (name : List ℕ) (held : Json) (depth : ℕ) (of : TypeName) (own : Option Found) → fault held depth of ≡ own → within (path.variant name) own ≡ Some (into ∷ rest, blame) → Step into rest blame (object (member name held no_members))
  holder-own name held depth of None is e = absurd (cc)
  holder-own name held depth of (Some found) is e =
      let parts = split into (path.variant name) rest blame found e in
      record { part = held; depth = depth; of = of; at = ap (λ step. part_at step (object (member name held no_members))) parts.0 ∙ rw (same_name name) refl; own = is ∙ parts.1 }

  holder-step : (names : List (List ℕ)) (variants : List Variant) (name : List ℕ) (held : Json) (depth : ℕ) (found : Option TypeName) → holder_fault names variants name (λ of. fault held depth of) found ≡ Some (into ∷ rest, blame) → Step into rest blame (object (member name held no_members))
  holder-step names variants name held depth None e =
      not_either (has_name names name) (path.with_value name) (path.unknown_variant name (variant_names names variants)) blame into rest e
  holder-step names variants name held depth (Some of) e = holder-own name held depth of (fault held depth of) refl e

  enum-step : (j : Json) (names : List (List ℕ)) (variants : List Variant) (depth : ℕ) → enum_fault names variants (λ of. (inside j).held depth of) (variant_in j) ≡ Some (into ∷ rest, blame) → Step into rest blame j
  unfolding inside
  enum-step null names variants depth e = not_here path.no_variant blame into rest e
  enum-step (boolean b) names variants depth e = not_here path.no_variant blame into rest e
  enum-step (number s) names variants depth e = not_here path.no_variant blame into rest e
  enum-step (string s) names variants depth e = no-name (has_name names s) (is_some (find_row variants s)) s (variant_names names variants) e
  enum-step (array js) names variants depth e = not_here path.no_variant blame into rest e
  enum-step (object no_members) names variants depth e = not_here path.no_variant blame into rest e
  enum-step (object (member name held no_members)) names variants depth e =
      holder-step names variants name held depth (find_row variants name) e
  enum-step (object (member name held (member other value more))) names variants depth e =
      not_here path.no_variant blame into rest e

  block-step : (j : Json) (of : TypeName) (depth : ℕ) → block_fault (λ inner. (inside j).items 0 inner of) depth (as_array j) ≡ Some (into ∷ rest, blame) → Step into rest blame j
  unfolding inside
  block-step j of zero e = not_here path.too_deep blame into rest e
  block-step null of (suc depth) e = not_here (path.no_list size.Any) blame into rest e
  block-step (boolean b) of (suc depth) e = not_here (path.no_list size.Any) blame into rest e
  block-step (number s) of (suc depth) e = not_here (path.no_list size.Any) blame into rest e
  block-step (string s) of (suc depth) e = not_here (path.no_list size.Any) blame into rest e
  block-step (array js) of (suc depth) e = list-step js size.Any depth of true e
  block-step (object ms) of (suc depth) e = not_here (path.no_list size.Any) blame into rest e

  list-any-step : (j : Json) (length : Length) (of : TypeName) (depth : ℕ) → list_fault length ((inside j).items 0 depth of) (as_array j) ≡ Some (into ∷ rest, blame) → Step into rest blame j
  unfolding inside
  list-any-step null length of depth e = not_here (path.no_list (without_bound length)) blame into rest e
  list-any-step (boolean b) length of depth e = not_here (path.no_list (without_bound length)) blame into rest e
  list-any-step (number s) length of depth e = not_here (path.no_list (without_bound length)) blame into rest e
  list-any-step (string s) length of depth e = not_here (path.no_list (without_bound length)) blame into rest e
  list-any-step (array js) length of depth e = list-step js length depth of (fits_length length (item_count js)) e
  list-any-step (object ms) length of depth e = not_here (path.no_list (without_bound length)) blame into rest e

  object-step : (j : Json) (depth : ℕ) (one : Shape) → shape_fault j (inside j) depth one ≡ Some (into ∷ rest, blame) → Step into rest blame j
  unfolding inside
  object-step j depth (shape.leaf leaf) e = leaf-step (accepts_leaf leaf j) _ e
  object-step j depth (shape.list length of) e = list-any-step j length of depth e
  object-step j depth (shape.block of) e = block-step j of depth e
  object-step (object ms) depth (shape.keyed greatest of) e = map-step ms greatest depth of e
  object-step (object ms) depth (shape.struct fields) e = struct-step ms fields depth e
  object-step (object ms) depth (shape.range fields) e =
      range-step ms fields depth (in_order (object ms)) (members_fault ms fields [] depth) refl e
  object-step j depth (shape.enum names variants) e = enum-step j names variants depth e
  object-step j depth other e = not_here path.no_object blame into rest e

-- the path of a fault leads to a JSON that has the fault by itself
pub leads : (rest : List Into) (j : Json) (depth : ℕ) (of : TypeName) (blame : Blame) → fault j depth of ≡ Some (rest, blame) → LeadsToFault j (rest, blame)
leads [] j depth of blame e = (j, depth, of, refl, e)
leads (into ∷ rest) j depth of blame e =
    let step = object-step into rest blame j depth (shape_of of) e in
    let later = leads rest step.part step.depth step.of blame step.own in
    (later.0, later.1, later.2, ap (λ part. part >>= end_of rest) step.at ∙ later.3, later.4)

-- each fault that is found leads to a JSON that has it by itself
pub found_leads : (result : Result (Option Fault) AllocError) (j : Json) (depth : ℕ) (of : TypeName) → Finds result (fault j depth of) → IfOk result (λ found. IfSome found (λ one. LeadsToFault j (found_of one)))
found_leads (Ok None) j depth of is = tt
found_leads (Ok (Some one)) j depth of is = leads (found_of one).0 j depth of (found_of one).1 (sym is)
found_leads (Err error) j depth of is = tt
