-- The JSONs that the schema of a type accepts are those that its codec reads.
use Rattle.std.proofs.Common.{◌≡◌, ◌∙◌, ap, refl, sym, ℕ, zero, suc, ◌+◌, ◌==◌, ◌^◌, ◌≤◌, nat_le, nat_eq, codes, lit≤, List, [], ◌∷◌, ◌++◌, map, length, Bool, true, false, cond, ◌&&◌, ◌||◌, Option, Some, None, option_map, is_some, arith}
use Rattle.std.proofs.lemmas.Bool.Decides.{nat_tests}
use Rattle.std.proofs.lemmas.List.{map-append}
use Rattle.std.specs.Prelude.{⊤}
use Rattle.std.specs.Str.{bytes_eq}
use Rattle.json.specs.Json.{Json, null, boolean, number, string, array, object, Items, no_items, item, Members, no_members, member}
use Rattle.json.specs.Find.{as_array, as_number, as_object, as_str, get, get_member, is_null}
use Rattle.naga_arena.specs.Limits.{max_len}
use Rattle.naga_arena.specs.Span.{undefined}
use Rattle.naga_kinds.specs.Names.{named}
use Rattle.naga_json.specs.Arenas.{arena_in, without_span}
use Rattle.naga_json.specs.Codec.{Codec}
use Rattle.naga_json.specs.Block.{block_after, block_with}
use Rattle.naga_json.specs.Fields.{Fields, field, no_fields, optional_field, struct_in}
use Rattle.naga_json.specs.Form.{Form}
use Rattle.naga_json.specs.FormFields.{FormFields, form_field, form_struct_in, plain_field, plain_fields, plain_optional_field}
use Rattle.naga_json.specs.StatementValue.{BlockValue, StatementValue, empty, push}
use Rattle.naga_json.specs.Lawful.{Gives}
use Rattle.naga_json.proofs.GivesLemmas.{then, then_any}
use Rattle.naga_json.specs.Lists.{each_in, each_of, item_count, of_length, pair_of}
use Rattle.naga_json.specs.Maps.{entries_after, entries_in, has_key, key_in, with_entry}
use Rattle.naga_json.specs.Numbers.{◌>>=◌, below, natural_in, natural_of}
use Rattle.naga_json.specs.Range.{range_codec, range_fields}
use Rattle.naga_json.specs.Objects.{choose, count_fields, fields_in, member_count, find_row, holder_in, name_or_holder, optional_at, optional_in, variant_in}
use Rattle.naga_schema.specs.declared.derived.kind.Kind.{Kind}
use Rattle.naga_schema.specs.declared.leaf.Leaf.{Leaf}
use Rattle.naga_schema.specs.declared.leaf.Leaf.TheVariants as leaves
use Rattle.naga_schema.specs.declared.schema.Length.TheVariants as size
use Rattle.naga_schema.specs.declared.schema.Presence.TheVariants as presence
use Rattle.naga_schema.specs.declared.derived.type_name.TypeName.{TypeName}
use Rattle.naga_schema.specs.declared.derived.type_name.TypeName.TheVariants as type
use Rattle.naga_schema.specs.Fault as fault_of
use Rattle.naga_schema.specs.Fault.{accepts, both_le, in_order, number_at, range_fault, entries_fault, entry_fault, enum_fault, fault, holder_fault, fits_length, has_name, inside, is_accepted, items_fault, list_fault, members_fault, object_fault, shape_fault}
use Rattle.naga_schema.specs.Leaf.{accepts_leaf, text_is}
use Rattle.naga_schema.specs.derived.Kinds.{kind_has}
use Rattle.naga_schema.specs.Path as path
use Rattle.naga_schema.specs.Path.{Found, here, or_later, within}
use Rattle.naga_schema.specs.Shape.{Field, Shape, Variant, variant_names}
use Rattle.naga_schema.specs.Shape as shape
use Rattle.naga_schema.specs.derived.Types.{shape_of}
use Rattle.naga_schema.proofs.MembersLemmas.{distinct, field_names, field_ok, fields_ok, struct-tests}
use Rattle.naga_schema.proofs.TestsLemmas.{accepted-cond, accepted-or, accepted-unless, accepted-within, and_same, and_true, some-both, some-cond, some-map, some-next, some-then}

-- The JSONs that the type accepts, with blocks nested no deeper than the number, are those that represent a value.
pub record Agrees {A : Type 0} (depth : ℕ) (of : TypeName) (decode : Json → Option A) : Type 0 where
  pub same : (j : Json) → accepts j depth of ≡ is_some (decode j)

-- ---- values that contain no other value

module _ (depth : ℕ) where
  pub agrees-leaf : {A : Type 0} (leaf : Leaf) (decode : Json → Option A) → ((j : Json) → accepts_leaf leaf j ≡ is_some (decode j)) → Agrees depth (type.Leaf leaf) decode
  unfolding shape_of
  agrees-leaf leaf decode same = record { same = λ j. accepted-unless (accepts_leaf leaf j) _ ∙ same j }

  text-same : {A : Type 0} (test : List ℕ → Bool) (decode : List ℕ → Option A) → ((text : List ℕ) → test text ≡ is_some (decode text)) → (o : Option (List ℕ)) → text_is test o ≡ is_some (o >>= decode)
  text-same test decode same None = refl
  text-same test decode same (Some text) = same text

  -- a kind that is written as the name of its variant
  pub agrees-kind : {A : Type 0} (kind : Kind) (name_of : A → List ℕ) (kinds : List A) → ((name : List ℕ) → kind_has kind name ≡ is_some (named name_of kinds name)) → Agrees depth (type.Leaf (leaves.Kind kind)) (λ j. as_str j >>= named name_of kinds)
  unfolding accepts_leaf
  agrees-kind kind name_of kinds same =
      agrees-leaf (leaves.Kind kind) (λ j. as_str j >>= named name_of kinds) (λ j. text-same (kind_has kind) (named name_of kinds) same (as_str j))

  -- a type with one value for each value of another one
  pub agrees-as : {A B : Type 0} (of : TypeName) (decode : Json → Option A) (make : A → B) → Agrees depth of decode → Agrees depth of (λ j. option_map make (decode j))
  agrees-as of decode make one = record { same = λ j. one.same j ∙ sym (some-map make (decode j)) }

  -- ---- lists

  module _ {A : Type 0} (of : TypeName) (decode : Json → Option A) (one : Agrees depth of decode) where
    items-same : (js : Items) (position : ℕ) → is_accepted (items_fault js position depth of) ≡ is_some (each_of decode js)
    unfolding inside
    items-same no_items position = refl
    items-same (item j js) position =
        accepted-or (within (path.item position) (fault j depth of)) (items_fault js (position + 1) depth of)
        ∙ and_same _ _ _ _ (accepted-within (path.item position) (fault j depth of) ∙ one.same j) (items-same js (position + 1))
        ∙ sym (some-both (decode j) (each_of decode js) (λ first rest. first ∷ rest))

    any-same : (j : Json) → is_accepted (list_fault size.Any ((inside j).items 0 depth of) (as_array j)) ≡ is_some (each_in decode j)
    unfolding inside
    any-same null = refl
    any-same (boolean b) = refl
    any-same (number s) = refl
    any-same (string s) = refl
    any-same (array js) = items-same js 0
    any-same (object ms) = refl

    -- the items have as many meanings as there are items
    counted : (js : Items) → Gives (λ values. length values ≡ item_count js) (each_of decode js)
    counted no_items = record { holds = refl }
    counted (item j js) =
        then_any _ (decode j) _ λ first.
        then (λ values. length values ≡ item_count js) _ (each_of decode js) _ (counted js) λ rest is.
        record { holds = omega (arith, is) }

  -- a list
  pub agrees-list : {A : Type 0} (list of : TypeName) (decode : Json → Option A) → shape_of list ≡ shape.list size.Any of → Agrees depth of decode → Agrees depth list (each_in decode)
  agrees-list list of decode is one = record {
    same = λ j. ap (λ s. is_accepted (shape_fault j (inside j) depth s)) is ∙ any-same of decode one j;
  }

  and_false : (b : Bool) → false ≡ (b && false)
  and_false true = refl
  and_false false = refl

  exact : {A B : Type 0} (o : Option (List A)) (count n : ℕ) (check : List A → Option B) → ((values : List A) → is_some (check values) ≡ (length values == n)) → Gives (λ values. length values ≡ count) o → is_some (o >>= check) ≡ ((count == n) && is_some o)
  exact None count n check tests given = and_false (count == n)
  exact (Some values) count n check tests given =
      tests values ∙ ap (λ k. k == n) given.holds ∙ sym (and_true (count == n))

  module _ {A B : Type 0} (of : TypeName) (decode : Json → Option A) (one : Agrees depth of decode) (n : ℕ) (check : List A → Option B) (tests : (values : List A) → is_some (check values) ≡ (length values == n)) where
    exact-same : (j : Json) → is_accepted (list_fault (size.Exactly n) ((inside j).items 0 depth of) (as_array j)) ≡ is_some (each_in decode j >>= check)
    unfolding inside
    exact-same null = refl
    exact-same (boolean b) = refl
    exact-same (number s) = refl
    exact-same (string s) = refl
    exact-same (array js) =
        accepted-cond (item_count js == n) (items_fault js 0 depth of) (path.no_list (size.Exactly n))
        ∙ ap (λ b. (item_count js == n) && b) (items-same of decode one js 0)
        ∙ sym (exact (each_of decode js) (item_count js) n check tests (counted of decode one js))
    exact-same (object ms) = refl

  length-tests : {A : Type 0} (n : ℕ) (values : List A) → is_some (of_length n values) ≡ (length values == n)
  length-tests n values = if_there (length values == n) values
    where
      if_there : {X : Type 0} (b : Bool) (x : X) → is_some (cond b (Some x) None) ≡ b
      if_there true x = refl
      if_there false x = refl

  pair-tests : {A : Type 0} (values : List A) → is_some (pair_of values) ≡ (length values == 2)
  pair-tests [] = refl
  pair-tests (first ∷ []) = refl
  pair-tests (first ∷ second ∷ []) = refl
  pair-tests (first ∷ second ∷ third ∷ rest) = more (length rest)
    where
      more : (n : ℕ) → false ≡ (suc (suc (suc n)) == 2)
      more n = grind (arith, nat_tests)

  -- a list of a given length
  pub agrees-array : {A : Type 0} (list of : TypeName) (n : ℕ) (decode : Json → Option A) → shape_of list ≡ shape.list (size.Exactly n) of → Agrees depth of decode → Agrees depth list (λ j. each_in decode j >>= of_length n)
  agrees-array list of n decode is one = record {
    same = λ j. ap (λ s. is_accepted (shape_fault j (inside j) depth s)) is ∙ exact-same of decode one n (of_length n) (length-tests n) j;
  }

  -- a pair, as a list of two
  pub agrees-pair : {A : Type 0} (list of : TypeName) (decode : Json → Option A) → shape_of list ≡ shape.list (size.Exactly 2) of → Agrees depth of decode → Agrees depth list (λ j. each_in decode j >>= pair_of)
  agrees-pair list of decode is one = record {
    same = λ j. ap (λ s. is_accepted (shape_fault j (inside j) depth s)) is ∙ exact-same of decode one 2 pair_of pair-tests j;
  }

  module _ {A : Type 0} (of : TypeName) (decode : Json → Option A) (one : Agrees depth of decode) where
    spanned : Agrees depth of (without_span decode)
    spanned = record { same = λ j. one.same j ∙ sym (some-then (decode j) (λ value. (value, undefined))) }

    arena-same : (j : Json) → is_accepted (list_fault (size.AtMost max_len) ((inside j).items 0 depth of) (as_array j)) ≡ is_some (arena_in decode j)
    unfolding inside
    arena-same null = refl
    arena-same (boolean b) = refl
    arena-same (number s) = refl
    arena-same (string s) = refl
    arena-same (array js) =
        accepted-cond (nat_le (item_count js) max_len) (items_fault js 0 depth of) (path.no_list (size.AtMost max_len))
        ∙ ap (λ b. nat_le (item_count js) max_len && b) (items-same of (without_span decode) spanned js 0)
        ∙ sym (some-cond (nat_le (item_count js) max_len) js (each_of (without_span decode)))
    arena-same (object ms) = refl

  -- an arena
  pub agrees-arena : {A : Type 0} (list of : TypeName) (decode : Json → Option A) → shape_of list ≡ shape.list (size.AtMost max_len) of → Agrees depth of decode → Agrees depth list (arena_in decode)
  agrees-arena list of decode is one = record {
    same = λ j. ap (λ s. is_accepted (shape_fault j (inside j) depth s)) is ∙ arena-same of decode one j;
  }

  -- ---- maps

  module _ {A : Type 0} (of : TypeName) (decode : Json → Option A) (one : Agrees depth of decode) (greatest : ℕ) where
    keys_of : List (ℕ × A) → List ℕ
    keys_of front = map (λ entry. entry.0) front

    key-same : (front : List (ℕ × A)) (key : ℕ) → fault_of.has_key (keys_of front) key ≡ has_key nat_eq front key
    unfolding keys_of
    key-same [] key = refl
    key-same (entry ∷ front) key = ap (λ b. nat_eq key entry.0 || b) (key-same front key)

    -- a key that is one before, or a value that is none
    entry-tests : {B C : Type 0} (again : Bool) (own : Option Found) (after : Option Found) (value : Option A) (name : List ℕ) (more : A → C) (rest : C → Option B) → is_accepted own ≡ is_some value → ((a : A) → is_accepted after ≡ is_some (rest (more a)))
        → is_accepted (cond again (here (path.repeated_key name)) (or_later (within (path.entry name) own) after)) ≡ is_some (value >>= λ a. cond again None (Some (more a)) >>= rest)
    entry-tests true own after None name more rest own_same after_same = refl
    entry-tests true own after (Some a) name more rest own_same after_same = refl
    entry-tests false own after None name more rest own_same after_same =
        accepted-or (within (path.entry name) own) after ∙ ap (λ b. b && is_accepted after) (accepted-within (path.entry name) own ∙ own_same)
    entry-tests false own after (Some a) name more rest own_same after_same =
        accepted-or (within (path.entry name) own) after ∙ ap (λ b. b && is_accepted after) (accepted-within (path.entry name) own ∙ own_same) ∙ after_same a

    entries-same : (ms : Members) (front : List (ℕ × A)) → is_accepted (entries_fault ms greatest (keys_of front) depth of) ≡ is_some (entries_after nat_eq (key_in (greatest + 1)) decode ms front)
    unfolding inside keys_of
    entries-same no_members front = refl
    entries-same (member name j ms) front = by_key (key_in (greatest + 1) name) (entries-same ms)
      where
        by_key : (found : Option ℕ) → ((later : List (ℕ × A)) → is_accepted (entries_fault ms greatest (keys_of later) depth of) ≡ is_some (entries_after nat_eq (key_in (greatest + 1)) decode ms later))
            → is_accepted (entry_fault name (keys_of front) (fault j depth of) (λ key. entries_fault ms greatest (keys_of front ++ key ∷ []) depth of) found)
            ≡ is_some (found >>= λ key. decode j >>= λ value. with_entry nat_eq front key value >>= λ entries. entries_after nat_eq (key_in (greatest + 1)) decode ms entries)
        by_key None rest = refl
        by_key (Some key) rest =
            ap (λ b. is_accepted (cond b (here (path.repeated_key name)) (or_later (within (path.entry name) (fault j depth of)) (entries_fault ms greatest (keys_of front ++ key ∷ []) depth of)))) (key-same front key)
            ∙ entry-tests (has_key nat_eq front key) (fault j depth of) (entries_fault ms greatest (keys_of front ++ key ∷ []) depth of) (decode j) name (λ value. front ++ (key, value) ∷ []) (λ entries. entries_after nat_eq (key_in (greatest + 1)) decode ms entries)
            (one.same j)
            (λ value. ap (λ keys. is_accepted (entries_fault ms greatest keys depth of)) (sym (map-append (λ entry. entry.0) front ((key, value) ∷ []))) ∙ rest (front ++ (key, value) ∷ []))

    map-same : (j : Json) → is_accepted (object_fault ((inside j).entries greatest [] depth of) (as_object j)) ≡ is_some (entries_in nat_eq (key_in (greatest + 1)) decode j)
    unfolding inside keys_of
    map-same null = refl
    map-same (boolean b) = refl
    map-same (number s) = refl
    map-same (string s) = refl
    map-same (array js) = refl
    map-same (object ms) = entries-same ms []

  -- a map whose keys are numbers
  pub agrees-map : {A : Type 0} (keyed of : TypeName) (greatest : ℕ) (decode : Json → Option A) → shape_of keyed ≡ shape.keyed greatest of → Agrees depth of decode → Agrees depth keyed (entries_in nat_eq (key_in (greatest + 1)) decode)
  agrees-map keyed of greatest decode is one = record {
    same = λ j. ap (λ s. is_accepted (shape_fault j (inside j) depth s)) is ∙ map-same of decode one greatest j;
  }

  -- ---- structs

  -- Fields of a table are read as those of an object.
  pub record AgreesRead {T : Type 0} (fields : List Field) (names : List (List ℕ)) (read : (V : Type 0) → (T → V) → Json → Option V) : Type 1 where
    pub names_same : names ≡ field_names fields
    pub reads : (V : Type 0) (make : T → V) (ms : Members) → fields_ok depth fields ms ≡ is_some (read V make (object ms))

  pub agrees-no_fields : AgreesRead [] no_fields.names no_fields.read
  agrees-no_fields = record { names_same = refl; reads = λ V make ms. refl }

  module _ {A B : Type 0} (of : TypeName) (decode : Json → Option A) (one : Agrees depth of decode) where
    required-same : (o : Option Json) (f : A → Option B) (b : Bool) → ((a : A) → is_some (f a) ≡ b) → (field_ok depth (presence.Required, of) o && b) ≡ is_some (o >>= decode >>= f)
    required-same None f b same = refl
    required-same (Some j) f b same = ap (λ x. x && b) (one.same j) ∙ sym (some-next (decode j) f b same)

    optional-same : (o : Option Json) (f : Option A → Option B) (b : Bool) → ((a : Option A) → is_some (f a) ≡ b)
        → (field_ok depth (presence.Optional, of) o && b) ≡ is_some (optional_in decode (o >>= λ found. cond (is_null found) None (Some found)) >>= f)
    optional-same None f b same = sym (same None)
    optional-same (Some j) f b same = by_null (is_null j)
      where
        by_null : (empty : Bool) → (is_accepted (cond empty None (fault j depth of)) && b) ≡ is_some (optional_in decode (cond empty None (Some j)) >>= f)
        by_null true = sym (same None)
        by_null false = ap (λ x. x && b) (one.same j ∙ sym (some-map Some (decode j))) ∙ sym (some-next (option_map Some (decode j)) f b same)

  module _ {A T : Type 0} (name : List ℕ) (of : TypeName) (decode : Json → Option A) (fields : List Field) (names : List (List ℕ)) (read : (V : Type 0) → (T → V) → Json → Option V) (one : Agrees depth of decode) (more : AgreesRead fields names read) where
    -- a field that must be there
    pub agrees-required : AgreesRead ((name, presence.Required, of) ∷ fields) (name ∷ names) (λ V (make : A × T → V) j. (get name j >>= decode) >>= λ a. read V (λ rest. make (a, rest)) j)
    agrees-required = record {
      names_same = ap (λ l. name ∷ l) more.names_same;
      reads = λ V make ms. required-same of decode one (get_member name ms) (λ a. read V (λ rest. make (a, rest)) (object ms)) (fields_ok depth fields ms) (λ a. sym (more.reads V (λ rest. make (a, rest)) ms));
    }

    -- a field that may be missing or null
    pub agrees-optional : AgreesRead ((name, presence.Optional, of) ∷ fields) (name ∷ names) (λ V (make : Option A × T → V) j. optional_at decode name j >>= λ a. read V (λ rest. make (a, rest)) j)
    agrees-optional = record {
      names_same = ap (λ l. name ∷ l) more.names_same;
      reads = λ V make ms. optional-same of decode one (get_member name ms) (λ a. read V (λ rest. make (a, rest)) (object ms)) (fields_ok depth fields ms) (λ a. sym (more.reads V (λ rest. make (a, rest)) ms));
    }

  -- The fields of a table are those of a struct.
  pub record AgreesFields {T : Type 0} (fields : List Field) (codec : Fields T) : Type 1 where
    pub all : AgreesRead fields codec.names codec.read

  -- The fields of a table are those of a struct of which some may be written in several ways.
  pub record AgreesFormFields {T : Type 0} (fields : List Field) (form : FormFields T) : Type 1 where
    pub all : AgreesRead fields form.names form.read

  pub agrees-none : AgreesFields [] no_fields
  agrees-none = record { all = agrees-no_fields }

  pub agrees-field : {A T : Type 0} (name : List ℕ) (of : TypeName) (codec : Codec A) (fields : List Field) (others : Fields T) → Agrees depth of codec.decode → AgreesFields fields others → AgreesFields ((name, presence.Required, of) ∷ fields) (field name codec others)
  agrees-field name of codec fields others one more = record {
    all = agrees-required name of codec.decode fields others.names others.read one more.all;
  }

  pub agrees-optional_field : {A T : Type 0} (name : List ℕ) (of : TypeName) (codec : Codec A) (fields : List Field) (others : Fields T) → Agrees depth of codec.decode → AgreesFields fields others → AgreesFields ((name, presence.Optional, of) ∷ fields) (optional_field name codec others)
  agrees-optional_field name of codec fields others one more = record {
    all = agrees-optional name of codec.decode fields others.names others.read one more.all;
  }

  pub agrees-plain_fields : {T : Type 0} (fields : List Field) (codec : Fields T) → AgreesFields fields codec → AgreesFormFields fields (plain_fields codec)
  agrees-plain_fields fields codec all = record { all = all.all }

  pub agrees-plain_field : {A T : Type 0} (name : List ℕ) (of : TypeName) (codec : Codec A) (fields : List Field) (others : FormFields T) → Agrees depth of codec.decode → AgreesFormFields fields others → AgreesFormFields ((name, presence.Required, of) ∷ fields) (plain_field name codec others)
  agrees-plain_field name of codec fields others one more = record {
    all = agrees-required name of codec.decode fields others.names others.read one more.all;
  }

  pub agrees-plain_optional_field : {A T : Type 0} (name : List ℕ) (of : TypeName) (codec : Codec A) (fields : List Field) (others : FormFields T) → Agrees depth of codec.decode → AgreesFormFields fields others → AgreesFormFields ((name, presence.Optional, of) ∷ fields) (plain_optional_field name codec others)
  agrees-plain_optional_field name of codec fields others one more = record {
    all = agrees-optional name of codec.decode fields others.names others.read one more.all;
  }

  pub agrees-form_field : {A T : Type 0} (name : List ℕ) (of : TypeName) (form : Form A) (fields : List Field) (others : FormFields T) → Agrees depth of form.decode → AgreesFormFields fields others → AgreesFormFields ((name, presence.Required, of) ∷ fields) (form_field name form others)
  agrees-form_field name of form fields others one more = record {
    all = agrees-required name of form.decode fields others.names others.read one more.all;
  }

  module _ {T V : Type 0} (fields : List Field) (names : List (List ℕ)) (read : (V : Type 0) → (T → V) → Json → Option V) (make : T → V) (all : AgreesRead fields names read) (apart : distinct (field_names fields) ≡ true) where
    struct-same : (j : Json) → is_accepted (object_fault ((inside j).members fields [] depth) (as_object j)) ≡ is_some (fields_in names j >>= read V make)
    unfolding inside
    struct-same null = refl
    struct-same (boolean b) = refl
    struct-same (number s) = refl
    struct-same (string s) = refl
    struct-same (array js) = refl
    struct-same (object ms) =
        struct-tests depth fields apart ms
        ∙ ap (λ b. (count_fields (field_names fields) (object ms) == member_count ms) && b) (all.reads V make ms)
        ∙ sym (some-cond (count_fields (field_names fields) (object ms) == member_count ms) (object ms) (read V make))
        ∙ ap (λ l. is_some (cond (count_fields l (object ms) == member_count ms) (Some (object ms)) None >>= read V make)) (sym all.names_same)

  -- a struct
  pub agrees-struct : {T V : Type 0} (of : TypeName) (fields : List Field) (codec : Fields T) (make : T → V) → shape_of of ≡ shape.struct fields → distinct (field_names fields) ≡ true → AgreesFields fields codec → Agrees depth of (struct_in codec make)
  unfolding struct_in
  agrees-struct of fields codec make is apart all = record {
    same = λ j. ap (λ s. is_accepted (shape_fault j (inside j) depth s)) is ∙ struct-same fields codec.names codec.read make all.all apart j;
  }

  -- a struct of which some fields may be written in several ways
  pub agrees-form_struct : {T V : Type 0} (of : TypeName) (fields : List Field) (form : FormFields T) (make : T → V) → shape_of of ≡ shape.struct fields → distinct (field_names fields) ≡ true → AgreesFormFields fields form → Agrees depth of (form_struct_in form make)
  unfolding form_struct_in
  agrees-form_struct of fields form make is apart all = record {
    same = λ j. ap (λ s. is_accepted (shape_fault j (inside j) depth s)) is ∙ struct-same fields form.names form.read make all.all apart j;
  }

  -- ---- enums

  -- the variants of a table are the rows of an enum
  abbrev pub RowsAgree : {V : Type 0} → List Variant → Json → List (List ℕ × Option V) → Type 0
  RowsAgree [] held [] = ⊤
  RowsAgree [] held (row ∷ rows) = ⊥
  RowsAgree (variant ∷ variants) held [] = ⊥
  RowsAgree (variant ∷ variants) held (row ∷ rows) =
      (variant.0 ≡ row.0) × ((accepts held depth variant.1 ≡ is_some row.1) × RowsAgree variants held rows)

  -- The variants of a table hold what those of an enum hold.
  pub record AgreesRows {V : Type 0} (variants : List Variant) (rows : Json → List (List ℕ × Option V)) : Type 0 where
    pub same : (held : Json) → RowsAgree variants held (rows held)

  pub agrees-no_rows : {V : Type 0} → AgreesRows {V = V} [] (λ held. [])
  agrees-no_rows = record { same = λ held. tt }

  pub agrees-row : {V : Type 0} (name : List ℕ) (of : TypeName) (decode : Json → Option V) (variants : List Variant) (rows : Json → List (List ℕ × Option V)) → Agrees depth of decode → AgreesRows variants rows
      → AgreesRows ((name, of) ∷ variants) (λ held. (name, decode held) ∷ rows held)
  agrees-row name of decode variants rows one more = record { same = λ held. (refl, (one.same held, more.same held)) }

  words-same : {V : Type 0} (words : List (List ℕ × V)) (name : List ℕ) → has_name (map (λ word. word.0) words) name ≡ is_some (find_row words name)
  words-same [] name = refl
  words-same (word ∷ words) name = by_test (bytes_eq word.0 name) word.1 (find_row words name) (words-same words name)
    where
      by_test : {X : Type 0} {b : Bool} (test : Bool) (x : X) (o : Option X) → b ≡ is_some o → (test || b) ≡ is_some (cond test (Some x) o)
      by_test true x o e = refl
      by_test false x o e = e

  name-tests : (has other : Bool) (name : List ℕ) (allowed : List (List ℕ)) → is_accepted (cond has None (cond other (here (path.without_value name)) (here (path.unknown_variant name allowed)))) ≡ has
  name-tests true other name allowed = refl
  name-tests false true name allowed = refl
  name-tests false false name allowed = refl

  no-holder : (has : Bool) (name : List ℕ) (allowed : List (List ℕ)) → is_accepted (cond has (here (path.with_value name)) (here (path.unknown_variant name allowed))) ≡ false
  no-holder true name allowed = refl
  no-holder false name allowed = refl

  holder-same : {V : Type 0} (whole variants : List Variant) (rows : List (List ℕ × Option V)) (held : Json) (names : List (List ℕ)) (name : List ℕ) → RowsAgree variants held rows → is_accepted (holder_fault names whole name (λ of. fault held depth of) (find_row variants name)) ≡ is_some (choose rows name)
  holder-same whole [] [] held names name agree = no-holder (has_name names name) name (variant_names names whole)
  holder-same whole [] (row ∷ rows) held names name agree = absurd agree
  holder-same whole (variant ∷ variants) [] held names name agree = absurd agree
  holder-same whole (variant ∷ variants) (row ∷ rows) held names name agree =
      by_test (bytes_eq row.0 name) (bytes_eq variant.0 name) (ap (λ n. bytes_eq n name) agree.0) (holder-same whole variants rows held names name agree.1.1)
    where
      by_test : (test also : Bool) → also ≡ test → is_accepted (holder_fault names whole name (λ of. fault held depth of) (find_row variants name)) ≡ is_some (choose rows name)
          → is_accepted (holder_fault names whole name (λ of. fault held depth of) (cond also (Some variant.1) (find_row variants name))) ≡ is_some (cond test row.1 (choose rows name))
      by_test true true e rest = accepted-within (path.variant name) (fault held depth variant.1) ∙ agree.1.0
      by_test true false e rest = absurd (cc)
      by_test false true e rest = absurd (cc)
      by_test false false e rest = rest

  module _ {V : Type 0} (names : List (List ℕ)) (variants : List Variant) (words : List (List ℕ × V)) (rows : Json → List (List ℕ × Option V)) (named : names ≡ map (λ word. word.0) words) (all : AgreesRows variants rows) where
    enum-same : (j : Json) → is_accepted (enum_fault names variants (λ of. (inside j).held depth of) (variant_in j)) ≡ is_some (variant_in j >>= name_or_holder words rows)
    unfolding inside
    enum-same null = refl
    enum-same (boolean b) = refl
    enum-same (number s) = refl
    enum-same (string s) =
        name-tests (has_name names s) (is_some (find_row variants s)) s (variant_names names variants) ∙ ap (λ l. has_name l s) named ∙ words-same words s
    enum-same (array js) = refl
    enum-same (object no_members) = refl
    enum-same (object (member name held no_members)) =
        holder-same variants variants (rows held) held names name (all.same held)
    enum-same (object (member name held (member other value more))) = refl

  -- an enum
  pub agrees-enum : {V : Type 0} (of : TypeName) (names : List (List ℕ)) (variants : List Variant) (words : List (List ℕ × V)) (rows : Json → List (List ℕ × Option V)) → shape_of of ≡ shape.enum names variants → names ≡ map (λ word. word.0) words → AgreesRows variants rows
      → Agrees depth of (λ j. variant_in j >>= name_or_holder words rows)
  agrees-enum of names variants words rows is named all = record {
    same = λ j. ap (λ s. is_accepted (shape_fault j (inside j) depth s)) is ∙ enum-same names variants words rows named all j;
  }

  -- an enum of which each variant contains data
  module _ {V : Type 0} (variants : List Variant) (rows : Json → List (List ℕ × Option V)) (all : AgreesRows variants rows) where
    data-same : (j : Json) → is_accepted (enum_fault [] variants (λ of. (inside j).held depth of) (variant_in j)) ≡ is_some (holder_in j >>= λ variant. choose (rows variant.1) variant.0)
    unfolding inside
    data-same null = refl
    data-same (boolean b) = refl
    data-same (number s) = refl
    data-same (string s) = name-tests false (is_some (find_row variants s)) s (variant_names [] variants)
    data-same (array js) = refl
    data-same (object no_members) = refl
    data-same (object (member name held no_members)) = holder-same variants variants (rows held) held [] name (all.same held)
    data-same (object (member name held (member other value more))) = refl

  pub agrees-data_enum : {V : Type 0} (of : TypeName) (variants : List Variant) (rows : Json → List (List ℕ × Option V)) → shape_of of ≡ shape.enum [] variants → AgreesRows variants rows
      → Agrees depth of (λ j. holder_in j >>= λ variant. choose (rows variant.1) variant.0)
  agrees-data_enum of variants rows is all = record {
    same = λ j. ap (λ s. is_accepted (shape_fault j (inside j) depth s)) is ∙ data-same variants rows all j;
  }

  -- ---- blocks

  module _ (of : TypeName) (decode : Json → Option StatementValue) (one : Agrees depth of decode) where
    statements-same : (js : Items) (position : ℕ) (front : BlockValue) → is_accepted (items_fault js position depth of) ≡ is_some (block_after decode js front)
    unfolding inside
    statements-same no_items position front = refl
    statements-same (item j js) position front =
        accepted-or (within (path.item position) (fault j depth of)) (items_fault js (position + 1) depth of)
        ∙ ap (λ b. b && is_accepted (items_fault js (position + 1) depth of)) (accepted-within (path.item position) (fault j depth of) ∙ one.same j)
        ∙ sym (some-next (decode j) (λ last. block_after decode js (push front last undefined)) _ (λ last. sym (statements-same js (position + 1) (push front last undefined))))

    block-same : (j : Json) → is_accepted (list_fault size.Any ((inside j).items 0 depth of) (as_array j)) ≡ is_some (block_with decode j)
    unfolding inside
    block-same null = refl
    block-same (boolean b) = refl
    block-same (number s) = refl
    block-same (string s) = refl
    block-same (array js) = statements-same js 0 empty
    block-same (object ms) = refl

-- a block, which is one level deeper than its statements
pub agrees-block : (depth : ℕ) (nested of : TypeName) (decode : Json → Option StatementValue) → shape_of nested ≡ shape.block of → Agrees depth of decode → Agrees (suc depth) nested (block_with decode)
agrees-block depth nested of decode is one = record {
  same = λ j. ap (λ s. is_accepted (shape_fault j (inside j) (suc depth) s)) is ∙ block-same depth of decode one j;
}

-- a block in which no blocks may be
pub agrees-no_block : {A : Type 0} (nested of : TypeName) → shape_of nested ≡ shape.block of → Agrees zero nested (λ j. let none : Option A = None in none)
agrees-no_block nested of is = record { same = λ j. ap (λ s. is_accepted (shape_fault j (inside j) zero s)) is }

-- ---- ranges

wider : (o : Option ℕ) (bound a : ℕ) → bound ≤ 2 ^ 64 → (o >>= below bound) ≡ Some a → (o >>= below (2 ^ 64)) ≡ Some a
wider None bound a le is = absurd (cc)
wider (Some n) bound a le is = grind (arith, nat_tests)

wider-at : (found : Option Json) (bound a : ℕ) → bound ≤ 2 ^ 64 → (found >>= natural_in bound) ≡ Some a → (found >>= natural_in (2 ^ 64)) ≡ Some a
wider-at None bound a le is = absurd (cc)
wider-at (Some j) bound a le is = wider (as_number j >>= natural_of) bound a le is

abbrev pub pair : ℕ → ℕ → ℕ × ℕ
pair start last = (start, last)

-- the numbers of a range are those that are compared
range-tests : (o p v w : Option ℕ) → ((a : ℕ) → o ≡ Some a → v ≡ Some a) → ((b : ℕ) → p ≡ Some b → w ≡ Some b)
    → (is_some (o >>= λ a. p >>= λ b. Some (pair a b)) && both_le v w) ≡ is_some (o >>= (λ a. p >>= λ b. Some (pair a b)) >>= λ range. cond (nat_le range.0 range.1) (Some range) None)
range-tests None p v w first second = refl
range-tests (Some a) None v w first second = refl
range-tests (Some a) (Some b) v w first second = rw (first a refl, second b refl) (ordered (nat_le a b) (pair a b))
  where
    ordered : {X : Type 0} (test : Bool) (x : X) → test ≡ is_some (cond test (Some x) None)
    ordered true x = refl
    ordered false x = refl

module _ (depth : ℕ) where
  range-same : (j : Json) → (is_some (fields_in range_fields.names j >>= range_fields.read (ℕ × ℕ) (λ parts. (parts.0, parts.1.0))) && in_order j)
      ≡ is_some (fields_in range_fields.names j >>= range_fields.read (ℕ × ℕ) (λ parts. (parts.0, parts.1.0)) >>= λ range. cond (nat_le range.0 range.1) (Some range) None)
  range-same null = refl
  range-same (boolean b) = refl
  range-same (number s) = refl
  range-same (string s) = refl
  range-same (array js) = refl
  range-same (object ms) = by_count (count_fields range_fields.names (object ms) == member_count ms)
    where
      by_count : (test : Bool) → (is_some (cond test (Some (object ms)) None >>= range_fields.read (ℕ × ℕ) (λ parts. (parts.0, parts.1.0))) && in_order (object ms))
          ≡ is_some (cond test (Some (object ms)) None >>= range_fields.read (ℕ × ℕ) (λ parts. (parts.0, parts.1.0)) >>= λ range. cond (nat_le range.0 range.1) (Some range) None)
      by_count true =
          range-tests (get (codes "start") (object ms) >>= natural_in max_len) (get (codes "end") (object ms) >>= natural_in (2 ^ 32)) (number_at (codes "start") (object ms)) (number_at (codes "end") (object ms))
          (λ a. wider-at (get (codes "start") (object ms)) max_len a (lit≤ tt)) (λ b. wider-at (get (codes "end") (object ms)) (2 ^ 32) b (lit≤ tt))
      by_count false = refl

  -- a range whose start is at most its end
  pub agrees-range : (of : TypeName) (fields : List Field) → shape_of of ≡ shape.range fields → distinct (field_names fields) ≡ true → AgreesFields depth fields range_fields → Agrees depth of range_codec.decode
  unfolding struct_in
  agrees-range of fields is apart all = record {
    same = λ j.
        ap (λ s. is_accepted (shape_fault j (inside j) depth s)) is
        ∙ accepted-or (object_fault ((inside j).members fields [] depth) (as_object j)) (range_fault j)
        ∙ and_same _ _ _ _ (struct-same depth fields range_fields.names range_fields.read (λ parts. pair parts.0 parts.1.0) all.all apart j) (accepted-unless (in_order j) path.inverted)
        ∙ range-same j;
  }
