-- The names of a module, from those of its parts.
use Rattle.std.proofs.Common.{◌≡◌, ℕ, ◌+◌, Bool, true, List, [], ◌∷◌, ◌++◌, map, refl, ap, sym, subst, ◌∙◌, append_assoc}
use Rattle.std.specs.List.{AllZip, flat_map}
use Rattle.std.specs.Prelude.{codes, string_bytes}
use Rattle.std.proofs.lemmas.List.{map-append}
use Rattle.indexmap.specs.IndexMap.{insert_all}
use Rattle.naga_arena.specs.Arena.{values}
use Rattle.naga_ir.specs.declared.module.EntryPoint as entry_point
use Rattle.naga_ir.specs.declared.module.Function as function
use Rattle.naga_ir.specs.declared.module.Module as the_module
use Rattle.naga_ir.specs.declared.types.«Type».{«Type» as NamedType}
use Rattle.naga_ir.specs.declared.types.TypeInner.{TypeInner}
use Rattle.naga_ir.specs.declared.types.TypeInner.TheVariants as inner
use Rattle.naga_namer.specs.Declarations.{Declaration, Entry, argument_declarations, argument_key, body_declarations, body_key, constant_declarations, each, entry_point_declarations, function_declarations, global_declarations, key_of_each, keys_of_body, keys_of_declarations, keys_of_entry_points, keys_of_functions, keys_of_members, keys_of_module, local_declarations, local_key, member_declarations, member_scopes, other_declarations, type_declarations}
use Rattle.naga_namer.specs.ModuleNames.{AddsNames, AddsScopes, AreNamed, AreNamedAlone, NamesModule}
use Rattle.naga_namer.specs.Names.{Counts, Naming, Reserved, label_or, unused}
use Rattle.naga_namer.specs.Scopes.{AllDiffer}
use Rattle.naga_namer.specs.declared.name_key.BodyKey.{BodyKey}
use Rattle.naga_namer.specs.declared.name_key.BodyKey.TheVariants as body
use Rattle.naga_namer.specs.declared.name_key.NameKey.{NameKey}
use Rattle.naga_namer.specs.declared.name_key.NameKey.TheVariants as key
use Rattle.naga_namer.proofs.EachLemmas.{each-map}
use Rattle.naga_namer.proofs.InsertsLemmas.{insert-append, inserts-all}
use Rattle.naga_namer.proofs.KeysDifferLemmas.{keys-differ}

abbrev pub key_in : Entry → NameKey
key_in entry = entry.0

abbrev pub joined : List (List Entry) → List Entry
joined scopes = flat_map (λ (entries : List Entry). entries) scopes

-- ---- the keys of declarations

-- the keys of declarations that are one for each item
single-keys : {A : Type 0} (make : ℕ → NameKey) (label : ℕ → A → List ℕ) (xs : List A)
    → keys_of_declarations (each (λ i x. (make i, label i x) ∷ []) 0 xs) ≡ key_of_each make xs
single-keys {A} make label xs =
    each-map (λ (declaration : Declaration). declaration.0) (λ i (x : A). (make i, label i x) ∷ []) (λ i (x : A). make i ∷ []) (λ i x. refl) 0 xs

keys-append : (xs ys : List Declaration) (ks ls : List NameKey) → keys_of_declarations xs ≡ ks → keys_of_declarations ys ≡ ls
    → keys_of_declarations (xs ++ ys) ≡ ks ++ ls
keys-append xs ys ks ls first second =
    map-append (λ (declaration : Declaration). declaration.0) xs ys
    ∙ ap (λ (them : List NameKey). them ++ keys_of_declarations ys) first
    ∙ ap (λ (them : List NameKey). ks ++ them) second

body-keys : (owner : BodyKey) (label : List ℕ) (whole : function.Function) → keys_of_declarations (body_declarations owner label whole) ≡ keys_of_body owner whole
body-keys owner label whole =
    ap (λ (them : List NameKey). body_key owner ∷ them)
    (keys-append (argument_declarations owner whole.arguments.items) (local_declarations owner (values whole.local_variables))
    (key_of_each (argument_key owner) whole.arguments.items) (key_of_each (local_key owner) (values whole.local_variables))
    (single-keys (argument_key owner) _ whole.arguments.items) (single-keys (local_key owner) _ (values whole.local_variables)))

pub type-keys : (whole : the_module.Module) → keys_of_declarations (type_declarations whole) ≡ key_of_each key.«Type» (values whole.types)
type-keys whole = single-keys key.«Type» _ (values whole.types)

entry-keys : (entries : List entry_point.EntryPoint) → keys_of_declarations (entry_point_declarations entries) ≡ keys_of_entry_points entries
entry-keys entries =
    each-map (λ (declaration : Declaration). declaration.0)
    (λ i (entry : entry_point.EntryPoint). body_declarations (body.EntryPoint i) (string_bytes entry.name) entry.function)
    (λ i (entry : entry_point.EntryPoint). keys_of_body (body.EntryPoint i) entry.function)
    (λ i entry. body-keys (body.EntryPoint i) (string_bytes entry.name) entry.function) 0 entries

function-keys : (functions : List function.Function) → keys_of_declarations (function_declarations functions) ≡ keys_of_functions functions
function-keys functions =
    each-map (λ (declaration : Declaration). declaration.0)
    (λ i (whole : function.Function). body_declarations (body.Function i) (label_or (codes "function") whole.name) whole)
    (λ i (whole : function.Function). keys_of_body (body.Function i) whole)
    (λ i whole. body-keys (body.Function i) (label_or (codes "function") whole.name) whole) 0 functions

pub member-keys : (ty : ℕ) (contents : TypeInner) → keys_of_declarations (member_declarations ty contents) ≡ keys_of_members ty contents
member-keys ty (inner.Struct members span) = single-keys (key.StructMember ty) _ members.items
member-keys ty _ = refl

abbrev pub keys_of_constants : the_module.Module → List NameKey
keys_of_constants whole = key_of_each key.GlobalVariable (values whole.global_variables)
    ++ (key_of_each key.Constant (values whole.constants) ++ key_of_each key.Override (values whole.overrides))

pub other-keys : (types : List Entry) (whole : the_module.Module) → keys_of_declarations (other_declarations types whole)
    ≡ keys_of_entry_points whole.entry_points.items ++ (keys_of_functions (values whole.functions) ++ keys_of_constants whole)
other-keys types whole =
    keys-append (entry_point_declarations whole.entry_points.items) _ (keys_of_entry_points whole.entry_points.items) _ (entry-keys whole.entry_points.items)
    (keys-append (function_declarations (values whole.functions)) _ (keys_of_functions (values whole.functions)) _ (function-keys (values whole.functions))
    (keys-append (global_declarations (values whole.global_variables)) _ (key_of_each key.GlobalVariable (values whole.global_variables)) _ (single-keys key.GlobalVariable _ (values whole.global_variables))
    (keys-append (constant_declarations types (values whole.constants)) _ (key_of_each key.Constant (values whole.constants)) _ (single-keys key.Constant _ (values whole.constants))
    (single-keys key.Override _ (values whole.overrides)))))

-- ---- the keys of entries

members-keys : (reserved : Reserved) (start : ℕ) (types : List NamedType) (members : List (List Entry))
    → AllZip (AreNamedAlone reserved) (each (λ ty (type : NamedType). member_declarations ty type.inner ∷ []) start types) members
    → map key_in (joined members) ≡ each (λ ty (type : NamedType). keys_of_members ty type.inner) start types
members-keys reserved start [] [] named = refl
members-keys reserved start [] (own ∷ members) named = absurd named
members-keys reserved start (type ∷ types) [] named = absurd named
members-keys reserved start (type ∷ types) (own ∷ members) named =
    map-append key_in own (joined members)
    ∙ ap (λ (them : List NameKey). them ++ map key_in (joined members)) (named.0.1.keys ∙ member-keys start type.inner)
    ∙ ap (λ (them : List NameKey). keys_of_members start type.inner ++ them) (members-keys reserved (start + 1) types members named.1)

module _ (whole : the_module.Module) where
  abbrev keys_of_all_members : List NameKey
  keys_of_all_members = each (λ ty (type : NamedType). keys_of_members ty type.inner) 0 (values whole.types)

  others-then : (more : List NameKey) → (keys_of_entry_points whole.entry_points.items ++ (keys_of_functions (values whole.functions) ++ keys_of_constants whole)) ++ more
      ≡ keys_of_entry_points whole.entry_points.items ++ (keys_of_functions (values whole.functions)
      ++ (key_of_each key.GlobalVariable (values whole.global_variables)
      ++ (key_of_each key.Constant (values whole.constants) ++ (key_of_each key.Override (values whole.overrides) ++ more))))
  others-then more =
      let entries : List NameKey = keys_of_entry_points whole.entry_points.items in
      let functions : List NameKey = keys_of_functions (values whole.functions) in
      let globals : List NameKey = key_of_each key.GlobalVariable (values whole.global_variables) in
      let constants : List NameKey = key_of_each key.Constant (values whole.constants) in
      let overrides : List NameKey = key_of_each key.Override (values whole.overrides) in
      append_assoc entries (functions ++ (globals ++ (constants ++ overrides))) more
      ∙ ap (λ (them : List NameKey). entries ++ them) (append_assoc functions (globals ++ (constants ++ overrides)) more)
      ∙ ap (λ (them : List NameKey). entries ++ (functions ++ them)) (append_assoc globals (constants ++ overrides) more)
      ∙ ap (λ (them : List NameKey). entries ++ (functions ++ (globals ++ them))) (append_assoc constants overrides more)

  -- the keys of all entries are those of the module
  all-keys : (reserved : Reserved) (before between after : Counts) (types others : List Entry) (members : List (List Entry))
      → AreNamed reserved before (type_declarations whole) types between → AreNamed reserved between (other_declarations types whole) others after
      → AllZip (AreNamedAlone reserved) (member_scopes (values whole.types)) members
      → map key_in (types ++ (others ++ joined members)) ≡ keys_of_module whole
  all-keys reserved before between after types others members named-types named-others named-members =
      map-append key_in types (others ++ joined members)
      ∙ ap (λ (them : List NameKey). them ++ map key_in (others ++ joined members)) (named-types.keys ∙ type-keys whole)
      ∙ ap (λ (them : List NameKey). key_of_each key.«Type» (values whole.types) ++ them) (
      map-append key_in others (joined members)
      ∙ ap (λ (them : List NameKey). them ++ map key_in (joined members)) (named-others.keys ∙ other-keys types whole)
      ∙ ap (λ (them : List NameKey). (keys_of_entry_points whole.entry_points.items ++ (keys_of_functions (values whole.functions) ++ keys_of_constants whole)) ++ them)
      (members-keys reserved 0 (values whole.types) members named-members)
      ∙ others-then keys_of_all_members)

  -- the names of a module have its keys
  pub keys-of-names : (reserved : Reserved) (entries : List Entry) (after : Counts) → NamesModule reserved whole entries after
      → map key_in entries ≡ keys_of_module whole
  keys-of-names reserved entries after names =
      ap (map key_in) names.are
      ∙ all-keys reserved unused names.between after names.types names.others names.members names.named-types names.named-others names.named-members

  module _ (eq : NameKey → NameKey → Bool) (same : (a b : NameKey) → eq a b ≡ true → a ≡ b) where
    -- the entries that were named, in the order of the parts
    in-order : (types others members : List Entry) → map key_in (types ++ (others ++ members)) ≡ keys_of_module whole
        → insert_all eq (insert_all eq (insert_all eq [] types) others) members ≡ types ++ (others ++ members)
    in-order types others members keys =
        let all : List Entry = types ++ (others ++ members) in
        let P : List NameKey → Type 0 = λ them. AllDiffer them in
        insert-append eq same (insert_all eq [] types) others members
        ∙ insert-append eq same [] types (others ++ members)
        ∙ inserts-all eq same all (subst P (sym keys) (keys-differ whole))

    pub names-module : (before between after : Naming) (no-types no-others no-members types others members entries : List Entry)
        → no-types ≡ [] → no-others ≡ [] → no-members ≡ [] → before.counts ≡ unused
        → AddsNames before no-types (type_declarations whole) between types
        → AddsNames between no-others (other_declarations types whole) after others
        → AddsScopes after.reserved no-members (member_scopes (values whole.types)) members
        → entries ≡ insert_all eq (insert_all eq (insert_all eq [] types) others) members
        → NamesModule before.reserved whole entries after.counts
    names-module before between after no-types no-others no-members types others members entries none-0 none-1 none-2 fresh first second third are =
        let types-are : types ≡ first.added = first.are ∙ ap (λ (them : List Entry). them ++ first.added) none-0 in
        let others-are : others ≡ second.added = second.are ∙ ap (λ (them : List Entry). them ++ second.added) none-1 in
        let members-are : members ≡ joined third.added = third.are ∙ ap (λ (them : List Entry). them ++ joined third.added) none-2 in
        let P : List Entry → Type 0 = λ them. AreNamed before.reserved before.counts (type_declarations whole) them between.counts in
        let Q : Counts → Type 0 = λ counts. AreNamed before.reserved counts (type_declarations whole) types between.counts in
        let named-types : AreNamed before.reserved unused (type_declarations whole) types between.counts = subst Q fresh (subst P (sym types-are) first.named) in
        let R : List Entry → Type 0 = λ them. AreNamed between.reserved between.counts (other_declarations types whole) them after.counts in
        let S : Reserved → Type 0 = λ reserved. AreNamed reserved between.counts (other_declarations types whole) others after.counts in
        let named-others : AreNamed before.reserved between.counts (other_declarations types whole) others after.counts =
        subst S first.reserved (subst R (sym others-are) second.named) in
        let T : Reserved → Type 0 = λ reserved. AllZip (AreNamedAlone reserved) (member_scopes (values whole.types)) third.added in
        let named-members : AllZip (AreNamedAlone before.reserved) (member_scopes (values whole.types)) third.added =
        subst T (second.reserved ∙ first.reserved) third.named in
        let keys : map key_in (types ++ (others ++ joined third.added)) ≡ keys_of_module whole =
        all-keys before.reserved unused between.counts after.counts types others third.added named-types named-others named-members in
        record {
          types = types;
          others = others;
          members = third.added;
          are = are ∙ ap (λ (them : List Entry). insert_all eq (insert_all eq (insert_all eq [] types) others) them) members-are ∙ in-order types others (joined third.added) keys;
          between = between.counts;
          named-types = named-types;
          named-others = named-others;
          named-members = named-members;
        }
