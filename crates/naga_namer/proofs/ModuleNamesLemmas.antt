-- What the names of a module have in common.
use Rattle.std.proofs.Common.{◌≡◌, ◌≢◌, ◌⊎◌, inl, inr, ℕ, zero, suc, ◌+◌, ◌<◌, false, List, [], ◌∷◌, ◌++◌, All, Contains, Option, Some, None, map, refl, ap, sym, subst, ◌∙◌, append_assoc, arith}
use Rattle.std.specs.List.{AllZip}
use Rattle.std.proofs.lemmas.List.Elements.{All-append, All-cons, All-contains, All-nil, All-weaker, Contains-append_cases}
use Rattle.naga_arena.specs.Arena.{values}
use Rattle.naga_ir.specs.declared.module.EntryPoint as entry_point
use Rattle.naga_ir.specs.declared.module.Function as function
use Rattle.naga_ir.specs.declared.module.Module as the_module
use Rattle.naga_ir.specs.declared.types.«Type».{«Type» as NamedType}
use Rattle.naga_ir.specs.declared.types.TypeInner.{TypeInner}
use Rattle.naga_ir.specs.declared.types.TypeInner.TheVariants as inner
use Rattle.naga_namer.specs.Declarations.{Declaration, Entry, argument_key, body_key, each, key_of_each, keys_of_body, keys_of_entry_points, keys_of_functions, keys_of_members, local_key, member_declarations, member_scopes, other_declarations, text_of, type_declarations}
use Rattle.naga_namer.specs.ModuleNames.{AreNamed, AreNamedAlone, IsName, ModuleNamesAreNames, ModuleNamesAvoidPrefixes, ModuleNamesDiffer, NamesModule, scope_of}
use Rattle.naga_namer.specs.Names.{Counts, GetNames, Reserved, is_reserved, unused}
use Rattle.naga_namer.specs.Scopes.{AllDiffer, BeginsWith, IsIdentifier}
use Rattle.naga_namer.specs.declared.name_key.BodyKey.{BodyKey}
use Rattle.naga_namer.specs.declared.name_key.BodyKey.TheVariants as body
use Rattle.naga_namer.specs.declared.name_key.NameKey.{NameKey}
use Rattle.naga_namer.specs.declared.name_key.NameKey.TheVariants as key
use Rattle.naga_namer.proofs.AddsNamesLemmas.{are-named-append}
use Rattle.naga_namer.proofs.EachLemmas.{each-all}
use Rattle.naga_namer.proofs.GetNamesLemmas.{names-are-identifiers, names-avoid, names-differ, names-free}
use Rattle.naga_namer.proofs.InsertsLemmas.{all-both, all-unmap}
use Rattle.naga_namer.proofs.NamesModuleLemmas.{joined, key_in, keys_of_constants, member-keys, other-keys, type-keys}

-- ---- properties of names

module _ (P : List ℕ → Type 0) (reserved : Reserved) (has : (before after : Counts) (labels names : List (List ℕ)) → GetNames reserved before labels names after → All P names) where
  entries-have : (before after : Counts) (declarations : List Declaration) (entries : List Entry) → AreNamed reserved before declarations entries after
      → All (λ entry. P (text_of entry)) entries
  entries-have before after declarations entries named = all-unmap P text_of entries (has before after _ (map text_of entries) named.names)

  scopes-have : (scopes : List (List Declaration)) (members : List (List Entry)) → AllZip (AreNamedAlone reserved) scopes members
      → All (λ entry. P (text_of entry)) (joined members)
  scopes-have [] [] named = All-nil (λ entry. P (text_of entry))
  scopes-have [] (own ∷ members) named = absurd named
  scopes-have (scope ∷ scopes) [] named = absurd named
  scopes-have (scope ∷ scopes) (own ∷ members) named =
      All-append (λ entry. P (text_of entry)) own (joined members) (entries-have unused named.0.0 scope own named.0.1) (scopes-have scopes members named.1)

  all-have : (whole : the_module.Module) (entries : List Entry) (after : Counts) → NamesModule reserved whole entries after → All (λ entry. P (text_of entry)) entries
  all-have whole entries after names =
      let Q : List Entry → Type 0 = λ them. All (λ (entry : Entry). P (text_of entry)) them in
      subst Q (sym names.are)
      (All-append (λ entry. P (text_of entry)) names.types (names.others ++ joined names.members)
      (entries-have unused names.between (type_declarations whole) names.types names.named-types)
      (All-append (λ entry. P (text_of entry)) names.others (joined names.members)
      (entries-have names.between after (other_declarations names.types whole) names.others names.named-others)
      (scopes-have (member_scopes (values whole.types)) names.members names.named-members)))

pub module-names-are-names : ModuleNamesAreNames
module-names-are-names reserved =
    all-have (IsName reserved) reserved
    (λ before after labels names get. all-both IsIdentifier (λ name. is_reserved reserved name ≡ false) names
    (names-are-identifiers reserved before after labels names get) (names-free reserved before after labels names get))

pub module-names-avoid-prefixes : ModuleNamesAvoidPrefixes
module-names-avoid-prefixes reserved leaves =
    all-have (λ name. All (λ prefix. BeginsWith name prefix → ⊥) reserved.prefixes) reserved
    (λ before after labels names get. names-avoid reserved leaves before after labels names get)

-- ---- names that differ

contains-cons : {A : Type 0} (x : A) (xs : List A) (y : A) → Contains (x ∷ xs) y → (x ≡ y) ⊎ Contains xs y
contains-cons x xs y (zero, less, is) = inl is
contains-cons x xs y (suc k, less, is) = inr (k, omega arith, is)

new-text : (entry : Entry) (es : List Entry) → All (λ text. text_of entry ≢ text) (map text_of es) → (b : Entry) → Contains es b → text_of entry ≢ text_of b
new-text entry es new b there =
    All-contains (λ (other : Entry). text_of entry ≢ text_of other) es b (all-unmap (λ text. text_of entry ≢ text) text_of es new) there

one-text-by : (entry : Entry) (es : List Entry) → All (λ text. text_of entry ≢ text) (map text_of es) → (a b : Entry) → text_of a ≡ text_of b
    → (Contains es a → Contains es b → a ≡ b) → (entry ≡ a) ⊎ Contains es a → (entry ≡ b) ⊎ Contains es b → a ≡ b
one-text-by entry es new a b same later (inl is-a) (inl is-b) = sym is-a ∙ is-b
one-text-by entry es new a b same later (inl is-a) (inr second) = absurd (new-text entry es new b second (ap text_of is-a ∙ same))
one-text-by entry es new a b same later (inr first) (inl is-b) = absurd (new-text entry es new a first (ap text_of is-b ∙ sym same))
one-text-by entry es new a b same later (inr first) (inr second) = later first second

one-text : (es : List Entry) → AllDiffer (map text_of es) → (a b : Entry) → Contains es a → Contains es b → text_of a ≡ text_of b → a ≡ b
one-text [] differ a b in-a in-b same = absurd (let no : in-a.0 < 0 = in-a.1 in omega arith)
one-text (entry ∷ es) differ a b in-a in-b same =
    one-text-by entry es differ.0 a b same (λ first second. one-text es differ.1 a b first second same)
    (contains-cons entry es a in-a) (contains-cons entry es b in-b)

-- ---- scopes

module _ (scope : Option ℕ) where
  abbrev AtScope : NameKey → Type 0
  AtScope k = scope_of k ≡ scope

  entries-at : (es : List Entry) (keys : List NameKey) → map key_in es ≡ keys → All AtScope keys → All (λ entry. AtScope entry.0) es
  entries-at es keys are all =
      let P : List NameKey → Type 0 = λ ks. All AtScope ks in
      all-unmap AtScope key_in es (subst P (sym are) all)

  singles-in : {X : Type 0} (make : ℕ → NameKey) → ((i : ℕ) → scope_of (make i) ≡ scope) → (xs : List X) → All AtScope (key_of_each make xs)
  singles-in make is xs = each-all (λ i _. make i ∷ []) AtScope (λ i x. All-cons AtScope (make i) [] (is i) (All-nil AtScope)) 0 xs

argument-scope : (owner : BodyKey) (i : ℕ) → scope_of (argument_key owner i) ≡ None
argument-scope (body.Function handle) i = refl
argument-scope (body.EntryPoint entry) i = refl

local-scope : (owner : BodyKey) (i : ℕ) → scope_of (local_key owner i) ≡ None
local-scope (body.Function handle) i = refl
local-scope (body.EntryPoint entry) i = refl

own-scope : (owner : BodyKey) → scope_of (body_key owner) ≡ None
own-scope (body.Function handle) = refl
own-scope (body.EntryPoint entry) = refl

body-in : (owner : BodyKey) (whole : function.Function) → All (AtScope None) (keys_of_body owner whole)
body-in owner whole =
    All-cons (AtScope None) (body_key owner) _ (own-scope owner)
    (All-append (AtScope None) (key_of_each (argument_key owner) whole.arguments.items) (key_of_each (local_key owner) (values whole.local_variables))
    (singles-in None (argument_key owner) (argument-scope owner) whole.arguments.items)
    (singles-in None (local_key owner) (local-scope owner) (values whole.local_variables)))

members-in : (ty : ℕ) (contents : TypeInner) → All (AtScope (Some ty)) (keys_of_members ty contents)
members-in ty (inner.Struct members span) = singles-in (Some ty) (key.StructMember ty) (λ i. refl) members.items
members-in ty _ = All-nil (AtScope (Some ty))

others-in : (whole : the_module.Module) → All (AtScope None)
    (keys_of_entry_points whole.entry_points.items ++ (keys_of_functions (values whole.functions) ++ keys_of_constants whole))
others-in whole =
    let globals : List NameKey = key_of_each key.GlobalVariable (values whole.global_variables) in
    let constants : List NameKey = key_of_each key.Constant (values whole.constants) in
    let overrides : List NameKey = key_of_each key.Override (values whole.overrides) in
    All-append (AtScope None) (keys_of_entry_points whole.entry_points.items) (keys_of_functions (values whole.functions) ++ (globals ++ (constants ++ overrides)))
    (each-all (λ i (entry : entry_point.EntryPoint). keys_of_body (body.EntryPoint i) entry.function) (AtScope None) (λ i entry. body-in (body.EntryPoint i) entry.function) 0 whole.entry_points.items)
    (All-append (AtScope None) (keys_of_functions (values whole.functions)) (globals ++ (constants ++ overrides))
    (each-all (λ i (it : function.Function). keys_of_body (body.Function i) it) (AtScope None) (λ i it. body-in (body.Function i) it) 0 (values whole.functions))
    (All-append (AtScope None) globals (constants ++ overrides) (singles-in None key.GlobalVariable (λ i. refl) (values whole.global_variables))
    (All-append (AtScope None) constants overrides (singles-in None key.Constant (λ i. refl) (values whole.constants))
    (singles-in None key.Override (λ i. refl) (values whole.overrides)))))

some-one : (a b : ℕ) → Some a ≡ Some b → a ≡ b
some-one a b same = cc

module _ (reserved : Reserved) where
  -- the members of the types from a handle on are in no earlier scope
  members-later : (low start : ℕ) (types : List NamedType) (members : List (List Entry)) → low < start
      → AllZip (AreNamedAlone reserved) (each (λ ty (type : NamedType). member_declarations ty type.inner ∷ []) start types) members
      → All (λ entry. scope_of entry.0 ≢ Some low) (joined members)
  members-later low start [] [] less named = All-nil (λ (entry : Entry). scope_of entry.0 ≢ Some low)
  members-later low start [] (own ∷ members) less named = absurd named
  members-later low start (type ∷ types) [] less named = absurd named
  members-later low start (type ∷ types) (own ∷ members) less named =
      let at : All (λ (entry : Entry). scope_of entry.0 ≡ Some start) own =
      entries-at (Some start) own (keys_of_members start type.inner) (named.0.1.keys ∙ member-keys start type.inner) (members-in start type.inner) in
      let other : (entry : Entry) → scope_of entry.0 ≡ Some start → scope_of entry.0 ≢ Some low =
      λ entry is same. let equal : start ≡ low = some-one start low (sym is ∙ same) in omega arith in
      All-append (λ (entry : Entry). scope_of entry.0 ≢ Some low) own (joined members)
      (All-weaker (λ (entry : Entry). scope_of entry.0 ≡ Some start) (λ (entry : Entry). scope_of entry.0 ≢ Some low) other own at)
      (members-later low (start + 1) types members (omega arith) named.1)

  members-in-none : (start : ℕ) (types : List NamedType) (members : List (List Entry))
      → AllZip (AreNamedAlone reserved) (each (λ ty (type : NamedType). member_declarations ty type.inner ∷ []) start types) members
      → All (λ entry. scope_of entry.0 ≢ None) (joined members)
  members-in-none start [] [] named = All-nil (λ (entry : Entry). scope_of entry.0 ≢ None)
  members-in-none start [] (own ∷ members) named = absurd named
  members-in-none start (type ∷ types) [] named = absurd named
  members-in-none start (type ∷ types) (own ∷ members) named =
      let at : All (λ (entry : Entry). scope_of entry.0 ≡ Some start) own =
      entries-at (Some start) own (keys_of_members start type.inner) (named.0.1.keys ∙ member-keys start type.inner) (members-in start type.inner) in
      let other : (entry : Entry) → scope_of entry.0 ≡ Some start → scope_of entry.0 ≢ None = λ entry is same. some-none start (sym is ∙ same) in
      All-append (λ (entry : Entry). scope_of entry.0 ≢ None) own (joined members)
      (All-weaker (λ (entry : Entry). scope_of entry.0 ≡ Some start) (λ (entry : Entry). scope_of entry.0 ≢ None) other own at)
      (members-in-none (start + 1) types members named.1)
    where
      some-none : (n : ℕ) → Some n ≡ None → ⊥
      some-none n same = cc

  abbrev MembersNamed : ℕ → List NamedType → List (List Entry) → Type 0
  MembersNamed start types members = AllZip (AreNamedAlone reserved) (each (λ ty (type : NamedType). member_declarations ty type.inner ∷ []) start types) members

  member-at : (start : ℕ) (type : NamedType) (own : List Entry) → AreNamedAlone reserved (member_declarations start type.inner) own
      → (e : Entry) → Contains own e → scope_of e.0 ≡ Some start
  member-at start type own named e there =
      All-contains (λ (entry : Entry). scope_of entry.0 ≡ Some start) own e
      (entries-at (Some start) own (keys_of_members start type.inner) (named.1.keys ∙ member-keys start type.inner) (members-in start type.inner)) there

  member-after : (start : ℕ) (types : List NamedType) (members : List (List Entry)) → MembersNamed (start + 1) types members
      → (e : Entry) → Contains (joined members) e → scope_of e.0 ≢ Some start
  member-after start types members named e there =
      All-contains (λ (entry : Entry). scope_of entry.0 ≢ Some start) (joined members) e
      (members-later start (start + 1) types members (omega arith) named) there

  one-member-by : (start : ℕ) (type : NamedType) (types : List NamedType) (own : List Entry) (members : List (List Entry))
      → AreNamedAlone reserved (member_declarations start type.inner) own → MembersNamed (start + 1) types members
      → (a b : Entry) → scope_of a.0 ≡ scope_of b.0 → text_of a ≡ text_of b → (Contains (joined members) a → Contains (joined members) b → a ≡ b)
      → Contains own a ⊎ Contains (joined members) a → Contains own b ⊎ Contains (joined members) b → a ≡ b
  one-member-by start type types own members named more a b scope same later (inl first) (inl second) =
      one-text own (names-differ reserved unused named.0 _ (map text_of own) named.1.names) a b first second same
  one-member-by start type types own members named more a b scope same later (inl first) (inr second) =
      absurd (member-after start types members more b second (sym scope ∙ member-at start type own named a first))
  one-member-by start type types own members named more a b scope same later (inr first) (inl second) =
      absurd (member-after start types members more a first (scope ∙ member-at start type own named b second))
  one-member-by start type types own members named more a b scope same later (inr first) (inr second) = later first second

  one-member : (start : ℕ) (types : List NamedType) (members : List (List Entry)) → MembersNamed start types members
      → (a b : Entry) → Contains (joined members) a → Contains (joined members) b → scope_of a.0 ≡ scope_of b.0 → text_of a ≡ text_of b → a ≡ b
  one-member start [] [] named a b in-a in-b scope same = absurd (let no : in-a.0 < 0 = in-a.1 in omega arith)
  one-member start [] (own ∷ members) named a b in-a in-b scope same = absurd named
  one-member start (type ∷ types) [] named a b in-a in-b scope same = absurd named
  one-member start (type ∷ types) (own ∷ members) named a b in-a in-b scope same =
      one-member-by start type types own members named.0 named.1 a b scope same
      (λ first second. one-member (start + 1) types members named.1 a b first second scope same)
      (Contains-append_cases own (joined members) a in-a) (Contains-append_cases own (joined members) b in-b)

  module _ (whole : the_module.Module) (entries : List Entry) (after : Counts) (names : NamesModule reserved whole entries after) where
    abbrev outer : List Entry
    outer = names.types ++ names.others

    outer-named : AreNamed reserved unused (type_declarations whole ++ other_declarations names.types whole) outer after
    outer-named = are-named-append reserved unused names.between after (type_declarations whole) (other_declarations names.types whole) names.types names.others names.named-types names.named-others

    outer-at : All (λ (entry : Entry). scope_of entry.0 ≡ None) outer
    outer-at =
        All-append (λ (entry : Entry). scope_of entry.0 ≡ None) names.types names.others
        (entries-at None names.types (key_of_each key.«Type» (values whole.types)) (names.named-types.keys ∙ type-keys whole) (singles-in None key.«Type» (λ i. refl) (values whole.types)))
        (entries-at None names.others _ (names.named-others.keys ∙ other-keys names.types whole) (others-in whole))

    one-name : (a b : Entry) → Contains entries a → Contains entries b → scope_of a.0 ≡ scope_of b.0 → text_of a ≡ text_of b → a ≡ b
    one-name a b in-a in-b scope same = by (parts a in-a) (parts b in-b)
      where
        parts : (e : Entry) → Contains entries e → Contains outer e ⊎ Contains (joined names.members) e
        parts e there =
            let P : List Entry → Type 0 = λ them. Contains them e in
            Contains-append_cases outer (joined names.members) e
            (subst P (names.are ∙ sym (append_assoc names.types names.others (joined names.members))) there)

        at : (e : Entry) → Contains outer e → scope_of e.0 ≡ None
        at e there = All-contains (λ (entry : Entry). scope_of entry.0 ≡ None) outer e outer-at there

        inside : (e : Entry) → Contains (joined names.members) e → scope_of e.0 ≢ None
        inside e there = All-contains (λ (entry : Entry). scope_of entry.0 ≢ None) (joined names.members) e
            (members-in-none 0 (values whole.types) names.members names.named-members) there

        by : Contains outer a ⊎ Contains (joined names.members) a → Contains outer b ⊎ Contains (joined names.members) b → a ≡ b
        by (inl first) (inl second) = one-text outer (names-differ reserved unused after _ (map text_of outer) outer-named.names) a b first second same
        by (inl first) (inr second) = absurd (inside b second (sym scope ∙ at a first))
        by (inr first) (inl second) = absurd (inside a first (scope ∙ at b second))
        by (inr first) (inr second) = one-member 0 (values whole.types) names.members names.named-members a b first second scope same

pub module-names-differ : ModuleNamesDiffer
module-names-differ reserved whole entries after names a b in-a in-b scope differ same =
    differ (ap key_in (one-name reserved whole entries after names a b in-a in-b scope same))
