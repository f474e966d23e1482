-- In a module whose labels can all stay, each key has its label as its name.
use Rattle.std.proofs.Common.{◌≡◌, ◌≢◌, ℕ, ◌+◌, List, [], ◌∷◌, ◌++◌, Bool, true, false, All, cond, map, refl, ap, sym, ◌∙◌, append_assoc}
use Rattle.std.specs.List.{AllZip, flat_map}
use Rattle.std.specs.Str.{bytes_eq}
use Rattle.std.proofs.lemmas.List.{map-append}
use Rattle.std.proofs.lemmas.List.Elements.{All-cons, All-head, All-nil, All-tail, All-weaker}
use Rattle.std.proofs.lemmas.Slice.Eq.{bytes_eq-Decides}
use Rattle.naga_arena.specs.Arena.{values}
use Rattle.naga_namer.specs.Bases.{base_of}
use Rattle.naga_namer.specs.Declarations.{Declaration, Entry, keys_of_declarations, labels_of_declarations, member_scopes, other_declarations, text_of, type_declarations}
use Rattle.naga_namer.specs.ModuleNames.{AreNamed, AreNamedAlone, PlainModulesStay, as_declaration}
use Rattle.naga_namer.specs.Names.{Counts, GetsName, GetNames, Reserved, unused}
use Rattle.naga_namer.specs.Scopes.{AllDiffer, ArePlain, IsPlain}
use Rattle.naga_namer.specs.declared.name_key.NameKey.{NameKey}
use Rattle.naga_namer.proofs.AddsNamesLemmas.{are-named-append}
use Rattle.naga_namer.proofs.InsertsLemmas.{all-both}
use Rattle.naga_namer.proofs.NamesModuleLemmas.{joined, key_in}
use Rattle.naga_namer.proofs.PlainNamesStayLemmas.{base-plain, plain-names-stay}

not-true : (b : Bool) → (b ≡ true → ⊥) → b ≡ false
not-true true never = absurd (never refl)
not-true false never = refl

-- no base is counted in the beginning
all-unused : (labels : List (List ℕ)) → All (λ label. unused label ≡ 0) labels
all-unused [] = All-nil (λ label. unused label ≡ 0)
all-unused (label ∷ labels) = All-cons (λ other. unused other ≡ 0) label labels refl (all-unused labels)

-- keys and names by themselves
pair-up : (declarations : List Declaration) (entries : List Entry) → map key_in entries ≡ keys_of_declarations declarations
    → map text_of entries ≡ labels_of_declarations declarations → map as_declaration entries ≡ declarations
pair-up [] [] keys labels = refl
pair-up [] (entry ∷ entries) keys labels =
    absurd (let none : entry.0 ∷ map key_in entries ≡ [] = keys in cc)
pair-up (declaration ∷ declarations) [] keys labels =
    absurd (let none : [] ≡ declaration.0 ∷ keys_of_declarations declarations = keys in cc)
pair-up (declaration ∷ declarations) (entry ∷ entries) keys labels =
    let first : entry.0 ∷ map key_in entries ≡ declaration.0 ∷ keys_of_declarations declarations = keys in
    let second : text_of entry ∷ map text_of entries ≡ declaration.1 ∷ labels_of_declarations declarations = labels in
    let key : entry.0 ≡ declaration.0 = cc in
    let label : text_of entry ≡ declaration.1 = cc in
    let other-keys : map key_in entries ≡ keys_of_declarations declarations = cc in
    let other-labels : map text_of entries ≡ labels_of_declarations declarations = cc in
    let rest : map as_declaration entries ≡ declarations = pair-up declarations entries other-keys other-labels in
    ap (λ (k : NameKey). (k, text_of entry) ∷ map as_declaration entries) key
    ∙ ap (λ (text : List ℕ). (declaration.0, text) ∷ map as_declaration entries) label
    ∙ ap (λ (them : List Declaration). declaration ∷ them) rest

module _ (reserved : Reserved) where
  -- another label is not counted with this one
  still-unused : (before after : Counts) (label name : List ℕ) → IsPlain reserved label → GetsName reserved before label name after
      → (other : List ℕ) → (label ≢ other) × (before other ≡ 0) → after other ≡ 0
  still-unused before after label name plain names other both =
      let own : List ℕ = base_of reserved.prefixes label in
      let differs : bytes_eq own other ≡ false =
      not-true (bytes_eq own other) (λ e. both.0 (sym (base-plain reserved label plain) ∙ (bytes_eq-Decides own other).0 e)) in
      names.counted other ∙ ap (λ (b : Bool). cond b (names.number + 1) (before other)) differs ∙ both.1

  labels-stay : (before after : Counts) (labels names : List (List ℕ)) → All (IsPlain reserved) labels → AllDiffer labels
      → All (λ label. before label ≡ 0) labels → GetNames reserved before labels names after → names ≡ labels
  labels-stay before after [] [] plain differ free each = refl
  labels-stay before after [] (name ∷ names) plain differ free each = absurd each
  labels-stay before after (label ∷ labels) [] plain differ free each = absurd each
  labels-stay before after (label ∷ labels) (name ∷ names) plain differ free each =
      let own : IsPlain reserved label = All-head (IsPlain reserved) label labels plain in
      let here : name ≡ label =
      plain-names-stay reserved before each.0 label name own (All-head (λ other. before other ≡ 0) label labels free) each.1 in
      let later : All (λ other. each.0 other ≡ 0) labels =
      All-weaker (λ other. (label ≢ other) × (before other ≡ 0)) (λ other. each.0 other ≡ 0)
      (still-unused before each.0 label name own each.1) labels
      (all-both (λ other. label ≢ other) (λ other. before other ≡ 0) labels differ.0 (All-tail (λ other. before other ≡ 0) label labels free)) in
      let rest : names ≡ labels =
      labels-stay each.0 after labels names (All-tail (IsPlain reserved) label labels plain) differ.1 later each.2 in
      ap (λ (text : List ℕ). text ∷ names) here ∙ ap (λ (them : List (List ℕ)). label ∷ them) rest

  scope-stays : (declarations : List Declaration) (entries : List Entry) (after : Counts) → ArePlain reserved (labels_of_declarations declarations)
      → AreNamed reserved unused declarations entries after → map as_declaration entries ≡ declarations
  scope-stays declarations entries after plain named =
      pair-up declarations entries named.keys
      (labels-stay unused after (labels_of_declarations declarations) (map text_of entries) plain.plain plain.differ
      (all-unused (labels_of_declarations declarations)) named.names)

  abbrev IsPlainScope : List Declaration → Type 0
  IsPlainScope scope = ArePlain reserved (labels_of_declarations scope)

  members-stay : (scopes : List (List Declaration)) (members : List (List Entry)) → All IsPlainScope scopes
      → AllZip (AreNamedAlone reserved) scopes members → map as_declaration (joined members) ≡ flat_map (λ scope. scope) scopes
  members-stay [] [] plain named = refl
  members-stay [] (own ∷ members) plain named = absurd named
  members-stay (scope ∷ scopes) [] plain named = absurd named
  members-stay (scope ∷ scopes) (own ∷ members) plain named =
      map-append as_declaration own (joined members)
      ∙ ap (λ (them : List Declaration). them ++ map as_declaration (joined members))
      (scope-stays scope own named.0.0 (All-head IsPlainScope scope scopes plain) named.0.1)
      ∙ ap (λ (them : List Declaration). scope ++ them) (members-stay scopes members (All-tail IsPlainScope scope scopes plain) named.1)

pub plain-modules-stay : PlainModulesStay
plain-modules-stay reserved whole entries after names plain =
    let outer : List Declaration = type_declarations whole ++ other_declarations names.types whole in
    let inner : List (List Declaration) = member_scopes (values whole.types) in
    let named : AreNamed reserved unused outer (names.types ++ names.others) after =
    are-named-append reserved unused names.between after (type_declarations whole) (other_declarations names.types whole)
    names.types names.others names.named-types names.named-others in
    ap (map as_declaration) (names.are ∙ sym (append_assoc names.types names.others (joined names.members)))
    ∙ map-append as_declaration (names.types ++ names.others) (joined names.members)
    ∙ ap (λ (them : List Declaration). them ++ map as_declaration (joined names.members))
    (scope-stays reserved outer (names.types ++ names.others) after (All-head (IsPlainScope reserved) outer inner plain) named)
    ∙ ap (λ (them : List Declaration). outer ++ them)
    (members-stay reserved inner names.members (All-tail (IsPlainScope reserved) outer inner plain) names.named-members)
