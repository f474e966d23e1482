-- Names that were added, one after another.
use Rattle.std.proofs.Common.{◌≡◌, ℕ, ◌+◌, ◌≤◌, List, [], ◌∷◌, ◌++◌, Some, length, map, refl, ap, sym, ◌∙◌, subst, take, append_assoc, append-nil}
use Rattle.std.specs.List.{AllZip, flat_map, slice_get}
use Rattle.std.specs.Prelude.{string_bytes}
use Rattle.std.specs.declared.string.String.{String}
use Rattle.std.specs.declared.alloc.Global.{Global}
use Rattle.std.proofs.lemmas.List.{map-append, take_all}
use Rattle.std.proofs.lemmas.Grind.{flat_map-append}
use Rattle.naga_namer.specs.Declarations.{Declaration, Entry, each, keys_of_declarations, text_of}
use Rattle.naga_namer.specs.ModuleNames.{AddsNames, AddsScopes, AreNamed, AreNamedAlone}
use Rattle.naga_namer.specs.Names.{Counts, GetsName, GetNames, Naming, Reserved, unused}
use Rattle.naga_namer.specs.declared.name_key.NameKey.{NameKey}
use Rattle.naga_namer.proofs.EachLemmas.{each-turn}

abbrev key_of : Entry → NameKey
key_of entry = entry.0

abbrev label_of : Declaration → List ℕ
label_of declaration = declaration.1

pub get-names-append : (reserved : Reserved) (before middle after : Counts) (labels more names others : List (List ℕ))
    → GetNames reserved before labels names middle → GetNames reserved middle more others after
    → GetNames reserved before (labels ++ more) (names ++ others) after
get-names-append reserved before middle after [] more [] others first second =
    let P : Counts → Type 0 = λ counts. GetNames reserved counts more others after in
    subst P first second
get-names-append reserved before middle after [] more (name ∷ names) others first second = absurd first
get-names-append reserved before middle after (label ∷ labels) more [] others first second = absurd first
get-names-append reserved before middle after (label ∷ labels) more (name ∷ names) others first second =
    (first.0, first.1, get-names-append reserved first.0 middle after labels more names others first.2 second)

module _ (reserved : Reserved) (before middle after : Counts) where
  pub are-named-append : (declarations more : List Declaration) (entries others : List Entry)
      → AreNamed reserved before declarations entries middle → AreNamed reserved middle more others after
      → AreNamed reserved before (declarations ++ more) (entries ++ others) after
  are-named-append declarations more entries others first second =
      let keys : map key_of (entries ++ others) ≡ keys_of_declarations (declarations ++ more) =
      map-append key_of entries others
      ∙ ap (λ (ks : List NameKey). ks ++ map key_of others) first.keys
      ∙ ap (λ (ks : List NameKey). keys_of_declarations declarations ++ ks) second.keys
      ∙ sym (map-append (λ (declaration : Declaration). declaration.0) declarations more) in
      let all : GetNames reserved before (map label_of declarations ++ map label_of more) (map text_of entries ++ map text_of others) after =
      get-names-append reserved before middle after (map label_of declarations) (map label_of more) (map text_of entries) (map text_of others) first.names second.names in
      let P : List (List ℕ) → Type 0 = λ labels. GetNames reserved before labels (map text_of entries ++ map text_of others) after in
      let labelled : GetNames reserved before (map label_of (declarations ++ more)) (map text_of entries ++ map text_of others) after =
      subst P (sym (map-append label_of declarations more)) all in
      let Q : List (List ℕ) → Type 0 = λ names. GetNames reserved before (map label_of (declarations ++ more)) names after in
      record { keys = keys; names = subst Q (sym (map-append text_of entries others)) labelled }

-- nothing was added
pub adds-nothing : (namer : Naming) (entries : List Entry) → AddsNames namer entries [] namer entries
adds-nothing namer entries =
    record { added = []; are = sym (append-nil entries); named = record { keys = refl; names = refl }; reserved = refl }

-- a name was added
pub adds-one : (before after : Naming) (old new : List Entry) (key : NameKey) (label : List ℕ) (name : String Global)
    → GetsName before.reserved before.counts label (string_bytes name) after.counts → after.reserved ≡ before.reserved
    → new ≡ old ++ (key, name) ∷ [] → AddsNames before old ((key, label) ∷ []) after new
adds-one before after old new key label name named reserved are =
    record { added = (key, name) ∷ []; are = are; named = record { keys = refl; names = (after.counts, named, refl) }; reserved = reserved }

-- names were added, and then others
pub adds-both : (before middle after : Naming) (old between new : List Entry) (declarations more : List Declaration)
    → AddsNames before old declarations middle between → AddsNames middle between more after new
    → AddsNames before old (declarations ++ more) after new
adds-both before middle after old between new declarations more first second =
    let P : Reserved → Type 0 = λ reserved. AreNamed reserved middle.counts more second.added after.counts in
    record {
      added = first.added ++ second.added;
      are = second.are ∙ ap (λ (entries : List Entry). entries ++ second.added) first.are ∙ append_assoc old first.added second.added;
      named = are-named-append before.reserved before.counts middle.counts after.counts declarations more first.added second.added first.named (subst P first.reserved second.named);
      reserved = second.reserved ∙ first.reserved;
    }

-- names for one more item were added
pub adds-more : {A : Type 0} (make : ℕ → A → List Declaration) (xs : List A) (i : ℕ) (x : A) (before middle after : Naming) (old between new : List Entry)
    → slice_get xs i ≡ Some x → AddsNames before old (each make 0 (take i xs)) middle between → AddsNames middle between (make i x) after new
    → AddsNames before old (each make 0 (take (i + 1) xs)) after new
adds-more make xs i x before middle after old between new found first second =
    let P : List Declaration → Type 0 = λ declarations. AddsNames before old declarations after new in
    let grown : each make 0 (take (i + 1) xs) ≡ each make 0 (take i xs) ++ make i x = each-turn make xs i x found in
    subst P (sym grown) (adds-both before middle after old between new (each make 0 (take i xs)) (make i x) first second)

-- names for all items were added
pub adds-all : {A : Type 0} (make : ℕ → A → List Declaration) (xs : List A) (i : ℕ) (before after : Naming) (old new : List Entry)
    → length xs ≤ i → AddsNames before old (each make 0 (take i xs)) after new → AddsNames before old (each make 0 xs) after new
adds-all {A} make xs i before after old new past first =
    let P : List A → Type 0 = λ items. AddsNames before old (each make 0 items) after new in
    subst P (take_all i xs past) first

-- ---- scopes

all-zip-append : {A B : Type 0} (R : A → B → Type 0) (xs more : List A) (ys others : List B)
    → AllZip R xs ys → AllZip R more others → AllZip R (xs ++ more) (ys ++ others)
all-zip-append R [] more [] others first second = second
all-zip-append R [] more (y ∷ ys) others first second = absurd first
all-zip-append R (x ∷ xs) more [] others first second = absurd first
all-zip-append R (x ∷ xs) more (y ∷ ys) others first second = (first.0, all-zip-append R xs more ys others first.1 second)

abbrev joined : List (List Entry) → List Entry
joined scopes = flat_map (λ (entries : List Entry). entries) scopes

pub adds-no-scopes : (reserved : Reserved) (entries : List Entry) → AddsScopes reserved entries [] entries
adds-no-scopes reserved entries = record { added = []; are = sym (append-nil entries); named = tt }

-- the names of one more scope were added
pub adds-scope : (reserved : Reserved) (before after : Naming) (old between new : List Entry) (scopes : List (List Declaration)) (scope : List Declaration)
    → before.reserved ≡ reserved → before.counts ≡ unused
    → AddsScopes reserved old scopes between → AddsNames before between scope after new
    → AddsScopes reserved old (scopes ++ scope ∷ []) new
adds-scope reserved before after old between new scopes scope same none first second =
    let P : Reserved → Type 0 = λ it. AreNamed it before.counts scope second.added after.counts in
    let Q : Counts → Type 0 = λ counts. AreNamed reserved counts scope second.added after.counts in
    let alone : AreNamedAlone reserved scope second.added = (after.counts, subst Q none (subst P same second.named)) in
    let joins : joined (first.added ++ second.added ∷ []) ≡ joined first.added ++ second.added =
    flat_map-append (λ (entries : List Entry). entries) first.added (second.added ∷ [])
    ∙ ap (λ (last : List Entry). joined first.added ++ last) (append-nil second.added) in
    record {
      added = first.added ++ second.added ∷ [];
      are = second.are ∙ ap (λ (entries : List Entry). entries ++ second.added) first.are
          ∙ append_assoc old (joined first.added) second.added ∙ ap (λ (entries : List Entry). old ++ entries) (sym joins);
      named = all-zip-append (AreNamedAlone reserved) scopes (scope ∷ []) first.added (second.added ∷ []) first.named (alone, tt);
    }

pub adds-more-scopes : {A : Type 0} (make : ℕ → A → List Declaration) (xs : List A) (i : ℕ) (x : A) (reserved : Reserved) (before after : Naming) (old between new : List Entry)
    → slice_get xs i ≡ Some x → before.reserved ≡ reserved → before.counts ≡ unused
    → AddsScopes reserved old (each (λ k y. make k y ∷ []) 0 (take i xs)) between → AddsNames before between (make i x) after new
    → AddsScopes reserved old (each (λ k y. make k y ∷ []) 0 (take (i + 1) xs)) new
adds-more-scopes {A} make xs i x reserved before after old between new found same none first second =
    let scopes : ℕ → A → List (List Declaration) = λ k y. make k y ∷ [] in
    let P : List (List Declaration) → Type 0 = λ them. AddsScopes reserved old them new in
    let grown : each scopes 0 (take (i + 1) xs) ≡ each scopes 0 (take i xs) ++ make i x ∷ [] = each-turn scopes xs i x found in
    subst P (sym grown) (adds-scope reserved before after old between new (each scopes 0 (take i xs)) (make i x) same none first second)

pub adds-all-scopes : {A : Type 0} (make : ℕ → A → List (List Declaration)) (xs : List A) (i : ℕ) (reserved : Reserved) (old new : List Entry)
    → length xs ≤ i → AddsScopes reserved old (each make 0 (take i xs)) new → AddsScopes reserved old (each make 0 xs) new
adds-all-scopes {A} make xs i reserved old new past first =
    let P : List A → Type 0 = λ items. AddsScopes reserved old (each make 0 items) new in
    subst P (take_all i xs past) first
