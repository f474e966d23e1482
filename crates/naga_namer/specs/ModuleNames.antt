-- The names of what a module declares.
use Rattle.std.specs.Prelude.{◌≡◌, ◌≢◌, ℕ, List, ◌∷◌, ◌++◌, false, All, Option, Some, None, map}
use Rattle.std.specs.List.{AllZip, Contains, flat_map}
use Rattle.naga_arena.specs.Arena.{values}
use Rattle.naga_ir.specs.declared.module.Module as the_module
use Rattle.naga_namer.specs.Declarations.{Declaration, Entry, keys_of_declarations, keys_of_module, labels_of_declarations, member_scopes, other_declarations, text_of, type_declarations}
use Rattle.naga_namer.specs.Names.{Counts, GetNames, Naming, Reserved, is_reserved, unused}
use Rattle.naga_namer.specs.Scopes.{AllDiffer, ArePlain, BeginsWith, IsIdentifier, LeavesGen}
use Rattle.naga_namer.specs.declared.name_key.NameKey.{NameKey}
use Rattle.naga_namer.specs.declared.name_key.NameKey.TheVariants as key

-- The declarations got these names, one after another, under their keys, and the counts before and after.
pub record AreNamed (reserved : Reserved) (before : Counts) (declarations : List Declaration) (entries : List Entry) (after : Counts) : Type 0 where
  pub keys : map (λ entry. entry.0) entries ≡ keys_of_declarations declarations
  pub names : GetNames reserved before (labels_of_declarations declarations) (map text_of entries) after

-- The declarations got names from a namer, which were added to the entries, and the namer before and after.
pub record AddsNames (before : Naming) (old : List Entry) (declarations : List Declaration) (after : Naming) (new : List Entry) : Type 0 where
  pub added : List Entry
  pub are : new ≡ old ++ added
  pub named : AreNamed before.reserved before.counts declarations added after.counts
  pub reserved : after.reserved ≡ before.reserved

-- The declarations of a scope of their own got these names.
abbrev pub AreNamedAlone : Reserved → List Declaration → List Entry → Type 0
AreNamedAlone reserved declarations entries = (after : Counts) × AreNamed reserved unused declarations entries after

-- The declarations of scopes got names, each scope by itself, which were added to the entries.
pub record AddsScopes (reserved : Reserved) (old : List Entry) (scopes : List (List Declaration)) (new : List Entry) : Type 0 where
  pub added : List (List Entry)
  pub are : new ≡ old ++ flat_map (λ entries. entries) added
  pub named : AllZip (AreNamedAlone reserved) scopes added

-- The entries are the names of a module, and the counts of its scope afterwards.
pub record NamesModule (reserved : Reserved) (whole : the_module.Module) (entries : List Entry) (after : Counts) : Type 0 where
  pub types : List Entry
  pub others : List Entry
  pub members : List (List Entry)
  pub are : entries ≡ types ++ (others ++ flat_map (λ scope. scope) members)
  pub between : Counts
  pub named-types : AreNamed reserved unused (type_declarations whole) types between
  pub named-others : AreNamed reserved between (other_declarations types whole) others after
  pub named-members : AllZip (AreNamedAlone reserved) (member_scopes (values whole.types)) members

-- The keys of a module differ.
abbrev pub KeysDiffer : Type 0
KeysDiffer = (whole : the_module.Module) → AllDiffer (keys_of_module whole)

-- the structure among whose members the key is, or `None` for a key of the scope of the module
abbrev pub scope_of : NameKey → Option ℕ
scope_of (key.StructMember ty index) = Some ty
scope_of _ = None

-- Two names in one scope of a module differ, if their keys do.
abbrev pub ModuleNamesDiffer : Type 0
ModuleNamesDiffer = (reserved : Reserved) (whole : the_module.Module) (entries : List Entry) (after : Counts)
    → NamesModule reserved whole entries after → (a b : Entry) → Contains entries a → Contains entries b
    → scope_of a.0 ≡ scope_of b.0 → a.0 ≢ b.0 → text_of a ≢ text_of b

-- The name is an identifier, and is not reserved.
abbrev pub IsName : Reserved → List ℕ → Type 0
IsName reserved name = IsIdentifier name × (is_reserved reserved name ≡ false)

-- Each name of a module is an identifier, and none is reserved.
abbrev pub ModuleNamesAreNames : Type 0
ModuleNamesAreNames = (reserved : Reserved) (whole : the_module.Module) (entries : List Entry) (after : Counts)
    → NamesModule reserved whole entries after → All (λ entry. IsName reserved (text_of entry)) entries

-- No name of a module begins with a reserved prefix.
abbrev pub ModuleNamesAvoidPrefixes : Type 0
ModuleNamesAvoidPrefixes = (reserved : Reserved) → LeavesGen reserved → (whole : the_module.Module) (entries : List Entry) (after : Counts)
    → NamesModule reserved whole entries after
    → All (λ entry. All (λ prefix. BeginsWith (text_of entry) prefix → ⊥) reserved.prefixes) entries

-- the scopes of a module, where the names of its types are given: that of all but the members, and one for each structure
abbrev pub scopes_of : (types : List Entry) → the_module.Module → List (List Declaration)
scopes_of types whole = (type_declarations whole ++ other_declarations types whole) ∷ member_scopes (values whole.types)

-- the key of an entry, with its name as the label
abbrev pub as_declaration : Entry → Declaration
as_declaration entry = (entry.0, text_of entry)

-- If the labels in each scope of a module can all be kept, each key has its label as its name.
abbrev pub PlainModulesStay : Type 0
PlainModulesStay = (reserved : Reserved) (whole : the_module.Module) (entries : List Entry) (after : Counts)
    (names : NamesModule reserved whole entries after)
    → All (λ scope. ArePlain reserved (labels_of_declarations scope)) (scopes_of names.types whole)
    → map as_declaration entries ≡ flat_map (λ scope. scope) (scopes_of names.types whole)
