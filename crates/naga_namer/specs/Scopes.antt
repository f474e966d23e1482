-- What names have in common.
use Rattle.std.specs.Prelude.{◌≡◌, ◌≢◌, ⊤, ℕ, List, [], ◌∷◌, ◌++◌, Bool, true, false, ◌||◌, ◌==◌, All, codes}
use Rattle.std.specs.Char.{is_ascii_alphanumeric, is_ascii_digit}
use Rattle.naga_namer.specs.Bases.{begin_alike, last_or, may_have_prefix, underscore}
use Rattle.naga_namer.specs.Names.{Counts, GetsName, GetNames, Reserved, is_marked, is_reserved}

-- the item is none of the list
abbrev pub IsNew : {A : Type 0} → A → List A → Type 0
IsNew item items = All (λ other. item ≢ other) items

-- no two items are the same
abbrev pub AllDiffer : {A : Type 0} → List A → Type 0
AllDiffer [] = ⊤
AllDiffer (item ∷ items) = IsNew item items × AllDiffer items

-- a letter, a digit or `_`
abbrev pub is_word_byte : ℕ → Bool
is_word_byte byte = is_ascii_alphanumeric byte || (byte == underscore)

-- Each byte is a letter, a digit or `_`, and no `_` follows a `_`, after this byte.
abbrev pub MayFollow : ℕ → List ℕ → Type 0
MayFollow before [] = ⊤
MayFollow before (byte ∷ rest) =
    (is_word_byte byte ≡ true) × (before ≡ underscore → byte ≢ underscore) × MayFollow byte rest

-- An identifier: letters, digits and `_`, neither beginning with a digit nor `_` alone, with no `_` after a `_`.
abbrev pub IsIdentifier : List ℕ → Type 0
IsIdentifier [] = ⊥
IsIdentifier (byte ∷ rest) =
    (is_ascii_digit byte ≡ false) × (byte ∷ rest ≢ underscore ∷ []) × MayFollow 0 (byte ∷ rest)

-- the text begins with the other one
abbrev pub BeginsWith : List ℕ → List ℕ → Type 0
BeginsWith text start = (rest : List ℕ) × (text ≡ start ++ rest)

-- No reserved prefix begins as `gen` does, or is the beginning of `gen`.
abbrev pub LeavesGen : Reserved → Type 0
LeavesGen reserved = All (λ prefix. begin_alike prefix (codes "gen") ≡ false) reserved.prefixes

-- The names in one scope differ.
abbrev pub NamesDiffer : Type 0
NamesDiffer = (reserved : Reserved) (before after : Counts) (labels names : List (List ℕ))
    → GetNames reserved before labels names after → AllDiffer names

-- Each name is an identifier.
abbrev pub NamesAreIdentifiers : Type 0
NamesAreIdentifiers = (reserved : Reserved) (before after : Counts) (labels names : List (List ℕ))
    → GetNames reserved before labels names after → All IsIdentifier names

-- No name is a reserved word.
abbrev pub NamesAreFree : Type 0
NamesAreFree = (reserved : Reserved) (before after : Counts) (labels names : List (List ℕ))
    → GetNames reserved before labels names after → All (λ name. is_reserved reserved name ≡ false) names

-- No name begins with a reserved prefix.
abbrev pub NamesAvoidPrefixes : Type 0
NamesAvoidPrefixes = (reserved : Reserved) → LeavesGen reserved → (before after : Counts) (labels names : List (List ℕ))
    → GetNames reserved before labels names after
    → All (λ name. All (λ prefix. BeginsWith name prefix → ⊥) reserved.prefixes) names

-- A label that can be kept: an identifier that ends neither in `_` nor in a digit, is not reserved and has no reserved prefix.
pub record IsPlain (reserved : Reserved) (label : List ℕ) : Type 0 where
  pub identifier : IsIdentifier label
  pub complete : last_or 0 label ≢ underscore
  pub unmarked : is_marked reserved label ≡ false
  pub unprefixed : may_have_prefix reserved.prefixes label ≡ false

-- Labels that can all be kept in one scope: each can, and no two are the same.
pub record ArePlain (reserved : Reserved) (labels : List (List ℕ)) : Type 0 where
  pub plain : All (IsPlain reserved) labels
  pub differ : AllDiffer labels

-- A label that can be kept is kept, if no earlier label had it as its base.
abbrev pub PlainNamesStay : Type 0
PlainNamesStay = (reserved : Reserved) (before after : Counts) (label name : List ℕ) → IsPlain reserved label
    → before label ≡ 0 → GetsName reserved before label name after → name ≡ label
