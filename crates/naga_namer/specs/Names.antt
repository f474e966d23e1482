-- The names of a namer: a base, and the number of the name.
use Rattle.std.specs.Prelude.{◌≡◌, ℕ, zero, suc, ◌+◌, ◌<◌, ◌≤◌, ◌^◌, List, [], ◌∷◌, ◌++◌, Bool, true, false, ◌||◌, if◌then◌else◌, Option, Some, None, string_bytes}
use Rattle.std.specs.Char.{is_ascii_digit}
use Rattle.std.specs.Fmt.{decimal}
use Rattle.std.specs.List.{list_any}
use Rattle.std.specs.Str.{bytes_eq, str_eq_ignore_ascii_case}
use Rattle.std.specs.declared.string.String.{String}
use Rattle.std.specs.declared.alloc.Global.{Global}
use Rattle.naga_namer.specs.Bases.{base_of, last_or, underscore}

-- What a language reserves: words, words in whatever case, and beginnings of words.
pub record Reserved : Type 0 where
  pub keywords : List (List ℕ)
  pub builtins : List (List ℕ)
  pub case_insensitive : List (List ℕ)
  pub prefixes : List (List ℕ)

-- The text is one of the words.
abbrev pub is_reserved : Reserved → List ℕ → Bool
is_reserved reserved text = list_any (λ word. bytes_eq word text) reserved.keywords
    || (list_any (λ word. bytes_eq word text) reserved.builtins
    || list_any (λ word. str_eq_ignore_ascii_case word text) reserved.case_insensitive)

-- A base that is no name by itself: it ends in a digit, or is reserved.
abbrev pub is_marked : Reserved → List ℕ → Bool
is_marked reserved base = is_ascii_digit (last_or underscore base) || is_reserved reserved base

-- The name of a base with a number: for 0 the base itself, with `_` if it is marked; else the base, `_` and the number.
abbrev pub name_of : Reserved → (base : List ℕ) → (number : ℕ) → List ℕ
name_of reserved base zero = if is_marked reserved base then base ++ underscore ∷ [] else base
name_of reserved base (suc before) = base ++ underscore ∷ decimal (suc before)

-- `number` is the first one, from `start` on, whose name is not reserved.
pub record IsFirstFree (reserved : Reserved) (base : List ℕ) (start number : ℕ) : Type 0 where
  pub above : start ≤ number
  pub free : is_reserved reserved (name_of reserved base number) ≡ false
  pub first : (k : ℕ) → start ≤ k → k < number → is_reserved reserved (name_of reserved base k) ≡ true

-- The number from which the next name of each base is numbered: 0 for one without a name.
abbrev pub Counts : Type 0
Counts = List ℕ → ℕ

-- no base has a name
abbrev pub unused : Counts
unused base = zero

-- A namer: what its language reserves, and its counts.
pub record Naming : Type 0 where
  pub reserved : Reserved
  pub counts : Counts

-- the label, or the given one where there is none
abbrev pub label_or : List ℕ → Option (String Global) → List ℕ
label_or fallback (Some label) = string_bytes label
label_or fallback None = fallback

-- A label got this name, and the counts before and after.
pub record GetsName (reserved : Reserved) (before : Counts) (label name : List ℕ) (after : Counts) : Type 0 where
  pub number : ℕ
  pub small : number + 1 < 2 ^ 64
  pub free : IsFirstFree reserved (base_of reserved.prefixes label) (before (base_of reserved.prefixes label)) number
  pub is : name ≡ name_of reserved (base_of reserved.prefixes label) number
  pub counted : (base : List ℕ)
      → after base ≡ (if bytes_eq (base_of reserved.prefixes label) base then number + 1 else before base)

-- The labels got these names, one after another.
abbrev pub GetNames : Reserved → Counts → List (List ℕ) → List (List ℕ) → Counts → Type 0
GetNames reserved before [] [] after = after ≡ before
GetNames reserved before [] (name ∷ names) after = ⊥
GetNames reserved before (label ∷ labels) [] after = ⊥
GetNames reserved before (label ∷ labels) (name ∷ names) after =
    (middle : Counts) × GetsName reserved before label name middle × GetNames reserved middle labels names after
