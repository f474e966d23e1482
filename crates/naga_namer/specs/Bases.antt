-- The base of a name: what is made of a label, to which a number may be added.
use Rattle.std.specs.Prelude.{ℕ, ◌-◌, ◌==◌, ◌&&◌, ◌||◌, List, [], ◌∷◌, ◌++◌, Bool, false, if◌then◌else◌, chars, codes, fold, length, min, replicate, slice_index, take}
use Rattle.std.specs.Char.{is_ascii_alphanumeric}
use Rattle.std.specs.Char.Unicode.Numeric.{is_numeric}
use Rattle.std.specs.Fmt.{digits}
use Rattle.std.specs.List.{list_any}
use Rattle.std.specs.Str.{bytes_eq}

-- the byte of `_`
abbrev pub underscore : ℕ
underscore = 95

-- the last byte, or the given one where there is none
abbrev pub last_or : ℕ → List ℕ → ℕ
last_or default [] = default
last_or default (byte ∷ rest) = last_or byte rest

abbrev pub ends_in_underscore : List ℕ → Bool
ends_in_underscore base = last_or 0 base == underscore

-- the text, with `_` at its end
abbrev pub underscored : List ℕ → List ℕ
underscored base = if ends_in_underscore base then base else base ++ underscore ∷ []

-- the text, with `_` at its end, unless it is empty
abbrev pub separated : List ℕ → List ℕ
separated base = if last_or underscore base == underscore then base else base ++ underscore ∷ []

-- the characters that become `_`: `_`, `:`, `<`, `>` and `,`
abbrev pub separates : ℕ → Bool
separates c = (c == 95) || ((c == 58) || ((c == 60) || ((c == 62) || (c == 44))))

-- the code of a character, in at least four hexadecimal digits
abbrev pub code_digits : ℕ → List ℕ
code_digits c = replicate (4 - length (digits 16 false c)) 48 ++ digits 16 false c

-- a character that has no place in an identifier, by its code, as in `u00e9_`
abbrev pub code_text : ℕ → List ℕ
code_text c = codes "u" ++ code_digits c ++ codes "_"

-- The base after one more character of the label. Numeric characters at the beginning are left out, and so is a `_`
-- after a `_`.
abbrev pub appended : List ℕ → ℕ → List ℕ
appended base c =
    if (length base == 0) && is_numeric c then base
    else (if separates c then underscored base
    else (if is_ascii_alphanumeric c then base ++ c ∷ []
    else separated base ++ code_text c))

-- without the `_` at its end
abbrev pub trimmed : List ℕ → List ℕ
trimmed base = if ends_in_underscore base then take (length base - 1) base else base

-- `unnamed` for the empty text
abbrev pub or_unnamed : List ℕ → List ℕ
or_unnamed base = if length base == 0 then codes "unnamed" else base

-- the texts are the same, up to the end of the shorter one
abbrev pub begin_alike : List ℕ → List ℕ → Bool
begin_alike a b = bytes_eq (take (min (length a) (length b)) a) (take (min (length a) (length b)) b)

-- A name of this base could begin with one of the prefixes.
abbrev pub may_have_prefix : List (List ℕ) → List ℕ → Bool
may_have_prefix prefixes base = list_any (λ prefix. begin_alike prefix (base ++ underscore ∷ [])) prefixes

-- the base, behind `gen` and one `_`
abbrev pub generated : List ℕ → List ℕ
generated base = (if slice_index base 0 == underscore then codes "gen" else codes "gen_") ++ base

-- what a label becomes before the prefixes are considered
abbrev pub cleaned : List ℕ → List ℕ
cleaned label = or_unnamed (trimmed (fold appended [] (chars label)))

-- the base of the names of a label
abbrev pub base_of : (prefixes : List (List ℕ)) → (label : List ℕ) → List ℕ
base_of prefixes label =
    if may_have_prefix prefixes (cleaned label) then generated (cleaned label) else cleaned label
