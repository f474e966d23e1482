-- Lists of names of passes.
use Rattle.std.specs.Prelude.{◌≡◌, ◌≢◌, ◌==◌, ⊤, ℕ, List, ◌++◌, [], ◌∷◌, Option, None, Some, codes, map, string_bytes}
use Rattle.std.specs.Borrow.{Bor}
use Rattle.std.specs.List.{slice_split}
use Rattle.std.specs.Str.{trim}
use Rattle.naga_passes.specs.Pass.{name_of}
use Rattle.naga_passes.specs.declared.names.NamesError.{NamesError}
use Rattle.naga_passes.specs.declared.names.NamesError.TheVariants.{Memory, Unknown}
use Rattle.naga_passes.specs.declared.names.TheConstants.{PASS_NAMES}
use Rattle.naga_passes.specs.declared.pass.Pass.{Pass}

-- the code of the character `,`
abbrev pub comma : ℕ
comma = 44

-- the parts of the text between its commas
abbrev pub parts_in : List ℕ → List (List ℕ)
parts_in text = slice_split (λ byte. byte == comma) text

-- the names in the text: its parts between commas, without the white space around each
abbrev pub names_in : List ℕ → List (List ℕ)
names_in text = map trim (parts_in text)

-- the text lists the passes: the names in it are theirs
abbrev pub Lists : List Pass → (text : List ℕ) → Type 0
Lists passes text = map name_of passes ≡ names_in text

-- `name` is the first name in the text that is not that of a pass
pub record IsUnknown (text name : List ℕ) : Type 0 where
  pub before : List Pass
  pub others : List (List ℕ)
  pub names : names_in text ≡ map name_of before ++ name ∷ others
  pub unknown : (pass : Pass) → name_of pass ≢ name

-- The text may have this error: an allocation failed, or this is its first name that is not that of a pass.
abbrev pub IsFault : (text : List ℕ) → NamesError → Type 0
IsFault text Memory = ⊤
IsFault text (Unknown name) = IsUnknown text (string_bytes name)

-- This is the error of a name that is not that of a pass: it has the name, or an allocation failed.
abbrev pub IsErrorOf : (name : List ℕ) → NamesError → Type 0
IsErrorOf name Memory = ⊤
IsErrorOf name (Unknown named) = string_bytes named ≡ name

-- the message for a name that is not that of a pass: it ends with the names of all passes
abbrev pub unknown_text : (name : List ℕ) → List ℕ
unknown_text name = codes "unknown pass: " ++ (name ++ (codes " (passes: " ++ (PASS_NAMES.now ++ codes ")")))

-- the names in what is left of a text, if anything is
abbrev pub names_left : Option (Bor (List ℕ)) → List (List ℕ)
names_left None = []
names_left (Some rest) = names_in rest.now
