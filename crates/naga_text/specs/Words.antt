-- Words that follow one another.
use Rattle.std.specs.Prelude.{ℕ, List, [], ◌++◌, Bool, true, false, Option, Some, None, codes}
use Rattle.std.specs.Fmt.{decimal}
use Rattle.naga_text.specs.Escapes.{escaped}

-- a word, with a space before it
abbrev pub word : List ℕ → List ℕ
word name = codes " " ++ name

-- a word, if it is there
abbrev pub flag : Bool → List ℕ → List ℕ
flag true name = word name
flag false name = []

-- a number as a word
abbrev pub number : ℕ → List ℕ
number n = word (decimal n)

-- a number as a word, if there is one
abbrev pub optional_number : Option ℕ → List ℕ
optional_number (Some n) = number n
optional_number None = []

-- a word and a name after it, if there is a name
abbrev pub optional_name : List ℕ → Option (List ℕ) → List ℕ
optional_name what (Some name) = word what ++ word name
optional_name what None = []

-- a name in quotes, in which it is escaped, with a space before it
abbrev pub quoted : List ℕ → List ℕ
quoted name = codes " \"" ++ (escaped name ++ codes "\"")

-- a name in quotes, if there is one
abbrev pub name_text : Option (List ℕ) → List ℕ
name_text (Some name) = quoted name
name_text None = []
