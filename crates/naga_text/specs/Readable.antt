-- Texts that only show themselves.
use Rattle.std.specs.Prelude.{◌≡◌, ℕ, List, ◌==◌, ◌||◌, ◌++◌, codes, Bool, true, encode_utf8_all}
use Rattle.std.specs.List.{list_all}
use Rattle.naga_text.specs.Escapes.{is_plain}

-- the text is the encoding of characters that all pass a test
pub record Spells (test : ℕ → Bool) (text : List ℕ) : Type 0 where
  pub characters : List ℕ
  pub encoded : encode_utf8_all characters ≡ text
  pub pass : list_all test characters ≡ true

-- the text contains no control character, no separator, and no character that shows nothing
abbrev pub IsPlain : List ℕ → Type 0
IsPlain = Spells is_plain

-- the text contains none of these but newlines
abbrev pub IsReadable : List ℕ → Type 0
IsReadable = Spells (λ c. (c == 10) || is_plain c)

-- the text is a line: its only newline is at its end
abbrev pub IsLine : List ℕ → Type 0
IsLine line = (content : List ℕ) × IsPlain content × (line ≡ content ++ codes "\n")
