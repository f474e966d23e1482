-- What the rest of a text must be after each state of the automaton. Only private clauses cite it.
use Rattle.std.specs.Prelude.{◌≡◌, ℕ, ◌-◌, ◌<◌, ◌≤◌, List, [], ◌∷◌, ◌++◌, length, take, drop, nat_eq, Bool, true, false, ◌&&◌, Option, Some, None, option_and_then, is_some, ⊤}
use Rattle.std.specs.List.{starts_with}
use Rattle.json.specs.Ascii as ascii
use Rattle.json.specs.Json.{items, members, value}
use Rattle.json.specs.Lex.{lex, punctuate, fresh, after_value, after_comma, after_key}
use Rattle.json.specs.Lex as lexer
use Rattle.json.specs.Text.{content, plain, after_backslash, after_u, after_high}
use Rattle.json.specs.Token.{Token}
use Rattle.json.specs.Word.{after_digits, after_exponent, after_fraction, after_sign, after_whole, ends_word}
use Rattle.json_fault.specs.Document.{document, max_depth}
use Rattle.json_fault.specs.declared.mode.Frame.{Frame}
use Rattle.json_fault.specs.declared.mode.Frame.TheVariants as frames
use Rattle.json_fault.specs.declared.mode.Mode.{Mode}
use Rattle.json_fault.specs.declared.mode.Mode.TheVariants.{Value, FirstItem, FirstKey, Key, Colon, After, InKey, InString, InNumber, InWord}
use Rattle.json_fault.specs.declared.mode.Number.{Number}
use Rattle.json_fault.specs.declared.mode.Number.TheVariants as numbers
use Rattle.json_fault.specs.declared.mode.Within.{Within}
use Rattle.json_fault.specs.declared.mode.Within.TheVariants as strings
use Rattle.json_fault.specs.declared.mode.Word.{Word}
use Rattle.json_fault.specs.declared.mode.Word.TheVariants as words

-- the tokens that a part leaves go on well, if it was there
abbrev pub rest_is : {A : Type 0} → (List Token → Bool) → Option (A × List Token) → Bool
rest_is go None = false
rest_is go (Some p) = go p.1

-- no token is left
abbrev pub is_end : List Token → Bool
is_end [] = true
is_end (t ∷ ts) = false

-- The depth that is left inside these lists and objects, of which the innermost comes first.
abbrev pub depth_in : List Frame → ℕ
depth_in outer = max_depth - length outer

-- after a value, or at the start of the innermost list or object, the tokens end each of the lists and objects
abbrev pub goes_on : List Frame → List Token → Bool
goes_on [] ts = is_end ts
goes_on (frames.List ∷ outer) ts =
    rest_is (λ r. goes_on outer r) (items (value (depth_in (frames.List ∷ outer))) (length ts) ts)
goes_on (frames.Object ∷ outer) ts =
    rest_is (λ r. goes_on outer r) (members (value (depth_in (frames.Object ∷ outer))) (length ts) ts)

-- the tokens begin with a value, and go on after it
abbrev pub begins : List Frame → List Token → Bool
begins outer ts = rest_is (goes_on outer) (value (depth_in outer) ts)

-- whether the rest of a string is one, for what it had so far
abbrev pub is_string : Within → List ℕ → Bool
is_string strings.Plain xs = is_some (content plain xs)
is_string strings.Backslash xs = is_some (content after_backslash xs)
is_string strings.Unit xs = is_some (content after_u xs)
is_string strings.UnitD xs = is_some (content after_u (100 ∷ xs))
is_string strings.Unit1 xs = is_some (content after_u (48 ∷ xs))
is_string strings.Unit2 xs = is_some (content after_u (48 ∷ 48 ∷ xs))
is_string strings.Unit3 xs = is_some (content after_u (48 ∷ 48 ∷ 48 ∷ xs))
is_string strings.High2 xs = is_some (content after_u (100 ∷ 56 ∷ xs))
is_string strings.High3 xs = is_some (content after_u (100 ∷ 56 ∷ 48 ∷ xs))
is_string strings.High xs = is_some (content (after_high 0xd800) xs)
is_string strings.HighBackslash xs = is_some (content (after_high 0xd800) (92 ∷ xs))
is_string strings.Low xs = is_some (content (after_high 0xd800) (92 ∷ 117 ∷ xs))
is_string strings.LowD xs = is_some (content (after_high 0xd800) (92 ∷ 117 ∷ 100 ∷ xs))

-- the state in which the lexer is inside a string, for what the string had so far
abbrev pub string_mode : Within → lexer.Mode
string_mode strings.Backslash = lexer.in_escape
string_mode strings.HighBackslash = lexer.in_escape
string_mode part = lexer.in_string

-- what follows a number, for what it had so far
abbrev pub after_part : Number → List ℕ → Option (List ℕ)
after_part numbers.Minus xs = option_and_then after_exponent (option_and_then after_fraction (after_whole xs))
after_part numbers.Zero xs = option_and_then after_exponent (after_fraction xs)
after_part numbers.Whole xs = option_and_then after_exponent (option_and_then after_fraction (after_digits (48 ∷ xs)))
after_part numbers.Dot xs = option_and_then after_exponent (after_digits xs)
after_part numbers.Fraction xs = option_and_then after_exponent (after_digits (48 ∷ xs))
after_part numbers.Letter xs = after_digits (after_sign xs)
after_part numbers.Sign xs = after_digits xs
after_part numbers.Exponent xs = after_digits (48 ∷ xs)

-- a number is there, and a word ends after it
abbrev pub word_ends : Option (List ℕ) → Bool
word_ends None = false
word_ends (Some rest) = ends_word rest

-- the letters of a literal
abbrev pub text_of : Word → List ℕ
text_of words.True = ascii.true_text
text_of words.False = ascii.false_text
text_of words.Null = ascii.null_text

-- the text begins with this, and a word ends there
abbrev pub is_word : List ℕ → List ℕ → Bool
is_word name xs = starts_with nat_eq xs name && ends_word (drop (length name) xs)

-- Whether these bytes make JSON of a text that had all that the state says, inside these lists and objects.
abbrev pub completes : Mode → List Frame → List ℕ → Bool
completes Value outer xs = begins outer (punctuate after_comma (lex lexer.between xs))
completes FirstItem outer xs = goes_on outer (punctuate fresh (lex lexer.between xs))
completes FirstKey outer xs = goes_on outer (punctuate fresh (lex lexer.between xs))
completes Key outer xs = goes_on outer (punctuate after_comma (lex lexer.between xs))
completes Colon outer xs = begins outer (punctuate after_key (lex lexer.between xs))
completes After outer xs = goes_on outer (punctuate after_value (lex lexer.between xs))
completes (InKey part) outer xs = is_string part xs && begins outer (punctuate after_key (lex (string_mode part) xs))
completes (InString part) outer xs =
    is_string part xs && goes_on outer (punctuate after_value (lex (string_mode part) xs))
completes (InNumber part) outer xs =
    word_ends (after_part part xs) && goes_on outer (punctuate after_value (lex lexer.in_word xs))
completes (InWord word read) outer xs =
    is_word (drop read (text_of word)) xs && goes_on outer (punctuate after_value (lex lexer.in_word xs))

-- the innermost of these is a list
abbrev pub InList : List Frame → Type 0
InList [] = ⊥
InList (frames.List ∷ outer) = ⊤
InList (frames.Object ∷ outer) = ⊥

-- the innermost of these is an object
abbrev pub InObject : List Frame → Type 0
InObject [] = ⊥
InObject (frames.List ∷ outer) = ⊥
InObject (frames.Object ∷ outer) = ⊤

-- The state fits what is around it: a list at its first item, an object at a key. In a literal, a letter is left.
abbrev pub Suits : Mode → List Frame → Type 0
Suits Value outer = ⊤
Suits FirstItem outer = InList outer
Suits FirstKey outer = InObject outer
Suits Key outer = InObject outer
Suits Colon outer = ⊤
Suits After outer = ⊤
Suits (InKey part) outer = ⊤
Suits (InString part) outer = ⊤
Suits (InNumber part) outer = ⊤
Suits (InWord word read) outer = read < length (text_of word)

-- the state is one that the automaton reaches
pub record IsReached (mode : Mode) (outer : List Frame) : Type 0 where
  pub shallow : length outer ≤ max_depth
  pub suits : Suits mode outer

-- a number may end after this
abbrev pub ends_number : Number → Bool
ends_number numbers.Minus = false
ends_number numbers.Zero = true
ends_number numbers.Whole = true
ends_number numbers.Dot = false
ends_number numbers.Fraction = true
ends_number numbers.Letter = false
ends_number numbers.Sign = false
ends_number numbers.Exponent = true

-- a text may end here outside of lists and objects
abbrev pub is_value : Mode → Bool
is_value Value = false
is_value FirstItem = false
is_value FirstKey = false
is_value Key = false
is_value Colon = false
is_value After = true
is_value (InKey part) = false
is_value (InString part) = false
is_value (InNumber part) = ends_number part
is_value (InWord word read) = false

-- The automaton is in a state after the bytes before an offset: they go on to JSON by what completes the state.
pub record IsRead (text : List ℕ) (offset : ℕ) (mode : Mode) (outer : List Frame) : Type 0 where
  pub reached : IsReached mode outer
  pub same : (rest : List ℕ) → is_some (document (take offset text ++ rest)) ≡ completes mode outer rest
