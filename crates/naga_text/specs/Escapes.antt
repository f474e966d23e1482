-- How names and messages are written, so that each of their characters shows, and none moves the cursor, starts a line or
-- turns the direction of the text.
use Rattle.std.specs.Prelude.{ℕ, List, [], ◌∷◌, ◌++◌, ◌==◌, ◌||◌, Bool, false, not, if◌then◌else◌, chars, codes, encode_utf8, flat_map}
use Rattle.std.specs.Char.{is_control}
use Rattle.std.specs.Fmt.{digits}
use Rattle.std.specs.Int.{is_in_range}
use Rattle.std.specs.List.{list_any}

-- a character that ends a line: U+2028 or U+2029
abbrev pub is_separator : ℕ → Bool
is_separator c = is_in_range 0x2028 0x2029 c

-- the first and the last character of each range of Unicode's Default_Ignorable_Code_Point
abbrev pub ignorable_ranges : List (ℕ × ℕ)
ignorable_ranges =
    (0x00AD, 0x00AD) ∷ (0x034F, 0x034F) ∷ (0x061C, 0x061C) ∷ (0x115F, 0x1160) ∷ (0x17B4, 0x17B5) ∷ (0x180B, 0x180F)
    ∷ (0x200B, 0x200F) ∷ (0x202A, 0x202E) ∷ (0x2060, 0x206F) ∷ (0x3164, 0x3164) ∷ (0xFE00, 0xFE0F) ∷ (0xFEFF, 0xFEFF)
    ∷ (0xFFA0, 0xFFA0) ∷ (0xFFF0, 0xFFF8) ∷ (0x1BCA0, 0x1BCA3) ∷ (0x1D173, 0x1D17A) ∷ (0xE0000, 0xE0FFF) ∷ []

-- a character is in one of these ranges
abbrev pub is_in : List (ℕ × ℕ) → ℕ → Bool
is_in ranges c = list_any (λ range. is_in_range range.0 range.1 c) ranges

-- a character that shows nothing by itself, as a zero-width space or a soft hyphen
abbrev pub is_ignorable : ℕ → Bool
is_ignorable = is_in ignorable_ranges

-- a character that turns the direction of the text
abbrev pub is_direction : ℕ → Bool
is_direction c = (c == 0x061C) || (is_in_range 0x200E 0x200F c || (is_in_range 0x202A 0x202E c || is_in_range 0x2066 0x2069 c))

-- a character that only shows itself: no control character, no separator, and none that shows nothing
abbrev pub is_plain : ℕ → Bool
is_plain c = not (is_control c || (is_separator c || is_ignorable c))

-- a character by its code, as in `\u{1b}`
abbrev pub code_text : ℕ → List ℕ
code_text c = codes "\\u{" ++ (digits 16 false c ++ codes "}")

-- a character that is not plain: `\0`, `\t`, `\n`, `\r`, or its code
abbrev pub control_text : ℕ → List ℕ
control_text c =
    if c == 0 then codes "\\0" else (if c == 9 then codes "\\t" else (if c == 10 then codes "\\n" else (if c == 13 then codes "\\r" else code_text c)))

-- a character of a message: itself, if it is plain
abbrev pub visible_character : ℕ → List ℕ
visible_character c = if is_plain c then encode_utf8 c else control_text c

-- a character of a name, with a backslash before a quote and a backslash
abbrev pub escaped_character : ℕ → List ℕ
escaped_character c = if (c == 34) || (c == 92) then codes "\\" ++ encode_utf8 c else visible_character c

-- a message, of which only the characters that are not plain are escaped
abbrev pub visible : List ℕ → List ℕ
visible message = flat_map visible_character (chars message)

-- a name as it is written between quotes
abbrev pub escaped : List ℕ → List ℕ
escaped name = flat_map escaped_character (chars name)

-- a name in quotes, in which it is escaped
abbrev pub in_quotes : List ℕ → List ℕ
in_quotes name = codes "\"" ++ (escaped name ++ codes "\"")
