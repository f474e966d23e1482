-- Sets of flags, which are written as the names of the flags with bars between them.
use Rattle.std.specs.Prelude.{◌<◌, ◌^◌, ℕ, List, [], ◌∷◌, ◌++◌, ◌==◌, false, if◌then◌else◌, codes, filter, map, Option}
use Rattle.std.specs.Fmt.{digits}
use Rattle.std.specs.Int.RustNames.{bit_and}
use Rattle.std.specs.List.{join_by}
use Rattle.std.specs.Result.{result_ok}
use Rattle.bitflags.specs.Sets.{known_bits, without}
use Rattle.bitflags.specs.Text.{read_text, flag_piece}
use Rattle.json.specs.Json.{Json, string}
use Rattle.json.specs.Find.{as_str}
use Rattle.naga_json.specs.Numbers.{◌>>=◌}
use Rattle.naga_json.specs.Codec.{Codec}

-- the names of the flags of a table that a set contains
abbrev pub flag_names : List (List ℕ × ℕ) → ℕ → List (List ℕ)
flag_names table bits = map (λ flag. flag.0) (filter (λ flag. bit_and bits flag.1 == flag.1) table)

-- these names, with bars between them
abbrev pub names_text : List (List ℕ × ℕ) → ℕ → List ℕ
names_text table bits = join_by (λ name. name) (codes " | ") (flag_names table bits)

-- a number in hexadecimal
abbrev pub hexadecimal : ℕ → List ℕ
hexadecimal n = codes "0x" ++ digits 16 false n

-- the bar after names, if there are any
abbrev pub bar_after : List ℕ → List ℕ
bar_after [] = []
bar_after (c ∷ cs) = codes " | "

-- names, and after them the bits that have no name, if there are any, with a bar between them
abbrev pub with_other_bits : List ℕ → ℕ → List ℕ
with_other_bits names others = if others == 0 then names else names ++ bar_after names ++ hexadecimal others

-- the text of a set of flags, for a table of the flags' names and bits, and the number of bits of their type
abbrev pub flags_text : List (List ℕ × ℕ) → ℕ → ℕ → List ℕ
flags_text table size bits = with_other_bits (names_text table bits) (without size bits (known_bits table))

-- the bits of a set of flags, for a table of the flags' names and bits, and the number of bits of their type
abbrev pub flags_in : List (List ℕ × ℕ) → ℕ → Json → Option ℕ
flags_in table size j = as_str j >>= λ text. result_ok (read_text (flag_piece table size) text)

-- the bits of a set of flags
abbrev pub bits_codec : List (List ℕ × ℕ) → ℕ → Codec ℕ
bits_codec table size = record {
  encode = λ bits. string (flags_text table size bits);
  decode = flags_in table size;
  Fits = λ bits. bits < 2 ^ size;
}
