-- A number in hexadecimal, at the end of a set of flags, is read as the number.
use Rattle.std.proofs.Common.{◌≡◌, ◌≢◌, ◌==◌, ◌&&◌, ℕ, ◌^◌, ◌<◌, ◌≤◌, List, [], ◌∷◌, ◌++◌, get_or, length, Bool, true, false, not, nat_lt, nat_le, Some, Result, Ok, IsAscii, codes, refl, ap, sym, arith, append_assoc, append-nil}
use Rattle.std.proofs.lemmas.Bool.Decides.{nat_tests}
use Rattle.std.proofs.lemmas.Fmt.{digits_is_IsNumeral}
use Rattle.std.proofs.lemmas.Str.{chars-append, chars-IsAscii, encode_ascii, encodes-IsAscii, IsUtf8-from_ascii, is_utf8-from_IsUtf8}
use Rattle.std.proofs.lemmas.Str.Ascii.{IsAscii-nil, IsAscii-cons}
use Rattle.std.proofs.lemmas.Str.Parse.{without_leading_plus_none}
use Rattle.std.specs.Char.{digit_value, is_whitespace}
use Rattle.std.specs.Fmt.{digits}
use Rattle.std.specs.Int.RustNames.{bit_or}
use Rattle.std.specs.Str.{chars, drop_trailing_whitespace, encode_utf8_all, trim, trim_start, trim_end}
use Rattle.std.specs.Str.Parse.{AllDigits, IsNumeral, digits_value, without_leading_plus}
use Rattle.bitflags.proofs.HexFacts.{reads_hex}
use Rattle.bitflags.specs.Sets.{Row}
use Rattle.bitflags.specs.Text.{starts_hex, hex_of, flag_piece, read_from}
use Rattle.bitflags.specs.declared.parser.ParseError.{ParseError}

-- a hexadecimal digit is a digit or a letter
digit_between : (c : ℕ) → digit_value c < 16 → (48 ≤ c) × (c ≤ 102)
digit_between c is = grind (arith, nat_tests)

digit_is_no_bar : (c : ℕ) → digit_value c < 16 → (c == 124) ≡ false
digit_is_no_bar c is = let between = digit_between c is in grind (arith, nat_tests)

digit_is_no_space : (c : ℕ) → digit_value c < 16 → is_whitespace c ≡ false
digit_is_no_space c is = let between = digit_between c is in grind (arith, nat_tests)

IsAscii-digits : (ds : List ℕ) → AllDigits 16 ds → IsAscii ds
IsAscii-digits [] all = IsAscii-nil
IsAscii-digits (c ∷ cs) (is, all) = let between = digit_between c is in IsAscii-cons c cs (omega arith) (IsAscii-digits cs all)

drop_trailing_whitespace-digits : (ds : List ℕ) → AllDigits 16 ds → drop_trailing_whitespace ds ≡ ds
drop_trailing_whitespace-digits [] all = refl
drop_trailing_whitespace-digits (c ∷ cs) (is, all) = rw (digit_is_no_space c is, drop_trailing_whitespace-digits cs all) refl

first_is_no_plus : (ds : List ℕ) → IsNumeral 16 ds → get_or ds 0 0 ≢ 43
first_is_no_plus [] (nonempty, all) = absurd (omega arith)
first_is_no_plus (c ∷ cs) (nonempty, (is, all)) = let between = digit_between c is in λ plus. omega arith

hex_of-digits : (size : ℕ) (ds : List ℕ) → IsNumeral 16 ds → digits_value 16 ds < 2 ^ size → hex_of size ds ≡ Some (digits_value 16 ds)
hex_of-digits size ds numeral small =
    let plain : without_leading_plus ds ≡ ds = without_leading_plus_none ds (first_is_no_plus ds numeral) in
    sym (reads_hex size ds (Some (digits_value 16 ds)) (rw plain ((numeral, small), refl)))

-- the digits after 0x
abbrev pub after_prefix : List ℕ → List ℕ
after_prefix ds = codes "0x" ++ ds

starts_hex-after_prefix : (ds : List ℕ) → starts_hex (after_prefix ds) ≡ true
starts_hex-after_prefix ds = let long : nat_le 2 (length (after_prefix ds)) ≡ true = grind (arith, nat_tests) in rw long refl

module _ (ds : List ℕ) (all : AllDigits 16 ds) where
  IsAscii-after_prefix : IsAscii (after_prefix ds)
  IsAscii-after_prefix = IsAscii-cons 48 (120 ∷ ds) (omega arith) (IsAscii-cons 120 ds (omega arith) (IsAscii-digits ds all))

  trim_end-after_prefix : trim_end (after_prefix ds) ≡ after_prefix ds
  unfolding trim_end
  trim_end-after_prefix =
      rw (chars-IsAscii (after_prefix ds) IsAscii-after_prefix, drop_trailing_whitespace-digits ds all) (encodes-IsAscii (after_prefix ds) IsAscii-after_prefix)

  trim-after_prefix : trim (after_prefix ds) ≡ after_prefix ds
  unfolding trim_start
  trim-after_prefix =
      rw (chars-IsAscii (after_prefix ds) IsAscii-after_prefix, encodes-IsAscii (after_prefix ds) IsAscii-after_prefix) trim_end-after_prefix

  IsAscii-after_space : IsAscii (32 ∷ after_prefix ds)
  IsAscii-after_space = IsAscii-cons 32 (after_prefix ds) (omega arith) IsAscii-after_prefix

  trim-after_space : trim (32 ∷ after_prefix ds) ≡ after_prefix ds
  unfolding trim_start
  trim-after_space =
      rw (chars-IsAscii (32 ∷ after_prefix ds) IsAscii-after_space, encodes-IsAscii (after_prefix ds) IsAscii-after_prefix) trim_end-after_prefix

module _ (table : List Row) (size : ℕ) (ds : List ℕ) (numeral : IsNumeral 16 ds) (small : digits_value 16 ds < 2 ^ size) where
  -- a piece that is a number in hexadecimal
  flag_piece-hexadecimal : (piece : List ℕ) → IsAscii piece → trim piece ≡ after_prefix ds → flag_piece table size piece ≡ Ok (digits_value 16 ds)
  flag_piece-hexadecimal piece ascii trimmed =
      rw (is_utf8-from_IsUtf8 piece (IsUtf8-from_ascii piece ascii), trimmed, starts_hex-after_prefix ds, hex_of-digits size ds numeral small) refl

  flag_piece-after_prefix : flag_piece table size (after_prefix ds) ≡ Ok (digits_value 16 ds)
  flag_piece-after_prefix = flag_piece-hexadecimal (after_prefix ds) (IsAscii-after_prefix ds numeral.1) (trim-after_prefix ds numeral.1)

  flag_piece-after_space : flag_piece table size (32 ∷ after_prefix ds) ≡ Ok (digits_value 16 ds)
  flag_piece-after_space = flag_piece-hexadecimal (32 ∷ after_prefix ds) (IsAscii-after_space ds numeral.1) (trim-after_space ds numeral.1)

-- the digits at the end of a text are part of its last piece
read_from-digits : (piece : List ℕ → Result ℕ ParseError) (bits value : ℕ) (acc ds : List ℕ) → AllDigits 16 ds
    → piece (acc ++ ds) ≡ Ok value → read_from piece bits acc ds ≡ Ok (bit_or bits value)
unfolding read_from
read_from-digits piece bits value acc [] all is = rw (read_from, ← append-nil acc, is) refl
read_from-digits piece bits value acc (c ∷ cs) (digit, all) is =
    let rest = read_from-digits piece bits value (acc ++ c ∷ []) cs all (rw (append_assoc acc (c ∷ []) cs) is) in
    rw (digit_is_no_bar c digit) rest

-- whether the first byte of a text is a character that is not white space
abbrev pub starts_plain : List ℕ → Bool
starts_plain [] = false
starts_plain (c ∷ cs) = nat_lt c 128 && not (is_whitespace c)

module _ (c : ℕ) (small : c < 128) (plain : is_whitespace c ≡ false) where
  chars-first : (cs : List ℕ) → chars (c ∷ cs) ≡ c ∷ chars cs
  chars-first cs =
      let one = IsAscii-cons c [] small IsAscii-nil in
      rw (chars-append (c ∷ []) cs (IsUtf8-from_ascii (c ∷ []) one), chars-IsAscii (c ∷ []) one) refl

  trim_start-first : (cs : List ℕ) → trim_start (c ∷ cs) ≡ c ∷ encode_utf8_all (chars cs)
  unfolding trim_start
  trim_start-first cs = rw (chars-first cs, plain, encode_ascii c small) refl

  trim_end-first : (cs : List ℕ) → trim_end (c ∷ cs) ≡ c ∷ encode_utf8_all (drop_trailing_whitespace (chars cs))
  unfolding trim_end
  trim_end-first cs = rw (chars-first cs, plain, encode_ascii c small) refl

  trim-first : (cs : List ℕ) → (length (trim (c ∷ cs)) == 0) ≡ false
  trim-first cs = rw (trim_start-first cs, trim_end-first (encode_utf8_all (chars cs))) (grind (arith, nat_tests))

pub trim-starts_plain : (text : List ℕ) → starts_plain text ≡ true → (length (trim text) == 0) ≡ false
trim-starts_plain [] starts = cc
trim-starts_plain (c ∷ cs) starts =
    let small : c < 128 = grind (arith, nat_tests) in
    let plain : is_whitespace c ≡ false = grind (arith, nat_tests) in
    trim-first c small plain cs

-- what is written before the digits, in a piece after others or in the only one
abbrev pub piece_before : Bool → List ℕ
piece_before true = codes "0x"
piece_before false = codes " 0x"

flag_piece-before : (table : List Row) (size : ℕ) (ds : List ℕ) (only : Bool) → IsNumeral 16 ds → digits_value 16 ds < 2 ^ size
    → flag_piece table size (piece_before only ++ ds) ≡ Ok (digits_value 16 ds)
flag_piece-before table size ds true numeral small = flag_piece-after_prefix table size ds numeral small
flag_piece-before table size ds false numeral small = flag_piece-after_space table size ds numeral small

-- the digits that end a set of flags
pub read_from-hexadecimal : (table : List Row) (size bits n : ℕ) (only : Bool) → n < 2 ^ size → n < 16 ^ 64
    → read_from (flag_piece table size) bits (piece_before only) (digits 16 false n) ≡ Ok (bit_or bits n)
read_from-hexadecimal table size bits n only small within =
    let numeral = digits_is_IsNumeral 16 false (omega arith) (omega arith) n within in
    let piece = flag_piece-before table size (digits 16 false n) only numeral.0 (rw numeral.1 small) in
    read_from-digits (flag_piece table size) bits n (piece_before only) (digits 16 false n) numeral.0.1 (rw piece (ap Ok numeral.1))
