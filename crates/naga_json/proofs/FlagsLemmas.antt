-- The JSON of a set of flags is read as the set.
use Rattle.std.proofs.Common.{◌≡◌, ◌∙◌, ◌==◌, ◌+◌, ◌-◌, ◌*◌, ◌/◌, ◌%◌, ◌^◌, ◌<◌, ◌≤◌, ℕ, zero, suc, List, [], ◌∷◌, ◌++◌, map, length, Bool, true, false, Result, Ok, codes, refl, ap, inl, inr, arith, ap₂, subst, add-zero, zero-add, zero-mul, zero-lt-suc, mul-pos, pow_pos, mod-lt, mod-eq_of_lt, div-add-mod', div-lt_iff_lt-mul}
use Rattle.std.proofs.lemmas.Bool.{cases_lt}
use Rattle.std.proofs.lemmas.Bool.Decides.{nat_tests}
use Rattle.std.proofs.lemmas.Nat.{and_block, and_le_r, and_mask, or_comm, or_shifted}
use Rattle.std.specs.Fmt.{digits}
use Rattle.std.specs.Int.RustNames.{bit_and, bit_or}
use Rattle.std.specs.List.{AllByRecursion, filter, join_by}
use Rattle.std.specs.Str.{trim}
use Rattle.bitflags.specs.Sets.{Row, known_bits, without}
use Rattle.bitflags.specs.Text.{read_from, read_text, flag_piece}
use Rattle.bitflags.specs.declared.parser.ParseError.{ParseError}
use Rattle.std.proofs.Common.{◌≡◌, ◌==◌, ◌&&◌, ℕ, ◌^◌, List, [], ◌∷◌, ◌++◌, length, Bool, true, false, cond, drop, Option, Some, None, Result, Ok, Err, IfSome, nat_lt, refl, arith, pow_pos}
use Rattle.std.proofs.lemmas.Bool.Decides.{nat_tests}
use Rattle.std.proofs.lemmas.Nat.{or_lt}
use Rattle.std.specs.Cmp.Lexicographic.{pointwise}
use Rattle.std.specs.Int.RustNames.{bit_or}
use Rattle.std.specs.List.{AllByRecursion}
use Rattle.std.specs.Prelude.{nat_eq}
use Rattle.std.specs.Result.{result_ok}
use Rattle.std.specs.Str.{is_utf8, trim}
use Rattle.std.specs.Str.Parse.{digits_value, without_leading_plus}
use Rattle.bitflags.specs.Sets.{Row, find_name, find_row}
use Rattle.bitflags.specs.Text.{all_hex, flag_piece, hex_bits, hex_of, name_bits, name_piece, named_piece, read_from, read_text, starts_hex}
use Rattle.bitflags.specs.declared.parser.ParseError.{ParseError}
use Rattle.bitflags.specs.declared.parser.ParseError.TheVariants as error
use Rattle.json.specs.Find.{as_str}
use Rattle.naga_json.specs.Flags.{names_text, bar_after, with_other_bits, flags_text, bits_codec}
use Rattle.naga_json.specs.Lawful.{Gives, Lawful}
use Rattle.naga_json.proofs.GivesLemmas.{then_any}
use Rattle.naga_json.proofs.HexadecimalLemmas.{after_prefix, piece_before, read_from-hexadecimal, starts_plain, trim-starts_plain}

-- ---- the bits below a power of two, and the others

and_low : (k q r flag : ℕ) → r < 2 ^ k → flag < 2 ^ k → bit_and (q * 2 ^ k + r) flag ≡ bit_and r flag
and_low k q r flag small low =
    let none : bit_and q 0 ≡ 0 = omega (arith, and_le_r q 0) in
    let whole : flag ≡ 0 * 2 ^ k + flag = omega arith in
    ap (bit_and (q * 2 ^ k + r)) whole ∙ and_block k q 0 r flag small low ∙ rw none (omega arith)

and_high : (k m q r : ℕ) → r < 2 ^ k → q < 2 ^ m → bit_and (q * 2 ^ k + r) ((2 ^ m - 1) * 2 ^ k + 0) ≡ q * 2 ^ k
and_high k m q r small high =
    let none : bit_and r 0 ≡ 0 = omega (arith, and_le_r r 0) in
    and_block k q (2 ^ m - 1) r 0 small (omega arith) ∙ rw (and_mask q m, mod-eq_of_lt high, none) (add-zero _)

or_high : (k q r : ℕ) → r < 2 ^ k → bit_or r (q * 2 ^ k) ≡ q * 2 ^ k + r
or_high k q r small = or_comm r (q * 2 ^ k) ∙ or_shifted q k r small

-- ---- numbers below a bound, one by one

abbrev pub counted : ℕ → List ℕ
counted zero = []
counted (suc n) = n ∷ counted n

-- functions that agree on each number below a bound
same_below : {X : Type 0} (f g : ℕ → X) (n : ℕ) → map f (counted n) ≡ map g (counted n) → (r : ℕ) → r < n → f r ≡ g r
same_below f g zero same r small = absurd (omega arith)
same_below f g (suc n) same r small =
    let last : f n ≡ g n = cc in
    let others : map f (counted n) ≡ map g (counted n) = cc in
    elim (cases_lt r n) [
      | inl less ↦ same_below f g n others r less
      | inr more ↦ let is : r ≡ n = omega arith in rw is last
    ]

-- ---- tables of flags

-- no flag of the table has a bit at 2 ^ k or above
abbrev pub AreLow : ℕ → List Row → Type 0
AreLow k table = AllByRecursion (λ row. row.1 < 2 ^ k) table

-- the flags of the table that a set contains
abbrev flags_of : List Row → ℕ → List Row
flags_of table bits = filter (λ flag. bit_and bits flag.1 == flag.1) table

flags_of-low : (k q r : ℕ) (table : List Row) → r < 2 ^ k → AreLow k table → flags_of table (q * 2 ^ k + r) ≡ flags_of table r
flags_of-low k q r [] small low = refl
flags_of-low k q r (row ∷ table) small (low, others) = rw (and_low k q r row.1 small low, flags_of-low k q r table small others) refl

names_text-low : (k q r : ℕ) (table : List Row) → r < 2 ^ k → AreLow k table → names_text table (q * 2 ^ k + r) ≡ names_text table r
names_text-low k q r table small low = ap (λ flags. join_by (λ name. name) (codes " | ") (map (λ flag. flag.0) flags)) (flags_of-low k q r table small low)

-- the names of flags, and after them 0x and digits
abbrev pub names_then : List Row → ℕ → List ℕ → List ℕ
names_then table r ds = names_text table r ++ bar_after (names_text table r) ++ after_prefix ds

-- what is read of names, alone and with digits after them, up to the digits
abbrev pub readings : List Row → ℕ → List ℕ → ℕ → Result ℕ ParseError × Bool × Result ℕ ParseError
readings table size ds r = (
  read_text (flag_piece table size) (names_text table r),
  starts_plain (names_then table r ds),
  read_from (flag_piece table size) 0 [] (names_then table r ds),
)

-- what is to be read of them
abbrev pub expected : List Row → ℕ → List ℕ → ℕ → Result ℕ ParseError × Bool × Result ℕ ParseError
expected table size ds r = (Ok r, true, read_from (flag_piece table size) r (piece_before (r == 0)) ds)

-- a table of flags below 2 ^ k, in sets of this many bits
pub record IsTable (table : List Row) (size k m : ℕ) : Type 0 where
  pub low : AreLow k table
  pub whole : 2 ^ size ≡ 2 ^ m * 2 ^ k
  pub mask : 2 ^ size - 1 - known_bits table ≡ (2 ^ m - 1) * 2 ^ k + 0
  pub within : 2 ^ size ≤ 16 ^ 64
  pub same : (ds : List ℕ) → map (readings table size ds) (counted (2 ^ k)) ≡ map (expected table size ds) (counted (2 ^ k))

module _ (table : List Row) (size k m : ℕ) (is : IsTable table size k m) where
  others-high : (q r : ℕ) → r < 2 ^ k → q < 2 ^ m → without size (q * 2 ^ k + r) (known_bits table) ≡ q * 2 ^ k
  others-high q r small high = ap (bit_and (q * 2 ^ k + r)) is.mask ∙ and_high k m q r small high

  flags_text-parts : (q r : ℕ) → r < 2 ^ k → q < 2 ^ m → flags_text table size (q * 2 ^ k + r) ≡ with_other_bits (names_text table r) (q * 2 ^ k)
  flags_text-parts q r small high = ap₂ with_other_bits (names_text-low k q r table small is.low) (others-high q r small high)

  -- a set with no other bits than those that may have a name
  read_names : (r : ℕ) → r < 2 ^ k → read_text (flag_piece table size) (with_other_bits (names_text table r) 0) ≡ Ok r
  read_names r small = ap (λ x. x.0) (same_below _ _ (2 ^ k) (is.same []) r small)

  -- a set with other bits
  read_others : (r others : ℕ) → r < 2 ^ k → 0 < others → others < 2 ^ size
      → read_text (flag_piece table size) (with_other_bits (names_text table r) others) ≡ Ok (bit_or r others)
  read_others r others small some fits =
      let read = same_below _ _ (2 ^ k) (is.same (digits 16 false others)) r small in
      let text = names_then table r (digits 16 false others) in
      let other : (others == 0) ≡ false = grind (arith, nat_tests) in
      let full : (length (trim text) == 0) ≡ false = trim-starts_plain text (ap (λ x. x.1) read) in
      let number = read_from-hexadecimal table size r others (r == 0) fits (omega (arith, is.within)) in
      rw (other, full) (ap (λ x. x.2) read ∙ number)

  read_parts : (q r : ℕ) → r < 2 ^ k → q * 2 ^ k + r < 2 ^ size
      → read_text (flag_piece table size) (with_other_bits (names_text table r) (q * 2 ^ k)) ≡ Ok (q * 2 ^ k + r)
  read_parts zero r small fits = rw (zero-mul (2 ^ k), zero-add r) (read_names r small)
  read_parts (suc q) r small fits =
      let some : 0 < suc q * 2 ^ k = mul-pos (zero-lt-suc q) (pow_pos k) in
      read_others r (suc q * 2 ^ k) small some (omega arith) ∙ ap Ok (or_high k (suc q) r small)

  read_text-flags_text : (bits : ℕ) → bits < 2 ^ size → read_text (flag_piece table size) (flags_text table size bits) ≡ Ok bits
  read_text-flags_text bits fits =
      let small : bits % 2 ^ k < 2 ^ k = mod-lt bits (pow_pos k) in
      let high : bits / 2 ^ k < 2 ^ m = (div-lt_iff_lt-mul (pow_pos k)).1 (rw (← is.whole) fits) in
      let whole = div-add-mod' bits (2 ^ k) in
      let parts = flags_text-parts (bits / 2 ^ k) (bits % 2 ^ k) small high in
      let read = read_parts (bits / 2 ^ k) (bits % 2 ^ k) small (rw whole fits) in
      subst (λ b. read_text (flag_piece table size) (flags_text table size b) ≡ Ok b) whole (ap (read_text (flag_piece table size)) parts ∙ read)

-- ---- bits that are read

-- the bits are below this power of two
abbrev IsBelow : ℕ → ℕ → Type 0
IsBelow size bits = bits < 2 ^ size

-- the bits of a result are in range, if there are any
abbrev ResultFits : ℕ → Result ℕ ParseError → Type 0
ResultFits size outcome = Gives (IsBelow size) (result_ok outcome)

module _ (size : ℕ) where
  either_option : (b : Bool) (o p : Option ℕ) → Gives (IsBelow size) o → Gives (IsBelow size) p → Gives (IsBelow size) (cond b o p)
  either_option true o p first second = first
  either_option false o p first second = second

  either_result : (b : Bool) (r s : Result ℕ ParseError) → ResultFits size r → ResultFits size s → ResultFits size (cond b r s)
  either_result true r s first second = first
  either_result false r s first second = second

  -- ---- a number in hexadecimal

  tested-fits : (a b : Bool) (n : ℕ) → Gives (IsBelow size) (cond (a && b && nat_lt n (2 ^ size)) (Some n) None)
  tested-fits a b n = record { holds = at (a && b && nat_lt n (2 ^ size)) refl }
    where
      at : (c : Bool) → (a && b && nat_lt n (2 ^ size)) ≡ c → IfSome (cond c (Some n) None) (IsBelow size)
      at true is = grind (arith, nat_tests)
      at false is = tt

  hex_of-fits : (text : List ℕ) → Gives (IsBelow size) (hex_of size text)
  hex_of-fits text =
      let digits = without_leading_plus text in
      tested-fits (nat_lt 0 (length digits)) (all_hex digits) (digits_value 16 digits)

  hex_bits-fits : (o : Option ℕ) → Gives (IsBelow size) o → ResultFits size (hex_bits o)
  hex_bits-fits None given = record { holds = tt }
  hex_bits-fits (Some bits) given = given

  -- ---- the name of a flag

  find_row-fits : (table : List Row) (name : List ℕ) → AllByRecursion (λ row. row.1 < 2 ^ size) table → Gives (IsBelow size) (find_row table name)
  unfolding find_row
  find_row-fits [] name each = record { holds = tt }
  find_row-fits (row ∷ rest) name (here, others) =
      either_option (pointwise nat_eq row.0 name) (Some row.1) (find_row rest name) (record { holds = here }) (find_row-fits rest name others)

  name_bits-fits : (o : Option ℕ) → Gives (IsBelow size) o → ResultFits size (name_bits o)
  name_bits-fits None given = record { holds = tt }
  name_bits-fits (Some bits) given = given

  module _ (table : List Row) (each : AllByRecursion (λ row. row.1 < 2 ^ size) table) where
    find_name-fits : (name : List ℕ) → Gives (IsBelow size) (find_name table name)
    find_name-fits name = either_option (length name == 0) None (find_row table name) (record { holds = tt }) (find_row-fits table name each)

    named_piece-fits : (text : List ℕ) → ResultFits size (named_piece table text)
    named_piece-fits text =
        either_result (length text == 0) (Err error.EmptyFlag) _ (record { holds = tt }) (
        either_result (starts_hex text) (Err error.InvalidHexFlag) (name_bits (find_name table text)) (record { holds = tt }) (
        name_bits-fits (find_name table text) (find_name-fits text)
        )
        )

    name_piece-fits : (text : List ℕ) → ResultFits size (name_piece table text)
    name_piece-fits text =
        either_result (is_utf8 text) (named_piece table (trim text)) (Err error.InvalidNamedFlag) (named_piece-fits (trim text)) (record { holds = tt })

    flag_piece-fits : (text : List ℕ) → ResultFits size (flag_piece table size text)
    flag_piece-fits text =
        let number = hex_of size (drop 2 (trim text)) in
        let fits = hex_bits-fits number (hex_of-fits (drop 2 (trim text))) in
        either_result (is_utf8 text && starts_hex (trim text)) (hex_bits number) (name_piece table text) fits (name_piece-fits text)

  -- ---- pieces with bars between them

  module _ (piece : List ℕ → Result ℕ ParseError) (each : (text : List ℕ) → ResultFits size (piece text)) where
    piece-fits : (text : List ℕ) (b : ℕ) → piece text ≡ Ok b → IsBelow size b
    piece-fits text b is = (rw is at (each text)).holds

    -- the last piece
    last_piece : (bits : ℕ) (text : List ℕ) → IsBelow size bits → ResultFits size (read_from piece bits text [])
    unfolding read_from
    last_piece bits text fits = at (piece text) refl
      where
        at : (r : Result ℕ ParseError) → piece text ≡ r → ResultFits size (read_from piece bits text [])
        at (Ok b) is = rw (read_from, is) (record { holds = or_lt size bits b fits (piece-fits text b is) })
        at (Err e) is = rw (read_from, is) (record { holds = tt })

    -- a character, where what is read of the others has bits in range
    one_more : (bits : ℕ) (text : List ℕ) (c : ℕ) (others : List ℕ) → IsBelow size bits
        → ((b : ℕ) (t : List ℕ) → IsBelow size b → ResultFits size (read_from piece b t others)) → ResultFits size (read_from piece bits text (c ∷ others))
    unfolding read_from
    one_more bits text c others fits next = at (c == 124) (piece text) refl refl
      where
        at : (bar : Bool) (r : Result ℕ ParseError) → (c == 124) ≡ bar → piece text ≡ r → ResultFits size (read_from piece bits text (c ∷ others))
        at true (Ok b) bar is = rw (bar, is) (next (bit_or bits b) [] (or_lt size bits b fits (piece-fits text b is)))
        at true (Err e) bar is = rw (bar, is) (record { holds = tt })
        at false r bar is = rw bar (next bits (text ++ c ∷ []) fits)

    read_from-fits : (text : List ℕ) (bits : ℕ) (before : List ℕ) → IsBelow size bits → ResultFits size (read_from piece bits before text)
    read_from-fits [] bits before fits = last_piece bits before fits
    read_from-fits (c ∷ cs) bits before fits = one_more bits before c cs fits (read_from-fits cs)

    read_text-fits : (text : List ℕ) → ResultFits size (read_text piece text)
    read_text-fits text =
        let none : IsBelow size 0 = pow_pos size in
        either_result (length (trim text) == 0) (Ok 0) (read_from piece 0 [] text) (record { holds = none }) (read_from-fits text 0 [] none)

-- ---- the law

pub lawful-bits : (table : List Row) (size k m : ℕ) → IsTable table size k m → AllByRecursion (λ row. row.1 < 2 ^ size) table → Lawful (bits_codec table size)
lawful-bits table size k m is each = record {
  reads = λ bits fits. record { reads = rw (read_text-flags_text table size k m is bits fits) refl; numbers = tt; present = refl };
  gives = λ j. then_any (IsBelow size) (as_str j) _ (read_text-fits size (flag_piece table size) (flag_piece-fits size table each));
}
