-- Numbers and literals, a byte at a time.
use Rattle.std.proofs.Common.{◌≡◌, ℕ, zero, suc, ◌+◌, ◌<◌, Bool, true, false, cond, ◌&&◌, ◌||◌, ◌==◌, nat_eq, List, [], ◌∷◌, length, drop, get_or, Option, Some, None, option_and_then, ◌≢◌, refl, sym, ap, ◌∙◌, arith}
use Rattle.std.proofs.lemmas.Bool.Decides.{nat_tests}
use Rattle.std.proofs.lemmas.Bool.{true≢false, eqb-true, cond_both, ne_eqb, eq-eqb}
use Rattle.std.proofs.lemmas.List.{drop_all, drop_more}
use Rattle.std.specs.Char.{is_ascii_digit}
use Rattle.std.specs.List.{prefix_len, starts_with}
use Rattle.json.specs.Lex.{Lexeme, token, Class, quote, backslash, operator, space, other, class, between, in_word, lex_byte, lex, after_value, after_comma, punctuate}
use Rattle.json.specs.Lex as lexer
use Rattle.json.specs.Text.{content, plain}
use Rattle.json.specs.Token.{Token, bad}
use Rattle.json.specs.Word.{is_operator, is_space, ends_word, after_digits, after_exponent, after_fraction, after_sign}
use Rattle.json_fault.specs.Rest.{after_part, completes, goes_on, is_word, text_of, word_ends}
use Rattle.json_fault.specs.declared.mode.Frame.{Frame}
use Rattle.json_fault.specs.declared.mode.Mode.TheVariants.{After, InNumber, InWord}
use Rattle.json_fault.specs.declared.mode.Number.{Number}
use Rattle.json_fault.specs.declared.mode.Number.TheVariants.{Minus, Zero, Whole, Dot, Fraction, Letter, Exponent}
use Rattle.json_fault.specs.declared.mode.Word.{Word}
use Rattle.json_fault.specs.declared.mode.Word.TheVariants as words
use Rattle.json_fault.proofs.PunctuateLemmas.{string_after_value, word_cases}
use Rattle.json_fault.proofs.GoesOnLemmas.{on_bad}

-- ---- the end of a word

module _ (outer : List Frame) (x : ℕ) (xs : List ℕ) where
  -- where a word ends at a byte of this class, the text goes on as between words
  abbrev WordEnds : Class → Type 0
  WordEnds c = (ends_word (x ∷ xs) && goes_on outer (punctuate after_value (lex_byte in_word c x xs (λ n. lex n xs)))) ≡ goes_on outer (punctuate after_value (lex_byte between c x xs (λ n. lex n xs)))

  no_end : (g : Bool) (ts : List Token) → ends_word (x ∷ xs) ≡ false → ts ≡ bad ∷ [] → (ends_word (x ∷ xs) && g) ≡ goes_on outer ts
  no_end g ts ends e = ap (λ b. b && g) ends ∙ sym (ap (goes_on outer) e ∙ on_bad outer [])

  word_end-more : WordEnds (class x)
  unfolding lex punctuate
  word_end-more =
      let go = λ (ls : List Lexeme). goes_on outer (punctuate after_value ls) in
      let spaced = cond (is_space x) space other in
      let operated = cond (is_operator x) operator spaced in
      cond_both (x == 34) quote (cond (x == 92) backslash operated) WordEnds (λ e. no_end _ _ (ap (λ y. ends_word (y ∷ xs)) (eqb-true x 34 e)) (string_after_value (content plain xs) (lex lexer.in_string xs)))
      (λ _. cond_both (x == 92) backslash operated WordEnds (λ e. no_end _ _ (ap (λ y. ends_word (y ∷ xs)) (eqb-true x 92 e)) refl)
      (λ _. cond_both (is_operator x) operator spaced WordEnds (λ o. ap (λ b. (b || is_space x) && go (lex_byte between operator x xs (λ n. lex n xs))) o)
      (λ o. cond_both (is_space x) space other WordEnds (λ s. (λ i. (o i || s i) && go (lex between xs)))
      (λ s. no_end _ _ ((λ i. o i || s i)) (word_cases (λ t. punctuate after_value (token t ∷ lex in_word xs) ≡ bad ∷ []) (λ v. refl) (λ b. refl) refl refl (x ∷ xs))))))

pub word_end : (outer : List Frame) (t : List ℕ) → (ends_word t && goes_on outer (punctuate after_value (lex in_word t))) ≡ goes_on outer (punctuate after_value (lex between t))
unfolding lex
word_end outer [] = refl
word_end outer (x ∷ xs) = word_end-more outer x xs

pub in_word_passes : (x : ℕ) (xs : List ℕ) → is_operator x ≡ false → is_space x ≡ false → lex in_word (x ∷ xs) ≡ lex in_word xs
unfolding lex
in_word_passes x xs o s =
    let P : Class → Type 0 = λ c. lex_byte in_word c x xs (λ n. lex n xs) ≡ lex in_word xs in
    let spaced = cond (is_space x) space other in
    let operated = cond (is_operator x) operator spaced in
    cond_both (x == 34) quote (cond (x == 92) backslash operated) P (λ _. refl)
    (λ _. cond_both (x == 92) backslash operated P (λ _. refl) (λ _. cond_both (is_operator x) operator spaced P (λ e. absurd (true≢false (sym e ∙ o))) (λ _. cond_both (is_space x) space other P (λ e. absurd (true≢false (sym e ∙ s))) (λ _. refl))))

-- ---- digits

pub digits_after : (x : ℕ) (xs : List ℕ) → is_ascii_digit x ≡ true → after_digits (x ∷ xs) ≡ Some (drop (prefix_len is_ascii_digit xs) xs)
digits_after x xs digit =
    let n = prefix_len is_ascii_digit xs in
    let next : 1 + n ≡ suc n = omega arith in
    let more : (1 + n == 0) ≡ false = ne_eqb (1 + n) 0 (λ e. omega arith) in
    ap (λ b. let k = cond b (1 + n) 0 in cond (k == 0) None (Some (drop k (x ∷ xs)))) digit ∙ ap (λ b. cond b None (Some (drop (1 + n) (x ∷ xs)))) more ∙ ap (λ k. Some (drop k (x ∷ xs))) next

pub no_digits : (x : ℕ) (xs : List ℕ) → is_ascii_digit x ≡ false → after_digits (x ∷ xs) ≡ None
no_digits x xs other_byte =
    let n = prefix_len is_ascii_digit xs in
    ap (λ b. let k = cond b (1 + n) 0 in cond (k == 0) None (Some (drop k (x ∷ xs)))) other_byte

pub first_digit : (x : ℕ) (xs : List ℕ) → is_ascii_digit x ≡ true → after_digits (x ∷ xs) ≡ after_digits (48 ∷ xs)
first_digit x xs digit = digits_after x xs digit ∙ sym (digits_after 48 xs refl)

pub more_digits : (x : ℕ) (xs : List ℕ) → is_ascii_digit x ≡ true → after_digits (48 ∷ x ∷ xs) ≡ after_digits (48 ∷ xs)
more_digits x xs digit =
    let n = prefix_len is_ascii_digit xs in
    let next : 1 + n ≡ suc n = omega arith in
    digits_after 48 (x ∷ xs) refl ∙ ap (λ b. Some (drop (cond b (1 + n) 0) (x ∷ xs))) digit ∙ ap (λ k. Some (drop k (x ∷ xs))) next ∙ sym (digits_after 48 xs refl)

pub digits_end : (x : ℕ) (xs : List ℕ) → is_ascii_digit x ≡ false → after_digits (48 ∷ x ∷ xs) ≡ Some (x ∷ xs)
digits_end x xs other_byte =
    let n = prefix_len is_ascii_digit xs in
    digits_after 48 (x ∷ xs) refl ∙ ap (λ b. Some (drop (cond b (1 + n) 0) (x ∷ xs))) other_byte

-- a digit is none of the other bytes
pub digit_is_no : (x n : ℕ) → is_ascii_digit x ≡ true → is_ascii_digit n ≡ false → x ≢ n
digit_is_no x n digit no_digit e = true≢false (sym digit ∙ ap is_ascii_digit e ∙ no_digit)

pub digit_is_solid : (x : ℕ) → is_ascii_digit x ≡ true → (is_operator x ≡ false) × (is_space x ≡ false)
digit_is_solid x digit = (grind (arith, nat_tests), grind (arith, nat_tests))

-- ---- numbers

module _ (outer : List Frame) (x : ℕ) (xs : List ℕ) where
  -- a byte of a number
  pub number_goes_on : (part next : Number) → is_operator x ≡ false → is_space x ≡ false → after_part part (x ∷ xs) ≡ after_part next xs → completes (InNumber part) outer (x ∷ xs) ≡ completes (InNumber next) outer xs
  number_goes_on part next o s e = (λ i. word_ends (e i) && goes_on outer (punctuate after_value (in_word_passes x xs o s i)))

  pub digit_goes_on : (part next : Number) → is_ascii_digit x ≡ true → after_part part (x ∷ xs) ≡ after_part next xs → completes (InNumber part) outer (x ∷ xs) ≡ completes (InNumber next) outer xs
  digit_goes_on part next digit e = let solid = digit_is_solid x digit in number_goes_on part next solid.0 solid.1 e

  -- a byte that no number has there
  pub number_stops : (part : Number) → after_part part (x ∷ xs) ≡ None → completes (InNumber part) outer (x ∷ xs) ≡ false
  number_stops part e = ap (λ o. word_ends o && goes_on outer (punctuate after_value (lex in_word (x ∷ xs)))) e

  -- a byte after a number
  pub number_ends : (part : Number) → after_part part (x ∷ xs) ≡ Some (x ∷ xs) → completes (InNumber part) outer (x ∷ xs) ≡ completes After outer (x ∷ xs)
  number_ends part e = ap (λ o. word_ends o && goes_on outer (punctuate after_value (lex in_word (x ∷ xs)))) e ∙ word_end outer (x ∷ xs)

-- ---- what follows each part of a number

module _ (x : ℕ) (xs : List ℕ) where
  -- what follows the exponent, if one is there
  abbrev after_power : Option (List ℕ) → Option (List ℕ)
  after_power o = option_and_then after_exponent o

  -- what follows the fraction and the exponent, if they are there
  abbrev after_point : Option (List ℕ) → Option (List ℕ)
  after_point o = option_and_then after_exponent (option_and_then after_fraction o)

  no_digit_is : (n : ℕ) → is_ascii_digit x ≡ false → is_ascii_digit n ≡ true → x ≢ n
  no_digit_is n no_digit digit e = true≢false (sym digit ∙ ap is_ascii_digit (sym e) ∙ no_digit)

  pub minus-digit : is_ascii_digit x ≡ true → x ≢ 48 → after_part Minus (x ∷ xs) ≡ after_part Whole xs
  minus-digit digit no_zero = ap (λ b. after_point (cond b (Some xs) (after_digits (x ∷ xs)))) (ne_eqb x 48 no_zero) ∙ ap after_point (first_digit x xs digit)

  pub minus-other : is_ascii_digit x ≡ false → after_part Minus (x ∷ xs) ≡ None
  minus-other no_digit = ap (λ b. after_point (cond b (Some xs) (after_digits (x ∷ xs)))) (ne_eqb x 48 (no_digit_is 48 no_digit refl)) ∙ ap after_point (no_digits x xs no_digit)

  power_end : x ≢ 101 → x ≢ 69 → after_exponent (x ∷ xs) ≡ Some (x ∷ xs)
  power_end lower upper = (λ i. cond (ne_eqb x 101 lower i || ne_eqb x 69 upper i) (after_digits (after_sign xs)) (Some (x ∷ xs)))

  pub zero-end : x ≢ 46 → x ≢ 101 → x ≢ 69 → after_part Zero (x ∷ xs) ≡ Some (x ∷ xs)
  zero-end no_dot lower upper = ap (λ b. after_power (cond b (after_digits xs) (Some (x ∷ xs)))) (ne_eqb x 46 no_dot) ∙ power_end lower upper

  pub zero-digit : is_ascii_digit x ≡ true → after_part Zero (x ∷ xs) ≡ Some (x ∷ xs)
  zero-digit digit = zero-end (digit_is_no x 46 digit refl) (digit_is_no x 101 digit refl) (digit_is_no x 69 digit refl)

  pub whole-digit : is_ascii_digit x ≡ true → after_part Whole (x ∷ xs) ≡ after_part Whole xs
  whole-digit digit = ap after_point (more_digits x xs digit)

  pub whole-other : is_ascii_digit x ≡ false → after_part Whole (x ∷ xs) ≡ after_part Zero (x ∷ xs)
  whole-other no_digit = ap after_point (digits_end x xs no_digit)

  pub dot-digit : is_ascii_digit x ≡ true → after_part Dot (x ∷ xs) ≡ after_part Fraction xs
  dot-digit digit = ap after_power (first_digit x xs digit)

  pub dot-other : is_ascii_digit x ≡ false → after_part Dot (x ∷ xs) ≡ None
  dot-other no_digit = ap after_power (no_digits x xs no_digit)

  pub fraction-digit : is_ascii_digit x ≡ true → after_part Fraction (x ∷ xs) ≡ after_part Fraction xs
  fraction-digit digit = ap after_power (more_digits x xs digit)

  pub fraction-end : is_ascii_digit x ≡ false → x ≢ 101 → x ≢ 69 → after_part Fraction (x ∷ xs) ≡ Some (x ∷ xs)
  fraction-end no_digit lower upper = ap after_power (digits_end x xs no_digit) ∙ power_end lower upper

  signed : x ≢ 45 → x ≢ 43 → after_part Letter (x ∷ xs) ≡ after_digits (x ∷ xs)
  signed minus plus = (λ i. after_digits (cond (ne_eqb x 45 minus i || ne_eqb x 43 plus i) xs (x ∷ xs)))

  pub letter-digit : is_ascii_digit x ≡ true → after_part Letter (x ∷ xs) ≡ after_part Exponent xs
  letter-digit digit = signed (digit_is_no x 45 digit refl) (digit_is_no x 43 digit refl) ∙ first_digit x xs digit

  pub letter-other : x ≢ 45 → x ≢ 43 → is_ascii_digit x ≡ false → after_part Letter (x ∷ xs) ≡ None
  letter-other minus plus no_digit = signed minus plus ∙ no_digits x xs no_digit

-- ---- literals

letter_is_solid : (word : Word) (read : ℕ) → read < length (text_of word) → (is_operator (get_or (text_of word) read 0) ≡ false) × (is_space (get_or (text_of word) read 0) ≡ false)
letter_is_solid words.True zero h = (refl, refl)
letter_is_solid words.True (suc zero) h = (refl, refl)
letter_is_solid words.True (suc (suc zero)) h = (refl, refl)
letter_is_solid words.True (suc (suc (suc zero))) h = (refl, refl)
letter_is_solid words.True (suc (suc (suc (suc n)))) h = let never : ⊥ = omega arith in absurd never
letter_is_solid words.False zero h = (refl, refl)
letter_is_solid words.False (suc zero) h = (refl, refl)
letter_is_solid words.False (suc (suc zero)) h = (refl, refl)
letter_is_solid words.False (suc (suc (suc zero))) h = (refl, refl)
letter_is_solid words.False (suc (suc (suc (suc zero)))) h = (refl, refl)
letter_is_solid words.False (suc (suc (suc (suc (suc n))))) h = let never : ⊥ = omega arith in absurd never
letter_is_solid words.Null zero h = (refl, refl)
letter_is_solid words.Null (suc zero) h = (refl, refl)
letter_is_solid words.Null (suc (suc zero)) h = (refl, refl)
letter_is_solid words.Null (suc (suc (suc zero))) h = (refl, refl)
letter_is_solid words.Null (suc (suc (suc (suc n)))) h = let never : ⊥ = omega arith in absurd never

module _ (outer : List Frame) (word : Word) (read x : ℕ) (xs : List ℕ) (inside : read < length (text_of word)) where
  letter_passes : get_or (text_of word) read 0 ≡ x → lex in_word (x ∷ xs) ≡ lex in_word xs
  letter_passes e =
      let solid = letter_is_solid word read inside in
      in_word_passes x xs (ap is_operator (sym e) ∙ solid.0) (ap is_space (sym e) ∙ solid.1)

  letter_read : get_or (text_of word) read 0 ≡ x → is_word (drop read (text_of word)) (x ∷ xs) ≡ is_word (drop (read + 1) (text_of word)) xs
  letter_read e =
      let cs = drop (read + 1) (text_of word) in
      ap (λ name. is_word name (x ∷ xs)) (drop_more (text_of word) read 0 inside)
      ∙ ap (λ b. (b && starts_with nat_eq xs cs) && ends_word (drop (length cs) xs)) (eq-eqb (get_or (text_of word) read 0) x e)

  -- the next letter
  pub letter_goes_on : get_or (text_of word) read 0 ≡ x → read + 1 < length (text_of word) → completes (InWord word read) outer (x ∷ xs) ≡ completes (InWord word (read + 1)) outer xs
  letter_goes_on e more = (λ i. letter_read e i && goes_on outer (punctuate after_value (letter_passes e i)))

  -- the last letter
  pub word_is_read : get_or (text_of word) read 0 ≡ x → read + 1 ≡ length (text_of word) → completes (InWord word read) outer (x ∷ xs) ≡ completes After outer xs
  word_is_read e last =
      (λ i. letter_read e i && goes_on outer (punctuate after_value (letter_passes e i))) ∙ ap (λ name. is_word name xs && goes_on outer (punctuate after_value (lex in_word xs))) (drop_all (read + 1) (text_of word) (omega arith))
      ∙ word_end outer xs

  -- another byte
  pub word_stops : (get_or (text_of word) read 0 ≡ x → ⊥) → completes (InWord word read) outer (x ∷ xs) ≡ false
  word_stops other_byte =
      let cs = drop (read + 1) (text_of word) in
      ap (λ name. is_word name (x ∷ xs) && goes_on outer (punctuate after_value (lex in_word (x ∷ xs)))) (drop_more (text_of word) read 0 inside)
      ∙ ap (λ b. ((b && starts_with nat_eq xs cs) && ends_word (drop (length cs) xs)) && goes_on outer (punctuate after_value (lex in_word (x ∷ xs)))) (ne_eqb (get_or (text_of word) read 0) x other_byte)
