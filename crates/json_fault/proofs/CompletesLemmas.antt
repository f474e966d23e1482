-- What completes a text whose first byte is between its words and strings.
use Rattle.std.proofs.Common.{◌≡◌, ◌≢◌, ℕ, ◌<◌, ◌≤◌, ◌-◌, Bool, true, false, cond, ◌&&◌, List, [], ◌∷◌, length, take, drop, Option, Some, None, option_and_then, refl, sym, ap, ◌∙◌, arith}
use Rattle.std.proofs.lemmas.Bool.Decides.{nat_tests}
use Rattle.std.proofs.lemmas.Bool.{true≢false, ne_eqb}
use Rattle.std.specs.Char.{is_ascii_digit}
use Rattle.std.specs.Prelude.{is_some}
use Rattle.json.specs.Ascii.{true_text, false_text, null_text}
use Rattle.json.specs.Lex.{Lexeme, token, space, other, class, string_token, begins_colon, between, in_word, in_string, lex_byte, lex}
use Rattle.json.specs.Lex.{Place, fresh, after_value, after_comma, after_key, if_allowed, may_begin, place_token, punctuate}
use Rattle.json.specs.Text.{content, plain}
use Rattle.json.specs.Token.{Token, end_object, end_array, number, string, boolean, null, bad}
use Rattle.json.specs.Word.{is_space, ends_word, after_digits, after_exponent, after_fraction, after_whole, after_number, literal, number_before, word}
use Rattle.json_fault.specs.Document.{max_depth}
use Rattle.json_fault.specs.Rest.{begins, completes, goes_on, is_end, is_word, word_ends}
use Rattle.json_fault.specs.declared.mode.Frame.{Frame}
use Rattle.json_fault.specs.declared.mode.Frame.TheVariants as frames
use Rattle.json_fault.specs.declared.mode.Mode.TheVariants.{Value, FirstItem, FirstKey, Key, Colon, After, InKey, InString, InNumber, InWord}
use Rattle.json_fault.specs.declared.mode.Number.TheVariants as numbers
use Rattle.json_fault.specs.declared.mode.Within.TheVariants as strings
use Rattle.json_fault.specs.declared.mode.Word.TheVariants as words
use Rattle.json_fault.proofs.PunctuateLemmas.{first_lexeme, word_cases, string_after_value, nothing_after_key, fresh_value, no_end_after_comma, no_end_before, no_key_before, no_key_after_comma, not_ended_after_comma, colon_ends_value, key_needs_colon}
use Rattle.json_fault.proofs.GoesOnLemmas
use Rattle.json_fault.proofs.WordLemmas.{digit_is_no, first_digit, no_digits}

-- ---- spaces

space_class : (x : ℕ) → is_space x ≡ true → class x ≡ space
space_class x s = grind (arith, nat_tests)

pub on_space : (x : ℕ) (xs : List ℕ) → is_space x ≡ true → lex between (x ∷ xs) ≡ lex between xs
unfolding lex
on_space x xs s = ap (λ c. lex_byte between c x xs (λ n. lex n xs)) (space_class x s)

-- ---- after a value

pub after-list_comma : (outer : List Frame) (xs : List ℕ) → completes After (frames.List ∷ outer) (44 ∷ xs) ≡ completes Value (frames.List ∷ outer) xs
unfolding lex punctuate
after-list_comma outer xs = GoesOnLemmas.on_item outer (punctuate after_comma (lex between xs)) (no_end_after_comma (lex between xs))

pub after-object_comma : (outer : List Frame) (xs : List ℕ) → completes After (frames.Object ∷ outer) (44 ∷ xs) ≡ completes Key (frames.Object ∷ outer) xs
unfolding lex punctuate
after-object_comma outer xs = refl

pub after-list_end : (outer : List Frame) (xs : List ℕ) → completes After (frames.List ∷ outer) (93 ∷ xs) ≡ completes After outer xs
unfolding lex punctuate
after-list_end outer xs = GoesOnLemmas.on_list_end outer (punctuate after_value (lex between xs))

pub after-object_end : (outer : List Frame) (xs : List ℕ) → completes After (frames.Object ∷ outer) (125 ∷ xs) ≡ completes After outer xs
unfolding lex punctuate
after-object_end outer xs = GoesOnLemmas.on_object_end outer (punctuate after_value (lex between xs))

-- a byte that no text has after a value
pub after-end : (x : ℕ) (xs : List ℕ) → is_space x ≡ false → completes After [] (x ∷ xs) ≡ false
unfolding punctuate
after-end x xs s =
    first_lexeme (λ ls. is_end (punctuate after_value ls) ≡ false) x xs (λ _. ap is_end (string_after_value (content plain xs) (lex in_string xs))) (λ _. refl) (λ _. refl) (λ _. refl) (λ _. refl) (λ _. refl)
    (λ _. not_ended_after_comma (lex between xs)) (λ _. refl) (λ e. absurd (true≢false (sym e ∙ s))) (word_cases (λ t. is_end (punctuate after_value (token t ∷ lex in_word xs)) ≡ false) (λ v. refl) (λ b. refl) refl refl (x ∷ xs))

bad_on : (outer : List Frame) (ts : List Token) → ts ≡ bad ∷ [] → goes_on outer ts ≡ false
bad_on outer ts e = ap (goes_on outer) e ∙ GoesOnLemmas.on_bad outer []

pub after-list_other : (outer : List Frame) (x : ℕ) (xs : List ℕ) → is_space x ≡ false → x ≢ 44 → x ≢ 93 → completes After (frames.List ∷ outer) (x ∷ xs) ≡ false
unfolding punctuate
after-list_other outer x xs s comma bracket =
    let all = frames.List ∷ outer in
    let a_bad = GoesOnLemmas.on_bad all [] in
    let rest = punctuate after_value (lex between xs) in
    first_lexeme (λ ls. goes_on all (punctuate after_value ls) ≡ false) x xs (λ _. bad_on all _ (string_after_value (content plain xs) (lex in_string xs))) (λ _. a_bad) (λ _. a_bad)
    (λ _. GoesOnLemmas.on_item outer (end_object ∷ rest) refl ∙ GoesOnLemmas.on_object_close all rest) (λ _. a_bad) (λ e. absurd (bracket e)) (λ e. absurd (comma e)) (λ _. a_bad) (λ e. absurd (true≢false (sym e ∙ s)))
    (bad_on all _ (word_cases (λ t. punctuate after_value (token t ∷ lex in_word xs) ≡ bad ∷ []) (λ v. refl) (λ b. refl) refl refl (x ∷ xs)))

pub after-object_other : (outer : List Frame) (x : ℕ) (xs : List ℕ) → is_space x ≡ false → x ≢ 44 → x ≢ 125 → completes After (frames.Object ∷ outer) (x ∷ xs) ≡ false
unfolding punctuate
after-object_other outer x xs s comma brace =
    let all = frames.Object ∷ outer in
    let a_bad = GoesOnLemmas.on_bad all [] in
    let rest = punctuate after_value (lex between xs) in
    first_lexeme (λ ls. goes_on all (punctuate after_value ls) ≡ false) x xs (λ _. bad_on all _ (string_after_value (content plain xs) (lex in_string xs))) (λ _. a_bad) (λ _. a_bad)
    (λ e. absurd (brace e)) (λ _. a_bad) (λ _. GoesOnLemmas.on_no_key outer (end_array ∷ rest) refl) (λ e. absurd (comma e)) (λ _. a_bad) (λ e. absurd (true≢false (sym e ∙ s)))
    (bad_on all _ (word_cases (λ t. punctuate after_value (token t ∷ lex in_word xs) ≡ bad ∷ []) (λ v. refl) (λ b. refl) refl refl (x ∷ xs)))

-- ---- where a value begins

string_value : (outer : List Frame) (o : Option (List ℕ)) (ls : List Lexeme) → begins outer (punctuate after_comma (token (string_token o) ∷ ls)) ≡ (is_some o && goes_on outer (punctuate after_value ls))
unfolding punctuate
string_value outer None ls = GoesOnLemmas.on_bad_value outer []
string_value outer (Some s) ls = by_colon (begins_colon ls) refl
  where
    by_colon : (b : Bool) → begins_colon ls ≡ b → begins outer (place_token after_comma (string s) b (λ n. punctuate n ls)) ≡ goes_on outer (punctuate after_value ls)
    by_colon true e = GoesOnLemmas.on_stray_key outer s (punctuate after_key ls) ∙ sym (colon_ends_value outer ls e)
    by_colon false e = GoesOnLemmas.on_string outer s (punctuate after_value ls)

pub value-string : (outer : List Frame) (xs : List ℕ) → completes Value outer (34 ∷ xs) ≡ completes (InString strings.Plain) outer xs
unfolding lex
value-string outer xs = string_value outer (content plain xs) (lex in_string xs)

pub value-list : (outer : List Frame) (xs : List ℕ) → length outer < max_depth → completes Value outer (91 ∷ xs) ≡ completes FirstItem (frames.List ∷ outer) xs
unfolding lex punctuate
value-list outer xs shallow = GoesOnLemmas.on_list outer (punctuate fresh (lex between xs)) shallow

pub value-object : (outer : List Frame) (xs : List ℕ) → length outer < max_depth → completes Value outer (123 ∷ xs) ≡ completes FirstKey (frames.Object ∷ outer) xs
unfolding lex punctuate
value-object outer xs shallow = GoesOnLemmas.on_object outer (punctuate fresh (lex between xs)) shallow

pub value-deep_list : (outer : List Frame) (xs : List ℕ) → max_depth ≤ length outer → completes Value outer (91 ∷ xs) ≡ false
unfolding lex punctuate
value-deep_list outer xs deep = GoesOnLemmas.on_deep_list outer (punctuate fresh (lex between xs)) deep

pub value-deep_object : (outer : List Frame) (xs : List ℕ) → max_depth ≤ length outer → completes Value outer (123 ∷ xs) ≡ false
unfolding lex punctuate
value-deep_object outer xs deep = GoesOnLemmas.on_deep_object outer (punctuate fresh (lex between xs)) deep

number_value : (outer : List Frame) (t : List ℕ) (o : Option (List ℕ)) (ls : List Lexeme) → begins outer (punctuate after_comma (token (number_before t o) ∷ ls)) ≡ (word_ends o && goes_on outer (punctuate after_value ls))
unfolding punctuate
number_value outer t None ls = GoesOnLemmas.on_bad_value outer []
number_value outer t (Some rest) ls = by_end (ends_word rest) (take (length t - length rest) t)
  where
    by_end : (b : Bool) (s : List ℕ) → begins outer (punctuate after_comma (token (cond b (number s) bad) ∷ ls)) ≡ (b && goes_on outer (punctuate after_value ls))
    by_end true s = GoesOnLemmas.on_number outer s (punctuate after_value ls)
    by_end false s = GoesOnLemmas.on_bad_value outer []

pub value-minus : (outer : List Frame) (xs : List ℕ) → completes Value outer (45 ∷ xs) ≡ completes (InNumber numbers.Minus) outer xs
unfolding lex word after_number
value-minus outer xs = number_value outer (45 ∷ xs) (after_number (45 ∷ xs)) (lex in_word xs)

pub value-zero : (outer : List Frame) (xs : List ℕ) → completes Value outer (48 ∷ xs) ≡ completes (InNumber numbers.Zero) outer xs
unfolding lex word after_number
value-zero outer xs = number_value outer (48 ∷ xs) (after_number (48 ∷ xs)) (lex in_word xs)

word_is_number : (x : ℕ) (xs : List ℕ) → x ≢ 116 → x ≢ 102 → x ≢ 110 → word (x ∷ xs) ≡ number_before (x ∷ xs) (after_number (x ∷ xs))
unfolding word
word_is_number x xs t f n =
    (λ i. cond (ne_eqb x 116 t i) (literal true_text (boolean true) (x ∷ xs)) (cond (ne_eqb x 102 f i) (literal false_text (boolean false) (x ∷ xs)) (cond (ne_eqb x 110 n i) (literal null_text null (x ∷ xs)) (number_before (x ∷ xs) (after_number (x ∷ xs))))))

after_number_is : (x : ℕ) (xs : List ℕ) → x ≢ 45 → x ≢ 48 → after_number (x ∷ xs) ≡ option_and_then after_exponent (option_and_then after_fraction (after_digits (x ∷ xs)))
unfolding after_number
after_number_is x xs minus zero_digit =
    ap (λ b. option_and_then after_exponent (option_and_then after_fraction (after_whole (cond b xs (x ∷ xs))))) (ne_eqb x 45 minus) ∙ ap (λ b. option_and_then after_exponent (option_and_then after_fraction (cond b (Some xs) (after_digits (x ∷ xs))))) (ne_eqb x 48 zero_digit)

digit_class : (x : ℕ) → is_ascii_digit x ≡ true → class x ≡ other
digit_class x digit = grind (arith, nat_tests)

pub value-digit : (outer : List Frame) (x : ℕ) (xs : List ℕ) → is_ascii_digit x ≡ true → x ≢ 48 → completes Value outer (x ∷ xs) ≡ completes (InNumber numbers.Whole) outer xs
unfolding lex
value-digit outer x xs digit zero_digit =
    let at = λ (t : Token). begins outer (punctuate after_comma (token t ∷ lex in_word xs)) in
    ap (λ c. begins outer (punctuate after_comma (lex_byte between c x xs (λ n. lex n xs)))) (digit_class x digit) ∙ ap at (word_is_number x xs (digit_is_no x 116 digit refl) (digit_is_no x 102 digit refl) (digit_is_no x 110 digit refl)) ∙ number_value outer (x ∷ xs) (after_number (x ∷ xs)) (lex in_word xs)
    ∙ ap (λ o. word_ends o && goes_on outer (punctuate after_value (lex in_word xs))) (after_number_is x xs (digit_is_no x 45 digit refl) zero_digit ∙ ap (λ o. option_and_then after_exponent (option_and_then after_fraction o)) (first_digit x xs digit))

literal_value : (outer : List Frame) (b : Bool) (t : Token) (ls : List Lexeme) → begins outer (punctuate after_comma (token t ∷ ls)) ≡ goes_on outer (punctuate after_value ls)
    → begins outer (punctuate after_comma (token (cond b t bad) ∷ ls)) ≡ (b && goes_on outer (punctuate after_value ls))
unfolding punctuate
literal_value outer true t ls e = e
literal_value outer false t ls e = GoesOnLemmas.on_bad_value outer []

pub value-true : (outer : List Frame) (xs : List ℕ) → completes Value outer (116 ∷ xs) ≡ completes (InWord words.True 1) outer xs
unfolding lex word punctuate
value-true outer xs = literal_value outer (is_word (drop 1 true_text) xs) (boolean true) (lex in_word xs) (GoesOnLemmas.on_boolean outer true (punctuate after_value (lex in_word xs)))

pub value-false : (outer : List Frame) (xs : List ℕ) → completes Value outer (102 ∷ xs) ≡ completes (InWord words.False 1) outer xs
unfolding lex word punctuate
value-false outer xs = literal_value outer (is_word (drop 1 false_text) xs) (boolean false) (lex in_word xs) (GoesOnLemmas.on_boolean outer false (punctuate after_value (lex in_word xs)))

pub value-null : (outer : List Frame) (xs : List ℕ) → completes Value outer (110 ∷ xs) ≡ completes (InWord words.Null 1) outer xs
unfolding lex word punctuate
value-null outer xs = literal_value outer (is_word (drop 1 null_text) xs) null (lex in_word xs) (GoesOnLemmas.on_null outer (punctuate after_value (lex in_word xs)))

-- the bytes with which no value begins
pub record BeginsNone (x : ℕ) : Type 0 where
  pub no_quote : x ≢ 34
  pub no_list : x ≢ 91
  pub no_object : x ≢ 123
  pub no_minus : x ≢ 45
  pub no_digit : is_ascii_digit x ≡ false
  pub no_true : x ≢ 116
  pub no_false : x ≢ 102
  pub no_null : x ≢ 110

pub value-other : (outer : List Frame) (x : ℕ) (xs : List ℕ) → is_space x ≡ false → BeginsNone x → completes Value outer (x ∷ xs) ≡ false
unfolding punctuate
value-other outer x xs s none =
    let zero_digit : x ≢ 48 = λ e. true≢false (sym (ap is_ascii_digit e) ∙ none.no_digit) in
    let a_bad = GoesOnLemmas.on_bad_value outer [] in
    let no_word : word (x ∷ xs) ≡ bad =
    word_is_number x xs none.no_true none.no_false none.no_null ∙ ap (number_before (x ∷ xs)) (after_number_is x xs none.no_minus zero_digit ∙ ap (λ o. option_and_then after_exponent (option_and_then after_fraction o)) (no_digits x xs none.no_digit)) in
    first_lexeme (λ ls. begins outer (punctuate after_comma ls) ≡ false) x xs (λ e. absurd (none.no_quote e)) (λ _. a_bad) (λ e. absurd (none.no_object e)) (λ _. a_bad) (λ e. absurd (none.no_list e)) (λ _. a_bad) (λ _. a_bad) (λ _. a_bad)
    (λ e. absurd (true≢false (sym e ∙ s))) (ap (λ t. begins outer (punctuate after_comma (token t ∷ lex in_word xs))) no_word ∙ a_bad)

-- ---- the first item of a list

pub item-end : (outer : List Frame) (xs : List ℕ) → completes FirstItem (frames.List ∷ outer) (93 ∷ xs) ≡ completes After outer xs
unfolding lex punctuate
item-end outer xs = GoesOnLemmas.on_list_end outer (punctuate after_value (lex between xs))

pub item-value : (outer : List Frame) (x : ℕ) (xs : List ℕ) → is_space x ≡ false → x ≢ 93 → completes FirstItem (frames.List ∷ outer) (x ∷ xs) ≡ completes Value (frames.List ∷ outer) (x ∷ xs)
item-value outer x xs s no_end = GoesOnLemmas.on_item outer (punctuate fresh (lex between (x ∷ xs))) (no_end_before x xs s no_end) ∙ fresh_value (frames.List ∷ outer) (lex between (x ∷ xs))

-- ---- keys

module _ (outer : List Frame) where
  key_from : (place : Place) (o : Option (List ℕ)) (ls : List Lexeme) → may_begin place ≡ true
      → goes_on (frames.Object ∷ outer) (punctuate place (token (string_token o) ∷ ls)) ≡ (is_some o && begins (frames.Object ∷ outer) (punctuate after_key ls))
  unfolding punctuate
  key_from place None ls may = GoesOnLemmas.on_no_key outer (bad ∷ []) refl
  key_from place (Some s) ls may = by_colon (begins_colon ls) refl
    where
      allowed : (t : Token) (next : Place) (b : Bool) → b ≡ true → if_allowed b t (λ n. punctuate n ls) next ≡ t ∷ punctuate next ls
      allowed t next b e = ap (λ c. if_allowed c t (λ n. punctuate n ls) next) e

      by_colon : (b : Bool) → begins_colon ls ≡ b → goes_on (frames.Object ∷ outer) (place_token place (string s) b (λ n. punctuate n ls)) ≡ begins (frames.Object ∷ outer) (punctuate after_key ls)
      by_colon true e = ap (goes_on (frames.Object ∷ outer)) (allowed (Token.key s) after_key (may_begin place) may) ∙ GoesOnLemmas.on_key outer s (punctuate after_key ls)
      by_colon false e = ap (goes_on (frames.Object ∷ outer)) (allowed (string s) after_value (may_begin place) may) ∙ GoesOnLemmas.on_no_key outer (string s ∷ punctuate after_value ls) refl ∙ sym (key_needs_colon (frames.Object ∷ outer) ls e)

  pub first_key-string : (xs : List ℕ) → completes FirstKey (frames.Object ∷ outer) (34 ∷ xs) ≡ completes (InKey strings.Plain) (frames.Object ∷ outer) xs
  unfolding lex
  first_key-string xs = key_from fresh (content plain xs) (lex in_string xs) refl

  pub key-string : (xs : List ℕ) → completes Key (frames.Object ∷ outer) (34 ∷ xs) ≡ completes (InKey strings.Plain) (frames.Object ∷ outer) xs
  unfolding lex
  key-string xs = key_from after_comma (content plain xs) (lex in_string xs) refl

  pub first_key-end : (xs : List ℕ) → completes FirstKey (frames.Object ∷ outer) (125 ∷ xs) ≡ completes After outer xs
  unfolding lex punctuate
  first_key-end xs = GoesOnLemmas.on_object_end outer (punctuate after_value (lex between xs))

  pub first_key-other : (x : ℕ) (xs : List ℕ) → is_space x ≡ false → x ≢ 34 → x ≢ 125 → completes FirstKey (frames.Object ∷ outer) (x ∷ xs) ≡ false
  first_key-other x xs s no_quote no_brace = GoesOnLemmas.on_no_key outer _ (no_key_before x xs s no_quote no_brace)

  pub key-other : (x : ℕ) (xs : List ℕ) → is_space x ≡ false → x ≢ 34 → completes Key (frames.Object ∷ outer) (x ∷ xs) ≡ false
  key-other x xs s no_quote = GoesOnLemmas.on_no_key outer _ (no_key_after_comma x xs s no_quote)

-- ---- the colon after a key

pub colon-colon : (outer : List Frame) (xs : List ℕ) → completes Colon outer (58 ∷ xs) ≡ completes Value outer xs
unfolding lex punctuate
colon-colon outer xs = fresh_value outer (lex between xs)

pub colon-other : (outer : List Frame) (x : ℕ) (xs : List ℕ) → is_space x ≡ false → x ≢ 58 → completes Colon outer (x ∷ xs) ≡ false
colon-other outer x xs s no_colon = ap (begins outer) (nothing_after_key x xs s no_colon) ∙ GoesOnLemmas.on_bad_value outer []
