-- The first byte of a text between two lexemes, and where the grammar of commas and colons refuses it.
use Rattle.std.proofs.Common.{◌≡◌, ◌≢◌, ℕ, ◌-◌, Bool, true, false, cond, ◌||◌, ◌&&◌, ◌==◌, nat_eq, List, [], ◌∷◌, length, take, drop, Option, Some, None, refl, sym, ap, ◌∙◌}
use Rattle.std.proofs.lemmas.Bool.{true≢false, eqb-true, cond_both}
use Rattle.std.specs.List.{starts_with}
use Rattle.json.specs.Ascii.{true_text, false_text, null_text}
use Rattle.json.specs.Json.{after_end_array, read_key}
use Rattle.json.specs.Lex.{Lexeme, token, comma, colon, Class, quote, backslash, operator, space, other, string_token, between, in_word, in_string, lex_byte, lex, begins_colon}
use Rattle.json.specs.Lex.{fresh, after_value, after_comma, after_key, Place, place_token, punctuate}
use Rattle.json.specs.Text.{content, plain}
use Rattle.json.specs.Token.{Token, begin_object, end_object, begin_array, end_array, key, string, number, boolean, null, bad}
use Rattle.json.specs.Word.{head, is_operator, is_space, word, literal, number_before, after_number, ends_word}
use Rattle.json_fault.specs.Rest.{begins, goes_on, is_end}
use Rattle.json_fault.specs.declared.mode.Frame.{Frame}
use Rattle.json_fault.proofs.GoesOnLemmas.{on_nothing, on_list_close, on_object_close, on_bad_value, on_bad}

-- ---- the first lexeme

pub word_cases : (P : Token → Type 0) → ((s : List ℕ) → P (number s)) → ((b : Bool) → P (boolean b)) → P null → P bad → (t : List ℕ) → P (word t)
unfolding word
word_cases P at_number at_boolean at_null at_bad t =
    let a_number = number_before t (after_number t) in
    let from_null = cond (head t == 110) (literal null_text null t) a_number in
    let from_false = cond (head t == 102) (literal false_text (boolean false) t) from_null in
    cond_both (head t == 116) (literal true_text (boolean true) t) from_false P (λ _. by_name true_text (boolean true) (at_boolean true))
    (λ _. cond_both (head t == 102) (literal false_text (boolean false) t) from_null P (λ _. by_name false_text (boolean false) (at_boolean false))
    (λ _. cond_both (head t == 110) (literal null_text null t) a_number P (λ _. by_name null_text null at_null) (λ _. by_number (after_number t))))
  where
    by_name : (name : List ℕ) (one : Token) → P one → P (literal name one t)
    by_name name one there = cond_both (starts_with nat_eq t name && ends_word (drop (length name) t)) one bad P (λ _. there) (λ _. at_bad)

    by_number : (o : Option (List ℕ)) → P (number_before t o)
    by_number None = at_bad
    by_number (Some rest) = cond_both (ends_word rest) (number (take (length t - length rest) t)) bad P (λ _. at_number (take (length t - length rest) t)) (λ _. at_bad)

colon_is_left : (a b c d e f : Bool) → (a || b || c || d || e || f) ≡ true → a ≡ false → b ≡ false → c ≡ false → d ≡ false → f ≡ false → e ≡ true
colon_is_left a b c d true f h no_a no_b no_c no_d no_f = refl
colon_is_left true b c d false f h no_a no_b no_c no_d no_f = absurd (true≢false no_a)
colon_is_left false true c d false f h no_a no_b no_c no_d no_f = absurd (true≢false no_b)
colon_is_left false false true d false f h no_a no_b no_c no_d no_f = absurd (true≢false no_c)
colon_is_left false false false true false f h no_a no_b no_c no_d no_f = absurd (true≢false no_d)
colon_is_left false false false false false true h no_a no_b no_c no_d no_f = absurd (true≢false no_f)
colon_is_left false false false false false false h no_a no_b no_c no_d no_f = absurd (true≢false (sym h))

module _ (P : List Lexeme → Type 0) (x : ℕ) (xs : List ℕ) (at_quote : x ≡ 34 → P (token (string_token (content plain xs)) ∷ lex in_string xs)) (at_backslash : x ≡ 92 → P (token bad ∷ lex in_word xs))
    (at_open_brace : x ≡ 123 → P (token begin_object ∷ lex between xs)) (at_close_brace : x ≡ 125 → P (token end_object ∷ lex between xs)) (at_open_bracket : x ≡ 91 → P (token begin_array ∷ lex between xs))
    (at_close_bracket : x ≡ 93 → P (token end_array ∷ lex between xs)) (at_comma : x ≡ 44 → P (comma ∷ lex between xs)) (at_colon : x ≡ 58 → P (colon ∷ lex between xs)) (at_space : is_space x ≡ true → P (lex between xs))
    (at_word : P (token (word (x ∷ xs)) ∷ lex in_word xs)) where
  pub first_lexeme : P (lex between (x ∷ xs))
  unfolding lex
  first_lexeme =
      let Q : Class → Type 0 = λ c. P (lex_byte between c x xs (λ n. lex n xs)) in
      let R : Lexeme → Type 0 = λ l. P (l ∷ lex between xs) in
      let spaced = cond (is_space x) space other in
      let operated = cond (is_operator x) operator spaced in
      let last = cond (x == 44) comma colon in
      let close_list = cond (x == 93) (token end_array) last in
      let open_list = cond (x == 91) (token begin_array) close_list in
      let close_object = cond (x == 125) (token end_object) open_list in
      cond_both (x == 34) quote (cond (x == 92) backslash operated) Q (λ e. at_quote (eqb-true x 34 e))
      (λ _. cond_both (x == 92) backslash operated Q (λ e. at_backslash (eqb-true x 92 e))
      (λ _. cond_both (is_operator x) operator spaced Q
      (λ o. cond_both (x == 123) (token begin_object) close_object R (λ e. at_open_brace (eqb-true x 123 e))
      (λ a. cond_both (x == 125) (token end_object) open_list R (λ e. at_close_brace (eqb-true x 125 e))
      (λ b. cond_both (x == 91) (token begin_array) close_list R (λ e. at_open_bracket (eqb-true x 91 e))
      (λ c. cond_both (x == 93) (token end_array) last R (λ e. at_close_bracket (eqb-true x 93 e))
      (λ d. cond_both (x == 44) comma colon R (λ e. at_comma (eqb-true x 44 e)) (λ f. at_colon (eqb-true x 58 (colon_is_left (x == 123) (x == 125) (x == 91) (x == 93) (x == 58) (x == 44) o a b c d f))))))))
      (λ _. cond_both (is_space x) space other Q at_space (λ _. at_word))))

-- ---- at places where no value may begin

text_after_value : (o : Option (List ℕ)) (b : Bool) (k : Place → List Token) → place_token after_value (string_token o) b k ≡ bad ∷ []
text_after_value None b k = refl
text_after_value (Some s) true k = refl
text_after_value (Some s) false k = refl

pub string_after_value : (o : Option (List ℕ)) (ls : List Lexeme) → punctuate after_value (token (string_token o) ∷ ls) ≡ bad ∷ []
unfolding punctuate
string_after_value o ls = text_after_value o (begins_colon ls) (λ n. punctuate n ls)

text_after_key : (o : Option (List ℕ)) (b : Bool) (k : Place → List Token) → place_token after_key (string_token o) b k ≡ bad ∷ []
text_after_key None b k = refl
text_after_key (Some s) true k = refl
text_after_key (Some s) false k = refl

solid : {X : Type 0} (x : ℕ) → is_space x ≡ false → is_space x ≡ true → X
solid x is_not is = absurd (true≢false (sym is ∙ is_not))

pub nothing_after_value : (x : ℕ) (xs : List ℕ) → is_space x ≡ false → x ≢ 44 → x ≢ 93 → x ≢ 125 → punctuate after_value (lex between (x ∷ xs)) ≡ bad ∷ []
unfolding punctuate
nothing_after_value x xs no_space no_comma no_bracket no_brace =
    first_lexeme (λ ls. punctuate after_value ls ≡ bad ∷ []) x xs (λ _. text_after_value _ _ _) (λ _. refl) (λ _. refl) (λ e. absurd (no_brace e)) (λ _. refl) (λ e. absurd (no_bracket e)) (λ e. absurd (no_comma e)) (λ _. refl)
    (solid x no_space) (word_cases (λ t. punctuate after_value (token t ∷ lex in_word xs) ≡ bad ∷ []) (λ s. refl) (λ b. refl) refl refl (x ∷ xs))

pub nothing_after_key : (x : ℕ) (xs : List ℕ) → is_space x ≡ false → x ≢ 58 → punctuate after_key (lex between (x ∷ xs)) ≡ bad ∷ []
unfolding punctuate
nothing_after_key x xs no_space no_colon =
    first_lexeme (λ ls. punctuate after_key ls ≡ bad ∷ []) x xs (λ _. text_after_key _ _ _) (λ _. refl) (λ _. refl) (λ _. refl) (λ _. refl) (λ _. refl) (λ _. refl) (λ e. absurd (no_colon e))
    (solid x no_space) (word_cases (λ t. punctuate after_key (token t ∷ lex in_word xs) ≡ bad ∷ []) (λ s. refl) (λ b. refl) refl refl (x ∷ xs))

-- ---- where a value may begin, it makes no difference what is before it

key_or_string : (outer : List Frame) (s : List ℕ) (b : Bool) (ls : List Lexeme)
    → begins outer (place_token fresh (string s) b (λ n. punctuate n ls)) ≡ begins outer (place_token after_comma (string s) b (λ n. punctuate n ls))
key_or_string outer s true ls = refl
key_or_string outer s false ls = refl

pub fresh_value : (outer : List Frame) (ls : List Lexeme) → begins outer (punctuate fresh ls) ≡ begins outer (punctuate after_comma ls)
unfolding punctuate
fresh_value outer [] = on_nothing outer ∙ sym (on_bad_value outer [])
fresh_value outer (token begin_object ∷ ls) = refl
fresh_value outer (token end_object ∷ ls) = on_object_close outer _ ∙ sym (on_bad_value outer [])
fresh_value outer (token begin_array ∷ ls) = refl
fresh_value outer (token end_array ∷ ls) = on_list_close outer _ ∙ sym (on_bad_value outer [])
fresh_value outer (token (key s) ∷ ls) = refl
fresh_value outer (token (string s) ∷ ls) = key_or_string outer s (begins_colon ls) ls
fresh_value outer (token (number s) ∷ ls) = refl
fresh_value outer (token (boolean b) ∷ ls) = refl
fresh_value outer (token null ∷ ls) = refl
fresh_value outer (token bad ∷ ls) = refl
fresh_value outer (comma ∷ ls) = refl
fresh_value outer (colon ∷ ls) = refl

-- ---- where no list ends

pub no_end_after_comma : (ls : List Lexeme) → after_end_array (punctuate after_comma ls) ≡ None
unfolding punctuate
no_end_after_comma [] = refl
no_end_after_comma (token begin_object ∷ ls) = refl
no_end_after_comma (token end_object ∷ ls) = refl
no_end_after_comma (token begin_array ∷ ls) = refl
no_end_after_comma (token end_array ∷ ls) = refl
no_end_after_comma (token (key s) ∷ ls) = refl
no_end_after_comma (token (string s) ∷ ls) = by_colon (begins_colon ls)
  where
    by_colon : (b : Bool) → after_end_array (place_token after_comma (string s) b (λ n. punctuate n ls)) ≡ None
    by_colon true = refl
    by_colon false = refl
no_end_after_comma (token (number s) ∷ ls) = refl
no_end_after_comma (token (boolean b) ∷ ls) = refl
no_end_after_comma (token null ∷ ls) = refl
no_end_after_comma (token bad ∷ ls) = refl
no_end_after_comma (comma ∷ ls) = refl
no_end_after_comma (colon ∷ ls) = refl

pub not_ended_after_comma : (ls : List Lexeme) → is_end (punctuate after_comma ls) ≡ false
unfolding punctuate
not_ended_after_comma [] = refl
not_ended_after_comma (token begin_object ∷ ls) = refl
not_ended_after_comma (token end_object ∷ ls) = refl
not_ended_after_comma (token begin_array ∷ ls) = refl
not_ended_after_comma (token end_array ∷ ls) = refl
not_ended_after_comma (token (key s) ∷ ls) = refl
not_ended_after_comma (token (string s) ∷ ls) = by_colon (begins_colon ls)
  where
    by_colon : (b : Bool) → is_end (place_token after_comma (string s) b (λ n. punctuate n ls)) ≡ false
    by_colon true = refl
    by_colon false = refl
not_ended_after_comma (token (number s) ∷ ls) = refl
not_ended_after_comma (token (boolean b) ∷ ls) = refl
not_ended_after_comma (token null ∷ ls) = refl
not_ended_after_comma (token bad ∷ ls) = refl
not_ended_after_comma (comma ∷ ls) = refl
not_ended_after_comma (colon ∷ ls) = refl

text_no_end : (o : Option (List ℕ)) (b : Bool) (k : Place → List Token) → after_end_array (place_token fresh (string_token o) b k) ≡ None
text_no_end None b k = refl
text_no_end (Some s) true k = refl
text_no_end (Some s) false k = refl

pub no_end_before : (x : ℕ) (xs : List ℕ) → is_space x ≡ false → x ≢ 93 → after_end_array (punctuate fresh (lex between (x ∷ xs))) ≡ None
unfolding punctuate
no_end_before x xs no_space no_bracket =
    first_lexeme (λ ls. after_end_array (punctuate fresh ls) ≡ None) x xs (λ _. text_no_end _ _ _) (λ _. refl) (λ _. refl) (λ _. refl) (λ _. refl) (λ e. absurd (no_bracket e)) (λ _. refl) (λ _. refl) (solid x no_space)
    (word_cases (λ t. after_end_array (punctuate fresh (token t ∷ lex in_word xs)) ≡ None) (λ s. refl) (λ b. refl) refl refl (x ∷ xs))

-- ---- where no key begins

pub no_key_before : (x : ℕ) (xs : List ℕ) → is_space x ≡ false → x ≢ 34 → x ≢ 125 → read_key (punctuate fresh (lex between (x ∷ xs))) ≡ None
unfolding punctuate
no_key_before x xs no_space no_quote no_brace =
    first_lexeme (λ ls. read_key (punctuate fresh ls) ≡ None) x xs (λ e. absurd (no_quote e)) (λ _. refl) (λ _. refl) (λ e. absurd (no_brace e)) (λ _. refl) (λ _. refl) (λ _. refl) (λ _. refl) (solid x no_space)
    (word_cases (λ t. read_key (punctuate fresh (token t ∷ lex in_word xs)) ≡ None) (λ s. refl) (λ b. refl) refl refl (x ∷ xs))

pub no_key_after_comma : (x : ℕ) (xs : List ℕ) → is_space x ≡ false → x ≢ 34 → read_key (punctuate after_comma (lex between (x ∷ xs))) ≡ None
unfolding punctuate
no_key_after_comma x xs no_space no_quote =
    first_lexeme (λ ls. read_key (punctuate after_comma ls) ≡ None) x xs (λ e. absurd (no_quote e)) (λ _. refl) (λ _. refl) (λ _. refl) (λ _. refl) (λ _. refl) (λ _. refl) (λ _. refl) (solid x no_space)
    (word_cases (λ t. read_key (punctuate after_comma (token t ∷ lex in_word xs)) ≡ None) (λ s. refl) (λ b. refl) refl refl (x ∷ xs))

-- ---- a string is a value, or a key where a colon follows it

pub colon_ends_value : (outer : List Frame) (ls : List Lexeme) → begins_colon ls ≡ true → goes_on outer (punctuate after_value ls) ≡ false
unfolding punctuate
colon_ends_value outer [] e = absurd (true≢false (sym e))
colon_ends_value outer (token t ∷ ls) e = absurd (true≢false (sym e))
colon_ends_value outer (comma ∷ ls) e = absurd (true≢false (sym e))
colon_ends_value outer (colon ∷ ls) e = on_bad outer []

place_after_key : (t : Token) (b : Bool) (k : Place → List Token) → place_token after_key t b k ≡ bad ∷ []
place_after_key begin_object b k = refl
place_after_key end_object b k = refl
place_after_key begin_array b k = refl
place_after_key end_array b k = refl
place_after_key (key s) b k = refl
place_after_key (string s) true k = refl
place_after_key (string s) false k = refl
place_after_key (number s) b k = refl
place_after_key (boolean v) b k = refl
place_after_key null b k = refl
place_after_key bad b k = refl

pub key_needs_colon : (outer : List Frame) (ls : List Lexeme) → begins_colon ls ≡ false → begins outer (punctuate after_key ls) ≡ false
unfolding punctuate
key_needs_colon outer [] e = on_bad_value outer []
key_needs_colon outer (token t ∷ ls) e = ap (begins outer) (place_after_key t _ _) ∙ on_bad_value outer []
key_needs_colon outer (comma ∷ ls) e = on_bad_value outer []
key_needs_colon outer (colon ∷ ls) e = absurd (true≢false e)
