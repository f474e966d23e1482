-- Where a text may end, and how it can go on.
use Rattle.std.proofs.Common.{◌≡◌, Bool, ℕ, zero, suc, ◌<◌, true, false, List, [], ◌∷◌, ◌++◌, length, drop, reverse, refl, sym, ap, ◌∙◌, arith, ◌==◌}
use Rattle.std.proofs.lemmas.List.{drop_more, length-reverse}
use Rattle.std.proofs.lemmas.Bool.{ne_eqb}
use Rattle.std.specs.Prelude.{◌&&◌}
use Rattle.json.specs.Lex.{after_key, after_value, lex, punctuate, in_word}
use Rattle.json.specs.Text.{code_unit, content, short_escape}
use Rattle.json_fault.specs.Rest.{begins, completes, goes_on, is_string, string_mode, text_of, ends_number, is_value, is_word, IsReached}
use Rattle.json_fault.specs.declared.mode.Frame.{Frame}
use Rattle.json_fault.specs.declared.mode.Frame.TheVariants as frames
use Rattle.json_fault.specs.declared.mode.Mode.{Mode}
use Rattle.json_fault.specs.declared.mode.Mode.TheVariants.{Value, FirstItem, FirstKey, Key, Colon, After, InKey, InString, InNumber, InWord}
use Rattle.json_fault.specs.declared.mode.Number.{Number}
use Rattle.json_fault.specs.declared.mode.Number.TheVariants as numbers
use Rattle.json_fault.specs.declared.mode.Within.{Within}
use Rattle.json_fault.specs.declared.mode.Within.TheVariants as strings
use Rattle.json_fault.specs.declared.mode.Word.{Word}
use Rattle.json_fault.specs.declared.mode.Word.TheVariants as words
use Rattle.json_fault.proofs.CompletesLemmas
use Rattle.json_fault.proofs.GoesOnLemmas

-- ---- where no text ends

pub value-ends : (outer : List Frame) → completes Value outer [] ≡ false
unfolding lex punctuate
value-ends outer = GoesOnLemmas.on_bad_value outer []

pub colon-ends : (outer : List Frame) → completes Colon outer [] ≡ false
unfolding lex punctuate
colon-ends outer = GoesOnLemmas.on_bad_value outer []

pub item-ends : (outer : List Frame) → IsReached FirstItem outer → completes FirstItem outer [] ≡ false
unfolding lex punctuate
item-ends [] r = absurd r.suits
item-ends (frames.List ∷ outer) r = GoesOnLemmas.on_item outer [] refl ∙ GoesOnLemmas.on_nothing (frames.List ∷ outer)
item-ends (frames.Object ∷ outer) r = absurd r.suits

pub first_key-ends : (outer : List Frame) → IsReached FirstKey outer → completes FirstKey outer [] ≡ false
unfolding lex punctuate
first_key-ends [] r = absurd r.suits
first_key-ends (frames.List ∷ outer) r = absurd r.suits
first_key-ends (frames.Object ∷ outer) r = GoesOnLemmas.on_no_key outer [] refl

pub key-ends : (outer : List Frame) → completes Key outer [] ≡ false
unfolding lex punctuate
key-ends outer = GoesOnLemmas.on_bad outer []

pub after-ends : (frame : Frame) (outer : List Frame) → completes After (frame ∷ outer) [] ≡ false
unfolding lex punctuate
after-ends frames.List outer = GoesOnLemmas.on_item outer [] refl ∙ GoesOnLemmas.on_nothing (frames.List ∷ outer)
after-ends frames.Object outer = GoesOnLemmas.on_no_key outer [] refl

pub after-whole : completes After [] [] ≡ true
unfolding lex punctuate
after-whole = refl

no_string : (part : Within) → is_string part [] ≡ false
unfolding content
no_string strings.Plain = refl
no_string strings.Backslash = refl
no_string strings.Unit = refl
no_string strings.UnitD = refl
no_string strings.Unit1 = refl
no_string strings.Unit2 = refl
no_string strings.Unit3 = refl
no_string strings.High2 = refl
no_string strings.High3 = refl
no_string strings.High = refl
no_string strings.HighBackslash = refl
no_string strings.Low = refl
no_string strings.LowD = refl

pub in_key-ends : (part : Within) (outer : List Frame) → completes (InKey part) outer [] ≡ false
in_key-ends part outer = ap (λ b. b && begins outer (punctuate after_key (lex (string_mode part) []))) (no_string part)

pub in_string-ends : (part : Within) (outer : List Frame) → completes (InString part) outer [] ≡ false
in_string-ends part outer = ap (λ b. b && goes_on outer (punctuate after_value (lex (string_mode part) []))) (no_string part)

after_is : (outer : List Frame) → completes After outer [] ≡ (length outer == 0)
after_is [] = after-whole
after_is (frame ∷ outer) = after-ends frame outer ∙ sym (ne_eqb (length (frame ∷ outer)) 0 (λ e. omega arith))

pub number_is : (part : Number) (outer : List Frame) → completes (InNumber part) outer [] ≡ (ends_number part && (length outer == 0))
unfolding lex
number_is numbers.Minus outer = refl
number_is numbers.Zero outer = after_is outer
number_is numbers.Whole outer = after_is outer
number_is numbers.Dot outer = refl
number_is numbers.Fraction outer = after_is outer
number_is numbers.Letter outer = refl
number_is numbers.Sign outer = refl
number_is numbers.Exponent outer = after_is outer

in_word-ends : (word : Word) (read : ℕ) (outer : List Frame) → read < length (text_of word) → completes (InWord word read) outer [] ≡ false
in_word-ends word read outer inside = ap (λ name. is_word name [] && goes_on outer (punctuate after_value (lex in_word []))) (drop_more (text_of word) read 0 inside)

end_is : (mode : Mode) (outer : List Frame) → IsReached mode outer → completes mode outer [] ≡ (is_value mode && (length outer == 0))
end_is Value outer r = value-ends outer
end_is FirstItem outer r = item-ends outer r
end_is FirstKey outer r = first_key-ends outer r
end_is Key outer r = key-ends outer
end_is Colon outer r = colon-ends outer
end_is After outer r = after_is outer
end_is (InKey part) outer r = in_key-ends part outer
end_is (InString part) outer r = in_string-ends part outer
end_is (InNumber part) outer r = number_is part outer
end_is (InWord word read) outer r = in_word-ends word read outer r.suits

pub may_end-is : (mode : Mode) (inside : List Frame) → IsReached mode (reverse inside) → completes mode (reverse inside) [] ≡ (is_value mode && (length inside == 0))
may_end-is mode inside r = end_is mode (reverse inside) r ∙ ap (λ n. is_value mode && (n == 0)) (length-reverse inside)

pub may_end-then : (mode : Mode) (inside : List Frame) (b : Bool) → IsReached mode (reverse inside) → is_value mode ≡ true → b ≡ (length inside == 0) → b ≡ completes mode (reverse inside) []
may_end-then mode inside b r ends e = e ∙ ap (λ t. t && (length inside == 0)) (sym ends) ∙ sym (may_end-is mode inside r)

pub may_end-else : (mode : Mode) (inside : List Frame) → IsReached mode (reverse inside) → is_value mode ≡ false → false ≡ completes mode (reverse inside) []
may_end-else mode inside r ends = ap (λ t. t && (length inside == 0)) (sym ends) ∙ sym (may_end-is mode inside r)

-- ---- how a text goes on

-- bytes that make JSON of what there is
abbrev pub GoesOn : Mode → List Frame → Type 0
GoesOn mode outer = (rest : List ℕ) × (completes mode outer rest ≡ true)

pub after-goes_on : (outer : List Frame) → GoesOn After outer
after-goes_on [] = ([], after-whole)
after-goes_on (frames.List ∷ outer) = let more = after-goes_on outer in (93 ∷ more.0, CompletesLemmas.after-list_end outer more.0 ∙ more.1)
after-goes_on (frames.Object ∷ outer) = let more = after-goes_on outer in (125 ∷ more.0, CompletesLemmas.after-object_end outer more.0 ∙ more.1)

string-quote : (outer : List Frame) (rest : List ℕ) → completes (InString strings.Plain) outer (34 ∷ rest) ≡ completes After outer rest
unfolding content lex
string-quote outer rest = refl

key-quote : (outer : List Frame) (rest : List ℕ) → completes (InKey strings.Plain) outer (34 ∷ rest) ≡ completes Colon outer rest
unfolding content lex
key-quote outer rest = refl

value-goes_on : (outer : List Frame) → GoesOn Value outer
value-goes_on outer = let more = after-goes_on outer in (34 ∷ 34 ∷ more.0, CompletesLemmas.value-string outer (34 ∷ more.0) ∙ string-quote outer more.0 ∙ more.1)

colon-goes_on : (outer : List Frame) → GoesOn Colon outer
colon-goes_on outer = let more = value-goes_on outer in (58 ∷ more.0, CompletesLemmas.colon-colon outer more.0 ∙ more.1)

-- the bytes that end a string, and what follows the quote
string_rest : Within → List ℕ → List ℕ
string_rest strings.Plain rest = 34 ∷ rest
string_rest strings.Backslash rest = 110 ∷ 34 ∷ rest
string_rest strings.Unit rest = 48 ∷ 48 ∷ 48 ∷ 48 ∷ 34 ∷ rest
string_rest strings.UnitD rest = 48 ∷ 48 ∷ 48 ∷ 34 ∷ rest
string_rest strings.Unit1 rest = 48 ∷ 48 ∷ 48 ∷ 34 ∷ rest
string_rest strings.Unit2 rest = 48 ∷ 48 ∷ 34 ∷ rest
string_rest strings.Unit3 rest = 48 ∷ 34 ∷ rest
string_rest strings.High2 rest = 48 ∷ 48 ∷ 92 ∷ 117 ∷ 100 ∷ 99 ∷ 48 ∷ 48 ∷ 34 ∷ rest
string_rest strings.High3 rest = 48 ∷ 92 ∷ 117 ∷ 100 ∷ 99 ∷ 48 ∷ 48 ∷ 34 ∷ rest
string_rest strings.High rest = 92 ∷ 117 ∷ 100 ∷ 99 ∷ 48 ∷ 48 ∷ 34 ∷ rest
string_rest strings.HighBackslash rest = 117 ∷ 100 ∷ 99 ∷ 48 ∷ 48 ∷ 34 ∷ rest
string_rest strings.Low rest = 100 ∷ 99 ∷ 48 ∷ 48 ∷ 34 ∷ rest
string_rest strings.LowD rest = 99 ∷ 48 ∷ 48 ∷ 34 ∷ rest

key_rest : (part : Within) (outer : List Frame) (rest : List ℕ) → completes (InKey part) outer (string_rest part rest) ≡ completes Colon outer rest
unfolding content short_escape code_unit lex string_rest
key_rest strings.Plain outer rest = refl
key_rest strings.Backslash outer rest = refl
key_rest strings.Unit outer rest = refl
key_rest strings.UnitD outer rest = refl
key_rest strings.Unit1 outer rest = refl
key_rest strings.Unit2 outer rest = refl
key_rest strings.Unit3 outer rest = refl
key_rest strings.High2 outer rest = refl
key_rest strings.High3 outer rest = refl
key_rest strings.High outer rest = refl
key_rest strings.HighBackslash outer rest = refl
key_rest strings.Low outer rest = refl
key_rest strings.LowD outer rest = refl

string_after : (part : Within) (outer : List Frame) (rest : List ℕ) → completes (InString part) outer (string_rest part rest) ≡ completes After outer rest
unfolding content short_escape code_unit lex string_rest
string_after strings.Plain outer rest = refl
string_after strings.Backslash outer rest = refl
string_after strings.Unit outer rest = refl
string_after strings.UnitD outer rest = refl
string_after strings.Unit1 outer rest = refl
string_after strings.Unit2 outer rest = refl
string_after strings.Unit3 outer rest = refl
string_after strings.High2 outer rest = refl
string_after strings.High3 outer rest = refl
string_after strings.High outer rest = refl
string_after strings.HighBackslash outer rest = refl
string_after strings.Low outer rest = refl
string_after strings.LowD outer rest = refl

number_bytes : Number → List ℕ → List ℕ
number_bytes numbers.Zero rest = 32 ∷ rest
number_bytes part rest = 48 ∷ 32 ∷ rest

number_rest : (part : Number) (outer : List Frame) (rest : List ℕ) → completes (InNumber part) outer (number_bytes part rest) ≡ completes After outer rest
unfolding lex number_bytes
number_rest numbers.Minus outer rest = refl
number_rest numbers.Zero outer rest = refl
number_rest numbers.Whole outer rest = refl
number_rest numbers.Dot outer rest = refl
number_rest numbers.Fraction outer rest = refl
number_rest numbers.Letter outer rest = refl
number_rest numbers.Sign outer rest = refl
number_rest numbers.Exponent outer rest = refl

-- the letters that are left, and a space
word_rest : (word : Word) (read : ℕ) (outer : List Frame) (rest : List ℕ) → read < length (text_of word) → completes (InWord word read) outer (drop read (text_of word) ++ 32 ∷ rest) ≡ completes After outer rest
unfolding lex
word_rest words.True zero outer rest h = refl
word_rest words.True (suc zero) outer rest h = refl
word_rest words.True (suc (suc zero)) outer rest h = refl
word_rest words.True (suc (suc (suc zero))) outer rest h = refl
word_rest words.True (suc (suc (suc (suc n)))) outer rest h = let never : ⊥ = omega arith in absurd never
word_rest words.False zero outer rest h = refl
word_rest words.False (suc zero) outer rest h = refl
word_rest words.False (suc (suc zero)) outer rest h = refl
word_rest words.False (suc (suc (suc zero))) outer rest h = refl
word_rest words.False (suc (suc (suc (suc zero)))) outer rest h = refl
word_rest words.False (suc (suc (suc (suc (suc n))))) outer rest h = let never : ⊥ = omega arith in absurd never
word_rest words.Null zero outer rest h = refl
word_rest words.Null (suc zero) outer rest h = refl
word_rest words.Null (suc (suc zero)) outer rest h = refl
word_rest words.Null (suc (suc (suc zero))) outer rest h = refl
word_rest words.Null (suc (suc (suc (suc n)))) outer rest h = let never : ⊥ = omega arith in absurd never

item-goes_on : (outer : List Frame) → IsReached FirstItem outer → GoesOn FirstItem outer
item-goes_on [] r = absurd r.suits
item-goes_on (frames.List ∷ outer) r = let more = after-goes_on outer in (93 ∷ more.0, CompletesLemmas.item-end outer more.0 ∙ more.1)
item-goes_on (frames.Object ∷ outer) r = absurd r.suits

first_key-goes_on : (outer : List Frame) → IsReached FirstKey outer → GoesOn FirstKey outer
first_key-goes_on [] r = absurd r.suits
first_key-goes_on (frames.List ∷ outer) r = absurd r.suits
first_key-goes_on (frames.Object ∷ outer) r = let more = after-goes_on outer in (125 ∷ more.0, CompletesLemmas.first_key-end outer more.0 ∙ more.1)

key-goes_on : (outer : List Frame) → IsReached Key outer → GoesOn Key outer
key-goes_on [] r = absurd r.suits
key-goes_on (frames.List ∷ outer) r = absurd r.suits
key-goes_on (frames.Object ∷ outer) r =
    let all = frames.Object ∷ outer in
    let more = colon-goes_on all in
    (34 ∷ 34 ∷ more.0, CompletesLemmas.key-string outer (34 ∷ more.0) ∙ key-quote all more.0 ∙ more.1)

pub goes_on-reached : (mode : Mode) (outer : List Frame) → IsReached mode outer → GoesOn mode outer
goes_on-reached Value outer r = value-goes_on outer
goes_on-reached FirstItem outer r = item-goes_on outer r
goes_on-reached FirstKey outer r = first_key-goes_on outer r
goes_on-reached Key outer r = key-goes_on outer r
goes_on-reached Colon outer r = colon-goes_on outer
goes_on-reached After outer r = after-goes_on outer
goes_on-reached (InKey part) outer r = let more = colon-goes_on outer in (string_rest part more.0, key_rest part outer more.0 ∙ more.1)
goes_on-reached (InString part) outer r = let more = after-goes_on outer in (string_rest part more.0, string_after part outer more.0 ∙ more.1)
goes_on-reached (InNumber part) outer r = let more = after-goes_on outer in (number_bytes part more.0, number_rest part outer more.0 ∙ more.1)
goes_on-reached (InWord word read) outer r = let more = after-goes_on outer in (drop read (text_of word) ++ 32 ∷ more.0, word_rest word read outer more.0 r.suits ∙ more.1)
