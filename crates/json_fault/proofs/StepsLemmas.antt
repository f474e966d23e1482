-- Steps of the automaton, by the byte.
use Rattle.std.proofs.Common.{◌≡◌, ◌≢◌, ℕ, ◌+◌, ◌<◌, ◌≤◌, true, false, List, [], ◌∷◌, length, get_or, slice_get, Some, None, refl, sym, ap, ◌∙◌, arith, Option}
use Rattle.std.specs.Prelude.{◌&&◌, is_some}
use Rattle.std.specs.Char.{digit_value, is_ascii_digit}
use Rattle.json.specs.Lex.{after_value, in_word, lex, punctuate}
use Rattle.json.specs.Lex.{after_comma, after_key, fresh, in_string}
use Rattle.json.specs.Text.{content, short_escape}
use Rattle.json.specs.Word.{is_operator, is_space}
use Rattle.json_fault.specs.Document.{max_depth}
use Rattle.json_fault.specs.Rest.{after_part, begins, text_of, completes, goes_on, is_string, string_mode, word_ends, IsReached}
use Rattle.json_fault.specs.Steps.{IsNoPart, IsRefused, LeadsTo, Passes, Steps}
use Rattle.json_fault.specs.declared.mode.Frame.{Frame}
use Rattle.json_fault.specs.declared.mode.Frame.TheVariants as frames
use Rattle.json_fault.specs.declared.mode.Mode.{Mode}
use Rattle.json_fault.specs.declared.mode.Number.TheVariants as numbers
use Rattle.json_fault.specs.declared.mode.Word.{Word}
use Rattle.json_fault.specs.declared.mode.Mode.TheVariants.{Value, FirstItem, FirstKey, Key, Colon, After, InKey, InString, InNumber, InWord}
use Rattle.json_fault.specs.declared.mode.Step.TheVariants.{To, Open, Close}
use Rattle.json_fault.specs.declared.mode.Number.{Number}
use Rattle.json_fault.specs.declared.mode.Step.{Step}
use Rattle.json_fault.specs.declared.mode.Within.{Within}
use Rattle.json_fault.specs.declared.mode.Within.TheVariants.{Plain, Backslash, Unit, High, HighBackslash, Low}
use Rattle.json_fault.proofs.CompletesLemmas
use Rattle.json_fault.proofs.PunctuateLemmas.{nothing_after_value}
use Rattle.json_fault.proofs.GoesOnLemmas.{on_bad}
use Rattle.json_fault.proofs.IsStringLemmas
use Rattle.json_fault.proofs.WordLemmas

-- ---- after a value

pub after-space : (outer : List Frame) (x : ℕ) → IsReached After outer → is_space x ≡ true → LeadsTo After outer x (To After)
after-space outer x r e = record { same = λ rest. ap (λ ls. goes_on outer (punctuate after_value ls)) (CompletesLemmas.on_space x rest e); reached = r }

pub list-comma : (outer : List Frame) (x : ℕ) → IsReached After outer → Some frames.List ≡ slice_get outer 0 → x ≡ 44 → LeadsTo After outer x (To Value)
list-comma [] x r top e = absurd (cc)
list-comma (frames.List ∷ outer) x r top e = record { same = λ rest. ap (λ y. completes After (frames.List ∷ outer) (y ∷ rest)) e ∙ CompletesLemmas.after-list_comma outer rest; reached = record { shallow = r.shallow; suits = tt } }
list-comma (frames.Object ∷ outer) x r top e = absurd (cc)

pub list-end : (outer : List Frame) (x : ℕ) → IsReached After outer → Some frames.List ≡ slice_get outer 0 → x ≡ 93 → LeadsTo After outer x Close
list-end [] x r top e = absurd (cc)
list-end (frames.List ∷ outer) x r top e =
    let le = r.shallow in
    record { same = λ rest. ap (λ y. completes After (frames.List ∷ outer) (y ∷ rest)) e ∙ CompletesLemmas.after-list_end outer rest; reached = record { shallow = omega arith; suits = tt } }
list-end (frames.Object ∷ outer) x r top e = absurd (cc)

pub list-other : (outer : List Frame) (x : ℕ) → Some frames.List ≡ slice_get outer 0 → is_space x ≡ false → x ≢ 44 → x ≢ 93 → IsRefused After outer x
list-other [] x top s a b = absurd (cc)
list-other (frames.List ∷ outer) x top s a b = record { none = λ rest. CompletesLemmas.after-list_other outer x rest s a b }
list-other (frames.Object ∷ outer) x top s a b = absurd (cc)

pub object-comma : (outer : List Frame) (x : ℕ) → IsReached After outer → Some frames.Object ≡ slice_get outer 0 → x ≡ 44 → LeadsTo After outer x (To Key)
object-comma [] x r top e = absurd (cc)
object-comma (frames.List ∷ outer) x r top e = absurd (cc)
object-comma (frames.Object ∷ outer) x r top e = record { same = λ rest. ap (λ y. completes After (frames.Object ∷ outer) (y ∷ rest)) e ∙ CompletesLemmas.after-object_comma outer rest; reached = record { shallow = r.shallow; suits = tt } }

pub object-end : (outer : List Frame) (x : ℕ) → IsReached After outer → Some frames.Object ≡ slice_get outer 0 → x ≡ 125 → LeadsTo After outer x Close
object-end [] x r top e = absurd (cc)
object-end (frames.List ∷ outer) x r top e = absurd (cc)
object-end (frames.Object ∷ outer) x r top e =
    let le = r.shallow in
    record { same = λ rest. ap (λ y. completes After (frames.Object ∷ outer) (y ∷ rest)) e ∙ CompletesLemmas.after-object_end outer rest; reached = record { shallow = omega arith; suits = tt } }

pub object-other : (outer : List Frame) (x : ℕ) → Some frames.Object ≡ slice_get outer 0 → is_space x ≡ false → x ≢ 44 → x ≢ 125 → IsRefused After outer x
object-other [] x top s a b = absurd (cc)
object-other (frames.List ∷ outer) x top s a b = absurd (cc)
object-other (frames.Object ∷ outer) x top s a b = record { none = λ rest. CompletesLemmas.after-object_other outer x rest s a b }

pub end-other : (outer : List Frame) (x : ℕ) → None ≡ slice_get outer 0 → is_space x ≡ false → IsRefused After outer x
end-other [] x top s = record { none = λ rest. CompletesLemmas.after-end x rest s }
end-other (frame ∷ outer) x top s = absurd (cc)

-- ---- in a number

module _ (outer : List Frame) (x : ℕ) (part : Number) where
  -- what follows the number with the byte is what follows it after the next part
  abbrev Follows : Number → Type 0
  Follows next = (xs : List ℕ) → after_part part (x ∷ xs) ≡ after_part next xs

  pub number-byte : (next : Number) → IsReached (InNumber part) outer → is_operator x ≡ false → is_space x ≡ false → Follows next → LeadsTo (InNumber part) outer x (To (InNumber next))
  number-byte next r o s e = record { same = λ rest. WordLemmas.number_goes_on outer x rest part next o s (e rest); reached = record { shallow = r.shallow; suits = tt } }

  pub number-digit : (next : Number) → IsReached (InNumber part) outer → is_ascii_digit x ≡ true → Follows next → LeadsTo (InNumber part) outer x (To (InNumber next))
  number-digit next r digit e = let solid = WordLemmas.digit_is_solid x digit in number-byte next r solid.0 solid.1 e

  pub number-none : ((xs : List ℕ) → after_part part (x ∷ xs) ≡ None) → IsRefused (InNumber part) outer x
  number-none e = record { none = λ rest. WordLemmas.number_stops outer x rest part (e rest) }

  pub number-end : (r : Option Step) → ((xs : List ℕ) → after_part part (x ∷ xs) ≡ Some (x ∷ xs)) → Steps After outer x r → Steps (InNumber part) outer x r
  number-end (Some step) e leads = record { same = λ rest. WordLemmas.number_ends outer x rest part (e rest) ∙ leads.same rest; reached = leads.reached }
  number-end None e refused = record { none = λ rest. WordLemmas.number_ends outer x rest part (e rest) ∙ refused.none rest }

  pub number-as : (other : Number) (r : Option Step) → ((xs : List ℕ) → after_part part (x ∷ xs) ≡ after_part other (x ∷ xs)) → Steps (InNumber other) outer x r → Steps (InNumber part) outer x r
  number-as other (Some step) e leads = record { same = λ rest. ap (λ o. word_ends o && goes_on outer (punctuate after_value (lex in_word (x ∷ rest)))) (e rest) ∙ leads.same rest; reached = leads.reached }
  number-as other None e refused = record { none = λ rest. ap (λ o. word_ends o && goes_on outer (punctuate after_value (lex in_word (x ∷ rest)))) (e rest) ∙ refused.none rest }

pub after-digit : (outer : List Frame) (x : ℕ) → is_ascii_digit x ≡ true → IsRefused After outer x
after-digit outer x digit =
    record { none = λ rest. ap (goes_on outer) (nothing_after_value x rest (WordLemmas.digit_is_solid x digit).1 (WordLemmas.digit_is_no x 44 digit refl) (WordLemmas.digit_is_no x 93 digit refl) (WordLemmas.digit_is_no x 125 digit refl)) ∙ on_bad outer [] }

-- ---- in a string

module _ (outer : List Frame) (x : ℕ) (part : Within) where
  pub key-part : (next : Within) → IsReached (InKey part) outer → Passes part x next → LeadsTo (InKey part) outer x (To (InKey next))
  key-part next r passes = record { same = λ rest. (λ i. passes.same rest i && begins outer (punctuate after_key (passes.lexed rest i))); reached = record { shallow = r.shallow; suits = tt } }

  pub string-part : (next : Within) → IsReached (InString part) outer → Passes part x next → LeadsTo (InString part) outer x (To (InString next))
  string-part next r passes = record { same = λ rest. (λ i. passes.same rest i && goes_on outer (punctuate after_value (passes.lexed rest i))); reached = record { shallow = r.shallow; suits = tt } }

  pub key-none : IsNoPart part x → IsRefused (InKey part) outer x
  key-none refused = record { none = λ rest. ap (λ b. b && begins outer (punctuate after_key (lex (string_mode part) (x ∷ rest)))) (refused.none rest) }

  pub string-none : IsNoPart part x → IsRefused (InString part) outer x
  string-none refused = record { none = λ rest. ap (λ b. b && goes_on outer (punctuate after_value (lex (string_mode part) (x ∷ rest)))) (refused.none rest) }

  pub key-end : IsReached (InKey part) outer → (part ≡ Plain) × (x ≡ 34) → LeadsTo (InKey part) outer x (To Colon)
  unfolding content lex
  key-end r e = record { same = λ rest. (λ i. completes (InKey (e.0 i)) outer (e.1 i ∷ rest)); reached = record { shallow = r.shallow; suits = tt } }

  pub string-end : IsReached (InString part) outer → (part ≡ Plain) × (x ≡ 34) → LeadsTo (InString part) outer x (To After)
  unfolding content lex
  string-end r e = record { same = λ rest. (λ i. completes (InString (e.0 i)) outer (e.1 i ∷ rest)); reached = record { shallow = r.shallow; suits = tt } }

-- ---- the bytes of a string

pub passes-digit : (part next : Within) (x : ℕ) → string_mode part ≡ in_string → string_mode next ≡ in_string → ((xs : List ℕ) → is_string part (x ∷ xs) ≡ is_string next xs) → digit_value x < 16 → Passes part x next
passes-digit part next x from to same digit =
    let no_quote : x ≢ 34 = λ e. let value : digit_value x ≡ 36 = ap digit_value e in omega arith in
    let no_backslash : x ≢ 92 = λ e. let value : digit_value x ≡ 36 = ap digit_value e in omega arith in
    record { same = same; lexed = λ rest. ap (λ m. lex m (x ∷ rest)) from ∙ IsStringLemmas.in_string_passes x rest no_quote no_backslash ∙ ap (λ m. lex m rest) (sym to) }

pub passes-plain : (x : ℕ) → x ≢ 34 → x ≢ 92 → 32 ≤ x → Passes Plain x Plain
passes-plain x no_quote no_backslash le = record { same = λ rest. IsStringLemmas.plain-other x rest no_quote no_backslash le; lexed = λ rest. IsStringLemmas.in_string_passes x rest no_quote no_backslash }

pub passes-backslash : (x : ℕ) → x ≡ 92 → Passes Plain x Backslash
unfolding content lex
passes-backslash x e = record { same = λ rest. ap (λ y. is_string Plain (y ∷ rest)) e; lexed = λ rest. ap (λ y. lex in_string (y ∷ rest)) e }

pub passes-u : (x : ℕ) → x ≡ 117 → Passes Backslash x Unit
unfolding content lex
passes-u x e = record { same = λ rest. ap (λ y. is_string Backslash (y ∷ rest)) e; lexed = λ rest. refl }

pub passes-short : (x : ℕ) → x ≢ 117 → is_some (short_escape x) ≡ true → Passes Backslash x Plain
unfolding lex
passes-short x no_u short = record { same = λ rest. IsStringLemmas.backslash-short x rest no_u ∙ ap (λ b. b && is_string Plain rest) short; lexed = λ rest. refl }

pub no-escape : (x : ℕ) → x ≢ 117 → is_some (short_escape x) ≡ false → IsNoPart Backslash x
no-escape x no_u short = record { none = λ rest. IsStringLemmas.backslash-short x rest no_u ∙ ap (λ b. b && is_string Plain rest) short }

pub passes-high : (x : ℕ) → x ≡ 92 → Passes High x HighBackslash
unfolding lex
passes-high x e = record { same = λ rest. ap (λ y. is_string High (y ∷ rest)) e; lexed = λ rest. ap (λ y. lex in_string (y ∷ rest)) e }

pub passes-high_backslash : (x : ℕ) → x ≡ 117 → Passes HighBackslash x Low
unfolding lex
passes-high_backslash x e = record { same = λ rest. ap (λ y. is_string HighBackslash (y ∷ rest)) e; lexed = λ rest. refl }

-- ---- between the words and strings

pub leads : (from to : Mode) (outer : List Frame) (x n : ℕ) → x ≡ n → ((rest : List ℕ) → completes from outer (n ∷ rest) ≡ completes to outer rest) → IsReached to outer → LeadsTo from outer x (To to)
leads from to outer x n e same r = record { same = λ rest. ap (λ y. completes from outer (y ∷ rest)) e ∙ same rest; reached = r }

pub value-space : (outer : List Frame) (x : ℕ) → IsReached Value outer → is_space x ≡ true → LeadsTo Value outer x (To Value)
value-space outer x r e = record { same = λ rest. ap (λ ls. begins outer (punctuate after_comma ls)) (CompletesLemmas.on_space x rest e); reached = r }

pub item-space : (outer : List Frame) (x : ℕ) → IsReached FirstItem outer → is_space x ≡ true → LeadsTo FirstItem outer x (To FirstItem)
item-space outer x r e = record { same = λ rest. ap (λ ls. goes_on outer (punctuate fresh ls)) (CompletesLemmas.on_space x rest e); reached = r }

pub first_key-space : (outer : List Frame) (x : ℕ) → IsReached FirstKey outer → is_space x ≡ true → LeadsTo FirstKey outer x (To FirstKey)
first_key-space outer x r e = record { same = λ rest. ap (λ ls. goes_on outer (punctuate fresh ls)) (CompletesLemmas.on_space x rest e); reached = r }

pub key-space : (outer : List Frame) (x : ℕ) → IsReached Key outer → is_space x ≡ true → LeadsTo Key outer x (To Key)
key-space outer x r e = record { same = λ rest. ap (λ ls. goes_on outer (punctuate after_comma ls)) (CompletesLemmas.on_space x rest e); reached = r }

pub colon-space : (outer : List Frame) (x : ℕ) → IsReached Colon outer → is_space x ≡ true → LeadsTo Colon outer x (To Colon)
colon-space outer x r e = record { same = λ rest. ap (λ ls. begins outer (punctuate after_key ls)) (CompletesLemmas.on_space x rest e); reached = r }

pub opens-list : (outer : List Frame) (x : ℕ) → x ≡ 91 → length outer < max_depth → LeadsTo Value outer x (Open frames.List)
opens-list outer x e shallow = record { same = λ rest. ap (λ y. completes Value outer (y ∷ rest)) e ∙ CompletesLemmas.value-list outer rest shallow; reached = record { shallow = omega arith; suits = tt } }

pub opens-object : (outer : List Frame) (x : ℕ) → x ≡ 123 → length outer < max_depth → LeadsTo Value outer x (Open frames.Object)
opens-object outer x e shallow = record { same = λ rest. ap (λ y. completes Value outer (y ∷ rest)) e ∙ CompletesLemmas.value-object outer rest shallow; reached = record { shallow = omega arith; suits = tt } }

pub opens-no_list : (outer : List Frame) (x : ℕ) → x ≡ 91 → max_depth ≤ length outer → IsRefused Value outer x
opens-no_list outer x e deep = record { none = λ rest. ap (λ y. completes Value outer (y ∷ rest)) e ∙ CompletesLemmas.value-deep_list outer rest deep }

pub opens-no_object : (outer : List Frame) (x : ℕ) → x ≡ 123 → max_depth ≤ length outer → IsRefused Value outer x
opens-no_object outer x e deep = record { none = λ rest. ap (λ y. completes Value outer (y ∷ rest)) e ∙ CompletesLemmas.value-deep_object outer rest deep }

pub value-digit : (outer : List Frame) (x : ℕ) → IsReached Value outer → is_ascii_digit x ≡ true → x ≢ 48 → LeadsTo Value outer x (To (InNumber numbers.Whole))
value-digit outer x r digit no_zero = record { same = λ rest. CompletesLemmas.value-digit outer x rest digit no_zero; reached = record { shallow = r.shallow; suits = tt } }

pub item-end : (outer : List Frame) (x : ℕ) → IsReached FirstItem outer → x ≡ 93 → LeadsTo FirstItem outer x Close
item-end [] x r e = absurd r.suits
item-end (frames.List ∷ outer) x r e =
    let le = r.shallow in
    record { same = λ rest. ap (λ y. completes FirstItem (frames.List ∷ outer) (y ∷ rest)) e ∙ CompletesLemmas.item-end outer rest; reached = record { shallow = omega arith; suits = tt } }
item-end (frames.Object ∷ outer) x r e = absurd r.suits

pub item-value : (outer : List Frame) (x : ℕ) (r : Option Step) → IsReached FirstItem outer → is_space x ≡ false → x ≢ 93 → Steps Value outer x r → Steps FirstItem outer x r
item-value [] x result r s no_end steps = absurd r.suits
item-value (frames.List ∷ outer) x (Some step) r s no_end steps = record { same = λ rest. CompletesLemmas.item-value outer x rest s no_end ∙ steps.same rest; reached = steps.reached }
item-value (frames.List ∷ outer) x None r s no_end steps = record { none = λ rest. CompletesLemmas.item-value outer x rest s no_end ∙ steps.none rest }
item-value (frames.Object ∷ outer) x result r s no_end steps = absurd r.suits

pub first_key-string : (outer : List Frame) (x : ℕ) → IsReached FirstKey outer → x ≡ 34 → LeadsTo FirstKey outer x (To (InKey Plain))
first_key-string [] x r e = absurd r.suits
first_key-string (frames.List ∷ outer) x r e = absurd r.suits
first_key-string (frames.Object ∷ outer) x r e = leads FirstKey (InKey Plain) (frames.Object ∷ outer) x 34 e (CompletesLemmas.first_key-string outer) (record { shallow = r.shallow; suits = tt })

pub first_key-end : (outer : List Frame) (x : ℕ) → IsReached FirstKey outer → x ≡ 125 → LeadsTo FirstKey outer x Close
first_key-end [] x r e = absurd r.suits
first_key-end (frames.List ∷ outer) x r e = absurd r.suits
first_key-end (frames.Object ∷ outer) x r e =
    let le = r.shallow in
    record { same = λ rest. ap (λ y. completes FirstKey (frames.Object ∷ outer) (y ∷ rest)) e ∙ CompletesLemmas.first_key-end outer rest; reached = record { shallow = omega arith; suits = tt } }

pub first_key-other : (outer : List Frame) (x : ℕ) → IsReached FirstKey outer → is_space x ≡ false → x ≢ 34 → x ≢ 125 → IsRefused FirstKey outer x
first_key-other [] x r s a b = absurd r.suits
first_key-other (frames.List ∷ outer) x r s a b = absurd r.suits
first_key-other (frames.Object ∷ outer) x r s a b = record { none = λ rest. CompletesLemmas.first_key-other outer x rest s a b }

pub key-string : (outer : List Frame) (x : ℕ) → IsReached Key outer → x ≡ 34 → LeadsTo Key outer x (To (InKey Plain))
key-string [] x r e = absurd r.suits
key-string (frames.List ∷ outer) x r e = absurd r.suits
key-string (frames.Object ∷ outer) x r e = leads Key (InKey Plain) (frames.Object ∷ outer) x 34 e (CompletesLemmas.key-string outer) (record { shallow = r.shallow; suits = tt })

pub key-other : (outer : List Frame) (x : ℕ) → IsReached Key outer → is_space x ≡ false → x ≢ 34 → IsRefused Key outer x
key-other [] x r s a = absurd r.suits
key-other (frames.List ∷ outer) x r s a = absurd r.suits
key-other (frames.Object ∷ outer) x r s a = record { none = λ rest. CompletesLemmas.key-other outer x rest s a }

-- ---- literals

module _ (outer : List Frame) (word : Word) (read x : ℕ) (inside : read < length (text_of word)) where
  pub word-letter : IsReached (InWord word read) outer → get_or (text_of word) read 0 ≡ x → read + 1 < length (text_of word) → LeadsTo (InWord word read) outer x (To (InWord word (read + 1)))
  word-letter r e more = record { same = λ rest. WordLemmas.letter_goes_on outer word read x rest inside e more; reached = record { shallow = r.shallow; suits = more } }

  pub word-last : IsReached (InWord word read) outer → get_or (text_of word) read 0 ≡ x → read + 1 ≡ length (text_of word) → LeadsTo (InWord word read) outer x (To After)
  word-last r e last = record { same = λ rest. WordLemmas.word_is_read outer word read x rest inside e last; reached = record { shallow = r.shallow; suits = tt } }

  pub word-other : (get_or (text_of word) read 0 ≡ x → ⊥) → IsRefused (InWord word read) outer x
  word-other other_byte = record { none = λ rest. WordLemmas.word_stops outer word read x rest inside other_byte }
