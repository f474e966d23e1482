-- What is expected in each state.
use Rattle.std.proofs.Common.{◌≡◌, ◌⊎◌, inl, inr, ℕ, zero, suc, ◌+◌, ◌<◌, ◌≤◌, true, false, List, [], ◌∷◌, length, get_or, Option, Some, None, refl, sym, ap, ◌∙◌, arith, subst}
use Rattle.std.proofs.lemmas.Bool.{cases_lt, true≢false}
use Rattle.std.specs.Char.{digit_value, is_ascii_digit}
use Rattle.std.specs.Prelude.{◌&&◌, IfSome}
use Rattle.json.specs.Lex.{in_string}
use Rattle.json.specs.Text.{short_escape}
use Rattle.json_fault.specs.Rest.{after_part, completes, ends_number, is_string, string_mode, text_of, IsReached}
use Rattle.json_fault.specs.Steps.{mode_after, outer_after, IsNoPart, IsRefused, LeadsTo}
use Rattle.json_fault.specs.Awaits.{awaited, awaited_word, Awaits, AwaitsPart, CanPass, CanTake, IsAbsent, IsAbsentPart, IsAfter}
use Rattle.json_fault.specs.Fault.{IsRight, Opens}
use Rattle.json_fault.specs.declared.expected.Expected.{Expected}
use Rattle.json_fault.specs.declared.expected.Expected.TheVariants as wants
use Rattle.json_fault.specs.declared.mode.Frame.{Frame}
use Rattle.json_fault.specs.declared.mode.Mode.{Mode}
use Rattle.json_fault.specs.declared.mode.Mode.TheVariants.{Value, FirstItem, FirstKey, Key, Colon, After, InKey, InString, InNumber, InWord}
use Rattle.json_fault.specs.declared.mode.Number.{Number}
use Rattle.json_fault.specs.declared.mode.Number.TheVariants as numbers
use Rattle.json_fault.specs.declared.mode.Step.{Step}
use Rattle.json_fault.specs.declared.mode.Step.TheVariants.{To, Close}
use Rattle.json_fault.specs.declared.mode.Within.{Within}
use Rattle.json_fault.specs.declared.mode.Within.TheVariants.{Plain, Backslash, Unit, UnitD, Unit1, Unit2, Unit3, High2, High3, High, HighBackslash, Low, LowD}
use Rattle.json_fault.specs.declared.mode.Word.{Word}
use Rattle.json_fault.specs.declared.mode.Word.TheVariants as words
use Rattle.json_fault.proofs.CompletesLemmas
use Rattle.json_fault.proofs.IsReachedLemmas
use Rattle.json_fault.proofs.StepsLemmas
use Rattle.json_fault.proofs.IsStringLemmas
use Rattle.json_fault.proofs.FaultLemmas
use Rattle.json_fault.proofs.WordLemmas

-- a byte with a step can be taken
can : (mode : Mode) (outer : List Frame) (b : ℕ) (step : Step) → LeadsTo mode outer b step → CanTake mode outer b
can mode outer b step leads = let more = IsReachedLemmas.goes_on-reached (mode_after step) (outer_after step outer) leads.reached in (more.0, leads.same more.0 ∙ more.1)

-- ---- after a value

pub after_awaits : (e : Expected) (outer : List Frame) → IsReached After outer → IsAfter e outer → Awaits e After outer
after_awaits wants.TextEnd [] r is byte = IsReachedLemmas.after-whole
after_awaits wants.TextEnd (frame ∷ outer) r is byte = absurd (cc)
after_awaits wants.CommaOrListEnd outer r is byte = (can After outer 44 (To Value) (StepsLemmas.list-comma outer 44 r is refl), can After outer 93 Close (StepsLemmas.list-end outer 93 r is refl))
after_awaits wants.CommaOrObjectEnd outer r is byte = (can After outer 44 (To Key) (StepsLemmas.object-comma outer 44 r is refl), can After outer 125 Close (StepsLemmas.object-end outer 125 r is refl))
after_awaits e outer r is byte = absurd is

-- ---- in a number

ends_at : (part : Number) → ends_number part ≡ true → (xs : List ℕ) → (after_part part (44 ∷ xs) ≡ Some (44 ∷ xs)) × (after_part part (93 ∷ xs) ≡ Some (93 ∷ xs)) × (after_part part (125 ∷ xs) ≡ Some (125 ∷ xs))
ends_at numbers.Minus e xs = absurd (true≢false (sym e))
ends_at numbers.Zero e xs = (refl, refl, refl)
ends_at numbers.Whole e xs = (refl, refl, refl)
ends_at numbers.Dot e xs = absurd (true≢false (sym e))
ends_at numbers.Fraction e xs = (refl, refl, refl)
ends_at numbers.Letter e xs = absurd (true≢false (sym e))
ends_at numbers.Sign e xs = absurd (true≢false (sym e))
ends_at numbers.Exponent e xs = (refl, refl, refl)

pub number_awaits : (e : Expected) (part : Number) (outer : List Frame) → IsReached (InNumber part) outer → ends_number part ≡ true → IsAfter e outer → Awaits e (InNumber part) outer
number_awaits wants.TextEnd part [] r ends is byte = IsReachedLemmas.number_is part [] ∙ ap (λ b. b && true) ends
number_awaits wants.TextEnd part (frame ∷ outer) r ends is byte = absurd (cc)
number_awaits wants.CommaOrListEnd part outer r ends is byte =
    let after : IsReached After outer = record { shallow = r.shallow; suits = tt } in (
      can (InNumber part) outer 44 (To Value) (StepsLemmas.number-end outer 44 part (Some (To Value)) (λ xs. (ends_at part ends xs).0) (StepsLemmas.list-comma outer 44 after is refl)),
      can (InNumber part) outer 93 Close (StepsLemmas.number-end outer 93 part (Some Close) (λ xs. (ends_at part ends xs).1) (StepsLemmas.list-end outer 93 after is refl)),
    )
number_awaits wants.CommaOrObjectEnd part outer r ends is byte =
    let after : IsReached After outer = record { shallow = r.shallow; suits = tt } in (
      can (InNumber part) outer 44 (To Key) (StepsLemmas.number-end outer 44 part (Some (To Key)) (λ xs. (ends_at part ends xs).0) (StepsLemmas.object-comma outer 44 after is refl)),
      can (InNumber part) outer 125 Close (StepsLemmas.number-end outer 125 part (Some Close) (λ xs. (ends_at part ends xs).2) (StepsLemmas.object-end outer 125 after is refl)),
    )
number_awaits e part outer r ends is byte = absurd is

pub digit_awaits : (part next : Number) (outer : List Frame) → IsReached (InNumber part) outer → ((xs : List ℕ) → after_part part (48 ∷ xs) ≡ after_part next xs) → ((xs : List ℕ) → after_part part (97 ∷ xs) ≡ None) → Awaits wants.Digit (InNumber part) outer
digit_awaits part next outer r digit other_byte byte = (can (InNumber part) outer 48 (To (InNumber next)) (StepsLemmas.number-digit outer 48 part next r refl digit), StepsLemmas.number-none outer 97 part other_byte)

-- ---- between the words and strings

value_string : (outer : List Frame) → IsReached Value outer → LeadsTo Value outer 34 (To (InString Plain))
value_string outer r = StepsLemmas.leads Value (InString Plain) outer 34 34 refl (CompletesLemmas.value-string outer) (record { shallow = r.shallow; suits = tt })

value_zero : (outer : List Frame) → IsReached Value outer → LeadsTo Value outer 48 (To (InNumber numbers.Zero))
value_zero outer r = StepsLemmas.leads Value (InNumber numbers.Zero) outer 48 48 refl (CompletesLemmas.value-zero outer) (record { shallow = r.shallow; suits = tt })

pub value_awaits : (outer : List Frame) → IsReached Value outer → Awaits wants.Value Value outer
value_awaits outer r byte =
    let none : CompletesLemmas.BeginsNone 93 = record { no_quote = λ e. omega arith; no_list = λ e. omega arith; no_object = λ e. omega arith; no_minus = λ e. omega arith; no_digit = refl; no_true = λ e. omega arith; no_false = λ e. omega arith; no_null = λ e. omega arith } in
    (can Value outer 34 _ (value_string outer r), can Value outer 48 _ (value_zero outer r), record { none = λ rest. CompletesLemmas.value-other outer 93 rest refl none })

pub item_awaits : (outer : List Frame) → IsReached FirstItem outer → Awaits wants.ValueOrEnd FirstItem outer
item_awaits outer r byte =
    let as_value : IsReached Value outer = record { shallow = r.shallow; suits = tt } in (
      can FirstItem outer 34 (To (InString Plain)) (StepsLemmas.item-value outer 34 (Some (To (InString Plain))) r refl (λ e. omega arith) (value_string outer as_value)),
      can FirstItem outer 48 (To (InNumber numbers.Zero)) (StepsLemmas.item-value outer 48 (Some (To (InNumber numbers.Zero))) r refl (λ e. omega arith) (value_zero outer as_value)),
      can FirstItem outer 93 Close (StepsLemmas.item-end outer 93 r refl),
    )

pub first_key_awaits : (outer : List Frame) → IsReached FirstKey outer → Awaits wants.KeyOrEnd FirstKey outer
first_key_awaits outer r byte =
    (can FirstKey outer 34 _ (StepsLemmas.first_key-string outer 34 r refl), can FirstKey outer 125 _ (StepsLemmas.first_key-end outer 125 r refl), StepsLemmas.first_key-other outer 48 r refl (λ e. omega arith) (λ e. omega arith))

pub key_awaits : (outer : List Frame) → IsReached Key outer → Awaits wants.Key Key outer
key_awaits outer r byte = (can Key outer 34 _ (StepsLemmas.key-string outer 34 r refl), StepsLemmas.key-other outer 48 r refl (λ e. omega arith), StepsLemmas.key-other outer 125 r refl (λ e. omega arith))

pub colon_awaits : (outer : List Frame) → IsReached Colon outer → Awaits wants.Colon Colon outer
colon_awaits outer r byte =
    (can Colon outer 58 _ (StepsLemmas.leads Colon Value outer 58 58 refl (CompletesLemmas.colon-colon outer) (record { shallow = r.shallow; suits = tt })), record { none = λ rest. CompletesLemmas.colon-other outer 34 rest refl (λ e. omega arith) })

-- ---- in a string

hex_part : (part next letter : Within) → string_mode part ≡ in_string → string_mode next ≡ in_string → string_mode letter ≡ in_string → ((xs : List ℕ) → is_string part (48 ∷ xs) ≡ is_string next xs) → ((xs : List ℕ) → is_string part (97 ∷ xs) ≡ is_string letter xs)
    → ((xs : List ℕ) → is_string part (34 ∷ xs) ≡ false) → AwaitsPart wants.HexDigit part
hex_part part next letter from to too digit a quote byte = (inr (next, StepsLemmas.passes-digit part next 48 from to digit (omega arith)), inr (letter, StepsLemmas.passes-digit part letter 97 from too a (omega arith)), record { none = quote })

pub part_awaits : (part : Within) → AwaitsPart (awaited part) part
unfolding short_escape
part_awaits Plain byte = (inl (refl, refl), inr (Plain, StepsLemmas.passes-plain 58 (λ e. omega arith) (λ e. omega arith) (omega arith)))
part_awaits Backslash byte = (inr (Plain, StepsLemmas.passes-short 110 (λ e. omega arith) refl), inr (Unit, StepsLemmas.passes-u 117 refl), StepsLemmas.no-escape 48 (λ e. omega arith) refl)
part_awaits Unit byte = hex_part Unit Unit1 Unit1 refl refl refl (λ xs. IsStringLemmas.unit-digit 48 xs (omega arith) (λ e. omega arith)) (λ xs. IsStringLemmas.unit-digit 97 xs (omega arith) (λ e. omega arith)) (λ xs. IsStringLemmas.unit-other 34 xs (omega arith)) byte
part_awaits UnitD byte = hex_part UnitD Unit2 High2 refl refl refl (λ xs. IsStringLemmas.unitd-digit 48 xs (omega arith)) (λ xs. IsStringLemmas.unitd-high 97 xs (omega arith) (omega arith)) (λ xs. IsStringLemmas.unitd-low 34 xs (omega arith)) byte
part_awaits Unit1 byte = hex_part Unit1 Unit2 Unit2 refl refl refl (λ xs. IsStringLemmas.unit1-digit 48 xs (omega arith)) (λ xs. IsStringLemmas.unit1-digit 97 xs (omega arith)) (λ xs. IsStringLemmas.unit1-other 34 xs (omega arith)) byte
part_awaits Unit2 byte = hex_part Unit2 Unit3 Unit3 refl refl refl (λ xs. IsStringLemmas.unit2-digit 48 xs (omega arith)) (λ xs. IsStringLemmas.unit2-digit 97 xs (omega arith)) (λ xs. IsStringLemmas.unit2-other 34 xs (omega arith)) byte
part_awaits Unit3 byte = hex_part Unit3 Plain Plain refl refl refl (λ xs. IsStringLemmas.unit3-digit 48 xs (omega arith)) (λ xs. IsStringLemmas.unit3-digit 97 xs (omega arith)) (λ xs. IsStringLemmas.unit3-other 34 xs (omega arith)) byte
part_awaits High2 byte = hex_part High2 High3 High3 refl refl refl (λ xs. IsStringLemmas.high2-digit 48 xs (omega arith)) (λ xs. IsStringLemmas.high2-digit 97 xs (omega arith)) (λ xs. IsStringLemmas.high2-other 34 xs (omega arith)) byte
part_awaits High3 byte = hex_part High3 High High refl refl refl (λ xs. IsStringLemmas.high3-digit 48 xs (omega arith)) (λ xs. IsStringLemmas.high3-digit 97 xs (omega arith)) (λ xs. IsStringLemmas.high3-other 34 xs (omega arith)) byte
part_awaits High byte = inl (inr (HighBackslash, StepsLemmas.passes-high 92 refl))
part_awaits HighBackslash byte = inr (inl (inr (Low, StepsLemmas.passes-high_backslash 117 refl)))
part_awaits Low byte = inr (inr (inl (inr (LowD, StepsLemmas.passes-digit Low LowD 100 refl refl (λ xs. IsStringLemmas.low-d 100 xs refl) (omega arith)))))
part_awaits LowD byte = inr (inr (inr (inr (Unit2, StepsLemmas.passes-digit LowD Unit2 99 refl refl (λ xs. IsStringLemmas.low_d-low 99 xs (omega arith) (omega arith)) (omega arith)))))

key_can : (part : Within) (outer : List Frame) → IsReached (InKey part) outer → (b : ℕ) → CanPass part b → CanTake (InKey part) outer b
key_can part outer r b (inl ends) = can (InKey part) outer b (To Colon) (StepsLemmas.key-end outer b part r ends)
key_can part outer r b (inr passes) = can (InKey part) outer b (To (InKey passes.0)) (StepsLemmas.key-part outer b part passes.0 r passes.1)

string_can : (part : Within) (outer : List Frame) → IsReached (InString part) outer → (b : ℕ) → CanPass part b → CanTake (InString part) outer b
string_can part outer r b (inl ends) = can (InString part) outer b (To After) (StepsLemmas.string-end outer b part r ends)
string_can part outer r b (inr passes) = can (InString part) outer b (To (InString passes.0)) (StepsLemmas.string-part outer b part passes.0 r passes.1)

pub in_key_awaits : (e : Expected) (part : Within) (outer : List Frame) → IsReached (InKey part) outer → AwaitsPart e part → Awaits e (InKey part) outer
in_key_awaits e part outer r awaits byte = FaultLemmas.right_map {May = CanPass part} {May_too = CanTake (InKey part) outer} {Never = IsNoPart part} {Never_too = IsRefused (InKey part) outer} {End = ⊥} {End_too = completes (InKey part) outer [] ≡ true} {Mark = ⊥} {Mark_too = ⊥} (key_can part outer r) (λ b none. StepsLemmas.key-none outer b part none) (λ never. absurd never) (λ never. never) byte e (awaits byte)

pub in_string_awaits : (e : Expected) (part : Within) (outer : List Frame) → IsReached (InString part) outer → AwaitsPart e part → Awaits e (InString part) outer
in_string_awaits e part outer r awaits byte = FaultLemmas.right_map {May = CanPass part} {May_too = CanTake (InString part) outer} {Never = IsNoPart part} {Never_too = IsRefused (InString part) outer} {End = ⊥} {End_too = completes (InString part) outer [] ≡ true} {Mark = ⊥} {Mark_too = ⊥} (string_can part outer r) (λ b none. StepsLemmas.string-none outer b part none) (λ never. absurd never) (λ never. never) byte e (awaits byte)

-- ---- in a literal

letter_can : (word : Word) (read : ℕ) (outer : List Frame) → IsReached (InWord word read) outer → CanTake (InWord word read) outer (get_or (text_of word) read 0)
letter_can word read outer r = by_length (cases_lt (read + 1) (length (text_of word)))
  where
    by_length : (read + 1 < length (text_of word)) ⊎ (length (text_of word) ≤ read + 1) → CanTake (InWord word read) outer (get_or (text_of word) read 0)
    by_length (inl more) = can (InWord word read) outer _ _ (StepsLemmas.word-letter outer word read (get_or (text_of word) read 0) r.suits r refl more)
    by_length (inr last) = let inside = r.suits in can (InWord word read) outer _ _ (StepsLemmas.word-last outer word read (get_or (text_of word) read 0) inside r refl (omega arith))

pub word_awaits : (word : Word) (read : ℕ) (outer : List Frame) → IsReached (InWord word read) outer → Awaits (awaited_word word) (InWord word read) outer
word_awaits words.True zero outer r byte = inl (letter_can words.True 0 outer r)
word_awaits words.True (suc zero) outer r byte = inr (inl (letter_can words.True 1 outer r))
word_awaits words.True (suc (suc zero)) outer r byte = inr (inr (inl (letter_can words.True 2 outer r)))
word_awaits words.True (suc (suc (suc zero))) outer r byte = inr (inr (inr (letter_can words.True 3 outer r)))
word_awaits words.True (suc (suc (suc (suc n)))) outer r byte = let inside = r.suits in let never : ⊥ = omega arith in absurd never
word_awaits words.False zero outer r byte = inl (letter_can words.False 0 outer r)
word_awaits words.False (suc zero) outer r byte = inr (inl (letter_can words.False 1 outer r))
word_awaits words.False (suc (suc zero)) outer r byte = inr (inr (inl (letter_can words.False 2 outer r)))
word_awaits words.False (suc (suc (suc zero))) outer r byte = inr (inr (inr (inl (letter_can words.False 3 outer r))))
word_awaits words.False (suc (suc (suc (suc zero)))) outer r byte = inr (inr (inr (inr (letter_can words.False 4 outer r))))
word_awaits words.False (suc (suc (suc (suc (suc n))))) outer r byte = let inside = r.suits in let never : ⊥ = omega arith in absurd never
word_awaits words.Null zero outer r byte = inl (letter_can words.Null 0 outer r)
word_awaits words.Null (suc zero) outer r byte = inr (inl (letter_can words.Null 1 outer r))
word_awaits words.Null (suc (suc zero)) outer r byte = inr (inr (letter_can words.Null 2 outer r))
word_awaits words.Null (suc (suc (suc zero))) outer r byte = inr (inr (letter_can words.Null 3 outer r))
word_awaits words.Null (suc (suc (suc (suc n)))) outer r byte = let inside = r.suits in let never : ⊥ = omega arith in absurd never

-- ---- by the state

pub digit_expected : (part : Number) (outer : List Frame) → IsReached (InNumber part) outer → ends_number part ≡ false → Awaits wants.Digit (InNumber part) outer
digit_expected numbers.Minus outer r e = digit_awaits numbers.Minus numbers.Zero outer r (λ xs. refl) (λ xs. WordLemmas.minus-other 97 xs refl)
digit_expected numbers.Zero outer r e = absurd (true≢false e)
digit_expected numbers.Whole outer r e = absurd (true≢false e)
digit_expected numbers.Dot outer r e = digit_awaits numbers.Dot numbers.Fraction outer r (λ xs. WordLemmas.dot-digit 48 xs refl) (λ xs. WordLemmas.dot-other 97 xs refl)
digit_expected numbers.Fraction outer r e = absurd (true≢false e)
digit_expected numbers.Letter outer r e = digit_awaits numbers.Letter numbers.Exponent outer r (λ xs. WordLemmas.letter-digit 48 xs refl) (λ xs. WordLemmas.letter-other 97 xs (λ e. omega arith) (λ e. omega arith) refl)
digit_expected numbers.Sign outer r e = digit_awaits numbers.Sign numbers.Exponent outer r (λ xs. refl) (λ xs. WordLemmas.no_digits 97 xs refl)
digit_expected numbers.Exponent outer r e = absurd (true≢false e)

pub awaits_at : (mode at : Mode) (outer : List Frame) (e : Expected) → mode ≡ at → IsReached mode outer → (IsReached at outer → Awaits e at outer) → Awaits e mode outer
awaits_at mode at outer e is r awaits = subst (λ m. Awaits e m outer) (sym is) (awaits (subst (λ m. IsReached m outer) is r))

pub awaits_key : (part : Within) (outer : List Frame) (e : Expected) → e ≡ awaited part → IsReached (InKey part) outer → Awaits e (InKey part) outer
awaits_key part outer e is r = in_key_awaits e part outer r (subst (λ e. AwaitsPart e part) (sym is) (part_awaits part))

pub awaits_string : (part : Within) (outer : List Frame) (e : Expected) → e ≡ awaited part → IsReached (InString part) outer → Awaits e (InString part) outer
awaits_string part outer e is r = in_string_awaits e part outer r (subst (λ e. AwaitsPart e part) (sym is) (part_awaits part))

pub awaits_word : (word : Word) (read : ℕ) (outer : List Frame) (e : Expected) → e ≡ awaited_word word → IsReached (InWord word read) outer → Awaits e (InWord word read) outer
awaits_word word read outer e is r = subst (λ e. Awaits e (InWord word read) outer) (sym is) (word_awaits word read outer r)

-- ---- what may not be there

pub plain_absent : (byte : ℕ) → byte < 32 → IsAbsentPart Plain byte wants.NoControlCharacter
plain_absent byte low = let may = part_awaits Plain byte in (may.0, may.1, low)

pub unitd_absent : (byte : ℕ) → 12 ≤ digit_value byte → digit_value byte < 16 → IsAbsentPart UnitD byte wants.NoLowSurrogate
unitd_absent byte least most = let may = part_awaits UnitD byte in (may.0, least, most)

pub value_absent : (byte : ℕ) → Opens byte → IsAbsent Value byte wants.NoDeeperNesting
value_absent byte opens outer r = ((value_awaits outer r byte).1, opens)

pub item_absent : (byte : ℕ) → Opens byte → IsAbsent FirstItem byte wants.NoDeeperNesting
item_absent byte opens outer r = ((item_awaits outer r byte).1, opens)

pub zero_absent : (byte : ℕ) → is_ascii_digit byte ≡ true → IsAbsent (InNumber numbers.Zero) byte wants.NoLeadingZero
zero_absent byte digit outer r =
    (can (InNumber numbers.Zero) outer 46 _ (StepsLemmas.number-byte outer 46 numbers.Zero numbers.Dot r refl refl (λ xs. refl)), digit)

pub key_absent : (part : Within) (byte : ℕ) (e : Expected) → IsAbsentPart part byte e → IsAbsent (InKey part) byte e
key_absent part byte e absent outer r =
    FaultLemmas.right_map {May = CanPass part} {May_too = CanTake (InKey part) outer} {Never = λ _. ⊥} {Never_too = λ _. ⊥} {End = ⊥} {End_too = ⊥}
    {Mark = ⊥} {Mark_too = ⊥} (key_can part outer r) (λ b never. never) (λ never. never) (λ never. never) byte e absent

pub string_absent : (part : Within) (byte : ℕ) (e : Expected) → IsAbsentPart part byte e → IsAbsent (InString part) byte e
string_absent part byte e absent outer r =
    FaultLemmas.right_map {May = CanPass part} {May_too = CanTake (InString part) outer} {Never = λ _. ⊥} {Never_too = λ _. ⊥} {End = ⊥} {End_too = ⊥}
    {Mark = ⊥} {Mark_too = ⊥} (string_can part outer r) (λ b never. never) (λ never. never) (λ never. never) byte e absent

-- what may not be there is no mark, and tells nothing of what is refused or of the end
pub absent_right : (mode : Mode) (outer : List Frame) (Mark : Type 0) (byte : ℕ) (e : Expected) → IsReached mode outer → IsAbsent mode byte e
    → IsRight (CanTake mode outer) (IsRefused mode outer) (completes mode outer [] ≡ true) Mark byte e
absent_right mode outer Mark byte e r absent =
    FaultLemmas.right_map {May = CanTake mode outer} {May_too = CanTake mode outer} {Never = λ _. ⊥} {Never_too = IsRefused mode outer} {End = ⊥}
    {End_too = completes mode outer [] ≡ true} {Mark = ⊥} {Mark_too = Mark} (λ b may. may) (λ b never. absurd never) (λ never. absurd never)
    (λ never. absurd never) byte e (absent outer r)

-- nor does what is awaited need a mark
pub awaits_right : (mode : Mode) (outer : List Frame) (Mark : Type 0) (byte : ℕ) (e : Expected) → Awaits e mode outer
    → IsRight (CanTake mode outer) (IsRefused mode outer) (completes mode outer [] ≡ true) Mark byte e
awaits_right mode outer Mark byte e awaits =
    FaultLemmas.right_map {May = CanTake mode outer} {May_too = CanTake mode outer} {Never = IsRefused mode outer} {Never_too = IsRefused mode outer}
    {End = completes mode outer [] ≡ true} {End_too = completes mode outer [] ≡ true} {Mark = ⊥} {Mark_too = Mark} (λ b may. may)
    (λ b never. never) (λ complete. complete) (λ never. absurd never) byte e (awaits byte)

-- by the state in which the byte is there
pub opens-absent : (mode at : Mode) (byte : ℕ) (found : Option Expected) → mode ≡ at → (Opens byte → IsAbsent at byte wants.NoDeeperNesting)
    → IfSome found (λ e. (e ≡ wants.NoDeeperNesting) × Opens byte) → IfSome found (IsAbsent mode byte)
opens-absent mode at byte None is absent found = tt
opens-absent mode at byte (Some e) is absent found =
    subst (λ m. IsAbsent m byte e) (sym is) (subst (IsAbsent at byte) (sym found.0) (absent found.1))

pub part-absent : (mode at : Mode) (part : Within) (byte : ℕ) (found : Option Expected) → mode ≡ at
    → ((e : Expected) → IsAbsentPart part byte e → IsAbsent at byte e)
    → IfSome found (IsAbsentPart part byte) → IfSome found (IsAbsent mode byte)
part-absent mode at part byte None is absent found = tt
part-absent mode at part byte (Some e) is absent found = subst (λ m. IsAbsent m byte e) (sym is) (absent e found)
