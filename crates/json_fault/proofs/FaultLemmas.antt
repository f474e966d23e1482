-- The first fault of a text, from what the automaton has read of it.
use Rattle.std.proofs.Common.{◌≡◌, ℕ, ◌+◌, ◌<◌, true, false, ◌==◌, List, [], ◌∷◌, ◌++◌, length, take, drop, get_or, Option, Some, None, option_and_then, refl, sym, subst, ap, ◌∙◌, arith, zero, suc, nat_eq, ◌≢◌, ◌⊎◌, inl, inr}
use Rattle.std.proofs.lemmas.List.{append-nil, append_assoc, take_all, take_more, take-append-drop}
use Rattle.std.proofs.lemmas.Bool.{and_parts, eq-eqb, eqb-true, ne_eqb, true≢false}
use Rattle.std.specs.Prelude.{is_some, IsSome}
use Rattle.std.specs.List.{starts_with}
use Rattle.json.specs.Json.{Json, if_last}
use Rattle.json.specs.Lex.{between, lex}
use Rattle.json.specs.Token.{Token}
use Rattle.json_fault.specs.Document.{document}
use Rattle.json_fault.specs.Rest.{completes, is_end, rest_is, IsRead}
use Rattle.json_fault.specs.Steps.{mode_after, outer_after, IsRefused, LeadsTo, Steps}
use Rattle.json_fault.specs.Awaits.{Awaits, CanTake}
use Rattle.json_fault.specs.Fault.{byte_order_mark, BeginsJson, IsAtMark, IsExpected, IsFirstFault, IsRight, IsTextFault}
use Rattle.json_fault.specs.declared.expected.Expected.{Expected}
use Rattle.json_fault.specs.declared.expected.Expected.TheVariants as wants
use Rattle.json_fault.specs.declared.fault.TextFault.{TextFault}
use Rattle.json_fault.specs.declared.mode.Frame.{Frame}
use Rattle.json_fault.specs.declared.mode.Mode.{Mode}
use Rattle.json_fault.specs.declared.mode.Mode.TheVariants.{Value}
use Rattle.json_fault.specs.declared.mode.Step.{Step}
use Rattle.json_fault.proofs.CompletesLemmas.{value-other, BeginsNone}
use Rattle.json_fault.proofs.IsReachedLemmas.{goes_on-reached}
use Rattle.json_fault.proofs.PunctuateLemmas.{fresh_value}

none_is : {A : Type 0} (o : Option A) → is_some o ≡ false → o ≡ None
none_is None e = refl
none_is (Some a) e = absurd (cc)

last_is : (j : Json) (ts : List Token) → is_some (if_last j ts) ≡ is_end ts
last_is j [] = refl
last_is j (t ∷ ts) = refl

whole_is : (o : Option (Json × List Token)) → is_some (option_and_then (λ p. if_last p.0 p.1) o) ≡ rest_is is_end o
whole_is None = refl
whole_is (Some p) = last_is p.0 p.1

pub read-start : (text : List ℕ) → IsRead text 0 Value []
read-start text = record {
  reached = record { shallow = omega arith; suits = tt };
  same = λ rest. whole_is _ ∙ fresh_value [] (lex between rest);
}

-- the text with the byte at i in the middle
front : (text : List ℕ) (i b : ℕ) (rest : List ℕ) → i < length text → get_or text i 0 ≡ b → take (i + 1) text ++ rest ≡ take i text ++ b ∷ rest
front text i b rest inside e = ap (λ l. l ++ rest) (take_more text i 0 inside ∙ ap (λ x. take i text ++ x ∷ []) e) ∙ append_assoc (take i text) (b ∷ []) rest

pub read-step : (text : List ℕ) (i b : ℕ) (mode : Mode) (outer : List Frame) (step : Step) → IsRead text i mode outer → i < length text → get_or text i 0 ≡ b → LeadsTo mode outer b step → IsRead text (i + 1) (mode_after step) (outer_after step outer)
read-step text i b mode outer step read inside e leads = record {
  reached = leads.reached;
  same = λ rest. ap (λ l. is_some (document l)) (front text i b rest inside e) ∙ read.same (b ∷ rest) ∙ leads.same rest;
}

pub fault-at : (text : List ℕ) (i b : ℕ) (mode : Mode) (outer : List Frame) → IsRead text i mode outer → i < length text → get_or text i 0 ≡ b → IsRefused mode outer b → IsFirstFault text i
fault-at text i b mode outer read inside e refused =
    let more = goes_on-reached mode outer read.reached in
    let never : (rest : List ℕ) → document (take (i + 1) text ++ rest) ≡ None = λ rest. none_is _ (ap (λ l. is_some (document l)) (front text i b rest inside e) ∙ read.same (b ∷ rest) ∙ refused.none rest) in
    record {
      within = omega arith;
      invalid = ap document (sym (take-append-drop (i + 1) text)) ∙ never (drop (i + 1) text);
      before = (more.0, read.same more.0 ∙ more.1);
      after = λ _ rest. never rest;
    }

module _ (text : List ℕ) (mode : Mode) (outer : List Frame) (read : IsRead text (length text) mode outer) where
  at_end : is_some (document text) ≡ completes mode outer []
  at_end = ap (λ l. is_some (document l)) (sym (append-nil (take (length text) text) ∙ take_all (length text) text (omega arith))) ∙ read.same []

  pub good-end : completes mode outer [] ≡ true → IsSome (document text)
  good-end e = at_end ∙ e

  pub fault-end : completes mode outer [] ≡ false → IsFirstFault text (length text)
  fault-end e =
      let more = goes_on-reached mode outer read.reached in
      record { within = omega arith; invalid = none_is _ (at_end ∙ e); before = (more.0, read.same more.0 ∙ more.1); after = λ inside. let never : ⊥ = omega arith in absurd never }

-- ---- what is expected at a fault

module _ {May May_too Never Never_too : ℕ → Type 0} {End End_too Mark Mark_too : Type 0} (f : (b : ℕ) → May b → May_too b)
    (g : (b : ℕ) → Never b → Never_too b) (h : End → End_too) (k : Mark → Mark_too) (byte : ℕ) where
  one_of : {A B A_too B_too : Type 0} → (A → A_too) → (B → B_too) → A ⊎ B → A_too ⊎ B_too
  one_of p q (inl a) = inl (p a)
  one_of p q (inr b) = inr (q b)

  pub right_map : (e : Expected) → IsRight May Never End Mark byte e → IsRight May_too Never_too End_too Mark_too byte e
  right_map wants.Value r = (f 34 r.0, f 48 r.1, g 93 r.2)
  right_map wants.ValueOrEnd r = (f 34 r.0, f 48 r.1, f 93 r.2)
  right_map wants.CommaOrListEnd r = (f 44 r.0, f 93 r.1)
  right_map wants.Key r = (f 34 r.0, g 48 r.1, g 125 r.2)
  right_map wants.KeyOrEnd r = (f 34 r.0, f 125 r.1, g 48 r.2)
  right_map wants.Colon r = (f 58 r.0, g 34 r.1)
  right_map wants.CommaOrObjectEnd r = (f 44 r.0, f 125 r.1)
  right_map wants.TextEnd r = h r
  right_map wants.Quote r = (f 34 r.0, f 58 r.1)
  right_map wants.Escape r = (f 110 r.0, f 117 r.1, g 48 r.2)
  right_map wants.HexDigit r = (f 48 r.0, f 97 r.1, g 34 r.2)
  right_map wants.LowSurrogate r = one_of (f 92) (one_of (f 117) (one_of (f 100) (f 99))) r
  right_map wants.Digit r = (f 48 r.0, g 97 r.1)
  right_map wants.True r = one_of (f 116) (one_of (f 114) (one_of (f 117) (f 101))) r
  right_map wants.False r = one_of (f 102) (one_of (f 97) (one_of (f 108) (one_of (f 115) (f 101)))) r
  right_map wants.Null r = one_of (f 110) (one_of (f 117) (f 108)) r
  right_map wants.NoControlCharacter r = (f 34 r.0, f 58 r.1, r.2)
  right_map wants.NoLowSurrogate r = (f 48 r.0, r.1, r.2)
  right_map wants.NoLeadingZero r = (f 46 r.0, r.1)
  right_map wants.NoByteOrderMark r = k r
  right_map wants.NoDeeperNesting r = (f 48 r.0, r.1)

-- what is expected after the bytes that were read, of a text that begins with a byte order mark or not
module _ (text : List ℕ) (i : ℕ) (mode : Mode) (outer : List Frame) (read : IsRead text i mode outer) (e : Expected) where
  may-be : (b : ℕ) → CanTake mode outer b → BeginsJson (take i text ++ b ∷ [])
  may-be b can = (can.0, ap (λ l. is_some (document l)) (append_assoc (take i text) (b ∷ []) can.0) ∙ read.same (b ∷ can.0) ∙ can.1)

  never-is : (b : ℕ) → IsRefused mode outer b → (rest : List ℕ) → document (take i text ++ b ∷ rest) ≡ None
  never-is b refused rest = none_is _ (read.same (b ∷ rest) ∙ refused.none rest)

  end-is : completes mode outer [] ≡ true → IsSome (document (take i text))
  end-is complete = ap (λ l. is_some (document l)) (sym (append-nil (take i text))) ∙ read.same [] ∙ complete

  pub expected-is : (Mark : Type 0) → (Mark → IsAtMark text i)
      → IsRight (CanTake mode outer) (IsRefused mode outer) (completes mode outer [] ≡ true) Mark (get_or text i 0) e → IsExpected text i e
  expected-is Mark mark right =
      right_map {May = CanTake mode outer} {May_too = λ b. BeginsJson (take i text ++ b ∷ [])} {Never = IsRefused mode outer}
      {Never_too = λ b. (rest : List ℕ) → document (take i text ++ b ∷ rest) ≡ None} {End = completes mode outer [] ≡ true}
      {End_too = IsSome (document (take i text))} {Mark = Mark} {Mark_too = IsAtMark text i} may-be never-is end-is mark (get_or text i 0) e right

pub text_fault-at : (text bytes : List ℕ) (i : ℕ) (mode : Mode) (outer : List Frame) (r : Option Step) (reason : Expected) (fault : TextFault) → bytes ≡ text → IsRead bytes i mode outer → i < length bytes → Steps mode outer (get_or bytes i 0) r → r ≡ None
    → IsRight (CanTake mode outer) (IsRefused mode outer) (completes mode outer [] ≡ true) (IsAtMark bytes i) (get_or bytes i 0) reason → fault ≡ record { offset = i; is_at_end = false; expected = reason } → IsTextFault text fault
text_fault-at text bytes i mode outer r reason fault same read inside steps is right made =
    let refused : IsRefused mode outer (get_or bytes i 0) = subst (λ r. Steps mode outer (get_or bytes i 0) r) is steps in
    let before_end : false ≡ (i == length bytes) = sym (ne_eqb i (length bytes) (λ e. omega arith)) in
    subst (λ t. IsTextFault t fault) same (subst (IsTextFault bytes) (sym made) (fault-at bytes i (get_or bytes i 0) mode outer read inside refl refused, before_end, expected-is bytes i mode outer read reason (IsAtMark bytes i) (λ m. m) right))

pub text_fault-end : (text bytes : List ℕ) (i : ℕ) (mode : Mode) (outer : List Frame) (expected : Expected) (fault : TextFault) → bytes ≡ text → IsRead bytes i mode outer → i ≡ length bytes → completes mode outer [] ≡ false → Awaits expected mode outer
    → fault ≡ record { offset = length bytes; is_at_end = true; expected = expected } → IsTextFault text fault
text_fault-end text bytes i mode outer expected fault same read last refused awaits made =
    let at = subst (λ n. IsRead bytes n mode outer) last read in
    subst (λ t. IsTextFault t fault) same
    (subst (IsTextFault bytes) (sym made) (fault-end bytes mode outer at refused, sym (eq-eqb (length bytes) (length bytes) refl), expected-is bytes (length bytes) mode outer at expected ⊥ (λ never. absurd never) (awaits (get_or bytes (length bytes) 0))))

pub good-text : (text bytes : List ℕ) (i : ℕ) (mode : Mode) (outer : List Frame) → bytes ≡ text → IsRead bytes i mode outer → i ≡ length bytes → completes mode outer [] ≡ true → IsSome (document text)
good-text text bytes i mode outer same read last complete = subst (λ t. IsSome (document t)) same (good-end bytes mode outer (subst (λ n. IsRead bytes n mode outer) last read) complete)

-- ---- a byte order mark

no_mark : (rest : List ℕ) → document (239 ∷ rest) ≡ None
no_mark rest =
    let none : BeginsNone 239 = record { no_quote = λ e. omega arith; no_list = λ e. omega arith; no_object = λ e. omega arith; no_minus = λ e. omega arith; no_digit = refl; no_true = λ e. omega arith; no_false = λ e. omega arith; no_null = λ e. omega arith } in
    none_is _ ((read-start []).same (239 ∷ rest) ∙ value-other [] 239 rest refl none)

-- a mark has its first byte in front
first_byte : (text : List ℕ) → starts_with nat_eq text byte_order_mark ≡ true → (more : List ℕ) × (text ≡ 239 ∷ more)
first_byte [] e = absurd (true≢false (sym e))
first_byte (x ∷ more) e = (more, ap (λ y. y ∷ more) (sym (eqb-true 239 x (and_parts (239 == x) _ e).0)))

fault_is_first : (more : List ℕ) (i : ℕ) → BeginsJson (take i (239 ∷ more)) → i ≡ 0
fault_is_first more zero begun = refl
fault_is_first more (suc n) begun = absurd (true≢false (sym begun.1 ∙ ap is_some (no_mark (take n more ++ begun.0))))

pub mark_is_first : (text : List ℕ) (i : ℕ) → IsFirstFault text i → starts_with nat_eq text byte_order_mark ≡ true → i ≡ 0
mark_is_first text i fault e = let parts = first_byte text e in fault_is_first parts.0 i (subst (λ t. BeginsJson (take i t)) parts.1 fault.before)

pub mark_is_long : (text : List ℕ) → starts_with nat_eq text byte_order_mark ≡ true → length text ≢ 0
mark_is_long text e none = let parts = first_byte text e in let size = ap length parts.1 in omega arith

-- a byte order mark is at fault, at the start
abbrev pub IsMarkFault : TextFault → Type 0
IsMarkFault fault = (fault.offset ≡ 0) × (fault.expected ≡ wants.NoByteOrderMark)

pub mark-at : (text bytes : List ℕ) (i : ℕ) (reason : Expected) (fault : TextFault) → bytes ≡ text → IsFirstFault text fault.offset → fault ≡ record { offset = i; is_at_end = false; expected = reason }
    → (i ≡ 0 → starts_with nat_eq bytes byte_order_mark ≡ true → reason ≡ wants.NoByteOrderMark) → starts_with nat_eq text byte_order_mark ≡ true → IsMarkFault fault
mark-at text bytes i reason fault same is_first made marked e =
    let first : fault.offset ≡ 0 = mark_is_first text fault.offset is_first e in
    (first, ap (λ f. f.expected) made ∙ marked (sym (ap (λ f. f.offset) made) ∙ first) (ap (λ t. starts_with nat_eq t byte_order_mark) same ∙ e))

pub mark-end : (text bytes : List ℕ) (expected : Expected) (fault : TextFault) → bytes ≡ text → IsFirstFault text fault.offset → fault ≡ record { offset = length bytes; is_at_end = true; expected = expected } → starts_with nat_eq text byte_order_mark ≡ true → IsMarkFault fault
mark-end text bytes expected fault same is_first made e = absurd (mark_is_long text e (ap length (sym same) ∙ sym (ap (λ f. f.offset) made) ∙ mark_is_first text fault.offset is_first e))
