-- The readers of numbers of the crate `json` agree with the numbers that JSON numbers represent.
use Rattle.std.proofs.Common.{◌≡◌, ◌≢◌, ◌&&◌, not, codes, ℕ, ℤ, pos, negsuc, nat_lt, ◌^◌, ◌≤◌, ◌<◌, List, Option, Some, None, MatchOption, ok_or, true, false, Bool, cond, refl, arith, sym, ◌∙◌, ap}
use Rattle.std.proofs.lemmas.Bool.Decides.{nat_tests}
use Rattle.std.specs.Str.{bytes_eq}
use Rattle.std.proofs.lemmas.Slice.Eq.{bytes_eq-Decides}
use Rattle.std.specs.Str.Parse.{ParsesUnsigned, ParsesSigned, without_leading_plus, without_leading_sign}
use Rattle.std.specs.Int.{w64}
use lib.Signed.{mag}
use Rattle.json.specs.Json.{Json}
use Rattle.json.specs.Find.{as_number}
use Rattle.naga_json.specs.Numbers.{◌>>=◌, is_numeral, natural_of, below, natural_in, integer_of, within, integer_in}
use Rattle.naga_json.proofs.NamesLemmas.{false_from_Decides}
use Rattle.naga_json.proofs.NumbersLemmas.{is_numeral-Decides}

below-at : (bound n : ℕ) → n < bound → below bound n ≡ Some n
below-at bound n h = grind (arith, nat_tests)

below-past : (bound n : ℕ) → bound ≤ n → below bound n ≡ None
below-past bound n h = grind (arith, nat_tests)

-- the number of a text that is a numeral, and none of another text
taken : (b : Bool) (v n bound : ℕ) → b ≡ true → v < bound → n ≡ v → (cond b (Some v) None >>= below bound) ≡ Some n
taken true v n bound hb hv e = below-at bound v hv ∙ ap Some (sym e)
taken false v n bound hb hv e = cc

dropped : (b : Bool) (v bound : ℕ) → (b ≡ true → v < bound → ⊥) → (cond b (Some v) None >>= below bound) ≡ None
dropped true v bound h = below-past bound v (let k : v < bound → ⊥ = h refl in omega arith)
dropped false v bound h = refl

natural_of-parses : (text : List ℕ) (r : Option ℕ) → ParsesUnsigned 64 10 text (ok_or r text) → (natural_of text >>= below (2 ^ 64)) ≡ r
unfolding natural_of
natural_of-parses text (Some n) (p, e) = taken _ _ n (2 ^ 64) ((is_numeral-Decides (without_leading_plus text)).1 p.0) p.1 e
natural_of-parses text None h = dropped _ _ (2 ^ 64) (λ b v. h ((is_numeral-Decides (without_leading_plus text)).0 b, v))

reads_at : (o : Option (List ℕ)) (r : Option ℕ) → MatchOption o (r ≡ None) (λ s. ParsesUnsigned 64 10 s (ok_or r s)) → (o >>= natural_of >>= below (2 ^ 64)) ≡ r
reads_at None r h = sym h
reads_at (Some s) r h = natural_of-parses s r h

pub natural_in_reads : (j : Json) (r : Option ℕ) → MatchOption (as_number j) (r ≡ None) (λ s. ParsesUnsigned 64 10 s (ok_or r s)) → natural_in (2 ^ 64) j ≡ r
natural_in_reads j r h = reads_at (as_number j) r h

narrower_at : (o : Option ℕ) (bound : ℕ) → bound ≤ 2 ^ 64 → (o >>= below (2 ^ 64) >>= below bound) ≡ (o >>= below bound)
narrower_at None bound h = refl
narrower_at (Some n) bound h = grind (arith, nat_tests)

pub natural_in_narrower : (j : Json) (bound : ℕ) → bound ≤ 2 ^ 64 → (natural_in (2 ^ 64) j >>= below bound) ≡ natural_in bound j
natural_in_narrower j bound h = narrower_at (as_number j >>= natural_of) bound h

below_past_integer : {A : Type 0} (v bound : ℕ) (f : ℕ → Option A) → bound ≤ v → cond (nat_lt v bound) (f v) None ≡ None
below_past_integer v bound f h = grind (arith, nat_tests)

taken_integer : (b : Bool) (v n : ℤ) (bound : ℕ) → b ≡ true → mag v < bound → n ≡ v → (cond b (Some v) None >>= within bound) ≡ Some n
taken_integer true (pos v) n bound hb hv e = rw e (grind (arith, nat_tests))
taken_integer true (negsuc v) n bound hb hv e = rw e (grind (arith, nat_tests))
taken_integer false v n bound hb hv e = cc

dropped_integer : (b : Bool) (v : ℤ) (bound : ℕ) → (b ≡ true → mag v < bound → ⊥) → (cond b (Some v) None >>= within bound) ≡ None
dropped_integer true (pos v) bound h = let k : v < bound → ⊥ = h refl in below_past_integer v bound (λ n. Some (pos n)) (omega arith)
dropped_integer true (negsuc v) bound h = let k : v < bound → ⊥ = h refl in below_past_integer v bound (λ n. Some (negsuc n)) (omega arith)
dropped_integer false v bound h = refl

with_true : (b c : Bool) → c ≡ true → (b && c) ≡ b
with_true true c is = is
with_true false c is = refl

-- another text than `-0`
other_text : (text : List ℕ) → text ≢ codes "-0" → not (bytes_eq text (codes "-0")) ≡ true
other_text text other = rw (false_from_Decides (bytes_eq text (codes "-0")) (bytes_eq-Decides text (codes "-0")) other) refl

integer_of-parses : (text : List ℕ) (r : Option ℤ) → text ≢ codes "-0" → ParsesSigned w64 10 text (ok_or r text) → (integer_of text >>= within (2 ^ 63)) ≡ r
unfolding integer_of
integer_of-parses text (Some n) other (p, e) =
    rw (with_true (is_numeral (without_leading_sign text)) _ (other_text text other))
    (taken_integer _ _ n (2 ^ 63) ((is_numeral-Decides (without_leading_sign text)).1 p.0) p.1.sfits e)
integer_of-parses text None other h =
    rw (with_true (is_numeral (without_leading_sign text)) _ (other_text text other))
    (dropped_integer _ _ (2 ^ 63) (λ b v. h ((is_numeral-Decides (without_leading_sign text)).0 b, record { sfits = v })))

integer_at : (o : Option (List ℕ)) (text : List ℕ) (r : Option ℤ) → Some text ≡ o → text ≢ codes "-0" → MatchOption o (r ≡ None) (λ s. ParsesSigned w64 10 s (ok_or r s)) → (o >>= integer_of >>= within (2 ^ 63)) ≡ r
integer_at None text r is other h = cc
integer_at (Some s) text r is other h = integer_of-parses s r (λ same. other (cc)) h

-- what is read of a number other than `-0`
pub integer_in_reads : (j : Json) (text : List ℕ) (r : Option ℤ) → Some text ≡ as_number j → text ≢ codes "-0" → MatchOption (as_number j) (r ≡ None) (λ s. ParsesSigned w64 10 s (ok_or r s)) → integer_in (2 ^ 63) j ≡ r
integer_in_reads j text r is other h = integer_at (as_number j) text r is other h

-- `-0` is no integer
no_integer : (o : Option (List ℕ)) → Some (codes "-0") ≡ o → None ≡ (o >>= integer_of >>= within (2 ^ 63))
unfolding integer_of
no_integer o is = rw (sym is) refl

pub integer_in-negative_zero : (j : Json) (text : List ℕ) → Some text ≡ as_number j → text ≡ codes "-0" → None ≡ integer_in (2 ^ 63) j
integer_in-negative_zero j text is same = no_integer (as_number j) (rw (sym same) is)
