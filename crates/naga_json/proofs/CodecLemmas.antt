-- The laws of the codecs of numbers, booleans and texts.
use Rattle.std.proofs.Common.{Bool, true, false, cond, None, IfSome, ◌≡◌, ap, Some, ℕ, ◌^◌, ◌<◌, ◌≤◌, refl, arith}
use Rattle.json.specs.Find.{as_bool, as_str}
use Rattle.naga_arena.specs.Limits.{max_len}
use Rattle.naga_json.specs.Numbers.{natural_in, not_zero}
use Rattle.naga_json.specs.Codec.{Codec, tested_codec, as_codec, natural_codec, byte_codec, short_codec, word_codec, long_codec, handle_codec, nonzero_codec, integer_codec, boolean_codec, text_codec}
use Rattle.naga_json.specs.Lawful.{Lawful}
use Rattle.naga_json.proofs.GivesLemmas.{Gives-map, then, Gives-any}
use Rattle.naga_json.proofs.NumbersLemmas.{natural_in-decimal, HasNumbers-decimal, Gives-natural, not_zero-value, Gives-not_zero, integer_in-signed_decimal, HasNumbers-signed_decimal, Gives-integer}

pub lawful-natural : (bound : ℕ) → bound ≤ 2 ^ 64 → Lawful (natural_codec bound)
lawful-natural bound small = record {
  reads = λ n fits. record { reads = natural_in-decimal bound n fits small; numbers = HasNumbers-decimal n (omega arith); present = refl };
  gives = Gives-natural bound;
}

pub lawful-byte : Lawful byte_codec
lawful-byte = lawful-natural (2 ^ 8) (omega arith)

pub lawful-short : Lawful short_codec
lawful-short = lawful-natural (2 ^ 16) (omega arith)

pub lawful-word : Lawful word_codec
lawful-word = lawful-natural (2 ^ 32) (omega arith)

pub lawful-long : Lawful long_codec
lawful-long = lawful-natural (2 ^ 64) (omega arith)

pub lawful-handle : Lawful handle_codec
lawful-handle = lawful-natural max_len (omega arith)

pub lawful-nonzero : Lawful nonzero_codec
lawful-nonzero = record {
  reads = λ count fits. record {
    reads = rw (natural_in-decimal (2 ^ 32) count.value fits (omega arith)) (not_zero-value count.value count refl);
    numbers = HasNumbers-decimal count.value (omega arith);
    present = refl;
  };
  gives = λ j. then (λ n. n < 2 ^ 32) (λ count. count.value < 2 ^ 32) (natural_in (2 ^ 32) j) not_zero (Gives-natural (2 ^ 32) j) Gives-not_zero;
}

pub lawful-integer : (bits : ℕ) → 2 ^ bits ≤ 2 ^ 63 → Lawful (integer_codec bits)
lawful-integer bits small = record {
  reads = λ n fits. record { reads = integer_in-signed_decimal (2 ^ bits) n fits small; numbers = HasNumbers-signed_decimal n (omega arith); present = refl };
  gives = Gives-integer (2 ^ bits);
}

pub lawful-boolean : Lawful boolean_codec
lawful-boolean = record { reads = λ b fits. record { reads = refl; numbers = tt; present = refl }; gives = λ j. Gives-any (as_bool j) }

pub lawful-text : Lawful text_codec
lawful-text = record { reads = λ text fits. record { reads = refl; numbers = tt; present = refl }; gives = λ j. Gives-any (as_str j) }

pub lawful-as : {A B : Type 0} (codec : Codec A) (make : A → B) (part : B → A) → Lawful codec → ((value : B) → make (part value) ≡ value) → ((a : A) → part (make a) ≡ a) → Lawful (as_codec codec make part)
lawful-as codec make part law whole back = record {
  reads = λ value fits. let read = law.reads (part value) fits in record { reads = rw read.reads (ap Some (whole value)); numbers = read.numbers; present = read.present };
  gives = λ j. Gives-map codec.Fits (λ value. codec.Fits (part value)) make (λ a fits. rw (back a) fits) (codec.decode j) (law.gives j);
}

pub lawful-tested : {A : Type 0} (codec : Codec A) (test : A → Bool) → Lawful codec → Lawful (tested_codec codec test)
lawful-tested {A = A} codec test law = record {
  reads = λ value fits. let read = law.reads value fits.0 in record { reads = rw (read.reads, fits.1) refl; numbers = read.numbers; present = read.present };
  gives = λ j. then codec.Fits _ (codec.decode j) _ (law.gives j) λ value fits. record { holds = at value fits (test value) refl };
}
  where
    at : (value : A) → codec.Fits value → (b : Bool) → test value ≡ b → IfSome (cond b (Some value) None) (λ found. codec.Fits found × (test found ≡ true))
    at value fits true is = (fits, is)
    at value fits false is = tt

-- the laws of the codecs of values
pub ruleset value_laws = (lawful-natural, lawful-byte, lawful-short, lawful-word, lawful-long, lawful-handle, lawful-nonzero, lawful-integer, lawful-boolean, lawful-text)
