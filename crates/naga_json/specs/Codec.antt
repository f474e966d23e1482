-- Codecs: how values are written as JSON, how they are read, and which of them are read as they were written.
use Rattle.std.specs.Prelude.{◌≡◌, true, cond, Some, None, ◌<◌, ◌^◌, ⊤, ℕ, ℤ, List, Bool, Option, IfSome, decimal, option_map}
use Rattle.std.specs.Fmt.{signed_decimal}
use Rattle.std.specs.Int.Signed.{mag}
use Rattle.std.specs.declared.num.NonZeroU32.{NonZeroU32}
use Rattle.json.specs.Json.{Json, boolean, number, string}
use Rattle.json.specs.Find.{as_bool, as_str}
use Rattle.naga_arena.specs.Limits.{max_len}
use Rattle.naga_json.specs.Numbers.{◌>>=◌, natural_in, integer_in, nonzero_in}
use Rattle.naga_json.specs.Objects.{nullable_in, optional_json}

-- How the values of a type are written and read. `encode` is the JSON of a value, `decode` the value that a JSON
-- represents, if it represents one, and `Fits` holds for the values that are read as they were written.
pub record Codec (A : Type 0) : Type 1 where
  pub encode : A → Json
  pub decode : Json → Option A
  pub Fits : A → Type 0

-- a natural number below the bound
abbrev pub natural_codec : ℕ → Codec ℕ
natural_codec bound = record { encode = λ n. number (decimal n); decode = natural_in bound; Fits = λ n. n < bound }

-- a number of 8 bits
abbrev pub byte_codec : Codec ℕ
byte_codec = natural_codec (2 ^ 8)

-- a number of 16 bits
abbrev pub short_codec : Codec ℕ
short_codec = natural_codec (2 ^ 16)

-- a number of 32 bits
abbrev pub word_codec : Codec ℕ
word_codec = natural_codec (2 ^ 32)

-- a number of 64 bits
abbrev pub long_codec : Codec ℕ
long_codec = natural_codec (2 ^ 64)

-- the index of a handle
abbrev pub handle_codec : Codec ℕ
handle_codec = natural_codec max_len

-- a number of 32 bits that is not 0
abbrev pub nonzero_codec : Codec NonZeroU32
nonzero_codec = record { encode = λ n. number (decimal n.value); decode = nonzero_in; Fits = λ n. n.value < 2 ^ 32 }

-- an integer of this number of bits and a sign
abbrev pub integer_codec : ℕ → Codec ℤ
integer_codec bits = record {
  encode = λ n. number (signed_decimal n);
  decode = integer_in (2 ^ bits);
  Fits = λ n. mag n < 2 ^ bits;
}

-- a boolean
abbrev pub boolean_codec : Codec Bool
boolean_codec = record { encode = boolean; decode = as_bool; Fits = λ b. ⊤ }

-- a text
abbrev pub text_codec : Codec (List ℕ)
text_codec = record { encode = string; decode = as_str; Fits = λ text. ⊤ }

-- an optional value, which is null if there is none
abbrev pub option_codec : {A : Type 0} → Codec A → Codec (Option A)
option_codec codec = record {
  encode = optional_json codec.encode;
  decode = nullable_in codec.decode;
  Fits = λ o. IfSome o codec.Fits;
}

-- a type with one value for each value of another one
abbrev pub as_codec : {A B : Type 0} → Codec A → (A → B) → (B → A) → Codec B
as_codec codec make part = record {
  encode = λ value. codec.encode (part value);
  decode = λ j. option_map make (codec.decode j);
  Fits = λ value. codec.Fits (part value);
}

-- the values of a codec for which the test is true
abbrev pub tested_codec : {A : Type 0} → Codec A → (A → Bool) → Codec A
tested_codec codec test = record {
  encode = codec.encode;
  decode = λ j. codec.decode j >>= λ value. cond (test value) (Some value) None;
  Fits = λ value. codec.Fits value × (test value ≡ true);
}
