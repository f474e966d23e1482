-- Numbers up to a greatest one.
use Rattle.std.proofs.Common.{◌≡◌, ◌+◌, ◌^◌, ◌≤◌, ◌<◌, ℕ, Option, Some, None, refl, arith}
use Rattle.std.proofs.lemmas.Bool.Decides.{nat_tests}
use Rattle.json.specs.Json.{Json}
use Rattle.json.specs.Find.{as_number}
use Rattle.naga_json.specs.Numbers.{◌>>=◌, below, natural_in, natural_of}

up_to_at : (o : Option ℕ) (n greatest : ℕ) → Some n ≡ (o >>= below (2 ^ 64)) → n ≤ greatest → Some n ≡ (o >>= below (greatest + 1))
up_to_at None n greatest is small = cc
up_to_at (Some m) n greatest is small = grind (arith, nat_tests)

past_at : (o : Option ℕ) (n greatest : ℕ) → Some n ≡ (o >>= below (2 ^ 64)) → greatest < n → None ≡ (o >>= below (greatest + 1))
past_at None n greatest is large = refl
past_at (Some m) n greatest is large = grind (arith, nat_tests)

none_at : (o : Option ℕ) (greatest : ℕ) → None ≡ (o >>= below (2 ^ 64)) → greatest < 2 ^ 64 → None ≡ (o >>= below (greatest + 1))
none_at None greatest is small = refl
none_at (Some m) greatest is small = grind (arith, nat_tests)

-- the number that a number of 64 bits is, if it is at most another
pub natural_in-up_to : (j : Json) (n greatest : ℕ) → Some n ≡ natural_in (2 ^ 64) j → n ≤ greatest → Some n ≡ natural_in (greatest + 1) j
natural_in-up_to j n greatest is small = up_to_at (as_number j >>= natural_of) n greatest is small

pub natural_in-past : (j : Json) (n greatest : ℕ) → Some n ≡ natural_in (2 ^ 64) j → greatest < n → None ≡ natural_in (greatest + 1) j
natural_in-past j n greatest is large = past_at (as_number j >>= natural_of) n greatest is large

pub natural_in-none : (j : Json) (greatest : ℕ) → None ≡ natural_in (2 ^ 64) j → greatest < 2 ^ 64 → None ≡ natural_in (greatest + 1) j
natural_in-none j greatest is small = none_at (as_number j >>= natural_of) greatest is small
