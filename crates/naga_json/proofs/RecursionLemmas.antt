-- The law of codecs of types that contain values of their own type.
use Rattle.std.proofs.Common.{◌≡◌, ℕ, zero, suc, refl}
use Rattle.json.specs.Json.{Json}
use Rattle.naga_json.specs.Codec.{Codec}
use Rattle.naga_json.specs.Lawful.{Lawful}
use Rattle.naga_json.specs.Recursion.{within_depth}

module _ {A : Type 0} (encode : A → Json) (outer : Codec A → Codec A) (same : (inner : Codec A) (value : A) → (outer inner).encode value ≡ encode value) where
  pub encode-within_depth : (depth : ℕ) (value : A) → (within_depth encode outer depth).encode value ≡ encode value
  unfolding within_depth
  encode-within_depth zero value = refl
  encode-within_depth (suc depth) value = same (within_depth encode outer depth) value

  pub lawful-within_depth : ((inner : Codec A) → ((value : A) → inner.encode value ≡ encode value) → Lawful inner → Lawful (outer inner)) → (depth : ℕ) → Lawful (within_depth encode outer depth)
  unfolding within_depth
  lawful-within_depth step zero = record { reads = λ value fits. absurd fits; gives = λ j. record { holds = tt } }
  lawful-within_depth step (suc depth) = step (within_depth encode outer depth) (encode-within_depth depth) (lawful-within_depth step depth)
