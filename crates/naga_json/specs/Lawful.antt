-- The law of codecs: a value that fits is read as it was written, and what is read fits.
use Rattle.std.specs.Prelude.{◌≡◌, false, Option, Some, IfSome}
use Rattle.json.specs.Json.{Json}
use Rattle.json.specs.Find.{is_null}
use Rattle.json.specs.Tree.{HasNumbers}
use Rattle.naga_json.specs.Codec.{Codec}

-- The JSON represents the value. It is not null, and the texts of its numbers are numbers.
pub record IsRead {A : Type 0} (meaning : Json → Option A) (value : A) (j : Json) : Type 0 where
  pub reads : meaning j ≡ Some value
  pub numbers : HasNumbers j
  pub present : is_null j ≡ false

-- The condition holds for the value, if there is one.
pub record Gives {A : Type 0} (P : A → Type 0) (o : Option A) : Type 0 where
  pub holds : IfSome o P

-- Each value that fits is read as it was written, and each value that is read fits.
pub record Lawful {A : Type 0} (codec : Codec A) : Type 0 where
  pub reads : (value : A) → codec.Fits value → IsRead codec.decode value (codec.encode value)
  pub gives : (j : Json) → Gives codec.Fits (codec.decode j)
