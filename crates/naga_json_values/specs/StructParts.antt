-- The parts of a struct: what the fields of an object hold.
use Rattle.std.specs.Prelude.{ℕ, List, Option}
use Rattle.json.specs.Json.{Json}
use Rattle.naga_json.specs.Codec.{Codec}
use Rattle.naga_json.specs.Objects.{optional_at, required_at}

-- what a field holds: a value, or a value that may be missing or null
pub data Part : Type 0 → Type 1 where
  required : {A : Type 0} → Codec A → Part A
  optional : {A : Type 0} → Codec A → Part (Option A)

-- the meaning of a field
abbrev pub part_at : {A : Type 0} → Part A → List ℕ → Json → Option A
part_at (required codec) = required_at codec.decode
part_at (optional codec) = optional_at codec.decode
