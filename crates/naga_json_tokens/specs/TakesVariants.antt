-- Enums that are taken: what a JSON represents, by the rows of the variants.
use Rattle.std.specs.Prelude.{ℕ, List, Option}
use Rattle.json.specs.Json.{Json}
use Rattle.naga_json.specs.Numbers.{◌>>=◌}
use Rattle.naga_json.specs.Objects.{choose, holder_in, name_or_holder, variant_in}

-- the value of a JSON that is a variant: a name alone, or a holder
abbrev pub variant_by : {A : Type 0} → List (List ℕ × A) → (Json → List (List ℕ × Option A)) → Json → Option A
variant_by names rows j = variant_in j >>= name_or_holder names rows

-- the value of a JSON that is a variant that contains data
abbrev pub holder_by : {A : Type 0} → (Json → List (List ℕ × Option A)) → Json → Option A
holder_by rows j = holder_in j >>= λ variant. choose (rows variant.1) variant.0
