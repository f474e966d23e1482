-- Lists that have a given number of items.
use Rattle.std.specs.Prelude.{ℕ, ◌==◌, cond, Option, Some, None}
use Rattle.json.specs.Json.{Json}
use Rattle.json.specs.Find.{at, as_array}
use Rattle.naga_json.specs.Lists.{item_count}
use Rattle.naga_json.specs.Numbers.{◌>>=◌}

-- the JSON itself, if it is a list with this number of items
abbrev pub items_in : ℕ → Json → Option Json
items_in count j = as_array j >>= λ items. cond (item_count items == count) (Some j) None

-- the meaning of the item at a position of a list
abbrev pub item_at : {A : Type 0} → (Json → Option A) → ℕ → Json → Option A
item_at meaning position j = at position j >>= meaning
