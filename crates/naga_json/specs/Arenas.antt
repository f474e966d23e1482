-- Arenas, which are written as lists of their values, without spans.
use Rattle.std.specs.Prelude.{◌≡◌, ◌≤◌, All, List, Option, Some, None, cond, map, length, nat_le}
use Rattle.json.specs.Json.{Json, Items}
use Rattle.json.specs.Find.{as_array}
use Rattle.naga_arena.specs.Arena.{values}
use Rattle.naga_arena.specs.Limits.{max_len}
use Rattle.naga_arena.specs.Span.{undefined}
use Rattle.naga_arena.specs.declared.span.Span.{Span}
use Rattle.naga_json.specs.Numbers.{◌>>=◌}
use Rattle.naga_json.specs.Codec.{Codec}
use Rattle.naga_json.specs.Lists.{each_of, item_count, list_json}

-- an arena with the value of each of its elements
abbrev pub arena_value : {T A : Type 0} → (T → A) → List (T × Span) → List (A × Span)
arena_value value_of arena = map (λ entry. (value_of entry.0, entry.1)) arena

-- the items of a list that is not longer than an arena can be
abbrev pub arena_items_in : Json → Option Items
arena_items_in j = as_array j >>= λ items. cond (nat_le (item_count items) max_len) (Some items) None

-- the meaning of an element of an arena, with an undefined span
abbrev pub without_span : {A : Type 0} → (Json → Option A) → Json → Option (A × Span)
without_span meaning j = meaning j >>= λ value. Some (value, undefined)

-- an arena, with undefined spans
abbrev pub arena_in : {A : Type 0} → (Json → Option A) → Json → Option (List (A × Span))
arena_in meaning j = arena_items_in j >>= each_of (without_span meaning)

-- an arena with undefined spans
abbrev pub unspanned : {A : Type 0} → List (A × Span) → List (A × Span)
unspanned arena = map (λ entry. (entry.0, undefined)) arena

-- the condition holds for each value of the arena, which is not too long and whose spans are undefined
pub record ArenaFits {A : Type 0} (Fits : A → Type 0) (arena : List (A × Span)) : Type 0 where
  pub size : length arena ≤ max_len
  pub each : All (λ entry. Fits entry.0) arena
  pub spans : unspanned arena ≡ arena

-- an arena, of which only the values are written
abbrev pub arena_codec : {A : Type 0} → Codec A → Codec (List (A × Span))
arena_codec codec = record {
  encode = λ arena. list_json codec.encode (values arena);
  decode = arena_in codec.decode;
  Fits = ArenaFits codec.Fits;
}
