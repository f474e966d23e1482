-- Arenas, which are written as lists of their values, without spans.
use Rattle.std.specs.Prelude.{◌≡◌, ◌≢◌, ⊤, ℕ, ◌+◌, List, Option, Some, None, Result, Ok, Err, AllPairs, take}
use Rattle.json.specs.Json.{Json}
use Rattle.naga_arena.specs.Arena.{values}
use Rattle.naga_arena.specs.declared.span.Span.{Span}
use Rattle.naga_json.specs.Types.{type_codec}
use Rattle.naga_json_values.specs.declared.cause.Cause.{Cause}
use Rattle.naga_json_values.specs.declared.cause.Cause.TheVariants as cause
use Rattle.naga_ir.specs.declared.types.«Type».{«Type» as NamedType}
use Rattle.naga_ir.specs.Types.{Inner, type_of}
use Rattle.naga_json.specs.Arenas.{arena_in, arena_value}

-- the types of a module, with undefined spans; they may be equal
abbrev pub types_in : Json → Option (List ((Option (List ℕ) × Inner) × Span))
types_in j = arena_in type_codec.decode j

-- no two values of the arena are the same
abbrev pub AreDistinct : {A : Type 0} → List (A × Span) → Type 0
AreDistinct arena = AllPairs (λ a b. a ≢ b) (values arena)

-- the value at the position is the first one that is the same as an earlier one
abbrev pub RepeatsAt : {A : Type 0} → ℕ → List (A × Span) → Type 0
RepeatsAt position arena = AreDistinct (take position arena) × ¬ AreDistinct (take (position + 1) arena)

-- Why types are not read: one is the same as an earlier one, if there are types at all. Or there are none. Or an
-- allocation failed.
abbrev pub RefusesTypes : Cause → Option (List ((Option (List ℕ) × Inner) × Span)) → Type 0
RefusesTypes (cause.RepeatedType position) meaning = (types : List ((Option (List ℕ) × Inner) × Span)) → Some types ≡ meaning → RepeatsAt position types
RefusesTypes cause.Memory meaning = ⊤
RefusesTypes other meaning = None ≡ meaning

-- The reader returned the arena of these types, of which no two are the same. Or it returned the reason why not.
abbrev pub ReadsTypes : Result (List (NamedType × Span)) Cause → Option (List ((Option (List ℕ) × Inner) × Span)) → Type 0
ReadsTypes (Ok arena) meaning = (Some (arena_value type_of arena) ≡ meaning) × AreDistinct (arena_value type_of arena)
ReadsTypes (Err reason) meaning = RefusesTypes reason meaning
