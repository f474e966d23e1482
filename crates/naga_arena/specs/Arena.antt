-- An arena is a list of pairs of a value and its span. A handle is the position of a pair in the list.
use Rattle.std.specs.Prelude.{◌≡◌, ℕ, ◌<◌, List, [], ◌∷◌, ◌++◌, map, take, length, Bool, true, false, Option, Some, None, unwrap_or, slice_get, slice_set, position, All, ◌⊎◌, ◌↔◌, Result, Ok, Err, IfOk, OnOk, OnErr}
use Rattle.std.specs.List.{AllZip}
use Rattle.naga_arena.specs.declared.arena.ArenaError.{ArenaError}
use Rattle.naga_arena.specs.declared.arena.ArenaError.TheVariants.{Full}
pub use Rattle.naga_arena.specs.Limits.{max_len}
use Rattle.naga_arena.specs.Span.{undefined}
use Rattle.naga_arena.specs.declared.span.Span.{Span}

module _ {T : Type 0} where
  -- the values of an arena, in order
  abbrev pub values : List (T × Span) → List T
  values = map (λ p. p.0)

  abbrev pub spans : List (T × Span) → List Span
  spans = map (λ p. p.1)

  -- the value with this handle, or `None` if there is none
  abbrev pub value_at : List (T × Span) → ℕ → Option T
  value_at arena handle = slice_get (values arena) handle

  -- the span of the value with this handle, or `undefined` if there is none
  abbrev pub span_at : List (T × Span) → ℕ → Span
  span_at arena handle = unwrap_or (slice_get (spans arena) handle) undefined

  -- the arena with `value` in place of the value with this handle; the span stays the same
  abbrev pub with_value : List (T × Span) → ℕ → T → List (T × Span)
  with_value arena handle value = slice_set arena handle (value, span_at arena handle)

  -- the handle of the first value that is equal to `value`, or `None` if there is none
  abbrev pub handle_of : (T → T → Bool) → List (T × Span) → T → Option ℕ
  handle_of eq arena value = position (eq value) (values arena)

  -- Appending the pair of `value` and `span` to the arena `old` returns `result` and leaves the arena `new`: the handle
  -- is the old length, the error is `Full` if and only if the old length is `max_len`, and on error the arena is
  -- unchanged.
  pub record Appends (old : List (T × Span)) (value : T) (span : Span) (result : Result ℕ ArenaError) (new : List (T × Span)) : Type 0 where
    pub handle : IfOk result (λ handle. handle ≡ length old)
    pub appended : OnOk result (new ≡ old ++ (value, span) ∷ [])
    pub full : (result ≡ Err Full) ↔ (length old ≡ max_len)
    pub unchanged : OnErr result (new ≡ old)

-- `copy` has a clone of each value of `arena`, in order, with the same span
abbrev pub IsCloneOf : {T : Type 0} → (T → T → Type 0) → List (T × Span) → List (T × Span) → Type 0
IsCloneOf clones_to arena copy = AllZip clones_to (values arena) (values copy) × (spans copy ≡ spans arena)

-- the range is inverted, or it contains handles and its end is greater than `len`, the length of the arena
abbrev pub IsBadRange : ℕ → ℕ × ℕ → Type 0
IsBadRange len range = (range.1 < range.0) ⊎ ((range.0 < range.1) × (len < range.1))

-- `handle` refers to the first value for which the test may return `true`: it may return `false` for every earlier
-- value
pub record IsFirstYes {T : Type 0} (says : T → Bool → Type 0) (values : List T) (handle : ℕ) : Type 0 where
  pub before : All (λ x. says x false) (take handle values)
  pub found : (x : T) × (slice_get values handle ≡ Some x) × says x true

-- Either the returned handle refers to the first value for which the test may return `true`, and the arena is
-- unchanged; or the test may return `false` for every value, and the pair of `value` and `span` is appended.
abbrev pub Fetches : {T : Type 0} → (T → Bool → Type 0) → List (T × Span) → T → Span → Result ℕ ArenaError → List (T × Span) → Type 0
Fetches says old value span result new =
    ((handle : ℕ) × (result ≡ Ok handle) × IsFirstYes says (values old) handle × (new ≡ old))
    ⊎ (All (λ x. says x false) (values old) × Appends old value span result new)

-- the list of the returned value with this span, or the empty list for `None`
abbrev pub kept_entry : {T : Type 0} → Option T → Span → List (T × Span)
kept_entry None span = []
kept_entry (Some value) span = (value, span) ∷ []

-- The predicate was called once for each entry, in order, with the handle and the value of the entry. `kept` has the
-- values that it returned, each with the span of its entry. An entry is a handle with its pair.
module _ {T P : Type 0} (step : P → ℕ → T → Option T → P → Type 0) where
  abbrev pub Retains : P → List (ℕ × (T × Span)) → List (T × Span) → Type 0
  Retains predicate [] kept = kept ≡ []
  Retains predicate (entry ∷ rest) kept =
      (answer : Option T) × (next : P) × step predicate entry.0 entry.1.0 answer next
      × (later : List (T × Span)) × (kept ≡ kept_entry answer entry.1.1 ++ later)
      × Retains next rest later
