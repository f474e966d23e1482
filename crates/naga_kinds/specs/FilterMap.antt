-- Maps of filters. A map is the list of its rules, in order, each with its severity and span.
use Rattle.std.specs.Prelude.{◌≡◌, ◌⊎◌, Bool, not, List, [], ◌∷◌, filter, Option, Some, None, Result, Ok, Err}
use Rattle.naga_arena.specs.declared.span.Span.{Span}
use Rattle.naga_kinds.specs.declared.diagnostic_filter.AddFilterError.{AddFilterError}
use Rattle.naga_kinds.specs.declared.diagnostic_filter.AddFilterError.TheVariants.{Conflict, Memory}
use Rattle.naga_kinds.specs.declared.diagnostic_filter.Severity.{Severity}
use Rattle.naga_kinds.specs.declared.diagnostic_filter.ShouldConflictOnFullDuplicate.{ShouldConflictOnFullDuplicate}
use Rattle.naga_kinds.specs.declared.diagnostic_filter.ShouldConflictOnFullDuplicate.TheVariants.{Yes, No}

-- the first pair of each key, in order of first appearance
abbrev pub first_of_each : {K X : Type 0} → (K → K → Bool) → List (K × X) → List (K × X)
first_of_each same [] = []
first_of_each same (pair ∷ pairs) = pair ∷ filter (λ later. not (same pair.0 later.0)) (first_of_each same pairs)

-- the error with the span of the first filter and that of the other one
abbrev pub conflict : Span → Span → AddFilterError
conflict first other = Conflict (record { triggering_rule_spans = first ∷ other ∷ [] })

-- Adding `filter` may return `result`, given the severity and span that its rule already has, if any. A new rule is
-- added, or allocation fails. Another severity is a conflict; the same one is a conflict only if `duplicate` is `Yes`.
abbrev pub Answers : Option (Severity × Span) → Severity × Span → ShouldConflictOnFullDuplicate → Result (Unit {0}) AddFilterError → Type 0
Answers None filter duplicate result = (result ≡ Ok tt) ⊎ (result ≡ Err Memory)
Answers (Some first) filter Yes result = result ≡ Err (conflict first.1 filter.1)
Answers (Some first) filter No result =
    (first.0 ≡ filter.0 → result ≡ Ok tt) × (¬ (first.0 ≡ filter.0) → result ≡ Err (conflict first.1 filter.1))
