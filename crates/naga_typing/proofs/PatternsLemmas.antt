-- What the components of a pattern require, one after another.
use Rattle.std.proofs.Common.{◌≡◌, ◌∙◌, ◌<◌, ap, sym, ℕ, ◌+◌, List, ◌∷◌, drop, length, Option}
use Rattle.std.proofs.lemmas.List.{drop_more}
use Rattle.std.proofs.lemmas.Option.{slice_get-get_or}
use Rattle.std.specs.Prelude.{option_and_then, slice_get}
use Rattle.naga_kinds.specs.declared.operator.SwizzleComponent.{SwizzleComponent}
use Rattle.naga_kinds.specs.declared.operator.SwizzleComponent.TheVariants.{X}
use Rattle.naga_typing.specs.Expressions.{of_pattern, of_place}
use Rattle.naga_typing.specs.declared.requirement.Requirement.{Requirement}

-- what the component at a position requires, and those after it
pub place-here : (vector : ℕ) (pattern : List SwizzleComponent) (position : ℕ) → position < length pattern
    → of_pattern vector (drop position pattern) ≡ option_and_then (of_place vector) (slice_get pattern position) ∷ of_pattern vector (drop (position + 1) pattern)
place-here vector pattern position within =
    ap (of_pattern vector) (drop_more pattern position X within)
    ∙ ap (λ (slot : Option Requirement). slot ∷ of_pattern vector (drop (position + 1) pattern))
    (sym (ap (option_and_then (of_place vector)) (slice_get-get_or pattern position X within)))
