-- Going from an array to its base, step by step: `reached` is the type after `taken` of at most `steps` steps.
use Rattle.std.proofs.Common.{◌≡◌, ◌∙◌, sym, ap, ℕ, suc, zero, ◌+◌, ◌-◌, ◌<◌, ◌≤◌, List, Option, Some, None, arith}
use Rattle.std.specs.Option.{option_map_or}
use Rattle.naga_arena.specs.declared.span.Span.{Span}
use Rattle.naga_ir.specs.MeshOutput.{inner_of}
use Rattle.naga_ir.specs.declared.types.«Type».{«Type» as NamedType}
use Rattle.naga_compact.specs.Module.AbstractTypes.{array_base, innermost}

module _ (types : List (NamedType × Span)) (steps taken reached last : ℕ) where
  -- one more step, to a base or to nothing
  innermost-left : (left : ℕ) (base : Option ℕ) → steps - taken ≡ suc left → array_base (inner_of types reached) ≡ base → innermost (steps - taken) types reached ≡ option_map_or (innermost left types) base reached
  innermost-left left base is found =
      ap (λ n. innermost n types reached) is ∙ ap (λ b. option_map_or (innermost left types) b reached) found

  pub innermost-step : (base : ℕ) → taken < steps → array_base (inner_of types reached) ≡ Some base → innermost (steps - taken) types reached ≡ last → innermost (steps - (taken + 1)) types base ≡ last
  innermost-step base within found so =
      sym (innermost-left (steps - (taken + 1)) (Some base) (omega (arith, within)) found) ∙ so

  pub innermost-none : taken < steps → array_base (inner_of types reached) ≡ None → innermost (steps - taken) types reached ≡ last → reached ≡ last
  innermost-none within found so =
      sym (innermost-left (steps - (taken + 1)) None (omega (arith, within)) found) ∙ so

  pub innermost-end : steps ≤ taken → innermost (steps - taken) types reached ≡ last → reached ≡ last
  innermost-end past so =
      let none : steps - taken ≡ zero = omega (arith, past) in
      sym (ap (λ n. innermost n types reached) none) ∙ so
