-- Whether an expression is ready, or an access chain to one that is, by its base.
use Rattle.std.proofs.Common.{◌≡◌, ◌∙◌, ◌≤◌, ap, ℕ, false, List, Some, None, length, arith}
use Rattle.std.proofs.lemmas.List.{length-map}
use Rattle.std.proofs.lemmas.Option.{slice_get_past}
use Rattle.std.specs.Prelude.{option_and_then}
use Rattle.naga_arena.specs.Arena.{value_at, values}
use Rattle.naga_arena.specs.declared.span.Span.{Span}
use Rattle.naga_ir.specs.Expression.{base_of}
use Rattle.naga_ir.specs.declared.expression.Expression.{Expression}
use Rattle.naga_flow.specs.Places.{base_before, if_before, ready_in}
use Rattle.naga_flow.proofs.PlacesLemmas.{end-last, end-next}
use Rattle.naga_meaning.specs.Readings.{chains_in}

module _ (arena : List (Expression × Span)) where
  pub missing : (handle : ℕ) → length arena ≤ handle → value_at arena handle ≡ None
  missing handle past =
      let len : length (values arena) ≡ length arena = length-map arena (λ entry. entry.0) in
      slice_get_past (values arena) handle (omega (arith, len, past))

  pub chains_in-base : (handle base : ℕ) → base_before arena handle ≡ Some base → chains_in arena handle ≡ chains_in arena base
  chains_in-base handle base is = ap (λ x. ready_in (value_at arena x)) (end-next arena handle base is)

  pub chains_in-last : (handle : ℕ) → base_before arena handle ≡ None → chains_in arena handle ≡ ready_in (value_at arena handle)
  chains_in-last handle is = ap (λ x. ready_in (value_at arena x)) (end-last arena handle is)

  pub chains_in-past : (handle : ℕ) → length arena ≤ handle → chains_in arena handle ≡ false
  chains_in-past handle past =
      chains_in-last handle (ap (λ found. if_before handle (option_and_then base_of found)) (missing handle past))
      ∙ ap ready_in (missing handle past)
