-- What a use of an expression reads, if it is no place.
use Rattle.std.proofs.Common.{◌≡◌, ℕ, true, false, List, [], ◌∷◌, Option, Some, None, sym, ap, subst}
use Rattle.std.specs.Option.{option_map}
use Rattle.std.specs.Prelude.{if◌then◌else◌}
use Rattle.naga_arena.specs.Arena.{value_at}
use Rattle.naga_arena.specs.declared.span.Span.{Span}
use Rattle.naga_ir.specs.declared.expression.Expression.{Expression}
use Rattle.naga_ir.specs.declared.expression.Expression.TheVariants.{CallResult, AtomicResult, WorkGroupUniformLoadResult, RayQueryProceedResult, SubgroupBallotResult, SubgroupOperationResult}
use Rattle.naga_flow.specs.Places.{end_of_chain, reads_in, ready_in}
use Rattle.naga_flow.specs.Results.{evaluation_of}
use Rattle.naga_flow.specs.Tracking.{FindsFirstNot}
use Rattle.naga_flow.specs.Uses.{IsKnown, expressions_in}
use Rattle.naga_flow.specs.declared.evaluation.Evaluation.TheVariants as by
use Rattle.naga_flow.proofs.PlacesLemmas.{reads_in-itself}

-- what is ready when the function is entered is evaluated in this way
pub ready-evaluation : (found : Option Expression) → ready_in found ≡ true → option_map evaluation_of found ≡ Some by.Ready
ready-evaluation None h = absurd (let e : false ≡ true = h in cc)
ready-evaluation (Some (CallResult function)) h = absurd (let e : false ≡ true = h in cc)
ready-evaluation (Some (AtomicResult ty comparison)) h = absurd (let e : false ≡ true = h in cc)
ready-evaluation (Some (WorkGroupUniformLoadResult ty)) h = absurd (let e : false ≡ true = h in cc)
ready-evaluation (Some RayQueryProceedResult) h = absurd (let e : false ≡ true = h in cc)
ready-evaluation (Some SubgroupBallotResult) h = absurd (let e : false ≡ true = h in cc)
ready-evaluation (Some (SubgroupOperationResult ty)) h = absurd (let e : false ≡ true = h in cc)
ready-evaluation (Some _) h = ap (λ t. Some (if t then by.Ready else by.Emit)) h

module _ (arena : List (Expression × Span)) (known : List ℕ) (handle : ℕ) where
  abbrev P : ℕ → Type 0
  P = IsKnown (expressions_in arena) known

  pub reads-no_place : (result : Option ℕ) → ready_in (value_at arena (end_of_chain arena handle handle)) ≡ false → FindsFirstNot P (handle ∷ []) result → FindsFirstNot P (reads_in arena handle) result
  reads-no_place result is h = subst (λ xs. FindsFirstNot P xs result) (sym (reads_in-itself arena handle is)) h
