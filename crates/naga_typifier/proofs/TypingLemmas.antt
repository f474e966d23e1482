-- The types of an arena's expressions, one more at a time.
use Rattle.std.proofs.Common.{◌≡◌, ℕ, zero, suc, ◌+◌, ◌≤◌, List, [], ◌∷◌, ◌++◌, Option, Some, None, drop, length, refl, ap, sym, ◌∙◌, arith, add-one, drop-cons}
use Rattle.std.specs.List.{slice_get}
use Rattle.std.proofs.lemmas.List.{length-map}
use Rattle.std.proofs.lemmas.Option.{get_or_from_slice_get, slice_get_within}
use Rattle.naga_arena.specs.Arena.{values}
use Rattle.naga_arena.specs.declared.span.Span.{Span}
use Rattle.naga_ir.specs.declared.expression.Expression.{Expression}
use Rattle.naga_typifier.specs.Context.{Context}
use Rattle.naga_typifier.specs.Table.{type_of}
use Rattle.naga_typifier.specs.Faults.{fault_of}
use Rattle.naga_typifier.specs.Typing.{typing}
use Rattle.naga_typifier.specs.declared.resolve_error.ResolveError.{ResolveError}
use Rattle.naga_typifier.specs.declared.resolution.TypeResolution.{TypeResolution}

drop-found : {X : Type 0} (xs : List X) (i : ℕ) (x : X) → slice_get xs i ≡ Some x → drop i xs ≡ x ∷ drop (i + 1) xs
drop-found xs i x found =
    drop-cons xs i x (slice_get_within xs i x found)
    ∙ ap (λ y. y ∷ drop (suc i) xs) (get_or_from_slice_get xs i x x found)
    ∙ ap (λ k. x ∷ drop k xs) (sym (add-one i))

drop-past : {X : Type 0} (xs : List X) (i : ℕ) → length xs ≤ i → drop i xs ≡ []
drop-past [] zero past = refl
drop-past [] (suc i) past = refl
drop-past (x ∷ xs) zero past = absurd (omega arith)
drop-past (x ∷ xs) (suc i) past = drop-past xs i (omega arith)

module _ (ctx : Context) (known : List TypeResolution) where
  -- the types of the rest, after the type of the first, or the error of the first
  abbrev after : ResolveError → List Expression → Option TypeResolution → List TypeResolution × Option ResolveError
  after error rest found =
      elim found as (λ _. List TypeResolution × Option ResolveError) [
        | None ↦ (known, Some error)
        | Some ty ↦ typing ctx (known ++ ty ∷ []) rest
      ]

  -- an expression that has a type
  pub typing-more : (expressions : List Expression) (i : ℕ) (expression : Expression) (ty : TypeResolution)
      → slice_get expressions i ≡ Some expression → type_of ctx (slice_get known) expression ≡ Some ty
      → typing ctx known (drop i expressions) ≡ typing ctx (known ++ ty ∷ []) (drop (i + 1) expressions)
  typing-more expressions i expression ty here is =
      ap (typing ctx known) (drop-found expressions i expression here)
      ∙ ap (after (fault_of ctx (slice_get known) expression) (drop (i + 1) expressions)) is

  -- an expression that has no type
  pub typing-stop : (expressions : List Expression) (i : ℕ) (expression : Expression)
      → slice_get expressions i ≡ Some expression → type_of ctx (slice_get known) expression ≡ None
      → typing ctx known (drop i expressions) ≡ (known, Some (fault_of ctx (slice_get known) expression))
  typing-stop expressions i expression here is =
      ap (typing ctx known) (drop-found expressions i expression here)
      ∙ ap (after (fault_of ctx (slice_get known) expression) (drop (i + 1) expressions)) is

  -- no expression is left
  pub typing-end : (arena : List (Expression × Span)) (i : ℕ) → length arena ≤ i
      → typing ctx known (drop i (values arena)) ≡ (known, None)
  typing-end arena i past =
      let same : length (values arena) ≡ length arena = length-map arena (λ (p : Expression × Span). p.0) in
      let short : length (values arena) ≤ i = omega (arith, same) in
      rw (drop-past (values arena) i short) refl
