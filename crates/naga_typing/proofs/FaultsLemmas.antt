-- The expressions that have types, and the initial values of declarations.
use Rattle.std.proofs.Common.{◌≡◌, ◌∙◌, ◌≤◌, ◌+◌, ap, sym, subst, refl, arith, ℕ, List, [], ◌∷◌, ◌++◌, length, map, take, Option, None, Some}
use Rattle.std.proofs.lemmas.List.{take_all}
use Rattle.std.proofs.lemmas.Option.{slice_get-map}
use Rattle.std.specs.Prelude.{All, option_map, slice_get}
use Rattle.naga_ir.specs.declared.expression.Expression.{Expression}
use Rattle.naga_typifier.specs.Context.{Context}
use Rattle.naga_typifier.specs.Faults.{fault_of}
use Rattle.naga_typifier.specs.Table.{type_of}
use Rattle.naga_typifier.specs.Typing.{typing}
use Rattle.naga_typifier.specs.declared.resolution.TypeResolution.{TypeResolution}
use Rattle.naga_typifier.specs.declared.resolve_error.ResolveError.{ResolveError}
use Rattle.naga_typing.specs.Expressions.{ExpressionFits}
use Rattle.naga_typing.specs.Faults.{ExpressionsAreTyped, FitsBy, IsExpressionFault, IsOperandFault}
use Rattle.naga_typing.specs.Requirements.{Signature}
use Rattle.naga_typing.specs.declared.invalid_types.ValueFault.{ValueFault}
use Rattle.naga_typing.specs.declared.invalid_types.ValueFault.TheVariants as fault
use Rattle.naga_typing.specs.declared.requirement.Requirement.{Requirement}

-- ---- how many types there are

length-next : {X : Type 0} (xs : List X) (x : X) → length (xs ++ x ∷ []) ≡ length xs + 1
length-next [] x = refl
length-next (y ∷ xs) x = let rest = length-next xs x in omega (arith, rest)

-- as many types as expressions if there is no error, and otherwise no more
abbrev pub Counts : ℕ → List TypeResolution × Option ResolveError → Type 0
Counts all (found, None) = length found ≡ all
Counts all (found, Some error) = length found ≤ all

typing-counts : (ctx : Context) (known : List TypeResolution) (rest : List Expression) (all : ℕ) → length known + length rest ≡ all → Counts all (typing ctx known rest)
typing-counts ctx known [] all long = omega (arith, long)
typing-counts ctx known (expression ∷ rest) all long =
    go (λ ty. typing-counts ctx (known ++ ty ∷ []) rest all (omega (arith, long, length-next known ty))) (type_of ctx (slice_get known) expression) refl
  where
    go : ((ty : TypeResolution) → Counts all (typing ctx (known ++ ty ∷ []) rest)) → (found : Option TypeResolution) → type_of ctx (slice_get known) expression ≡ found →
        Counts all (elim found as (λ _. List TypeResolution × Option ResolveError) [ None ↦ (known, Some (fault_of ctx (slice_get known) expression)) | Some ty ↦ typing ctx (known ++ ty ∷ []) rest ])
    go later None is = omega (arith, long)
    go later (Some ty) is = later ty

-- if there is no error, there are as many types as expressions
pub typing-length : (ctx : Context) (expressions : List Expression) (types : List TypeResolution) → typing ctx [] expressions ≡ (types, None) → length types ≡ length expressions
typing-length ctx expressions types is = subst (Counts (length expressions)) is (typing-counts ctx [] expressions (length expressions) (omega arith))

-- otherwise there are no more
pub typing-short : (ctx : Context) (expressions : List Expression) (types : List TypeResolution) (error : ResolveError) → typing ctx [] expressions ≡ (types, Some error) → length types ≤ length expressions
typing-short ctx expressions types error is = subst (Counts (length expressions)) is (typing-counts ctx [] expressions (length expressions) (omega arith))

-- ---- declarations

-- what a declaration requires, at the position of the declaration
pub slot-at : {X : Type 0} (f : X → Option Requirement) (xs : List X) (i j : ℕ) (x : X) (slot : Option Requirement) → j ≡ i → slice_get xs j ≡ Some x → slot ≡ f x → slice_get (map f xs) i ≡ Some slot
slot-at f xs i j x slot same at is = slice_get-map f xs i ∙ (ap (option_map f) (ap (slice_get xs) (sym same) ∙ at) ∙ ap Some (sym is))

-- ---- the expressions of an arena

module _ (ctx : Context) (signature : Signature) (expressions : List Expression) (types : List TypeResolution) where
  abbrev Fitting : List TypeResolution → List Expression → Type 0
  Fitting by = All (ExpressionFits (FitsBy ctx signature by))

  pub ExpressionsAreTyped-all : typing ctx [] expressions ≡ (types, None) → (count : ℕ) → length expressions ≤ count
      → Fitting types (take count expressions) → ExpressionsAreTyped ctx signature expressions
  ExpressionsAreTyped-all is count past fit = (
    ap (λ found. found.1) is,
    subst (λ by. Fitting by expressions) (sym (ap (λ found. found.0) is)) (subst (Fitting types) (take_all count expressions past) fit),
  )

  pub IsExpressionFault-untyped : (expression : ℕ) (error : ResolveError) → typing ctx [] expressions ≡ (types, Some error) → expression ≡ length types
      → (count : ℕ) → count ≡ expression → Fitting types (take count expressions) → IsExpressionFault ctx signature expressions (fault.NoType expression error)
  IsExpressionFault-untyped expression error is at count same fit = (
    at ∙ ap length (sym (ap (λ found. found.0) is)),
    ap (λ found. found.1) is,
    subst (λ by. Fitting by (take expression expressions)) (sym (ap (λ found. found.0) is)) (subst (λ n. Fitting types (take n expressions)) same fit),
  )

  pub IsExpressionFault-operand : (stopped : Option ResolveError) → typing ctx [] expressions ≡ (types, stopped) → (count : ℕ) → count ≡ length types → (found : ValueFault)
      → IsOperandFault ctx signature types expressions count found → IsExpressionFault ctx signature expressions found
  IsExpressionFault-operand stopped is count same (fault.NoType expression error) h = absurd h
  IsExpressionFault-operand stopped is count same (fault.Initial declared unmet) h = absurd h
  IsExpressionFault-operand stopped is count same (fault.Operand expression unmet) h =
      subst (λ by. IsOperandFault ctx signature by expressions (length by) (fault.Operand expression unmet)) (sym (ap (λ found. found.0) is))
      (subst (λ n. IsOperandFault ctx signature types expressions n (fault.Operand expression unmet)) same h)
