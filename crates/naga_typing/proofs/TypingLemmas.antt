-- A typifier finds the types of an arena, as far as each expression has one.
use Rattle.std.proofs.Common.{◌≡◌, ◌∙◌, sym, ap, subst, refl, inl, inr, ℕ, zero, suc, ◌+◌, ◌<◌, List, [], ◌∷◌, ◌++◌, length, Option, None, Some, arith}
use Rattle.std.proofs.lemmas.Bool.{cases_lt}
use Rattle.std.proofs.lemmas.List.{length-map}
use Rattle.std.proofs.lemmas.Option.{none-some, slice_get_cases, slice_get_past}
use Rattle.std.specs.Prelude.{option_and_then, slice_get}
use Rattle.naga_arena.specs.Arena.{value_at, values}
use Rattle.naga_arena.specs.declared.span.Span.{Span}
use Rattle.naga_ir.specs.declared.expression.Expression.{Expression}
use Rattle.naga_typifier.specs.Context.{Context}
use Rattle.naga_typifier.specs.Faults.{fault_of}
use Rattle.naga_typifier.specs.Table.{type_of}
use Rattle.naga_typifier.specs.Typing.{typing}
use Rattle.naga_typifier.specs.declared.resolution.TypeResolution.{TypeResolution}
use Rattle.naga_typifier.specs.declared.resolve_error.ResolveError.{ResolveError}
use Rattle.naga_typing.specs.Arenas.{AreTypes}
use Rattle.naga_typing.proofs.AreTypesLemmas.{AreTypes-exist, Precede, types_of}
use Rattle.naga_typing.proofs.DependsLemmas.{Depends-weaker, type_of-depends}

-- ---- one more element

get-before : {X : Type 0} (xs ys : List X) (i : ℕ) → i < length xs → slice_get (xs ++ ys) i ≡ slice_get xs i
get-before [] ys i less = absurd (omega (arith, less))
get-before (x ∷ xs) ys zero less = refl
get-before (x ∷ xs) ys (suc i) less = get-before xs ys i (omega (arith, less))

get-next : {X : Type 0} (xs : List X) (x : X) → slice_get (xs ++ x ∷ []) (length xs) ≡ Some x
get-next [] x = refl
get-next (y ∷ xs) x = get-next xs x

length-next : {X : Type 0} (xs : List X) (x : X) → length (xs ++ x ∷ []) ≡ suc (length xs)
length-next [] x = refl
length-next (y ∷ xs) x = ap suc (length-next xs x)

-- ---- from any expression on

module _ (types : ℕ → Option TypeResolution) where
  -- the list has the types of the first expressions
  abbrev pub Begins : List TypeResolution → Type 0
  Begins known = (handle : ℕ) → handle < length known → slice_get known handle ≡ types handle

  -- all expressions have types, or the one after these has none
  abbrev pub Ends : (all count : ℕ) → Option ResolveError → Type 0
  Ends all count None = count ≡ all
  Ends all count (Some error) = (types count ≡ None) × (count < all)

  abbrev Finds : ℕ → List TypeResolution × Option ResolveError → Type 0
  Finds all found = Begins found.0 × Ends all (length found.0) found.1

module _ (ctx : Context) (expressions : ℕ → Option Expression) (precede : Precede expressions) (types : ℕ → Option TypeResolution) (are : AreTypes ctx expressions types) where
  module _ (known : List TypeResolution) (begins : Begins types known) (expression : Expression) (here : expressions (length known) ≡ Some expression) where
    type-here : types (length known) ≡ type_of ctx (slice_get known) expression
    type-here =
        are (length known) ∙ ap (option_and_then (type_of ctx types)) here
        ∙ sym (type_of-depends ctx types (slice_get known) expression (Depends-weaker (λ operand. operand < length known) (λ operand. slice_get known operand ≡ types operand) begins expression (precede (length known) expression here)))

    begins-next : (ty : TypeResolution) → type_of ctx (slice_get known) expression ≡ Some ty → Begins types (known ++ ty ∷ [])
    begins-next ty is handle less = elim (cases_lt handle (length known)) [
      | inl before ↦ get-before known (ty ∷ []) handle before ∙ begins handle before
      | inr past ↦
          let at : handle ≡ length known = omega (arith, less, past, length-next known ty) in
          ap (slice_get (known ++ ty ∷ [])) at ∙ get-next known ty ∙ sym (type-here ∙ is) ∙ ap types (sym at)
    ]

  finds : (rest : List Expression) (known : List TypeResolution) (all : ℕ) → length known + length rest ≡ all → Begins types known → ((i : ℕ) → expressions (length known + i) ≡ slice_get rest i) → Finds types all (typing ctx known rest)
  finds [] known all long begins ahead = (begins, omega (arith, long))
  finds (expression ∷ rest) known all long begins ahead =
      go
      (λ ty is.
      finds rest (known ++ ty ∷ []) all (omega (arith, long, length-next known ty)) (begins-next known begins expression here ty is)
      (λ i. let next : length (known ++ ty ∷ []) + i ≡ length known + suc i = omega (arith, length-next known ty) in ap expressions next ∙ ahead (suc i)))
      (type_of ctx (slice_get known) expression) refl
    where
      here : expressions (length known) ≡ Some expression
      here = let none : length known ≡ length known + 0 = omega arith in ap expressions none ∙ ahead 0

      go : ((ty : TypeResolution) → type_of ctx (slice_get known) expression ≡ Some ty → Finds types all (typing ctx (known ++ ty ∷ []) rest)) → (found : Option TypeResolution) → type_of ctx (slice_get known) expression ≡ found →
          Finds types all (elim found as (λ _. List TypeResolution × Option ResolveError) [ None ↦ (known, Some (fault_of ctx (slice_get known) expression)) | Some ty ↦ typing ctx (known ++ ty ∷ []) rest ])
      go later None is = (begins, (type-here known begins expression here ∙ is, omega (arith, long)))
      go later (Some ty) is = later ty is

-- ---- a whole arena

module _ (ctx : Context) (arena : List (Expression × Span)) (precede : Precede (value_at arena)) where
  finds-arena : (types : ℕ → Option TypeResolution) → AreTypes ctx (value_at arena) types → Finds types (length arena) (typing ctx [] (values arena))
  finds-arena types are =
      finds ctx (value_at arena) precede types are (values arena) [] (length arena)
      (let same : length (values arena) ≡ length arena = length-map arena (λ (p : Expression × Span). p.0) in omega (arith, same))
      (λ handle less. absurd (omega (arith, less)))
      (λ i. let none : 0 + i ≡ i = omega arith in ap (value_at arena) none)

  module _ (types : ℕ → Option TypeResolution) (are : AreTypes ctx (value_at arena) types) where
    pub typing-begins : (found : List TypeResolution) (fault : Option ResolveError) → typing ctx [] (values arena) ≡ (found, fault) → (handle : ℕ) → handle < length found → slice_get found handle ≡ types handle
    typing-begins found fault is = (subst (Finds types (length arena)) is (finds-arena types are)).0

    pub typing-stops : (found : List TypeResolution) (error : ResolveError) → typing ctx [] (values arena) ≡ (found, Some error) → (types (length found) ≡ None) × (length found < length arena)
    typing-stops found error is = (subst (Finds types (length arena)) is (finds-arena types are)).1

    pub typing-complete : (found : List TypeResolution) → typing ctx [] (values arena) ≡ (found, None) → length found ≡ length arena
    typing-complete found is = (subst (Finds types (length arena)) is (finds-arena types are)).1

    -- if each expression has a type, there is no error
    pub typing-all : ((handle : ℕ) → handle < length arena → ¬ (types handle ≡ None)) → (found : List TypeResolution) × (typing ctx [] (values arena) ≡ (found, None))
    typing-all some = go (typing ctx [] (values arena)) refl
      where
        go : (pair : List TypeResolution × Option ResolveError) → typing ctx [] (values arena) ≡ pair → (found : List TypeResolution) × (typing ctx [] (values arena) ≡ (found, None))
        go (found, None) is = (found, is)
        go (found, Some error) is = let stop = typing-stops found error is in absurd (some (length found) stop.1 stop.0)

  -- if there is no error, these are the types of the arena, and each expression has one
  module _ (found : List TypeResolution) (is : typing ctx [] (values arena) ≡ (found, None)) where
    abbrev types : ℕ → Option TypeResolution
    types = types_of ctx (value_at arena) precede

    are : AreTypes ctx (value_at arena) types
    are = AreTypes-exist ctx (value_at arena) precede

    pub typing-length : length found ≡ length arena
    typing-length = typing-complete types are found is

    agrees : (handle : ℕ) → slice_get found handle ≡ types handle
    agrees handle = elim (cases_lt handle (length found)) [
      | inl before ↦ typing-begins types are found None is handle before
      | inr past ↦
          let same : length (values arena) ≡ length arena = length-map arena (λ (p : Expression × Span). p.0) in
          slice_get_past found handle past
          ∙ sym (are handle ∙ ap (option_and_then (type_of ctx types)) (slice_get_past (values arena) handle (omega (arith, typing-length, same, past))))
    ]

    pub typing-types : AreTypes ctx (value_at arena) (slice_get found)
    typing-types = subst (AreTypes ctx (value_at arena)) (λ i handle. sym (agrees handle) i) are

    pub typing-some : (handle : ℕ) → handle < length arena → ¬ (slice_get found handle ≡ None)
    typing-some handle less none = elim (slice_get_cases found handle).1 [
      | inl present ↦ none-some present.0 (sym none ∙ present.2)
      | inr past ↦ absurd (omega (arith, typing-length, less, past.0))
    ]
