-- The faults of a function: lemmas on specs/FunctionFaults.antt.
use Rattle.std.proofs.Common.{◌≡◌, ◌∙◌, ◌⊎◌, inl, inr, refl, sym, ap, subst, ℕ, zero, suc, ◌+◌, ◌-◌, List, [], ◌∷◌, ◌++◌, length, map, take, Option, None, Some, append-nil, arith}
use Rattle.std.proofs.lemmas.List.{take_all}
use Rattle.std.proofs.lemmas.List.Elements.{All-append, All-cons, All-head, All-nil, All-tail}
use Rattle.std.proofs.Math.Seq.{take-nil}
use Rattle.std.specs.Prelude.{◌↔◌, ◌≤◌, All, Err, Ok, OnOk, Result, flat_map, slice_get}
use Rattle.std.specs.List.{AllZip, enumerate_from}
use Rattle.naga_arena.specs.Arena.{values}
use Rattle.naga_arena.specs.declared.span.Span.{Span}
use Rattle.naga_ir.specs.Tree.{Node}
use Rattle.naga_ir.specs.View.{tree_of}
use Rattle.naga_ir.specs.declared.module.Function as function
use Rattle.naga_ir.specs.declared.module.Module as the_module
use Rattle.naga_flow.specs.Jumps.{numbered}
use Rattle.naga_flow.proofs.AllLemmas.{All-both}
use Rattle.naga_flow.specs.Tracking.{IsFirstNot}
use Rattle.naga_flow.proofs.IsFirstNotLemmas.{IsFirstNot-cases, IsFirstNot-not_all}
use Rattle.naga_typifier.specs.Context.{Context, context_in}
use Rattle.naga_typifier.specs.Typing.{typing}
use Rattle.naga_typifier.specs.declared.resolution.TypeResolution.{TypeResolution}
use Rattle.naga_typifier.specs.declared.resolve_error.ResolveError.{ResolveError}
use Rattle.naga_typing.specs.Expressions.{ExpressionFits}
use Rattle.naga_typing.specs.Faults.{FitsBy}
use Rattle.naga_typing.specs.FunctionFaults.{AddsFaults, AreFaultsBy, AreFaultsOf, AreFaultsOfFunction, AreFirstFaults, Part, expression_parts, of_expression, of_statement, of_variable, parts_of, statement_parts, unmet, variable_parts}
use Rattle.naga_typing.specs.Found.{found_in}
use Rattle.naga_typing.specs.Initials.{locals_of}
use Rattle.naga_typing.specs.Checks.{IsFirstUnmet}
use Rattle.naga_typing.specs.Joined.{AddsUpTo, AreJoined}
use Rattle.naga_typing.specs.Requirements.{Signature}
use Rattle.naga_typing.specs.Statements.{BodyIsTyped, EntryFits, statements}
use Rattle.naga_typing.specs.TypedFunctions.{context_of, signature_in, signature_of}
use Rattle.naga_typing.specs.TypedModules.{FunctionIsTyped, typing_in}
use Rattle.naga_typing.specs.declared.invalid_types.TypeFault.{TypeFault}
use Rattle.naga_typing.specs.declared.invalid_types.TypeFault.TheVariants as fault
use Rattle.naga_typing.specs.declared.invalid_types.Unmet.{Unmet}
use Rattle.naga_typing.specs.declared.invalid_types.ValueFault.TheVariants as value_fault
use Rattle.naga_typing.specs.declared.requirement.Requirement.{Requirement}
use Rattle.naga_typing.specs.declared.typed_function.TypedFunction.{TypedFunction}
use Rattle.naga_typing.proofs.ChecksLemmas.{one-met}
use Rattle.naga_typing.proofs.JoinedLemmas.{AddsUpTo-both, AddsUpTo-first, AddsUpTo-one, take-joined}

-- ---- parts made of the elements of a list

module _ {X : Type 0} (f : ℕ × X → Part) where
  pub parts-length : (k : ℕ) (all : List X) → length (map f (enumerate_from k all)) ≡ length all
  parts-length k [] = refl
  parts-length k (x ∷ all) = ap suc (parts-length (k + 1) all)

  parts-from : (k i : ℕ) (all : List X) (x : X) → slice_get all i ≡ Some x → slice_get (map f (enumerate_from k all)) i ≡ Some (f (k + i, x))
  parts-from k i [] x at = cc
  parts-from k zero (y ∷ all) x at =
      let here : y ≡ x = cc in
      let same : k ≡ k + 0 = omega arith in
      λ j. Some (f (same j, here j))
  parts-from k (suc i) (y ∷ all) x at =
      let moved : (k + 1) + i ≡ k + suc i = omega arith in
      parts-from (k + 1) i all x at ∙ ap (λ n. Some (f (n, x))) moved

  pub parts-at : (i : ℕ) (all : List X) (x : X) → slice_get all i ≡ Some x → slice_get (map f (enumerate_from 0 all)) i ≡ Some (f (i, x))
  parts-at i all x at = let same : 0 + i ≡ i = omega arith in parts-from 0 i all x at ∙ ap (λ n. Some (f (n, x))) same

-- ---- whether parts have faults

module _ (ctx : Context) (signature : Signature) (types : List TypeResolution) where
  -- a requirement with the type that is found
  pub unmet-is : (one : Unmet) (requirement : Requirement) → one.requirement ≡ requirement
      → one.found ≡ found_in ctx (slice_get types) one.requirement → one ≡ unmet ctx signature types requirement
  unmet-is one requirement same found =
      let is = found ∙ ap (found_in ctx (slice_get types)) same in
      λ i. record { requirement = same i; found = is i }

  abbrev Gives : Part → List TypeFault → Type 0
  Gives = AreFaultsOf ctx signature types

  abbrev Fitting : Option Requirement → Type 0
  Fitting = FitsBy ctx signature types

  -- each requirement of the part is met
  abbrev Passes : Part → Type 0
  Passes part = All Fitting part.required

  -- a part that passes has no fault, and another has that of the first requirement that is not met
  module _ (limit : ℕ) where
    pub AddsUpTo-passes : (part : Part) (old : List TypeFault) → Passes part → AddsUpTo limit Gives (part ∷ []) old old
    AddsUpTo-passes part old pass = AddsUpTo-one Gives limit part [] old old (inl (pass, refl)) (sym (ap (λ t. old ++ t) (take-nil (limit - length old)) ∙ append-nil old))

    pub AddsUpTo-pushed : {T E : Type 0} (r : Result T E) (part : Part) (requirement : Requirement) (one : TypeFault) (old new : List TypeFault)
        → IsFirstUnmet Fitting part.required requirement → one ≡ part.fault requirement
        → OnOk r (new ≡ old ++ take (limit - length old) (one ∷ [])) → OnOk r (AddsUpTo limit Gives (part ∷ []) old new)
    AddsUpTo-pushed (Err error) part requirement one old new first is pushed = tt
    AddsUpTo-pushed (Ok value) part requirement one old new first is pushed =
        AddsUpTo-one Gives limit part (one ∷ []) old new (inr (requirement, first, ap (λ x. x ∷ []) is)) pushed

  -- if there are no faults, all parts pass
  none-pass : (parts : List Part) (lists : List (List TypeFault)) → AllZip Gives parts lists
      → flat_map (λ (list : List TypeFault). list) lists ≡ [] → All Passes parts
  none-pass [] [] zip none = All-nil Passes
  none-pass [] (list ∷ lists) zip none = absurd zip
  none-pass (part ∷ parts) [] zip none = absurd zip
  none-pass (part ∷ parts) (list ∷ lists) zip none =
      let rest = flat_map (λ (list : List TypeFault). list) lists in
      elim zip.0 [
        | inl pass ↦ All-cons Passes part parts pass.0 (none-pass parts lists zip.1 (subst (λ l. l ++ rest ≡ []) pass.1 none))
        | inr fails ↦ (let some : part.fault fails.0 ∷ rest ≡ [] = subst (λ l. l ++ rest ≡ []) fails.2 none in cc)
      ]

  -- if all parts pass, there are no faults
  pass-none : (parts : List Part) (lists : List (List TypeFault)) → AllZip Gives parts lists
      → All Passes parts → flat_map (λ (list : List TypeFault). list) lists ≡ []
  pass-none [] [] zip pass = refl
  pass-none [] (list ∷ lists) zip pass = absurd zip
  pass-none (part ∷ parts) [] zip pass = absurd zip
  pass-none (part ∷ parts) (list ∷ lists) zip pass =
      elim zip.0 [
        | inl fits ↦
            ap (λ l. l ++ flat_map (λ (list : List TypeFault). list) lists) fits.1
            ∙ pass-none parts lists zip.1 (All-tail Passes part parts pass)
        | inr fails ↦ absurd (IsFirstNot-not_all Fitting part.required (Some fails.0) fails.1 (All-head Passes part parts pass))
      ]

  -- parts made of the elements of a list
  module _ {X : Type 0} (f : ℕ × X → Part) (P : X → Type 0) where
    All-parts : ((k : ℕ) (x : X) → P x → Passes (f (k, x))) → (k : ℕ) (all : List X) → All P all → All Passes (map f (enumerate_from k all))
    All-parts pass k [] h = All-nil Passes
    All-parts pass k (x ∷ all) h =
        All-cons Passes (f (k, x)) (map f (enumerate_from (k + 1) all)) (pass k x (All-head P x all h)) (All-parts pass (k + 1) all (All-tail P x all h))

    All-of_parts : ((k : ℕ) (x : X) → Passes (f (k, x)) → P x) → (k : ℕ) (all : List X) → All Passes (map f (enumerate_from k all)) → All P all
    All-of_parts pass k [] h = All-nil P
    All-of_parts pass k (x ∷ all) h =
        All-cons P x all (pass k x (All-head Passes (f (k, x)) (map f (enumerate_from (k + 1) all)) h))
        (All-of_parts pass (k + 1) all (All-tail Passes (f (k, x)) (map f (enumerate_from (k + 1) all)) h))

-- ---- whether a function has faults

not_none : {X : Type 0} (xs : List X) (x : X) → ¬ (xs ++ x ∷ [] ≡ [])
not_none [] x none = cc
not_none (y ∷ xs) x none = cc

module _ (whole : the_module.Module) (inside : function.Function) where
  abbrev ctx : Context
  ctx = context_in whole inside

  abbrev sig : Signature
  sig = signature_in whole inside

  abbrev body_statements : List (Node × Span)
  body_statements = statements (tree_of inside.body)

  abbrev in_order : (types : List TypeResolution) → ℕ × (Node × Span) → Part
  in_order types entry = of_statement ctx sig types (numbered 0 entry.0, entry.1)

  -- that the function is typed, by the types of its expressions
  abbrev TypedBy : List TypeResolution × Option ResolveError → Type 0
  TypedBy found =
      (found.1 ≡ None) × All (ExpressionFits (FitsBy ctx sig found.0)) (values inside.expressions)
      × All (FitsBy ctx sig found.0) (locals_of inside) × BodyIsTyped ctx (slice_get found.0) sig (tree_of inside.body)

  none-typed : (found : List TypeResolution × Option ResolveError) (faults : List TypeFault) → AreFaultsBy whole inside found faults → faults ≡ [] → TypedBy found
  none-typed (types, None) faults are none =
      let all = none-pass ctx sig types (parts_of whole inside types) are.lists are.each (sym are.are ∙ none) in
      let first = All-both (Passes ctx sig types) (expression_parts ctx sig types (values inside.expressions))
      (variable_parts ctx sig types (locals_of inside) ++ statement_parts ctx sig types 0 body_statements) all in
      let others = All-both (Passes ctx sig types) (variable_parts ctx sig types (locals_of inside)) (statement_parts ctx sig types 0 body_statements) first.1 in (
        refl,
        All-of_parts ctx sig types (of_expression ctx sig types) (ExpressionFits (FitsBy ctx sig types)) (λ k x h. h) 0 (values inside.expressions) first.0,
        All-of_parts ctx sig types (of_variable ctx sig types) (FitsBy ctx sig types) (λ k slot h. All-head (FitsBy ctx sig types) slot [] h) 0 (locals_of inside) others.0,
        All-of_parts ctx sig types (in_order types) (EntryFits (FitsBy ctx sig types)) (λ k x h. h) 0 body_statements others.1,
      )
  none-typed (types, Some error) faults are none = absurd (not_none are.0 (fault.Value (value_fault.NoType (length types) error)) (sym are.2 ∙ none))

  typed-none : (found : List TypeResolution × Option ResolveError) (faults : List TypeFault) → AreFaultsBy whole inside found faults → TypedBy found → faults ≡ []
  typed-none (types, None) faults are typed =
      let first = All-parts ctx sig types (of_expression ctx sig types) (ExpressionFits (FitsBy ctx sig types)) (λ k x h. h) 0 (values inside.expressions) typed.1 in
      let second = All-parts ctx sig types (of_variable ctx sig types) (FitsBy ctx sig types) (λ k slot h. one-met (FitsBy ctx sig types) slot h) 0 (locals_of inside) typed.2 in
      let third = All-parts ctx sig types (in_order types) (EntryFits (FitsBy ctx sig types)) (λ k x h. h) 0 body_statements typed.3 in
      let others = All-append (Passes ctx sig types) (variable_parts ctx sig types (locals_of inside)) (statement_parts ctx sig types 0 body_statements) second third in
      let all = All-append (Passes ctx sig types) (expression_parts ctx sig types (values inside.expressions))
      (variable_parts ctx sig types (locals_of inside) ++ statement_parts ctx sig types 0 body_statements) first others in
      are.are ∙ pass-none ctx sig types (parts_of whole inside types) are.lists are.each all
  typed-none (types, Some error) faults are typed = (let some : Some error ≡ None = typed.0 in cc)

  pub AreFaultsOfFunction-none : (faults : List TypeFault) → AreFaultsOfFunction whole inside faults → (faults ≡ []) ↔ FunctionIsTyped whole inside
  AreFaultsOfFunction-none faults are = (
    λ none.
        let typed = none-typed (typing_in whole inside) faults are none in
        record { typed = (typed.0, typed.3); operands = typed.1; variables = typed.2 },
    λ typed. typed-none (typing_in whole inside) faults are (typed.typed.0, typed.operands, typed.variables, typed.typed.1),
  )

-- ---- the stages of the search for faults

module _ (typed : TypedFunction) (limit : ℕ) where
  abbrev whole : the_module.Module
  whole = typed.«module».now

  abbrev inside : function.Function
  inside = typed.function.now

  abbrev types : List TypeResolution
  types = typed.known.now

  abbrev Giving : Part → List TypeFault → Type 0
  Giving = AreFaultsOf (context_of typed) (signature_of typed) types

  abbrev expressions : List Part
  expressions = expression_parts (context_of typed) (signature_of typed) types (values inside.expressions)

  abbrev variables : List Part
  variables = variable_parts (context_of typed) (signature_of typed) types (locals_of inside)

  abbrev in_body : List Part
  in_body = statement_parts (context_of typed) (signature_of typed) types 0 (statements (tree_of inside.body))

  -- each expression has a type
  pub AreFirstFaults-parts : typing (context_of typed) [] (values inside.expressions) ≡ (types, None) → (count : ℕ) → length (values inside.expressions) ≤ count
      → (old first second third : List TypeFault) → old ≡ [] → AddsFaults typed limit (take count expressions) old first
      → AddsFaults typed limit variables first second → AddsFaults typed limit in_body second third → AreFirstFaults whole inside limit third
  AreFirstFaults-parts is count past old first second third none operands initials mismatches =
      let long = parts-length (of_expression (context_of typed) (signature_of typed) types) 0 (values inside.expressions) in
      let all_operands : AddsFaults typed limit expressions old first =
      subst (λ parts. AddsFaults typed limit parts old first) (take_all count expressions (omega (arith, long, past))) operands in
      let adds = AddsUpTo-first Giving limit (expressions ++ (variables ++ in_body)) old third none
      (AddsUpTo-both Giving limit expressions (variables ++ in_body) old first third all_operands
      (AddsUpTo-both Giving limit variables in_body first second third initials mismatches)) in
      (adds.0, subst (λ found. AreFaultsBy whole inside found adds.0) (sym is) adds.1, adds.2)

  -- this expression is the first that has no type
  pub AreFirstFaults-untyped : (expression : ℕ) (error : ResolveError) → expression ≡ length types
      → typing (context_of typed) [] (values inside.expressions) ≡ (types, Some error) → (count : ℕ) → count ≡ expression
      → (old first second : List TypeFault) → old ≡ [] → AddsFaults typed limit (take count expressions) old first
      → second ≡ first ++ take (limit - length first) (fault.Value (value_fault.NoType expression error) ∷ []) → AreFirstFaults whole inside limit second
  AreFirstFaults-untyped expression error at is count same old first second none operands pushed =
      let adds = AddsUpTo-first Giving limit (take count expressions) old first none operands in
      let last = fault.Value (value_fault.NoType expression error) ∷ [] in
      let last_at : last ≡ fault.Value (value_fault.NoType (length types) error) ∷ [] = ap (λ n. fault.Value (value_fault.NoType n error) ∷ []) at in (
        adds.0 ++ last,
        subst (λ found. AreFaultsBy whole inside found (adds.0 ++ last)) (sym is) (
          adds.0,
          subst (λ n. AreJoined Giving (take n expressions) adds.0) (same ∙ at) adds.1,
          ap (λ t. adds.0 ++ t) last_at,
        ),
        pushed ∙ ap (λ t. t ++ take (limit - length t) last) adds.2 ∙ sym (take-joined limit adds.0 last),
      )

-- ---- a function has one list of faults

module _ {X : Type 0} (P : X → Type 0) where
  IsFirstNot-nothing : (before after : List X) (x : X) → ¬ ([] ≡ before ++ x ∷ after)
  IsFirstNot-nothing [] after x is = cc
  IsFirstNot-nothing (y ∷ before) after x is = cc

  -- the first element for which `P` does not hold is determined
  IsFirstNot-one : (xs : List X) (x y : X) → IsFirstNot P xs x → IsFirstNot P xs y → x ≡ y
  IsFirstNot-one [] x y a b = absurd (IsFirstNot-nothing a.before a.after x a.split)
  IsFirstNot-one (z ∷ xs) x y a b = go (IsFirstNot-one xs x y) (IsFirstNot-cases P z xs x a) (IsFirstNot-cases P z xs y b)
    where
      go : (IsFirstNot P xs x → IsFirstNot P xs y → x ≡ y) → ((z ≡ x) × ¬ P x) ⊎ (P z × IsFirstNot P xs x) → ((z ≡ y) × ¬ P y) ⊎ (P z × IsFirstNot P xs y) → x ≡ y
      go again (inl (here, fails)) (inl (there, fails')) = sym here ∙ there
      go again (inl (here, fails)) (inr (holds, later)) = absurd (fails (subst P here holds))
      go again (inr (holds, later)) (inl (there, fails)) = absurd (fails (subst P there holds))
      go again (inr (holds, later)) (inr (holds', later')) = again later later'

module _ (ctx : Context) (signature : Signature) (types : List TypeResolution) where
  faults-one : (part : Part) (a b : List TypeFault) → AreFaultsOf ctx signature types part a → AreFaultsOf ctx signature types part b → a ≡ b
  faults-one part a b (inl first) (inl second) = first.1 ∙ sym second.1
  faults-one part a b (inl first) (inr second) = absurd (IsFirstNot-not_all (FitsBy ctx signature types) part.required (Some second.0) second.1 first.0)
  faults-one part a b (inr first) (inl second) = absurd (IsFirstNot-not_all (FitsBy ctx signature types) part.required (Some first.0) first.1 second.0)
  faults-one part a b (inr first) (inr second) =
      let some = IsFirstNot-one (FitsBy ctx signature types) part.required (Some first.0) (Some second.0) first.1 second.1 in
      let same : first.0 ≡ second.0 = cc in
      first.2 ∙ ap (λ unmet. part.fault unmet ∷ []) same ∙ sym second.2

  lists-one : (parts : List Part) (xs ys : List (List TypeFault)) → AllZip (AreFaultsOf ctx signature types) parts xs → AllZip (AreFaultsOf ctx signature types) parts ys → xs ≡ ys
  lists-one [] [] [] a b = refl
  lists-one [] [] (y ∷ ys) a b = absurd b
  lists-one [] (x ∷ xs) ys a b = absurd a
  lists-one (part ∷ parts) [] ys a b = absurd a
  lists-one (part ∷ parts) (x ∷ xs) [] a b = absurd b
  lists-one (part ∷ parts) (x ∷ xs) (y ∷ ys) a b = λ i. faults-one part x y a.0 b.0 i ∷ lists-one parts xs ys a.1 b.1 i

  parts-one : (parts : List Part) (a b : List TypeFault) → AreJoined (AreFaultsOf ctx signature types) parts a → AreJoined (AreFaultsOf ctx signature types) parts b → a ≡ b
  parts-one parts a b first second =
      first.are ∙ ap (flat_map (λ (list : List TypeFault). list)) (lists-one parts first.lists second.lists first.each second.each) ∙ sym second.are

module _ (whole : the_module.Module) (inside : function.Function) where
  by-one : (found : List TypeResolution × Option ResolveError) (a b : List TypeFault) → AreFaultsBy whole inside found a → AreFaultsBy whole inside found b → a ≡ b
  by-one (types, None) a b first second = parts-one (context_in whole inside) (signature_in whole inside) types (parts_of whole inside types) a b first second
  by-one (types, Some error) a b first second =
      let operands = take (length types) (expression_parts (context_in whole inside) (signature_in whole inside) types (values inside.expressions)) in
      let same = parts-one (context_in whole inside) (signature_in whole inside) types operands first.0 second.0 first.1 second.1 in
      first.2 ∙ ap (λ t. t ++ fault.Value (value_fault.NoType (length types) error) ∷ []) same ∙ sym second.2

  pub AreFaultsOfFunction-one : (a b : List TypeFault) → AreFaultsOfFunction whole inside a → AreFaultsOfFunction whole inside b → a ≡ b
  AreFaultsOfFunction-one = by-one (typing_in whole inside)
