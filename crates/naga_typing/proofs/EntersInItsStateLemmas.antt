-- Where the initial values of local variables have their types, the body begins in a state of its function.
use Rattle.std.proofs.Common.{◌≡◌, sym, subst, refl, ℕ, zero, suc, ◌<◌, Bool, List, [], ◌∷◌, length, map, Option, Some, None, arith}
use Rattle.std.proofs.lemmas.List.Elements.{All-head, All-tail}
use Rattle.std.specs.List.{AllZip}
use Rattle.std.specs.Prelude.{All, IfSome, option_map}
use Rattle.naga_arena.specs.Arena.{value_at}
use Rattle.naga_arena.specs.declared.span.Span.{Span}
use Rattle.naga_ir.specs.declared.expression.Expression.{Expression}
use Rattle.naga_ir.specs.declared.module.Function as function
use Rattle.naga_ir.specs.declared.module.LocalVariable.{LocalVariable}
use Rattle.naga_ir.specs.declared.module.Module as the_module
use Rattle.naga_valid.specs.Operands.{operands_of}
use Rattle.naga_valid.specs.declared.reference.Reference.{Reference}
use Rattle.naga_flow.specs.Uses.{operands_found}
use Rattle.naga_compact.specs.Operands.{IsReached}
use Rattle.naga_compact.specs.Reachability.{by_step, from_root}
use Rattle.naga_compact.proofs.IsReachedLemmas.{operand_precedes}
use Rattle.naga_meaning.specs.Forms.{ExpressionForm}
use Rattle.naga_meaning.specs.Functions.{Meanings, code_of, initials, shape_of}
use Rattle.naga_meaning.specs.Renaming.{Each}
use Rattle.naga_meaning.specs.Values.{Code, World, constant, constant_within, entered}
use Rattle.naga_meaning.proofs.EachLemmas.{each-contained}
use Rattle.naga_typifier.specs.Context.{context_in}
use Rattle.naga_typifier.specs.Rows.{handle}
use Rattle.naga_typing.specs.Forms.{Form, form}
use Rattle.naga_typing.specs.Requirements.{Has}
use Rattle.naga_typing.specs.TypedFunctions.{signature_in}
use Rattle.naga_typing.specs.TypedInitials.{EntersWithTypes, HasTypedInitial, HasTypedInitials, IsConstant, IsInitial}
use Rattle.naga_typing.specs.TypedValues.{HasTypeOf, HaveTypesOf, types_in}
use Rattle.naga_typing.proofs.HasTypeOfLemmas.{HasTypeOf-known}
use Rattle.naga_typing.proofs.TypesInLemmas.{found-inside, type-found, typed-inside}

module _ {Thing Value State : Type 0} (look : Reference → Thing) (by : Meanings Thing Value State) (has_type : Value → Form → Type 0) (whole : the_module.Module) (inside : function.Function)
    (Accepts : Expression → Type 0) (Beginning Invariant : State → Type 0) (typed : HasTypedInitials whole Accepts inside)
    (respects : EntersWithTypes look by has_type whole inside Accepts Beginning Invariant) (at_use : ℕ → Bool) (w : World Value State) (begins : Beginning w.state) where
  abbrev arena : List (Expression × Span)
  arena = inside.expressions

  abbrev c : Code (Option (ExpressionForm × List (Option Thing)))
  c = code_of look at_use arena

  abbrev Typed : ℕ → Value → Type 0
  Typed = HasTypeOf has_type (context_in whole inside) (types_in whole inside)

  each-typed : (f : ℕ → Value) (xs : List ℕ) → Each (λ y. Typed y (f y)) xs → HaveTypesOf has_type (context_in whole inside) (types_in whole inside) xs (map f xs)
  each-typed f [] h = tt
  each-typed f (x ∷ xs) h = (h.0, each-typed f xs h.1)

  module _ (init : ℕ) (constant_there : IsConstant whole Accepts inside init) where
    abbrev Reached : ℕ → Type 0
    Reached = IsReached arena (λ root. root ≡ init)

    computed : (steps x : ℕ) (e : Expression) → value_at arena x ≡ Some e → Reached x →
        ((y : ℕ) → y < x → y < length arena → Reached y → Typed y (constant_within by c steps w y)) → x < length arena → Typed x (constant_within by c (suc steps) w x)
    computed steps x e is reached before less =
        let found = type-found whole inside typed.typed.0 typed.precede x e is in
        let fine = constant_there x e reached is in
        let operands : Each (λ y. Typed y (constant_within by c steps w y)) (operands_of e) =
        each-contained (λ y. Typed y (constant_within by c steps w y)) (operands_of e)
        (λ y contained.
        let precedes : y < x = operand_precedes arena x y typed.precede (record { expression = e; found = is; contained = contained }) in
        before y precedes (omega (arith, precedes, less)) (by_step reached (record { expression = e; found = is; contained = contained })))
        in
        let v = respects.operators e fine.0 fine.1 found.0 found.2 (map (constant_within by c steps w) (operands_of e)) (each-typed (constant_within by c steps w) (operands_of e) operands) w.state begins in
        subst (λ o. Typed x (by.compute (option_map (shape_of look) o) (map (constant_within by c steps w) (operands_found o)) w.state)) (sym is) (found.0, found.1, v)

    constant-typed : (steps x : ℕ) → x < steps → x < length arena → Reached x → Typed x (constant_within by c steps w x)
    constant-typed zero x less inside_arena reached = absurd (omega (arith, less))
    constant-typed (suc steps) x less inside_arena reached =
        go (value_at arena x) refl
        (λ e is. computed steps x e is reached (λ y before within there. constant-typed steps y (omega (arith, less, before)) within there) inside_arena)
      where
        go : (found : Option Expression) → value_at arena x ≡ found → ((e : Expression) → value_at arena x ≡ Some e → Typed x (constant_within by c (suc steps) w x)) → Typed x (constant_within by c (suc steps) w x)
        go None none h = absurd (found-inside arena x inside_arena none)
        go (Some e) is h = h e is

  initial-typed : (entry : LocalVariable × Span) → HasTypedInitial whole Accepts inside entry → IsInitial look by has_type whole inside Accepts Beginning Invariant entry (option_map (constant by c w) entry.0.init)
  initial-typed entry h = go entry.0.init refl
    where
      go : (init : Option ℕ) → entry.0.init ≡ init → IsInitial look by has_type whole inside Accepts Beginning Invariant entry (option_map (constant by c w) init)
      go None is = tt
      go (Some x) is =
          let fine : Has (context_in whole inside) (types_in whole inside) (signature_in whole inside) x (handle entry.0.ty) × IsConstant whole Accepts inside x =
          subst (λ init. IfSome init (λ init. Has (context_in whole inside) (types_in whole inside) (signature_in whole inside) init (handle entry.0.ty) × IsConstant whole Accepts inside init)) is h
          in
          HasTypeOf-known has_type (context_in whole inside) (types_in whole inside) (signature_in whole inside) x (constant by c w x) (handle entry.0.ty)
          (constant-typed x fine.1 (suc x) x (omega arith) (typed-inside whole inside typed.typed.0 typed.precede x (form (context_in whole inside).types (handle entry.0.ty)) fine.0) (from_root refl)) fine.0

  initials-typed : (entries : List (LocalVariable × Span)) → All (HasTypedInitial whole Accepts inside) entries →
      AllZip (IsInitial look by has_type whole inside Accepts Beginning Invariant) entries (map (option_map (constant by c w)) (initials entries))
  initials-typed [] h = tt
  initials-typed (entry ∷ entries) h =
      (initial-typed entry (All-head (HasTypedInitial whole Accepts inside) entry entries h), initials-typed entries (All-tail (HasTypedInitial whole Accepts inside) entry entries h))

  pub enters-in-state : Invariant (entered by c (initials inside.local_variables) w).state
  enters-in-state = respects.enters (map (option_map (constant by c w)) (initials inside.local_variables)) (initials-typed inside.local_variables typed.initials) w.state begins
