-- The faults of declarations: lemmas on specs/DeclarationFaults.antt.
use Rattle.std.proofs.Common.{◌≡◌, ◌∙◌, inl, inr, refl, sym, ap, subst, ℕ, zero, suc, ◌+◌, List, [], ◌∷◌, ◌++◌, length, map, Option, None, Some, append-nil, arith}
use Rattle.std.proofs.lemmas.List.Elements.{All-append, All-cons, All-head, All-nil, All-tail}
use Rattle.std.specs.Prelude.{◌↔◌, All, Err, IfOk, Ok, OnOk, Result, flat_map, slice_get}
use Rattle.std.specs.List.{AllZip, enumerate_from}
use Rattle.naga_arena.specs.Arena.{values}
use Rattle.naga_ir.specs.Module.{IsEmptyFunction}
use Rattle.naga_ir.specs.declared.module.Module as the_module
use Rattle.naga_flow.proofs.AllLemmas.{All-both}
use Rattle.naga_typifier.specs.Context.{Context}
use Rattle.naga_typifier.specs.Typing.{typing}
use Rattle.naga_typifier.specs.declared.resolution.TypeResolution.{TypeResolution}
use Rattle.naga_typing.specs.DeclarationFaults.{AddsInitialFaults, AreFaultsOf, AreFaultsOfDeclarations, AreInitialFaults, Declaration, declarations, declarations_of, numbered}
use Rattle.naga_typing.specs.Faults.{ExpressionsAreTyped, FitsBy, IsExpressionFault, IsFound}
use Rattle.naga_typing.specs.Initials.{constants_of, declaration_at, overrides_of, variables_of}
use Rattle.naga_typing.specs.Joined.{Adds, AreJoined}
use Rattle.naga_typing.specs.Requirements.{Signature}
use Rattle.naga_typing.specs.TypedFunctions.{context_of, signature_of}
use Rattle.naga_typing.specs.TypedModules.{DeclarationsAreTyped, global_context, global_signature, global_types}
use Rattle.naga_typing.specs.declared.initial.DeclarationKind.{DeclarationKind}
use Rattle.naga_typing.specs.declared.initial.DeclarationKind.TheVariants as kind
use Rattle.naga_typing.specs.declared.invalid_types.Unmet.{Unmet}
use Rattle.naga_typing.specs.declared.invalid_types.ValueFault.{ValueFault}
use Rattle.naga_typing.specs.declared.invalid_types.ValueFault.TheVariants as fault
use Rattle.naga_typing.specs.declared.requirement.Requirement.{Requirement}
use Rattle.naga_typing.specs.declared.typed_function.TypedFunction.{TypedFunction}
use Rattle.naga_typing.proofs.IsFaultLemmas.{IsExpressionFault-refused}
use Rattle.naga_typing.proofs.JoinedLemmas.{AddsJoined-joined}
use Rattle.naga_typing.proofs.TypedModulesLemmas.{expression-global, global, typed-global}

-- ---- declarations with their positions

module _ (of : DeclarationKind) where
  numbered-length : (k : ℕ) (slots : List (Option Requirement)) → length (map (numbered of) (enumerate_from k slots)) ≡ length slots
  numbered-length k [] = refl
  numbered-length k (slot ∷ slots) = ap suc (numbered-length (k + 1) slots)

  numbered-at : (k i : ℕ) (slots : List (Option Requirement)) (slot : Option Requirement) → slice_get slots i ≡ Some slot
      → slice_get (map (numbered of) (enumerate_from k slots)) i ≡ Some (numbered of (k + i, slot))
  numbered-at k i [] slot at = cc
  numbered-at k zero (other ∷ slots) slot at =
      let here : other ≡ slot = cc in
      let same : k ≡ k + 0 = omega arith in
      λ j. Some (numbered of (same j, here j))
  numbered-at k (suc i) (other ∷ slots) slot at =
      let moved : (k + 1) + i ≡ k + suc i = omega arith in
      numbered-at (k + 1) i slots slot at ∙ ap (λ n. Some (numbered of (n, slot))) moved

  pub declarations-length : (slots : List (Option Requirement)) → length (declarations of slots) ≡ length slots
  declarations-length slots = numbered-length 0 slots

  pub declarations-at : (slots : List (Option Requirement)) (i : ℕ) (slot : Option Requirement) → slice_get slots i ≡ Some slot
      → slice_get (declarations of slots) i ≡ Some (declaration_at of i, slot)
  declarations-at slots i slot at = numbered-at 0 i slots slot at ∙ ap (λ n. Some (numbered of (n, slot))) (omega arith)

-- ---- the faults of initial values

module _ (ctx : Context) (signature : Signature) (types : List TypeResolution) where
  abbrev Gives : Declaration → List ValueFault → Type 0
  Gives = AreFaultsOf ctx signature types

  abbrev Fitting : Option Requirement → Type 0
  Fitting = FitsBy ctx signature types

  abbrev HasFitting : Declaration → Type 0
  HasFitting declaration = Fitting declaration.1

  -- an initial value that fits has no fault
  pub Adds-fits : (declaration : Declaration) (old : List ValueFault) → Fitting declaration.1 → Adds Gives declaration old old
  Adds-fits declaration old fits = ([], inl (fits, refl), sym (append-nil old))

  -- another one has its fault
  pub Adds-pushed : {T E : Type 0} (r : Result T E) (declaration : Declaration) (unmet : Unmet) (old new : List ValueFault)
      → declaration.1 ≡ Some unmet.requirement → ¬ Fitting declaration.1 → IsFound ctx signature types unmet
      → OnOk r (new ≡ old ++ fault.Initial declaration.0 unmet ∷ []) → OnOk r (Adds Gives declaration old new)
  Adds-pushed (Err error) declaration unmet old new required fails found is = tt
  Adds-pushed (Ok value) declaration unmet old new required fails found is =
      (fault.Initial declaration.0 unmet ∷ [], inr (unmet, required, fails, found, refl), is)

  -- if there are no faults, all initial values fit
  none-fit : (all : List Declaration) (lists : List (List ValueFault)) → AllZip Gives all lists
      → flat_map (λ (list : List ValueFault). list) lists ≡ [] → All HasFitting all
  none-fit [] [] zip none = All-nil HasFitting
  none-fit [] (list ∷ lists) zip none = absurd zip
  none-fit (declaration ∷ all) [] zip none = absurd zip
  none-fit (declaration ∷ all) (list ∷ lists) zip none =
      let rest = flat_map (λ (list : List ValueFault). list) lists in
      elim zip.0 [
        | inl fits ↦ All-cons HasFitting declaration all fits.0 (none-fit all lists zip.1 (subst (λ l. l ++ rest ≡ []) fits.1 none))
        | inr fails ↦ (let some : fault.Initial declaration.0 fails.0 ∷ rest ≡ [] = subst (λ l. l ++ rest ≡ []) fails.4 none in cc)
      ]

  -- if all initial values fit, there are no faults
  fit-none : (all : List Declaration) (lists : List (List ValueFault)) → AllZip Gives all lists
      → All HasFitting all → flat_map (λ (list : List ValueFault). list) lists ≡ []
  fit-none [] [] zip fit = refl
  fit-none [] (list ∷ lists) zip fit = absurd zip
  fit-none (declaration ∷ all) [] zip fit = absurd zip
  fit-none (declaration ∷ all) (list ∷ lists) zip fit =
      elim zip.0 [
        | inl fits ↦
            ap (λ l. l ++ flat_map (λ (list : List ValueFault). list) lists) fits.1
            ∙ fit-none all lists zip.1 (All-tail HasFitting declaration all fit)
        | inr fails ↦ absurd (fails.2 (All-head HasFitting declaration all fit))
      ]

  -- what declarations require, with and without their positions
  numbered-fit : (of : DeclarationKind) (k : ℕ) (slots : List (Option Requirement)) → All Fitting slots → All HasFitting (map (numbered of) (enumerate_from k slots))
  numbered-fit of k [] fit = All-nil HasFitting
  numbered-fit of k (slot ∷ slots) fit =
      All-cons HasFitting (numbered of (k, slot)) (map (numbered of) (enumerate_from (k + 1) slots)) (All-head Fitting slot slots fit)
      (numbered-fit of (k + 1) slots (All-tail Fitting slot slots fit))

  fit-numbered : (of : DeclarationKind) (k : ℕ) (slots : List (Option Requirement)) → All HasFitting (map (numbered of) (enumerate_from k slots)) → All Fitting slots
  fit-numbered of k [] fit = All-nil Fitting
  fit-numbered of k (slot ∷ slots) fit =
      All-cons Fitting slot slots (All-head HasFitting (numbered of (k, slot)) (map (numbered of) (enumerate_from (k + 1) slots)) fit)
      (fit-numbered of (k + 1) slots (All-tail HasFitting (numbered of (k, slot)) (map (numbered of) (enumerate_from (k + 1) slots)) fit))

  -- declarations of three kinds
  module _ (a b c : DeclarationKind) (first second third : List (Option Requirement)) (faults : List ValueFault)
      (are : AreJoined Gives (declarations a first ++ (declarations b second ++ declarations c third)) faults) where
    pub AreJoined-fit : faults ≡ [] → All Fitting first × All Fitting second × All Fitting third
    AreJoined-fit none =
        let all = none-fit (declarations a first ++ (declarations b second ++ declarations c third)) are.lists are.each (sym are.are ∙ none) in
        let parts = All-both HasFitting (declarations a first) (declarations b second ++ declarations c third) all in
        let others = All-both HasFitting (declarations b second) (declarations c third) parts.1 in (
          fit-numbered a 0 first parts.0,
          fit-numbered b 0 second others.0,
          fit-numbered c 0 third others.1,
        )

    pub AreJoined-none : All Fitting first → All Fitting second → All Fitting third → faults ≡ []
    AreJoined-none fit_a fit_b fit_c =
        let others = All-append HasFitting (declarations b second) (declarations c third) (numbered-fit b 0 second fit_b) (numbered-fit c 0 third fit_c) in
        let all = All-append HasFitting (declarations a first) (declarations b second ++ declarations c third) (numbered-fit a 0 first fit_a) others in
        are.are ∙ fit-none (declarations a first ++ (declarations b second ++ declarations c third)) are.lists are.each all

-- ---- the stages of the search for faults

-- what is said of a list that is returned
pub IfOk-implies : {T E : Type 0} (P Q : T → Type 0) (result : Result T E) → ((value : T) → P value → Q value) → IfOk result P → IfOk result Q
IfOk-implies P Q (Ok value) implies holds = implies value holds
IfOk-implies P Q (Err error) implies holds = tt

module _ (typed : TypedFunction) where
  abbrev whole : the_module.Module
  whole = typed.«module».now

  abbrev Adding : List Declaration → (old new : List ValueFault) → Type 0
  Adding = AddsInitialFaults (context_of typed) (signature_of typed) typed.known.now

  -- the faults of the declarations of each kind
  pub AreInitialFaults-stages : (old first second third : List ValueFault) → old ≡ []
      → Adding (declarations kind.Constant (constants_of whole)) old first
      → Adding (declarations kind.Override (overrides_of whole)) first second
      → Adding (declarations kind.GlobalVariable (variables_of whole)) second third
      → AreInitialFaults (context_of typed) (signature_of typed) typed.known.now (declarations_of whole) third
  AreInitialFaults-stages old first second third none constants overrides variables =
      let Giving : Declaration → List ValueFault → Type 0 = AreFaultsOf (context_of typed) (signature_of typed) typed.known.now in
      let a = declarations kind.Constant (constants_of whole) in
      let b = declarations kind.Override (overrides_of whole) in
      let c = declarations kind.GlobalVariable (variables_of whole) in
      let all =
      AddsJoined-joined Giving a (b ++ c) old first third constants (AddsJoined-joined Giving b c first second third overrides variables)
      in
      subst (AreJoined Giving (a ++ (b ++ c))) (sym (all.2 ∙ ap (λ t. t ++ all.0) none)) all.1

  module _ (empty : IsEmptyFunction typed.function.now) where
    -- the first fault of global expressions
    pub AreFaultsOfDeclarations-expression : (found : ValueFault) (faults : List ValueFault)
        → IsExpressionFault (context_of typed) (signature_of typed) (values whole.global_expressions) found
        → faults ≡ found ∷ [] → AreFaultsOfDeclarations whole faults
    AreFaultsOfDeclarations-expression found faults is same = inl (found, expression-global whole typed.function.now empty found is, same)

    -- the faults of initial values
    pub AreFaultsOfDeclarations-initial : typing (context_of typed) [] (values whole.global_expressions) ≡ (typed.known.now, None)
        → ExpressionsAreTyped (context_of typed) (signature_of typed) (values whole.global_expressions) → (faults : List ValueFault)
        → AreInitialFaults (context_of typed) (signature_of typed) typed.known.now (declarations_of whole) faults
        → AreFaultsOfDeclarations whole faults
    AreFaultsOfDeclarations-initial is are faults initial = inr (
      typed-global whole typed.function.now empty are,
      global whole typed.function.now empty typed.known.now is are (λ by of known. AreInitialFaults by of known (declarations_of whole) faults) initial,
    )

-- ---- whether there are faults

module _ (whole : the_module.Module) (faults : List ValueFault) where
  no-faults-typed : AreFaultsOfDeclarations whole faults → faults ≡ [] → DeclarationsAreTyped whole
  no-faults-typed (inl (found, is, same)) none = (let some : found ∷ [] ≡ [] = sym same ∙ none in cc)
  no-faults-typed (inr (typed, are)) none =
      let fit =
      AreJoined-fit (global_context whole) (global_signature whole) (global_types whole) kind.Constant kind.Override kind.GlobalVariable (constants_of whole) (overrides_of whole) (variables_of whole) faults are none in
      record { expressions = typed; constants = fit.0; overrides = fit.1; variables = fit.2 }

  typed-no-faults : AreFaultsOfDeclarations whole faults → DeclarationsAreTyped whole → faults ≡ []
  typed-no-faults (inl (found, is, same)) typed =
      absurd (IsExpressionFault-refused (global_context whole) (global_signature whole) (values whole.global_expressions) found is typed.expressions)
  typed-no-faults (inr (expressions, are)) typed =
      AreJoined-none (global_context whole) (global_signature whole) (global_types whole) kind.Constant kind.Override kind.GlobalVariable (constants_of whole) (overrides_of whole) (variables_of whole) faults are
      typed.constants typed.overrides typed.variables

  pub AreFaultsOfDeclarations-none : AreFaultsOfDeclarations whole faults → (faults ≡ []) ↔ DeclarationsAreTyped whole
  AreFaultsOfDeclarations-none are = (no-faults-typed are, typed-no-faults are)
