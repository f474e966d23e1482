-- The number of faults among findings: lemmas on `fault_count` of specs/Findings.antt.
use Rattle.std.proofs.Common.{◌≡◌, ◌∙◌, inl, inr, refl, sym, ap, ℕ, suc, ◌+◌, ◌≤◌, List, [], ◌∷◌, ◌++◌, length, map, take, arith}
use Rattle.std.proofs.Math.Seq.{take-nil}
use Rattle.std.proofs.lemmas.List.{length-append}
use Rattle.std.proofs.lemmas.List.Elements.{All-cons, All-head, All-nil, All-tail, filter-append}
use Rattle.std.specs.Prelude.{◌≢◌, ◌↔◌, All, flat_map}
use Rattle.std.specs.List.{AllZip, filter}
use Rattle.naga_bounds.specs.Modules.{typed_in}
use Rattle.naga_bounds.specs.Unfit.{unfit_accesses}
use Rattle.naga_bounds.specs.declared.invalid_access.UnfitAccess.{UnfitAccess}
use Rattle.naga_flow.specs.Bodies.{BodyPasses}
use Rattle.naga_flow.specs.declared.bodies.InvalidBody.{InvalidBody}
use Rattle.naga_flow.specs.declared.bodies.InvalidBody.TheVariants as body
use Rattle.naga_ir.specs.declared.module.Module as the_module
use Rattle.naga_typing.specs.TypedModules.{DeclarationsAreTyped, FunctionIsTyped}
use Rattle.naga_typing.proofs.DeclarationFaultsLemmas.{AreFaultsOfDeclarations-none}
use Rattle.naga_typing.proofs.FunctionFaultsLemmas.{AreFaultsOfFunction-none}
use Rattle.naga_typing.specs.declared.invalid_types.TypeFault.{TypeFault}
use Rattle.naga_typing.specs.declared.invalid_types.TypeFault.TheVariants.{Mismatch, Value}
use Rattle.naga_typing.specs.declared.invalid_types.ValueFault.{ValueFault}
use Rattle.naga_look.specs.Findings.{AreBodyFaults, AreDeclarationFaults, AreEmits, AreFindings, AreFindingsInside, AreLayoutFindings, AreTypeFaults, Inside, IsBodyFault, IsDeclarationFault, IsTypeFault, access_finding, fault_count, inside_bodies, inside_entry_point, inside_function, is_fault, notes_inside, return_finding}
use Rattle.naga_look.specs.OpenEnds.{missing_returns}
use Rattle.naga_look.specs.Report.{ModulePasses, Passes, limit_of}
use Rattle.naga_look.specs.declared.finding.Finding.{Finding}
use Rattle.naga_look.specs.declared.shown.Extent.{Extent}
use Rattle.naga_look.proofs.ReportLemmas.{FunctionsPass, PassesIn, bodies-pass, limit_of-some, pass-bodies, take-none}

fault_count-append : (first second : List Finding) → fault_count (first ++ second) ≡ fault_count first + fault_count second
fault_count-append first second =
    ap length (filter-append is_fault first second) ∙ length-append (filter is_fault first) (filter is_fault second)

-- ---- findings of one kind

-- each of these is a fault
module _ {X : Type 0} (Gives : X → List Finding → Type 0) (one : (x : X) (found : List Finding) → Gives x found → fault_count found ≡ 1) where
  fault_count-each : (xs : List X) (lists : List (List Finding)) → AllZip Gives xs lists
      → fault_count (flat_map (λ (list : List Finding). list) lists) ≡ length xs
  fault_count-each [] [] zip = refl
  fault_count-each [] (list ∷ lists) zip = absurd zip
  fault_count-each (x ∷ xs) [] zip = absurd zip
  fault_count-each (x ∷ xs) (list ∷ lists) zip =
      let parts = fault_count-append list (flat_map (λ (list : List Finding). list) lists) in
      let first = one x list zip.0 in
      let others = fault_count-each xs lists zip.1 in
      omega (arith, parts, first, others)

declaration-one : (fault : ValueFault) (found : List Finding) → IsDeclarationFault fault found → fault_count found ≡ 1
declaration-one fault found is = ap fault_count is.2

type-one : (inside : Inside) (fault : TypeFault) (found : List Finding) → IsTypeFault inside fault found → fault_count found ≡ 1
type-one inside (Value fault) found is = ap fault_count is.2
type-one inside (Mismatch mismatch what) found is = ap fault_count is.2

body-one : (inside : Inside) (error : InvalidBody) (found : List Finding) → IsBodyFault inside error found → fault_count found ≡ 1
body-one inside body.Memory found is = absurd is
body-one inside (body.Jump fault) found is = ap fault_count is
body-one inside (body.Use misuse) found is = ap fault_count is

-- notes are no faults
module _ (inside : Inside) where
  returns-none : (paths : List (List ℕ)) → fault_count (map (return_finding inside) paths) ≡ 0
  returns-none [] = refl
  returns-none (path ∷ paths) = returns-none paths

  accesses-none : (accesses : List UnfitAccess) → fault_count (map (access_finding inside) accesses) ≡ 0
  accesses-none [] = refl
  accesses-none (access ∷ accesses) = accesses-none accesses

  emits-none : (found : List Finding) → AreEmits inside found → fault_count found ≡ 0
  emits-none found are = elim are [
    | inl has ↦ ap fault_count has.1
    | inr lacks ↦ ap fault_count lacks.1
  ]

length-none : {X : Type 0} (xs : List X) → length xs ≡ 0 → xs ≡ []
length-none [] none = refl
length-none (x ∷ xs) none = absurd cc

-- ---- the findings in a function

module _ (whole : the_module.Module) where
  notes-none : (limit : ℕ) (inside : Inside) → fault_count (notes_inside whole limit inside) ≡ 0
  notes-none limit inside =
      let paths = missing_returns limit inside.whole in
      let found = take limit (unfit_accesses (typed_in whole inside.whole)) in
      let parts = fault_count-append (map (return_finding inside) paths) (map (access_finding inside) found) in
      let returns = returns-none inside paths in
      let accesses = accesses-none inside found in
      omega (arith, parts, returns, accesses)

  -- a body without a fault passes
  body-passes : (inside : Inside) (found : List Finding) → AreBodyFaults inside found → fault_count found ≡ 0 → BodyPasses inside.whole
  body-passes inside found are none = elim are [
    | inl passed ↦ passed.0
    | inr failed ↦ (let one = body-one inside failed.1.0 found failed.1.2 in let bad : ⊥ = omega (arith, one, none) in absurd bad)
  ]

  passes-body : (inside : Inside) (found : List Finding) → AreBodyFaults inside found → BodyPasses inside.whole → fault_count found ≡ 0
  passes-body inside found are passes = elim are [
    | inl passed ↦ ap fault_count passed.1
    | inr failed ↦ absurd (failed.0 passes)
  ]

  module _ (limit : ℕ) (some : 1 ≤ limit) where
    -- a function without faults of its types is typed
    types-typed : (inside : Inside) (found : List Finding) → AreTypeFaults whole limit inside found → fault_count found ≡ 0 → FunctionIsTyped whole inside.whole
    types-typed inside found are none =
        let listed : are.0 ≡ [] = length-none are.0 (sym (fault_count-each (IsTypeFault inside) (type-one inside) are.0 are.2.lists are.2.each) ∙ ap fault_count (sym are.2.are) ∙ none) in
        let all : are.1.0 ≡ [] = take-none limit are.1.0 some (sym are.1.2 ∙ listed) in
        (AreFaultsOfFunction-none whole inside.whole are.1.0 are.1.1).0 all

    typed-types : (inside : Inside) (found : List Finding) → AreTypeFaults whole limit inside found → FunctionIsTyped whole inside.whole → fault_count found ≡ 0
    typed-types inside found are typed =
        let all : are.1.0 ≡ [] = (AreFaultsOfFunction-none whole inside.whole are.1.0 are.1.1).1 typed in
        let listed : are.0 ≡ [] = are.1.2 ∙ ap (take limit) all ∙ take-nil limit in
        ap fault_count are.2.are ∙ fault_count-each (IsTypeFault inside) (type-one inside) are.0 are.2.lists are.2.each ∙ ap length listed

    -- the faults in a function are those of its body and of its types
    inside-parts : (inside : Inside) (found : List Finding) (are : AreFindingsInside whole limit inside found)
        → fault_count found ≡ fault_count are.body + fault_count are.types
    inside-parts inside found are =
        let notes = notes_inside whole limit inside in
        let first = fault_count-append are.body (are.types ++ (are.emits ++ notes)) in
        let second = fault_count-append are.types (are.emits ++ notes) in
        let third = fault_count-append are.emits notes in
        let emits = emits-none inside are.emits are.of_emits in
        let none = notes-none limit inside in
        let joined = ap fault_count are.joined in
        omega (arith, joined, first, second, third, emits, none)

    abbrev PassesInside : Inside → Type 0
    PassesInside = PassesIn whole (λ (inside : Inside). inside.whole)

    -- if there is no fault, all functions pass
    none-pass : (bodies : List Inside) (lists : List (List Finding)) → AllZip (AreFindingsInside whole limit) bodies lists
        → fault_count (flat_map (λ (list : List Finding). list) lists) ≡ 0 → All PassesInside bodies
    none-pass [] [] zip none = All-nil PassesInside
    none-pass [] (list ∷ lists) zip none = absurd zip
    none-pass (inside ∷ bodies) [] zip none = absurd zip
    none-pass (inside ∷ bodies) (list ∷ lists) zip none =
        let parts = fault_count-append list (flat_map (λ (list : List Finding). list) lists) in
        let here = inside-parts inside list zip.0 in
        let body_none : fault_count (zip.0).body ≡ 0 = omega (arith, parts, here, none) in
        let types_none : fault_count (zip.0).types ≡ 0 = omega (arith, parts, here, none) in
        let others : fault_count (flat_map (λ (list : List Finding). list) lists) ≡ 0 = omega (arith, parts, none) in
        All-cons PassesInside inside bodies
        (body-passes inside (zip.0).body (zip.0).of_body body_none, types-typed inside (zip.0).types (zip.0).of_types types_none)
        (none-pass bodies lists zip.1 others)

    -- if all functions pass, there is no fault
    pass-none : (bodies : List Inside) (lists : List (List Finding)) → AllZip (AreFindingsInside whole limit) bodies lists
        → All PassesInside bodies → fault_count (flat_map (λ (list : List Finding). list) lists) ≡ 0
    pass-none [] [] zip pass = refl
    pass-none [] (list ∷ lists) zip pass = absurd zip
    pass-none (inside ∷ bodies) [] zip pass = absurd zip
    pass-none (inside ∷ bodies) (list ∷ lists) zip pass =
        let passes = All-head PassesInside inside bodies pass in
        let parts = fault_count-append list (flat_map (λ (list : List Finding). list) lists) in
        let here = inside-parts inside list zip.0 in
        let body_none = passes-body inside (zip.0).body (zip.0).of_body passes.0 in
        let types_none = typed-types inside (zip.0).types (zip.0).of_types passes.1 in
        let others = pass-none bodies lists zip.1 (All-tail PassesInside inside bodies pass) in
        omega (arith, parts, here, body_none, types_none, others)

  -- there is no fault of the declarations exactly if they are typed
  declared-typed : (found : List Finding) → AreDeclarationFaults whole found → fault_count found ≡ 0 → DeclarationsAreTyped whole
  declared-typed found are none =
      (AreFaultsOfDeclarations-none whole are.0 are.1).0
      (length-none are.0 (sym (fault_count-each IsDeclarationFault declaration-one are.0 are.2.lists are.2.each) ∙ ap fault_count (sym are.2.are) ∙ none))

  typed-declared : (found : List Finding) → AreDeclarationFaults whole found → DeclarationsAreTyped whole → fault_count found ≡ 0
  typed-declared found are typed =
      ap fault_count are.2.are ∙ fault_count-each IsDeclarationFault declaration-one are.0 are.2.lists are.2.each
      ∙ ap length ((AreFaultsOfDeclarations-none whole are.0 are.1).1 typed)

  -- what is found on layouts is no fault
  layouts-none : (found : List Finding) → AreLayoutFindings whole found → fault_count found ≡ 0
  layouts-none found are = elim are [
    | inl fits ↦ ap fault_count fits.1
    | inr fails ↦ ap fault_count fails.3
  ]

  module _ (extent : Extent) (found : List Finding) (are : AreFindings whole (limit_of extent) found) where
    parts : fault_count found ≡ fault_count are.declared + fault_count are.inside
    parts =
        let first = fault_count-append are.declared (are.layouts ++ are.inside) in
        let second = fault_count-append are.layouts are.inside in
        let none = layouts-none are.layouts are.of_layouts in
        let joined = ap fault_count are.joined in
        omega (arith, joined, first, second, none)

    -- if there is no fault, the module passes
    none-passes : fault_count found ≡ 0 → ModulePasses whole
    none-passes none =
        let declared_none : fault_count are.declared ≡ 0 = omega (arith, parts, none) in
        let inside_none : fault_count are.inside ≡ 0 = omega (arith, parts, none) in
        let all = none-pass (limit_of extent) (limit_of-some extent) (inside_bodies whole) (are.of_functions).lists (are.of_functions).each
        (ap fault_count (sym (are.of_functions).are) ∙ inside_none) in
        let pass = bodies-pass whole (λ (inside : Inside). inside.whole) inside_function inside_entry_point (λ entry. refl) (λ entry. refl) all in
        (declared-typed are.declared are.of_declarations declared_none, pass.0, pass.1)

    -- if the module passes, there is no fault
    passes-none : ModulePasses whole → fault_count found ≡ 0
    passes-none pass =
        let all = pass-bodies whole (λ (inside : Inside). inside.whole) inside_function inside_entry_point (λ entry. refl) (λ entry. refl) (pass.1, pass.2) in
        let inside_none = ap fault_count (are.of_functions).are
        ∙ pass-none (limit_of extent) (limit_of-some extent) (inside_bodies whole) (are.of_functions).lists (are.of_functions).each all in
        let declared_none = typed-declared are.declared are.of_declarations pass.0 in
        omega (arith, parts, declared_none, inside_none)

    -- there are faults exactly if the module does not pass
    pub fault_count-passes : (number : ℕ) → number ≡ fault_count found → number ≢ 0 ↔ (¬ ModulePasses whole)
    fault_count-passes number is = (
      λ some pass. some (is ∙ passes-none pass),
      λ fails none. fails (none-passes (sym is ∙ none)),
    )
