-- The premises of the laws hold of the example: its handles are valid, its initial values access nothing, and its second
-- module is the first with its accesses clamped.
use Rattle.std.proofs.Common.{◌≡◌, ◌∙◌, ◌<◌, ◌≤◌, ap, arith, refl, subst, sym, inl, inr, ℕ, zero, suc, true, List, [], ◌∷◌, length, map, Some, None, Ok}
use Rattle.std.proofs.lemmas.Bool.Decides.{nat_tests}
use Rattle.std.proofs.lemmas.List.Elements.{All-from_recursion, All-nil}
use Rattle.std.proofs.lemmas.Option.{none-some}
use Rattle.std.specs.List.{AllByRecursion, Contains}
use Rattle.std.specs.Prelude.{All, IfSome, nat_le, nat_lt, slice_get}
use Rattle.std.specs.declared.alloc.Global.{Global}
use Rattle.std.specs.declared.string.String.{String}
use Rattle.naga_arena.specs.declared.span.Span.{Span}
use Rattle.naga_kinds.specs.declared.scalar.PredeclaredType.{PredeclaredType}
use Rattle.naga_ir.specs.declared.expression.Expression.{Expression}
use Rattle.naga_ir.specs.declared.module.Function as function
use Rattle.naga_ir.specs.declared.module.Module as the_module
use Rattle.naga_ir.specs.declared.statement.Statement.{Call, Emit, Store}
use Rattle.naga_valid.specs.Limits.{AreWithin, IsWithin}
use Rattle.naga_valid.specs.Places.{lengths, limits_at, limits_in_part, limits_inside, references_in, references_in_part}
use Rattle.naga_valid.specs.Valid.{HandlesAreValid, IsAfterInit, IsConstant, SizePrecedes}
use Rattle.naga_valid.specs.declared.place.Part.{Part}
use Rattle.naga_valid.specs.declared.place.Part.TheVariants as part
use Rattle.naga_valid.specs.declared.place.Place.{Place}
use Rattle.naga_valid.specs.declared.place.Place.TheVariants as place
use Rattle.naga_valid.specs.Reference.{operands}
use Rattle.naga_valid.specs.declared.reference.Reference.{Reference}
use Rattle.naga_valid.specs.declared.reference.Reference.TheVariants as reference
use Rattle.naga_flow.specs.Bodies.{functions_of, functions_of_entries}
use Rattle.naga_flow.specs.Uses.{AreKnown, Expressions, IsKnown, MayUse, MayUseEach, PlainUsesKnown}
use Rattle.naga_flow.specs.declared.evaluation.Evaluation.TheVariants as way
use Rattle.naga_compact.specs.Functions.{rename_keys}
use Rattle.naga_compact.specs.Operands.{IsReached}
use Rattle.naga_compact.specs.Reachability.{by_step, from_root}
use Rattle.naga_bounds.specs.Changes.{change_at}
use Rattle.naga_bounds.specs.Examples.{Makings, MainStaysInBounds, clamped_pick, first_called, main, main_computes, new_module, old_module, pick, vec_of}
use Rattle.naga_bounds.specs.Model.{Memory, Value, nothing_known, number, plain_calls, remembering, unsigned_number}
use Rattle.naga_bounds.specs.ModuleOutcomes.{AllInitialValuesFit, IsSizeOf}
use Rattle.naga_bounds.specs.Modules.{AccessesFitIn, typed_in}
use Rattle.naga_bounds.specs.Respects.{HasElements, HaveShortLengths}
use Rattle.naga_bounds.specs.Restricted.{IsClamped, new_of}
use Rattle.naga_bounds.specs.RestrictedLaws.{InitialValuesFit}
use Rattle.naga_bounds.specs.RestrictedModules.{IsEmitted, RestrictsIn, RestrictsModule, counts_in, emitted_of}
use Rattle.naga_bounds.specs.declared.cause.Cause.TheVariants.{Index}
use Rattle.naga_bounds.specs.declared.change.Change.{Change}
use Rattle.naga_bounds.specs.declared.change.Change.TheVariants.{Stays, Clamped}
use Rattle.naga_bounds.specs.declared.change.ClampedIndex.TheVariants.{Unsigned}
use Rattle.naga_bounds.specs.declared.length.Length.TheVariants.{Counted}
use Rattle.naga_bounds.proofs.ModelLemmas.{clamps, respects}
use Rattle.naga_bounds.proofs.ModelLemmas as model
use Rattle.naga_bounds.proofs.ModuleOutcomesLemmas.{entries-compute}
use Rattle.naga_bounds.proofs.OutcomesLemmas.{outcomes-of-clamped}

-- ---- numbers and lists

less : (m n : ℕ) → nat_lt m n ≡ true → m < n
less m n test = grind (arith, nat_tests, test)

up-to : (m n : ℕ) → nat_le m n ≡ true → m ≤ n
up-to m n test = grind (arith, nat_tests, test)

first-contained : (x : ℕ) (rest : List ℕ) → Contains (x ∷ rest) x
first-contained x rest = (0, omega arith, refl)

none-contained : (x : ℕ) → ¬ Contains [] x
none-contained x inside = absurd (omega (arith, inside.1))

other-contained : (x y : ℕ) → ¬ (x ≡ y) → Contains (x ∷ []) y → ⊥
other-contained x y differs (zero, within, is) = absurd (differs is)
other-contained x y differs (suc k, within, is) = absurd (omega arith)

-- ---- handles

module _ (of : Makings) where
  abbrev old : the_module.Module
  old = old_module of

  abbrev new : the_module.Module
  new = new_module of

  -- no expression has a name, and no type is special
  names-within : (P : Reference → Type 0) → All P (references_in_part (of.inside) part.NamedExpressions)
  names-within P = subst (λ (entries : List (ℕ × String Global)). All P (operands (map (λ entry. entry.0) entries))) (sym of.inside_is_empty.named_expressions) (All-nil P)

  special-within : (P : Reference → Type 0) → All P (references_in old place.SpecialTypes)
  special-within P =
      subst (λ (entries : List (PredeclaredType × ℕ)). All P (map reference.«Type» (map (λ entry. entry.1) entries)))
      (sym of.whole_is_empty.special_types.predeclared_types) (All-nil P)

  -- a handle is within the limits of a part of a function
  abbrev WithinPart : (functions : ℕ) → function.Function → Part → Reference → Type 0
  WithinPart functions inside at = IsWithin (limits_in_part (limits_inside (record (lengths old) { functions = functions }) inside) at)

  abbrev PartIsWithin : (functions : ℕ) → function.Function → Part → Type 0
  PartIsWithin functions inside at = All (WithinPart functions inside at) (references_in_part inside at)

  part-within : (functions : ℕ) (inside : function.Function) (at : Part) → AllByRecursion (WithinPart functions inside at) (references_in_part inside at) → PartIsWithin functions inside at
  part-within functions inside at each = All-from_recursion (WithinPart functions inside at) (references_in_part inside at) each

  pick-within : (at : Part) → PartIsWithin 0 (pick of) at
  pick-within part.Arguments = part-within 0 (pick of) part.Arguments (less 0 2 refl, tt)
  pick-within part.Result = part-within 0 (pick of) part.Result (less 0 2 refl, tt)
  pick-within (part.LocalVariable handle) = All-nil (WithinPart 0 (pick of) (part.LocalVariable handle))
  pick-within (part.Expression zero) = part-within 0 (pick of) (part.Expression 0) (less 0 1 refl, tt)
  pick-within (part.Expression (suc zero)) = part-within 0 (pick of) (part.Expression 1) tt
  pick-within (part.Expression (suc (suc zero))) = part-within 0 (pick of) (part.Expression 2) (less 0 2 refl, (less 1 2 refl, tt))
  pick-within (part.Expression (suc (suc (suc zero)))) = part-within 0 (pick of) (part.Expression 3) (less 2 3 refl, tt)
  pick-within (part.Expression (suc (suc (suc (suc handle))))) = part-within 0 (pick of) (part.Expression (suc (suc (suc (suc handle))))) tt
  pick-within part.NamedExpressions = names-within (WithinPart 0 (pick of) part.NamedExpressions)
  pick-within part.Body = part-within 0 (pick of) part.Body ((up-to 2 4 refl, up-to 4 4 refl), (less 3 4 refl, tt))
  pick-within part.DiagnosticFilterLeaf = part-within 0 (pick of) part.DiagnosticFilterLeaf tt

  main-within : (at : Part) → PartIsWithin 1 (main of) at
  main-within part.Arguments = part-within 1 (main of) part.Arguments tt
  main-within part.Result = part-within 1 (main of) part.Result (less 0 2 refl, tt)
  main-within (part.LocalVariable zero) = part-within 1 (main of) (part.LocalVariable 0) (less 0 2 refl, tt)
  main-within (part.LocalVariable (suc handle)) = part-within 1 (main of) (part.LocalVariable (suc handle)) tt
  main-within (part.Expression zero) = part-within 1 (main of) (part.Expression 0) (less 0 1 refl, tt)
  main-within (part.Expression (suc zero)) = part-within 1 (main of) (part.Expression 1) tt
  main-within (part.Expression (suc (suc zero))) = part-within 1 (main of) (part.Expression 2) (less 0 2 refl, tt)
  main-within (part.Expression (suc (suc (suc zero)))) = part-within 1 (main of) (part.Expression 3) (less 0 1 refl, tt)
  main-within (part.Expression (suc (suc (suc (suc handle))))) = part-within 1 (main of) (part.Expression (suc (suc (suc (suc handle))))) tt
  main-within part.NamedExpressions = names-within (WithinPart 1 (main of) part.NamedExpressions)
  main-within part.Body =
      part-within 1 (main of) part.Body (less 0 4 refl, (less 1 4 refl, ((up-to 2 3 refl, up-to 3 4 refl), (less 0 1 refl, (less 2 4 refl, (less 3 4 refl, (less 3 4 refl, tt)))))))
  main-within part.DiagnosticFilterLeaf = part-within 1 (main of) part.DiagnosticFilterLeaf tt

  -- the handles at a place are within its limits
  abbrev WithinPlace : Place → Reference → Type 0
  WithinPlace at = IsWithin (limits_at old at)

  place-within : (at : Place) → AllByRecursion (WithinPlace at) (references_in old at) → AreWithin (limits_at old at) (references_in old at)
  place-within at each = All-from_recursion (WithinPlace at) (references_in old at) each

  references-within : (at : Place) → AreWithin (limits_at old at) (references_in old at)
  references-within (place.«Type» zero) = place-within (place.«Type» 0) tt
  references-within (place.«Type» (suc zero)) = place-within (place.«Type» 1) (less 0 1 refl, tt)
  references-within (place.«Type» (suc (suc handle))) = place-within (place.«Type» (suc (suc handle))) tt
  references-within place.SpecialTypes = special-within (WithinPlace place.SpecialTypes)
  references-within (place.Constant handle) = place-within (place.Constant handle) tt
  references-within (place.Override handle) = place-within (place.Override handle) tt
  references-within (place.GlobalVariable zero) = place-within (place.GlobalVariable 0) (less 1 2 refl, tt)
  references-within (place.GlobalVariable (suc handle)) = place-within (place.GlobalVariable (suc handle)) tt
  references-within (place.GlobalExpression handle) = place-within (place.GlobalExpression handle) tt
  references-within (place.Function zero at) = pick-within at
  references-within (place.Function (suc handle) at) = place-within (place.Function (suc handle) at) tt
  references-within (place.EntryPoint zero) = place-within (place.EntryPoint 0) tt
  references-within (place.EntryPoint (suc position)) = place-within (place.EntryPoint (suc position)) tt
  references-within (place.EntryPointFunction zero at) = main-within at
  references-within (place.EntryPointFunction (suc position) at) = place-within (place.EntryPointFunction (suc position) at) tt
  references-within (place.DiagnosticFilter handle) = place-within (place.DiagnosticFilter handle) tt
  references-within place.DiagnosticFilterLeaf = place-within place.DiagnosticFilterLeaf tt
  references-within place.TypeComments = place-within place.TypeComments tt
  references-within place.MemberComments = place-within place.MemberComments tt
  references-within place.FunctionComments = place-within place.FunctionComments tt
  references-within place.ConstantComments = place-within place.ConstantComments tt
  references-within place.GlobalVariableComments = place-within place.GlobalVariableComments tt

  sizes-precede : (ty : ℕ) → SizePrecedes old ty
  sizes-precede zero = record { type = λ other found. absurd (none-some other found); init = λ init expression found before. absurd (none-some init found) }
  sizes-precede (suc zero) = record { type = λ other found. absurd (none-some other found); init = λ init expression found before. absurd (none-some init found) }
  sizes-precede (suc (suc ty)) = record { type = λ other found. absurd (none-some other found); init = λ init expression found before. absurd (none-some init found) }

  pub old-valid : HandlesAreValid old
  old-valid = record {
    references = references-within;
    expressions = λ expression. All-nil (λ to. IsConstant to × IsAfterInit old expression to);
    sizes = sizes-precede;
  }

  -- ---- uses

  module _ (expressions : Expressions) (known : List ℕ) where
    uses : (handles : List ℕ) → AllByRecursion (MayUse expressions known) handles → MayUseEach expressions known handles
    uses handles may = All-from_recursion (MayUse expressions known) handles may

    ready : AreKnown expressions known []
    ready = All-nil (IsKnown expressions known)

    stored : (handle : ℕ) → Contains known handle → AreKnown expressions known (handle ∷ [])
    stored handle evaluated = All-from_recursion (IsKnown expressions known) (handle ∷ []) (inr evaluated, tt)

  pick-emitted : IsEmitted old (pick of)
  pick-emitted =
      let expressions = emitted_of old (pick of) in
      let first = ready expressions [] in
      let access = stored expressions (2 ∷ []) 2 (first-contained 2 []) in
      let emit : PlainUsesKnown expressions [] (Emit (2, 4)) = record {
        used = uses expressions [] [] tt;
        operands = (uses expressions [] (0 ∷ 1 ∷ []) (first, (first, tt)), (uses expressions (2 ∷ []) (2 ∷ []) (access, tt), tt));
        evaluated = All-from_recursion (λ handle. expressions.evaluation handle ≡ Some way.Emit) (2 ∷ 3 ∷ []) (refl, (refl, tt));
      }
      in
      let returned = uses expressions (2 ∷ 3 ∷ []) (3 ∷ []) (stored expressions (2 ∷ 3 ∷ []) 3 (1, less 1 2 refl, refl), tt) in
      (((tt, emit), returned), ((tt, (none-contained 2, (other-contained 2 3 (λ same. omega (arith, same)), tt))), tt))

  main-emitted : IsEmitted old (main of)
  main-emitted =
      let expressions = emitted_of old (main of) in
      let first = ready expressions [] in
      let store : PlainUsesKnown expressions [] (Store 0 1) = record {
        used = uses expressions [] (0 ∷ 1 ∷ []) (first, (first, tt));
        operands = tt;
        evaluated = All-nil (λ handle. expressions.evaluation handle ≡ Some way.Emit);
      }
      in
      let emit : PlainUsesKnown expressions [] (Emit (2, 3)) = record {
        used = uses expressions [] [] tt;
        operands = (uses expressions [] (0 ∷ []) (first, tt), tt);
        evaluated = All-from_recursion (λ handle. expressions.evaluation handle ≡ Some way.Emit) (2 ∷ []) (refl, tt);
      }
      in
      let call : PlainUsesKnown expressions (2 ∷ []) (Call 0 (vec_of of (of.arguments) (2 ∷ [])) (Some 3)) = record {
        used = uses expressions (2 ∷ []) (2 ∷ []) (stored expressions (2 ∷ []) 2 (first-contained 2 []), tt);
        operands = tt;
        evaluated = All-from_recursion (λ handle. expressions.evaluation handle ≡ Some (way.Call 0)) (3 ∷ []) (refl, tt);
      }
      in
      let returned = uses expressions (2 ∷ 3 ∷ []) (3 ∷ []) (stored expressions (2 ∷ 3 ∷ []) 3 (1, less 1 2 refl, refl), tt) in
      (((((tt, store), emit), call), returned), ((((tt, tt), (none-contained 2, tt)), (other-contained 2 3 (λ same. omega (arith, same)), tt)), tt))

  -- ---- clamps

  abbrev pick-changes : List Change
  pick-changes = Stays ∷ Stays ∷ Clamped (record { length = Counted; base = 0; index = Unsigned 1 }) ∷ Stays ∷ []

  each-change : (handle : ℕ) → IfSome (slice_get pick-changes handle) (λ change. change_at (counts_in old) (typed_in old (pick of)) handle ≡ Ok change)
  each-change zero = refl
  each-change (suc zero) = refl
  each-change (suc (suc zero)) = refl
  each-change (suc (suc (suc zero))) = refl
  each-change (suc (suc (suc (suc handle)))) = tt

  pick-clamped : IsClamped (counts_in old) (typed_in old (pick of)) (pick of) (clamped_pick of)
  pick-clamped = record {
    some_misfits = λ fits. let clash : Some (Index 1) ≡ None = fits 2 in cc;
    changes = pick-changes;
    planned = record { all = refl; each = each-change };
    changed_to = record {
      expressions = refl;
      named_expressions =
          of.inside_is_empty.named_expressions
          ∙ sym (ap (rename_keys (λ handle. nat_lt handle (length (pick of).expressions)) (new_of pick-changes)) of.inside_is_empty.named_expressions);
      local_variables = refl;
      body = refl;
      name = refl;
      arguments = refl;
      result = refl;
      diagnostic_filter_leaf = refl;
    };
  }

  pub main-fits : AccessesFitIn old (main of)
  main-fits zero = refl
  main-fits (suc zero) = refl
  main-fits (suc (suc zero)) = refl
  main-fits (suc (suc (suc zero))) = refl
  main-fits (suc (suc (suc (suc handle)))) = refl

  pick-restricted : RestrictsIn old (pick of) (clamped_pick of)
  pick-restricted = record { typed = refl; emitted = pick-emitted; restricts = inr pick-clamped }

  main-restricted : RestrictsIn old (main of) (main of)
  main-restricted = record { typed = refl; emitted = main-emitted; restricts = inl (main-fits, refl) }

  pub restricted : RestrictsModule old new
  restricted = record {
    outside = refl;
    functions = ((pick-restricted, refl), tt);
    entry_points = ((refl, main-restricted), tt);
  }

  -- ---- initial values

  never-reached : (arena : List (Expression × Span)) (handle : ℕ) → IsReached arena (Contains []) handle → ⊥
  never-reached arena handle (from_root root) = none-contained handle root
  never-reached arena handle (by_step {node = from} reached leads) = never-reached arena from reached

  pub initial-fit : AllInitialValuesFit old
  initial-fit = (
    All-from_recursion (InitialValuesFit old) (functions_of old) ((λ handle reached. absurd (never-reached (pick of).expressions handle reached)), tt),
    All-from_recursion (InitialValuesFit old) (functions_of_entries old.entry_points.items) ((λ handle reached. main-fits handle), tt),
  )

  -- ---- outcomes

  elements : HasElements nothing_known remembering number (IsSizeOf old)
  elements = record { counted = model.elements.counted; overridden = λ handle memory size. model.elements.overridden handle memory tt }

  short : HaveShortLengths nothing_known remembering number (IsSizeOf old)
  short = record { counted = model.short.counted; overridden = λ handle n memory size. model.short.overridden handle n memory tt }

  pub main-same : (depth : ℕ) (start : Memory × Value) → MainStaysInBounds of old depth start → main_computes of new depth start ≡ main_computes of old depth start
  main-same depth start stays =
      (entries-compute outcomes-of-clamped old new old-valid restricted initial-fit nothing_known remembering number unsigned_number respects clamps elements short first_called plain_calls 1 depth).0
      start stays
