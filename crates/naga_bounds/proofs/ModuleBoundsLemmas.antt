-- Each access of each function of a module that was restricted is in bounds, with calls.
use Rattle.std.proofs.Common.{◌≡◌, subst, sym, refl, ℕ, zero, suc, inl, inr, List, [], ◌∷◌, length, map, Option, Some}
use Rattle.std.proofs.lemmas.List.Elements.{All-from_recursion}
use Rattle.std.specs.List.{AllByRecursion, AllZip}
use Rattle.std.specs.Prelude.{All, slice_get}
use Rattle.naga_arena.specs.declared.span.Span.{Span}
use Rattle.naga_ir.specs.View.{tree_of}
use Rattle.naga_ir.specs.declared.module.EntryPoint as entry_point
use Rattle.naga_ir.specs.declared.module.Function as function
use Rattle.naga_ir.specs.declared.module.Module as the_module
use Rattle.naga_valid.specs.Functions.{FunctionIsWithin}
use Rattle.naga_valid.specs.Places.{lengths}
use Rattle.naga_valid.specs.Valid.{HandlesAreValid}
use Rattle.naga_valid.specs.declared.reference.Reference.{Reference}
use Rattle.naga_valid.proofs.HandlesAreValidLemmas.{HandlesAreValid-entry_point, HandlesAreValid-function}
use Rattle.naga_flow.specs.Bodies.{functions_of, functions_of_entries}
use Rattle.naga_flow.specs.Readings.{emitted_in}
use Rattle.naga_flow.specs.Uses.{UsesKnown}
use Rattle.naga_compact.specs.Operands.{OperandsPrecede}
use Rattle.naga_meaning.specs.Calls.{Calls, called}
use Rattle.naga_meaning.specs.Functions.{Meanings, code_of, initials}
use Rattle.naga_meaning.specs.Readings.{Reading}
use Rattle.naga_meaning.specs.Values.{entered}
use Rattle.naga_meaning.proofs.KeepsMeaningsLemmas.{entry-inside, function-inside}
use Rattle.naga_typing.specs.TypedCalls.{IsFunctionOf}
use Rattle.naga_bounds.specs.CalledOutcomes.{read}
use Rattle.naga_bounds.specs.Calls.{CallsKeepLengths}
use Rattle.naga_bounds.specs.Fits.{EachFits}
use Rattle.naga_bounds.specs.ModuleOutcomes.{EachAccessIsInBounds, IsSizeOf, represented_in}
use Rattle.naga_bounds.specs.Modules.{typed_in}
use Rattle.naga_bounds.specs.Reach.{Typed, at_use, is_fixed_access}
use Rattle.naga_bounds.specs.Respects.{HasElements, LengthsStay, RespectsIndices}
use Rattle.naga_bounds.specs.RestrictedModules.{RestrictsElement, RestrictsEntry, RestrictsIn, RestrictsModule}
use Rattle.naga_bounds.proofs.CallsLemmas.{called-elements, called-lengths-stay, called-respects}
use Rattle.naga_bounds.proofs.InBoundsLemmas.{stays-in-bounds}
use Rattle.naga_bounds.proofs.ModuleOutcomesLemmas.{found-map}
use Rattle.naga_bounds.proofs.RestrictedFunctionLemmas.{restricted-emitted, restricted-fit, restricted-precede}
use Rattle.naga_bounds.proofs.RestrictsLemmas.{typed-restricted}

-- what follows for what is read from each second element
pub AllZip-second : {A B : Type 0} (R : A → A → Type 0) (f : A → B) (P : B → Type 0) (xs ys : List A) → AllZip R xs ys →
    ((k : ℕ) (x y : A) → slice_get xs k ≡ Some x → slice_get ys k ≡ Some y → R x y → P (f y)) → AllByRecursion P (map f ys)
AllZip-second R f P [] [] all follows = tt
AllZip-second R f P [] (y ∷ ys) all follows = absurd all
AllZip-second R f P (x ∷ xs) [] all follows = absurd all
AllZip-second R f P (x ∷ xs) (y ∷ ys) all follows = (follows zero x y refl refl all.0, AllZip-second R f P xs ys all.1 (λ k. follows (suc k)))

module _ {Thing Value State : Type 0} (old new : the_module.Module) (valid : HandlesAreValid old) (restricts : RestrictsModule old new)
    (look : Reference → Thing) (by : Meanings Thing Value State) (number unsigned_number : Value → Option ℕ)
    (respects : RespectsIndices look by number unsigned_number) (has : HasElements look by number (IsSizeOf new)) (stay : LengthsStay look by number)
    (place : Thing → Option ℕ) (calls : Calls Thing Value State) (keep : CallsKeepLengths look by number calls) (turns depth : ℕ) where
  abbrev find : Thing → Option Reading
  find = read new look (represented_in new place) calls by number turns

  abbrev InBounds : function.Function → Type 0
  InBounds = EachAccessIsInBounds look by number place calls turns depth new

  -- what the check of a function with these types has found
  record Passes (inside : function.Function) (typed : Typed) : Type 0 where
    pub fits : EachFits typed
    pub uses : UsesKnown (emitted_in (is_fixed_access typed) inside.expressions) [] (tree_of inside.body)

  in-bounds : (functions : ℕ) (before after : function.Function) → FunctionIsWithin (record (lengths old) { functions = functions }) before → OperandsPrecede before.expressions →
      RestrictsIn old before after → IsFunctionOf new after → InBounds after
  in-bounds functions before after within precede is of start =
      let typed = typed_in new after in
      let passes : Passes after typed =
      subst (Passes after) (sym (typed-restricted old new restricts after))
      (record { fits = restricted-fit old before after precede is; uses = (restricted-emitted old before after precede is functions within).0 })
      in
      let inner = called look find calls by turns depth in
      stays-in-bounds look inner number unsigned_number typed (restricted-precede old before after precede is) (IsSizeOf new) (λ base handle is. (after, of, (base, is)))
      (called-respects look by number find calls turns stay keep unsigned_number respects depth)
      (called-elements look by number find calls turns stay keep (IsSizeOf new) has depth) (called-lengths-stay look by number find calls turns stay keep depth)
      (entered inner (code_of look (at_use typed) after.expressions) (initials after.local_variables) start) passes.fits (tree_of after.body) passes.uses turns

  pub functions-in-bounds : All InBounds (functions_of new)
  functions-in-bounds =
      All-from_recursion InBounds (functions_of new)
      (AllZip-second (RestrictsElement old) (λ (entry : function.Function × Span). entry.0) InBounds old.functions new.functions restricts.functions
      (λ handle before after found found' is.
      in-bounds handle before.0 after.0
      (HandlesAreValid-function old valid handle before.0 (found-map (λ (entry : function.Function × Span). entry.0) old.functions handle before found))
      (function-inside old valid handle before found).precede is.0
      (inl (handle, found-map (λ (entry : function.Function × Span). entry.0) new.functions handle after found'))))

  pub entries-in-bounds : All InBounds (functions_of_entries new.entry_points.items)
  entries-in-bounds =
      All-from_recursion InBounds (functions_of_entries new.entry_points.items)
      (AllZip-second (RestrictsEntry old) (λ (entry : entry_point.EntryPoint). entry.function) InBounds old.entry_points.items new.entry_points.items restricts.entry_points
      (λ position before after found found' is.
      in-bounds (length old.functions) before.function after.function (HandlesAreValid-entry_point old valid position before found) (entry-inside old valid position before found).precede is.1
      (inr (position, found-map (λ (entry : entry_point.EntryPoint). entry.function) new.entry_points.items position after found'))))
