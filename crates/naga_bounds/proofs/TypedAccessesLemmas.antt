-- Each part that a checked function accesses is there in the value of its base.
use Rattle.std.proofs.Common.{◌≡◌, ◌∙◌, ◌<◌, ap, sym, subst, refl, ℕ, Bool, true, false, List, [], ◌∷◌, ◌++◌, Option, Some, None, arith}
use Rattle.std.proofs.lemmas.Bool.Decides.{nat_tests}
use Rattle.std.specs.List.{AllByRecursion, Contains}
use Rattle.std.specs.Prelude.{IfSome, nat_lt, slice_get, take}
use Rattle.naga_kinds.specs.Scalar.{components_of}
use Rattle.naga_ir.specs.View.{tree_of}
use Rattle.naga_ir.specs.declared.expression.Expression.{Expression}
use Rattle.naga_ir.specs.declared.expression.Expression.TheVariants as expr
use Rattle.naga_ir.specs.declared.module.Function as function
use Rattle.naga_ir.specs.declared.module.Module as the_module
use Rattle.naga_ir.specs.declared.statement.Statement.{Statement}
use Rattle.naga_valid.specs.Valid.{HandlesAreValid}
use Rattle.naga_valid.specs.declared.reference.Reference.{Reference}
use Rattle.naga_flow.specs.Events.{Event, met}
use Rattle.naga_flow.specs.Results.{emitted_by}
use Rattle.naga_flow.specs.Uses.{operands_found}
use Rattle.naga_meaning.specs.Adequacy.{IsABeginning, after}
use Rattle.naga_meaning.specs.Functions.{Meanings}
use Rattle.naga_meaning.specs.Machine.{does}
use Rattle.naga_meaning.specs.Renaming.{Each}
use Rattle.naga_meaning.specs.Values.{Code, Interpretation, World, emit, emitted_value, put, value}
use Rattle.naga_typifier.specs.Context.{Context, context_in, contents_of, inner_at}
use Rattle.naga_typifier.specs.Rows.{◌>>=◌}
use Rattle.naga_typifier.specs.declared.resolution.TypeResolution.{TypeResolution}
use Rattle.naga_typing.specs.CheckedValues.{MeetsRequirements}
use Rattle.naga_typing.specs.Forms.{Form}
use Rattle.naga_typing.specs.TypedCalls.{IsFunctionOf}
use Rattle.naga_typing.specs.TypedExecutions.{ExecutionHasTypes}
use Rattle.naga_typing.specs.TypedModules.{ModuleIsTyped}
use Rattle.naga_typing.specs.TypedValues.{HasTypeOf, RespectsTypesIn, types_in}
use Rattle.naga_typing.proofs.CheckedValuesLemmas.{function-checked, function-precedes}
use Rattle.naga_typing.proofs.ExecutionHasTypesLemmas.{execution-types}
use Rattle.naga_bounds.specs.Laws.{IsSizeIn}
use Rattle.naga_bounds.specs.Modules.{AccessesFitIn, typed_in}
use Rattle.naga_bounds.specs.Reach.{Reach, Typed, expression_at, is_fixed_access, length_at, length_reached, positions_of, reach_of}
use Rattle.naga_bounds.specs.Respects.{HasElements, LengthsStay, RespectsIndices}
use Rattle.naga_bounds.specs.RestrictedModules.{IsEmitted}
use Rattle.naga_bounds.specs.TypedAccesses.{AccessedPartsAreThere, ArePartsThere, IsPartThere, PartsAreThere, TypesHaveParts, machine_in}
use Rattle.naga_bounds.specs.Watched.{are_below, code, count_at, is_below, is_in_bounds, is_there, position}
use Rattle.naga_bounds.specs.declared.cause.Position.{Position}
use Rattle.naga_bounds.specs.declared.cause.Position.TheVariants.{Constant, Computed}
use Rattle.naga_bounds.specs.declared.length.Length.{Length}
use Rattle.naga_bounds.proofs.InBoundsLemmas.{accesses-below, both}

below-number : (k n : ℕ) → nat_lt k n ≡ true → k < n
below-number k n below = grind (arith, nat_tests)

-- evaluating expressions leaves the state as it is
emitted-state : {Shape Action Value State : Type 0} (by : Interpretation Shape Action Value State) (c : Code Shape) (xs : List ℕ) (w : World Value State) → (emit by c xs w).state ≡ w.state
emitted-state by c [] w = refl
emitted-state by c (x ∷ xs) w = emitted-state by c xs (put x (emitted_value by c w x) w)

module _ {Thing Value State : Type 0} (look : Reference → Thing) (by : Meanings Thing Value State) (number : Value → Option ℕ) (has_type : Value → Form → Type 0)
    (HasPart : Value → ℕ → State → Type 0) (whole : the_module.Module) (inside : function.Function) (Invariant : State → Type 0)
    (have : TypesHaveParts look by number has_type HasPart whole inside Invariant) where
  abbrev typed : Typed
  typed = typed_in whole inside

  module _ (world : World Value State) (holds : Invariant world.state) where
    abbrev Typed-at : ℕ → Type 0
    Typed-at x = HasTypeOf has_type (context_in whole inside) (types_in whole inside) x (value by (code look by number typed) world x)

    module _ (base : ℕ) (has : Typed-at base) where
      part-there : (found : Option Length) → length_at typed base ≡ found → (each : Position)
          → is_below (position look by number typed world each) (count_at look by number typed world base found) ≡ true → IsPartThere look by number has_type HasPart whole inside world base each
      part-there found is each below =
          go (position look by number typed world each) refl found is (count_at look by number typed world base found) refl below
        where
          go : (at : Option ℕ) → position look by number typed world each ≡ at → (found : Option Length) → length_at typed base ≡ found
              → (n : Option ℕ) → count_at look by number typed world base found ≡ n → is_below at n ≡ true → IsPartThere look by number has_type HasPart whole inside world base each
          go None at found is n counted below = absurd (let e : false ≡ true = below in cc)
          go (Some k) at found is None counted below = absurd (let e : false ≡ true = below in cc)
          go (Some k) at None is (Some n) counted below = absurd (cc)
          go (Some k) at (Some long) is (Some n) counted below = (
            k,
            at,
            have (value by (code look by number typed) world base) has.0 has.2 long (sym (ap (λ t. (t >>= contents_of (inner_at whole.types)) >>= length_reached (inner_at whole.types)) has.1) ∙ is)
                world.state holds n counted k (below-number k n below),
          )

      parts-there : (positions : List Position) → are_below look by number typed world (count_at look by number typed world base (length_at typed base)) positions ≡ true
          → AllByRecursion (IsPartThere look by number has_type HasPart whole inside world base) positions
      parts-there [] below = tt
      parts-there (each ∷ rest) below =
          let two = both (is_below (position look by number typed world each) (count_at look by number typed world base (length_at typed base)))
          (are_below look by number typed world (count_at look by number typed world base (length_at typed base)) rest) below in
          (part-there (length_at typed base) refl each two.0, parts-there rest two.1)

    access-there : (found : Option Expression) → Each Typed-at (operands_found found) → is_there look by number typed world (found >>= reach_of) ≡ true
        → IfSome (found >>= reach_of) (ArePartsThere look by number has_type HasPart whole inside world)
    access-there None has there = tt
    access-there (Some (expr.Access base index)) has there = parts-there base has.0 (Computed index ∷ []) there
    access-there (Some (expr.AccessIndex base index)) has there = parts-there base has.0 (Constant index ∷ []) there
    access-there (Some (expr.Swizzle size vector pattern)) has there = parts-there vector has.0 (positions_of (take (components_of size) pattern)) there
    access-there (Some _) has there = tt

pub accessed-there : {Thing Value State : Type 0} (has_type : Value → Form → Type 0) (Invariant : function.Function → State → Type 0) (HasPart : Value → ℕ → State → Type 0)
    → AccessedPartsAreThere Thing Value State has_type Invariant HasPart
accessed-there has_type Invariant HasPart whole valid module_typed inside is fits emitted look by respects_types number unsigned_number respects elements stay have turns start holds begun before later what at first rest access split =
    let typed = typed_in whole inside in
    let checked = function-checked whole valid module_typed inside is (is_fixed_access typed) emitted in
    let types = execution-types look by has_type whole inside (MeetsRequirements whole inside) (is_fixed_access typed) checked (Invariant inside) respects_types turns start holds in
    let world : World _ _ = emit by (code look by number typed) first (after (machine_in look by number has_type HasPart whole inside) before start) in
    access-there look by number has_type HasPart whole inside (Invariant inside) have world
    (subst (Invariant inside) (sym (emitted-state by (code look by number typed) first (after (machine_in look by number has_type HasPart whole inside) before start))) (types.worlds begun before (met what ∷ later) at).state)
    (expression_at typed access)
    (types.operands begun before later what at first rest access split)
    (accesses-below look by number unsigned_number typed (function-precedes whole valid module_typed inside is) (IsSizeIn typed) (λ base handle so. (base, so)) respects elements stay start fits
    (tree_of inside.body) emitted.0 turns _ begun before later what at first rest access split)
