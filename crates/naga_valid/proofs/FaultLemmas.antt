-- The faults of functions and entry points, and of modules.
use Rattle.std.proofs.Common.{◌≡◌, ◌∙◌, ◌<◌, ◌≤◌, ◌++◌, [], arith, length, Result, sym, subst, refl, ℕ, List, Option, Some, None}
use Rattle.std.specs.Prelude.{All, slice_get}
use Rattle.std.specs.List.{Contains, enumerate_from}
use Rattle.std.specs.Option.{option_map}
use Rattle.std.proofs.lemmas.List.Elements.{All-append, All-contains, All-nil, Contains-append_right}
use Rattle.std.proofs.lemmas.Option.{slice_get_within}
use Rattle.std.proofs.lemmas.Result.{MatchResult-weaker}
use Rattle.naga_arena.specs.Arena.{value_at, values}
use Rattle.naga_ir.specs.declared.module.DocComments as comments
use Rattle.naga_ir.specs.declared.module.EntryPoint as entry_point
use Rattle.naga_ir.specs.declared.module.Function as function
use Rattle.naga_ir.specs.declared.module.Module as the_module
use Rattle.naga_valid.proofs.FindsElementLemmas.{All-at}
use Rattle.naga_valid.specs.Faults.{ArePlacesWithin, Checks, ChecksFunction, ChecksList, CommentsAreWithin, IsEntryPointWithin, IsFaultOf, IsOutside, IsPartFault, IsPartWithin, IsPlaceWithin, references_of_comments, place_of}
use Rattle.naga_valid.specs.Limits.{AreWithin, IsWithin}
use Rattle.naga_valid.specs.Places.{lengths, limits_at, limits_found, limits_in_part, limits_inside, references_found, references_in, references_in_part, references_of_entry_point}
use Rattle.naga_valid.specs.Valid.{ReferencesAreWithin}
use Rattle.naga_valid.specs.declared.handles.fault.Fault.{Fault}
use Rattle.naga_valid.specs.declared.handles.fault.Owner as owners
use Rattle.naga_valid.specs.declared.handles.fault.Owner.TheVariants as owned
use Rattle.naga_valid.specs.declared.limits.Limits.{Limits}
use Rattle.naga_valid.specs.declared.reference.Reference.{Reference}
use Rattle.naga_valid.specs.declared.place.Part.{Part}
use Rattle.naga_valid.specs.declared.place.Part.TheVariants as part
use Rattle.naga_valid.specs.declared.place.Place.{Place}
use Rattle.naga_valid.specs.declared.place.Place.TheVariants as place

module _ (whole : the_module.Module) (fault : Fault) where
  -- the fault is one of the handles of the place
  pub IsOutside-at : (at : Place) → IsFaultOf (limits_at whole at) (references_in whole at) at fault → IsOutside whole fault
  IsOutside-at at found =
      subst (λ other. Contains (references_in whole other) fault.reference × ¬ IsWithin (limits_at whole other) fault.reference) (sym found.0) (found.1, found.2)

  pub IsOutside-invalid : IsOutside whole fault → ReferencesAreWithin whole → ⊥
  IsOutside-invalid outside within =
      outside.1 (All-contains (IsWithin (limits_at whole fault.place)) (references_in whole fault.place) fault.reference (within fault.place) outside.0)

-- ---- functions

module _ (limits : Limits) (declared : function.Function) (found : Option function.Function) (is : found ≡ Some declared) where
  FoundWithin : ((inner : Part) → IsPartWithin (limits_inside limits declared) declared inner) → (inner : Part) → AreWithin (limits_found limits inner found) (references_found (λ f. references_in_part f inner) found)
  FoundWithin all inner =
      subst (λ o. AreWithin (limits_found limits inner o) (references_found (λ f. references_in_part f inner) o)) (sym is) (all inner)

  FoundFault : (fault : Fault) (inner : Part) → Contains (references_in_part declared inner) fault.reference × ¬ IsWithin (limits_found limits inner (Some declared)) fault.reference → Contains (references_found (λ f. references_in_part f inner) found) fault.reference × ¬ IsWithin (limits_found limits inner found) fault.reference
  FoundFault fault inner outside =
      subst (λ o. Contains (references_found (λ f. references_in_part f inner) o) fault.reference × ¬ IsWithin (limits_found limits inner o) fault.reference) (sym is) outside

module _ (whole : the_module.Module) where
  module _ (handle : ℕ) (declared : function.Function) (is : value_at whole.functions handle ≡ Some declared) where
    pub ArePlacesWithin-function : ((inner : Part) → IsPartWithin (limits_inside (record (lengths whole) { functions = handle }) declared) declared inner) → ArePlacesWithin whole (place.Function handle)
    ArePlacesWithin-function all = FoundWithin (record (lengths whole) { functions = handle }) declared (value_at whole.functions handle) is all

    pub IsOutside-function : (fault : Fault) → IsPartFault (limits_inside (record (lengths whole) { functions = handle }) declared) declared (owned.Function handle) fault → IsOutside whole fault
    IsOutside-function fault found =
        let outside = FoundFault (record (lengths whole) { functions = handle }) declared (value_at whole.functions handle) is fault found.0 (found.1.1, found.1.2) in
        IsOutside-at whole fault (place.Function handle found.0) (found.1.0, outside.0, outside.1)

  pub ArePlacesWithin-no_function : (handle : ℕ) → value_at whole.functions handle ≡ None → ArePlacesWithin whole (place.Function handle)
  ArePlacesWithin-no_function handle is inner =
      subst (λ o. AreWithin (limits_found (record (lengths whole) { functions = handle }) inner o) (references_found (λ f. references_in_part f inner) o)) (sym is) (All-nil (IsWithin (record (lengths whole) { functions = handle })))

-- ---- entry points

module _ (whole : the_module.Module) (position : ℕ) where
  abbrev function_of : Option entry_point.EntryPoint → Option function.Function
  function_of = option_map (λ entry. entry.function)

  module _ (entry : entry_point.EntryPoint) (is : slice_get whole.entry_points.items position ≡ Some entry) where
    pub IsPlaceWithin-entry_point : AreWithin (lengths whole) (references_of_entry_point entry) → IsPlaceWithin whole (place.EntryPoint position)
    IsPlaceWithin-entry_point own = subst (λ o. AreWithin (lengths whole) (references_found references_of_entry_point o)) (sym is) own

    pub ArePlacesWithin-entry_point : ((inner : Part) → IsPartWithin (limits_inside (lengths whole) entry.function) entry.function inner) → ArePlacesWithin whole (place.EntryPointFunction position)
    ArePlacesWithin-entry_point all inner =
        subst (λ o. AreWithin (limits_found (lengths whole) inner (function_of o)) (references_found (λ e. references_in_part e.function inner) o)) (sym is) (all inner)

    pub IsOutside-entry_point : (fault : Fault) → IsFaultOf (lengths whole) (references_of_entry_point entry) (place.EntryPoint position) fault → IsOutside whole fault
    IsOutside-entry_point fault found =
        IsOutside-at whole fault (place.EntryPoint position) (found.0, subst (λ o. Contains (references_found references_of_entry_point o) fault.reference) (sym is) found.1, found.2)

    pub IsOutside-entry_point_function : (fault : Fault) → IsPartFault (limits_inside (lengths whole) entry.function) entry.function (owned.EntryPoint position) fault → IsOutside whole fault
    IsOutside-entry_point_function fault found =
        let outside = subst (λ o. Contains (references_found (λ e. references_in_part e.function found.0) o) fault.reference × ¬ IsWithin (limits_found (lengths whole) found.0 (function_of o)) fault.reference) (sym is) (found.1.1, found.1.2) in
        IsOutside-at whole fault (place.EntryPointFunction position found.0) (found.1.0, outside.0, outside.1)

  pub IsEntryPointWithin-none : slice_get whole.entry_points.items position ≡ None → IsEntryPointWithin whole position
  IsEntryPointWithin-none is = (
    subst (λ o. AreWithin (lengths whole) (references_found references_of_entry_point o)) (sym is) (All-nil (IsWithin (lengths whole))),
    λ inner. subst (λ o. AreWithin (limits_found (lengths whole) inner (function_of o)) (references_found (λ e. references_in_part e.function inner) o)) (sym is) (All-nil (IsWithin (lengths whole))),
  )

-- ---- all places

module _ (whole : the_module.Module) where
  pub ReferencesAreWithin-all : ArePlacesWithin whole place.«Type» → IsPlaceWithin whole place.SpecialTypes → ArePlacesWithin whole place.Constant → ArePlacesWithin whole place.Override → ArePlacesWithin whole place.GlobalVariable → ArePlacesWithin whole place.GlobalExpression → ArePlacesWithin whole place.DiagnosticFilter → IsPlaceWithin whole place.DiagnosticFilterLeaf → CommentsAreWithin whole → ((handle : ℕ) → ArePlacesWithin whole (place.Function handle)) → ((position : ℕ) → IsEntryPointWithin whole position) → ReferencesAreWithin whole
  ReferencesAreWithin-all types special constants overrides variables expressions filters leaf comments functions entries = by_place
    where
      by_place : (at : Place) → IsPlaceWithin whole at
      by_place (place.«Type» handle) = types handle
      by_place place.SpecialTypes = special
      by_place (place.Constant handle) = constants handle
      by_place (place.Override handle) = overrides handle
      by_place (place.GlobalVariable handle) = variables handle
      by_place (place.GlobalExpression handle) = expressions handle
      by_place (place.Function handle inner) = functions handle inner
      by_place (place.EntryPoint position) = (entries position).0
      by_place (place.EntryPointFunction position inner) = (entries position).1 inner
      by_place (place.DiagnosticFilter handle) = filters handle
      by_place place.DiagnosticFilterLeaf = leaf
      by_place place.TypeComments = comments.0
      by_place place.MemberComments = comments.1
      by_place place.FunctionComments = comments.2
      by_place place.ConstantComments = comments.3
      by_place place.GlobalVariableComments = comments.4

-- ---- the last check of several

module _ {Done : Type 0} (whole : the_module.Module) (claim : Type 0) (result : Result Done Fault) where
  -- the last list of a place, whose other handles are known to be within the limits
  pub Checks-last : (at : Place) (references : List Reference) → ChecksList (limits_at whole at) references at result → (AreWithin (limits_at whole at) references → claim) → ((reference : Reference) → Contains references reference → Contains (references_in whole at) reference) → Checks whole claim result
  Checks-last at references checks then inside =
      MatchResult-weaker result checks (λ _ within. then within) (λ fault found. IsOutside-at whole fault at (found.0, inside fault.reference found.1, found.2))

module _ {Done : Type 0} (limits : Limits) (declared : function.Function) (owner : owners.Owner) (claim : Type 0) (result : Result Done Fault) where
  -- the last part of a function, whose other parts are known to be within the limits
  pub ChecksFunction-last : (inner : Part) (at : Place) → at ≡ place_of owner inner → ChecksList (limits_in_part limits inner) (references_in_part declared inner) at result → (IsPartWithin limits declared inner → claim) → ChecksFunction limits declared owner claim result
  ChecksFunction-last inner at is checks then =
      MatchResult-weaker result checks (λ _ within. then within) (λ fault found. (inner, (found.0 ∙ is, found.1, found.2)))

-- ---- all functions, and all entry points

-- the function with this handle contains only handles within its limits
abbrev pub IsFunctionWithin : the_module.Module → ℕ → function.Function → Type 0
IsFunctionWithin whole handle declared =
    (inner : Part) → IsPartWithin (limits_inside (record (lengths whole) { functions = handle }) declared) declared inner

-- the entry point contains only handles within its limits
abbrev pub IsEntryWithin : the_module.Module → entry_point.EntryPoint → Type 0
IsEntryWithin whole entry =
    AreWithin (lengths whole) (references_of_entry_point entry) × ((inner : Part) → IsPartWithin (limits_inside (lengths whole) entry.function) entry.function inner)

module _ (whole : the_module.Module) where
  pub ArePlacesWithin-functions : All (λ entry. IsFunctionWithin whole entry.0 entry.1) (enumerate_from 0 (values whole.functions)) → (handle : ℕ) → ArePlacesWithin whole (place.Function handle)
  ArePlacesWithin-functions all handle = by_function (value_at whole.functions handle) refl
    where
      by_function : (found : Option function.Function) → value_at whole.functions handle ≡ found → ArePlacesWithin whole (place.Function handle)
      by_function None is = ArePlacesWithin-no_function whole handle is
      by_function (Some declared) is =
          ArePlacesWithin-function whole handle declared is (All-at (IsFunctionWithin whole) (values whole.functions) (enumerate_from 0 (values whole.functions)) refl all handle declared is)

  pub IsEntryPointWithin-entry : (position : ℕ) (entry : entry_point.EntryPoint) → slice_get whole.entry_points.items position ≡ Some entry → IsEntryWithin whole entry → IsEntryPointWithin whole position
  IsEntryPointWithin-entry position entry is within =
      (IsPlaceWithin-entry_point whole position entry is within.0, ArePlacesWithin-entry_point whole position entry is within.1)

  -- the entry points before `count` are all of them
  pub IsEntryPointWithin-all : (count : ℕ) → length whole.entry_points.items ≤ count → ((position : ℕ) → position < count → IsEntryPointWithin whole position) → (position : ℕ) → IsEntryPointWithin whole position
  IsEntryPointWithin-all count past before position = by_entry (slice_get whole.entry_points.items position) refl
    where
      by_entry : (found : Option entry_point.EntryPoint) → slice_get whole.entry_points.items position ≡ found → IsEntryPointWithin whole position
      by_entry None is = IsEntryPointWithin-none whole position is
      by_entry (Some entry) is =
          let within : position < length whole.entry_points.items = slice_get_within whole.entry_points.items position entry is in
          before position (omega (arith, within, past))

-- ---- all parts of a function

module _ (limits : Limits) (declared : function.Function) where
  pub IsPartWithin-all : IsPartWithin limits declared part.Arguments × IsPartWithin limits declared part.Result → ((handle : ℕ) → IsPartWithin limits declared (part.LocalVariable handle)) → ((handle : ℕ) → IsPartWithin limits declared (part.Expression handle)) → IsPartWithin limits declared part.NamedExpressions × IsPartWithin limits declared part.Body × IsPartWithin limits declared part.DiagnosticFilterLeaf → (inner : Part) → IsPartWithin limits declared inner
  IsPartWithin-all signature variables expressions others = by_part
    where
      by_part : (inner : Part) → IsPartWithin limits declared inner
      by_part part.Arguments = signature.0
      by_part part.Result = signature.1
      by_part (part.LocalVariable handle) = variables handle
      by_part (part.Expression handle) = expressions handle
      by_part part.NamedExpressions = others.0
      by_part part.Body = others.1
      by_part part.DiagnosticFilterLeaf = others.2

-- ---- lists in a row

-- the handles of `front` are within the limits
pub ChecksList-last : {Done : Type 0} (limits : Limits) (front last : List Reference) (at : Place) (result : Result Done Fault) → AreWithin limits front → ChecksList limits last at result → ChecksList limits (front ++ last) at result
ChecksList-last limits front last at result before checks =
    MatchResult-weaker result checks (λ _ within. All-append (IsWithin limits) front last before within)
    (λ fault found. (found.0, Contains-append_right front last fault.reference found.1, found.2))

-- ---- doc comments

module _ {B : Type 0} (found : Option B) (boxed : B) (is : found ≡ Some boxed) (value_of : B → comments.DocComments) (at : Place) where
  pub comments_within : (limits : Limits) → AreWithin limits (references_of_comments (value_of boxed) at) → AreWithin limits (references_found (λ b. references_of_comments (value_of b) at) found)
  comments_within limits within = subst (λ o. AreWithin limits (references_found (λ b. references_of_comments (value_of b) at) o)) (sym is) within

  pub comments_inside : (reference : Reference) → Contains (references_of_comments (value_of boxed) at) reference → Contains (references_found (λ b. references_of_comments (value_of b) at) found) reference
  comments_inside reference inside = subst (λ o. Contains (references_found (λ b. references_of_comments (value_of b) at) o) reference) (sym is) inside

no_comments : {B : Type 0} (found : Option B) (reference : Reference) → Contains (references_found (λ b. []) found) reference → ⊥
no_comments None reference inside = omega (arith, inside.1)
no_comments (Some b) reference inside = omega (arith, inside.1)

pub IsOutside-comments : (whole : the_module.Module) (at : Place) (reference : Reference) → Contains (references_found (λ b. references_of_comments b.value at) whole.doc_comments) reference → (IsWithin (lengths whole) reference → ⊥) → Contains (references_in whole at) reference × ¬ IsWithin (limits_at whole at) reference
IsOutside-comments whole place.TypeComments reference inside outside = (inside, outside)
IsOutside-comments whole place.MemberComments reference inside outside = (inside, outside)
IsOutside-comments whole place.FunctionComments reference inside outside = (inside, outside)
IsOutside-comments whole place.ConstantComments reference inside outside = (inside, outside)
IsOutside-comments whole place.GlobalVariableComments reference inside outside = (inside, outside)
IsOutside-comments whole at reference inside outside = absurd (no_comments whole.doc_comments reference inside)
