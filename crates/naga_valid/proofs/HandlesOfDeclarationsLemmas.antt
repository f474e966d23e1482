-- The handles of the declarations of a valid module.
use Rattle.std.proofs.Common.{◌≡◌, ℕ, ◌<◌, ◌≤◌, [], ◌∷◌, length, Some}
use Rattle.std.specs.Prelude.{Contains, option_to_list, slice_get}
use Rattle.std.specs.Option.{ForSome, option_map}
use Rattle.std.proofs.lemmas.List.Elements.{All-contains}
use Rattle.std.proofs.lemmas.Option.{none-some}
use Rattle.naga_arena.specs.Arena.{value_at, values}
use Rattle.naga_ir.specs.View.{tree_of}
use Rattle.naga_ir.specs.declared.module.Constant as constant
use Rattle.naga_ir.specs.declared.module.EntryPoint as entry_point
use Rattle.naga_ir.specs.declared.module.Function as function
use Rattle.naga_ir.specs.declared.module.GlobalVariable as global
use Rattle.naga_ir.specs.declared.module.Module as the_module
use Rattle.naga_ir.specs.declared.module.Override as override
use Rattle.naga_valid.specs.Declarations.{references_of_constant, references_of_global_variable, references_of_override}
use Rattle.naga_valid.specs.Limits.{AreWithin, IsWithin}
use Rattle.naga_valid.specs.Places.{lengths, limits_inside}
use Rattle.naga_valid.specs.Statements.{references_of_tree}
use Rattle.naga_valid.specs.Valid.{HandlesAreValid, init_of_reference}
use Rattle.naga_valid.specs.declared.reference.Reference.{Reference}
use Rattle.naga_valid.specs.declared.reference.Reference.TheVariants as reference
use Rattle.naga_valid.specs.declared.place.Part.TheVariants as part
use Rattle.naga_valid.proofs.EachIsWithinLemmas.{EachIsWithin-at}
use Rattle.naga_valid.proofs.ForSomeLemmas.{ForSome-and_then, ForSome-map}
use Rattle.naga_valid.proofs.HandlesAreValidLemmas.{HandlesAreValid-constants, HandlesAreValid-entry_point, HandlesAreValid-function, HandlesAreValid-global_variables, HandlesAreValid-overrides}
use Rattle.naga_valid.proofs.IsWithinLemmas.{IsWithin-first, IsWithin-found, IsWithin-rest, IsWithin-second}

module _ (whole : the_module.Module) (valid : HandlesAreValid whole) where
  module _ (handle : ℕ) (declared : constant.Constant) (found : value_at whole.constants handle ≡ Some declared) where
    references-of_constant : AreWithin (lengths whole) (references_of_constant declared)
    references-of_constant = EachIsWithin-at references_of_constant (λ _. lengths whole) (values whole.constants) (HandlesAreValid-constants whole valid) handle declared found

    pub type-of_constant : declared.ty < length whole.types
    type-of_constant = IsWithin-first (lengths whole) (reference.«Type» declared.ty) (reference.GlobalExpression declared.init ∷ []) references-of_constant

    pub init-of_constant : declared.init < length whole.global_expressions
    init-of_constant = IsWithin-second (lengths whole) (reference.«Type» declared.ty) (reference.GlobalExpression declared.init) [] references-of_constant

  module _ (handle : ℕ) (declared : override.Override) (found : value_at whole.overrides handle ≡ Some declared) where
    references-of_override : AreWithin (lengths whole) (references_of_override declared)
    references-of_override = EachIsWithin-at references_of_override (λ _. lengths whole) (values whole.overrides) (HandlesAreValid-overrides whole valid) handle declared found

    pub type-of_override : declared.ty < length whole.types
    type-of_override = IsWithin-first (lengths whole) (reference.«Type» declared.ty) (option_to_list (option_map reference.GlobalExpression declared.init)) references-of_override

    pub init-of_override : ForSome declared.init (λ init. init < length whole.global_expressions)
    init-of_override = IsWithin-found (lengths whole) reference.GlobalExpression declared.init (IsWithin-rest (lengths whole) (reference.«Type» declared.ty) (option_to_list (option_map reference.GlobalExpression declared.init)) references-of_override)

  module _ (handle : ℕ) (declared : global.GlobalVariable) (found : value_at whole.global_variables handle ≡ Some declared) where
    references-of_variable : AreWithin (lengths whole) (references_of_global_variable declared)
    references-of_variable = EachIsWithin-at references_of_global_variable (λ _. lengths whole) (values whole.global_variables) (HandlesAreValid-global_variables whole valid) handle declared found

    pub type-of_variable : declared.ty < length whole.types
    type-of_variable = IsWithin-first (lengths whole) (reference.«Type» declared.ty) (option_to_list (option_map reference.GlobalExpression declared.init)) references-of_variable

    pub init-of_variable : ForSome declared.init (λ init. init < length whole.global_expressions)
    init-of_variable = IsWithin-found (lengths whole) reference.GlobalExpression declared.init (IsWithin-rest (lengths whole) (reference.«Type» declared.ty) (option_to_list (option_map reference.GlobalExpression declared.init)) references-of_variable)

  -- the init of a constant or override that is referred to
  pub init-of_reference : (to : Reference) → ForSome (init_of_reference whole to) (λ init. init < length whole.global_expressions)
  init-of_reference (reference.Constant handle) =
      ForSome-map (λ (declared : constant.Constant). declared.init) (value_at whole.constants handle) (λ init. init < length whole.global_expressions)
      (init-of_constant handle)
  init-of_reference (reference.Override handle) =
      ForSome-and_then (λ (declared : override.Override). declared.init) (value_at whole.overrides handle) (λ init. init < length whole.global_expressions)
      (init-of_override handle)
  init-of_reference _ = λ init is. absurd (none-some init is)

  -- ---- ranges

  pub range-of_function : (handle : ℕ) (declared : function.Function) → value_at whole.functions handle ≡ Some declared → (first past : ℕ) → Contains (references_of_tree (tree_of declared.body)) (reference.Expressions first past) → (first ≤ past) × (past ≤ length declared.expressions)
  range-of_function handle declared found first past inside =
      All-contains (IsWithin (limits_inside (record (lengths whole) { functions = handle }) declared)) (references_of_tree (tree_of declared.body)) (reference.Expressions first past)
      (HandlesAreValid-function whole valid handle declared found part.Body) inside

  pub range-of_entry_point : (position : ℕ) (entry : entry_point.EntryPoint) → slice_get whole.entry_points.items position ≡ Some entry → (first past : ℕ) → Contains (references_of_tree (tree_of entry.function.body)) (reference.Expressions first past) → (first ≤ past) × (past ≤ length entry.function.expressions)
  range-of_entry_point position entry found first past inside =
      All-contains (IsWithin (limits_inside (lengths whole) entry.function)) (references_of_tree (tree_of entry.function.body)) (reference.Expressions first past)
      (HandlesAreValid-entry_point whole valid position entry found part.Body) inside
