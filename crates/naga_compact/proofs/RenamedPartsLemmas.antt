-- The handles of a part of a module whose handles are renamed are its handles, renamed.
use Rattle.std.proofs.Common.{◌≡◌, ◌∙◌, sym, ap, refl, ℕ, zero, suc, List, [], ◌∷◌, ◌++◌, map, Option, Some, None}
use Rattle.std.specs.Option.{option_map}
use Rattle.std.specs.Prelude.{option_to_list}
use Rattle.std.specs.Vec.{with_items}
use Rattle.naga_arena.specs.Arena.{value_at}
use Rattle.naga_arena.specs.declared.span.Span.{Span}
use Rattle.naga_ir.specs.View.{tree_of}
use Rattle.naga_ir.specs.declared.block.Block as the_block
use Rattle.naga_ir.specs.declared.module.EntryPoint as entry_point
use Rattle.naga_ir.specs.declared.module.Function as function
use Rattle.naga_ir.specs.declared.module.FunctionArgument as argument
use Rattle.naga_ir.specs.declared.module.GlobalVariable as global
use Rattle.naga_ir.specs.declared.module.LocalVariable as local
use Rattle.naga_ir.specs.declared.module.MeshStageInfo.{MeshStageInfo}
use Rattle.naga_ir.specs.declared.module.Override as override
use Rattle.naga_ir.specs.declared.module.SpecialTypes as special
use Rattle.naga_ir.specs.declared.types.ArraySize.{ArraySize}
use Rattle.naga_ir.specs.declared.types.ArraySize.TheVariants as size
use Rattle.naga_ir.specs.declared.types.StructMember.{StructMember}
use Rattle.naga_ir.specs.declared.types.«Type».{«Type» as NamedType}
use Rattle.naga_ir.specs.declared.types.TypeInner.{TypeInner}
use Rattle.naga_ir.specs.declared.types.TypeInner.TheVariants as inner
use Rattle.naga_valid.specs.Declarations.{references_of_type, references_of_inner, references_of_override, references_of_global_variable, references_of_local_variable, references_of_leaf, references_of_mesh_info, pending_of}
use Rattle.naga_valid.specs.Expressions.{references_of_expression}
use Rattle.naga_valid.specs.Reference.{operands, present_then}
use Rattle.naga_valid.specs.Places.{global_overrides, references_found, references_in_part, references_of_entry_point, references_of_payloads, references_of_special_types, references_of_fixed_types}
use Rattle.naga_valid.specs.Statements.{references_of_tree}
use Rattle.naga_valid.specs.declared.reference.Reference.{Reference}
use Rattle.naga_valid.specs.declared.reference.Reference.TheVariants as reference
use Rattle.naga_valid.specs.declared.place.Part.{Part}
use Rattle.naga_valid.specs.declared.place.Part.TheVariants as part
use Rattle.naga_compact.specs.Renaming.{Renaming, rename_reference}
use Rattle.naga_compact.specs.Renaming.Declarations.{rename_override, rename_global_variable, rename_local_variable}
use Rattle.naga_compact.specs.derived.Renaming.{rename_array_size, rename_expression, rename_struct_member, rename_type, rename_type_inner}
use Rattle.naga_compact.specs.Renaming.Functions.{map_values, rename_argument, rename_result, IsRenamedFunction, rename_mesh_info, rename_sizes, IsRenamedEntryPoint}
use Rattle.naga_compact.specs.Renaming.Blocks.{rename_tree}
use Rattle.naga_compact.specs.Renaming.Types.{rename_special_types, rename_value}
use Rattle.naga_compact.proofs.MappedListLemmas.{items-mapped}
use Rattle.naga_compact.proofs.RenamedBodyReferencesLemmas.{references_of_tree-renamed}
use Rattle.naga_compact.proofs.RenamedReferencesLemmas.{appended, optional-renamed}
use Rattle.naga_compact.proofs.derived_lemmas.RenamedVariantsLemmas.{references_of_expression-renamed}

module _ (r : Renaming) where
  -- the keys of named expressions stay
  operands-kept : ((handle : ℕ) → r.expressions handle ≡ handle) → (handles : List ℕ) → operands handles ≡ map (rename_reference r) (operands handles)
  operands-kept same [] = refl
  operands-kept same (handle ∷ handles) = (λ i. reference.Expression (sym (same handle) i) ∷ operands-kept same handles i)

  pub leaf-kept : (leaf : Option ℕ) → references_of_leaf leaf ≡ map (rename_reference r) (references_of_leaf leaf)
  leaf-kept None = refl
  leaf-kept (Some handle) = refl

  -- ---- types

  pending-renamed : (x : ArraySize) → option_to_list (option_map reference.Override (pending_of (rename_array_size r x))) ≡ map (rename_reference r) (option_to_list (option_map reference.Override (pending_of x)))
  pending-renamed (size.Constant count) = refl
  pending-renamed (size.Pending handle) = refl
  pending-renamed size.Dynamic = refl

  members-renamed : (members : List StructMember) → map (λ (member : StructMember). reference.«Type» member.ty) (map (rename_struct_member r) members) ≡ map (rename_reference r) (map (λ (member : StructMember). reference.«Type» member.ty) members)
  members-renamed [] = refl
  members-renamed (member ∷ members) = ap (λ rest. reference.«Type» (r.types member.ty) ∷ rest) (members-renamed members)

  references_of_inner-renamed : (x : TypeInner) → references_of_inner (rename_type_inner r x) ≡ map (rename_reference r) (references_of_inner x)
  references_of_inner-renamed (inner.Scalar scalar) = refl
  references_of_inner-renamed (inner.Vector size scalar) = refl
  references_of_inner-renamed (inner.Matrix columns rows scalar) = refl
  references_of_inner-renamed (inner.CooperativeMatrix columns rows scalar role) = refl
  references_of_inner-renamed (inner.Atomic scalar) = refl
  references_of_inner-renamed (inner.Pointer base space) = refl
  references_of_inner-renamed (inner.ValuePointer size scalar space) = refl
  references_of_inner-renamed (inner.Array base x stride) = ap (λ rest. reference.«Type» (r.types base) ∷ rest) (pending-renamed x)
  references_of_inner-renamed (inner.Struct members span) =
      ap (map (λ (member : StructMember). reference.«Type» member.ty)) (items-mapped (rename_struct_member r) members) ∙ members-renamed members.items
  references_of_inner-renamed (inner.Image dim arrayed class) = refl
  references_of_inner-renamed (inner.Sampler comparison) = refl
  references_of_inner-renamed (inner.AccelerationStructure vertex_return) = refl
  references_of_inner-renamed (inner.RayQuery vertex_return) = refl
  references_of_inner-renamed (inner.BindingArray base x) = ap (λ rest. reference.«Type» (r.types base) ∷ rest) (pending-renamed x)

  pub references_of_type-renamed : (type : NamedType) → references_of_type (rename_type r type) ≡ map (rename_reference r) (references_of_type type)
  references_of_type-renamed type = references_of_inner-renamed type.inner

  fixed-renamed : (types : List (Option ℕ)) → present_then (map (option_map reference.«Type») (map (option_map r.types) types)) [] ≡ map (rename_reference r) (present_then (map (option_map reference.«Type») types) [])
  fixed-renamed [] = refl
  fixed-renamed (None ∷ types) = fixed-renamed types
  fixed-renamed (Some ty ∷ types) = ap (λ rest. reference.«Type» (r.types ty) ∷ rest) (fixed-renamed types)

  predeclared-renamed : {K : Type 0} (entries : List (K × ℕ)) → map reference.«Type» (map (λ e. e.1) (map (rename_value r) entries)) ≡ map (rename_reference r) (map reference.«Type» (map (λ (e : K × ℕ). e.1) entries))
  predeclared-renamed [] = refl
  predeclared-renamed (entry ∷ entries) = ap (λ rest. reference.«Type» (r.types entry.1) ∷ rest) (predeclared-renamed entries)

  pub references_of_special_types-renamed : (types : special.SpecialTypes) → references_of_special_types (rename_special_types r types) ≡ map (rename_reference r) (references_of_special_types types)
  references_of_special_types-renamed types =
      appended (rename_reference r) (references_of_fixed_types types) (map reference.«Type» (map (λ e. e.1) types.predeclared_types.entries))
      (fixed-renamed (types.ray_desc ∷ types.ray_intersection ∷ types.ray_vertex_return ∷ types.external_texture_params ∷ types.external_texture_transfer_function ∷ []))
      (predeclared-renamed types.predeclared_types.entries)

  -- ---- declarations

  pub references_of_override-renamed : (declared : override.Override) → references_of_override (rename_override r declared) ≡ map (rename_reference r) (references_of_override declared)
  references_of_override-renamed declared =
      ap (λ rest. reference.«Type» (r.types declared.ty) ∷ rest) (optional-renamed r reference.GlobalExpression r.global_expressions (λ h. refl) declared.init)

  pub references_of_global_variable-renamed : (declared : global.GlobalVariable) → references_of_global_variable (rename_global_variable r declared) ≡ map (rename_reference r) (references_of_global_variable declared)
  references_of_global_variable-renamed declared =
      ap (λ rest. reference.«Type» (r.types declared.ty) ∷ rest) (optional-renamed r reference.GlobalExpression r.global_expressions (λ h. refl) declared.init)

  pub references_of_local_variable-renamed : (declared : local.LocalVariable) → references_of_local_variable (rename_local_variable r declared) ≡ map (rename_reference r) (references_of_local_variable declared)
  references_of_local_variable-renamed declared =
      ap (λ rest. reference.«Type» (r.types declared.ty) ∷ rest) (optional-renamed r reference.Expression r.expressions (λ h. refl) declared.init)

  -- ---- functions

  found-mapped : {X : Type 0} (references : X → List Reference) (f : X → X) → ((x : X) → references (f x) ≡ map (rename_reference r) (references x)) → (arena : List (X × Span)) (handle : ℕ) →
      references_found references (value_at (map_values f arena) handle) ≡ map (rename_reference r) (references_found references (value_at arena handle))
  found-mapped references f is [] handle = refl
  found-mapped references f is (entry ∷ arena) zero = is entry.0
  found-mapped references f is (entry ∷ arena) (suc handle) = found-mapped references f is arena handle

  arguments-renamed : (arguments : List argument.FunctionArgument) → map (λ (x : argument.FunctionArgument). reference.«Type» x.ty) (map (rename_argument r) arguments) ≡ map (rename_reference r) (map (λ (x : argument.FunctionArgument). reference.«Type» x.ty) arguments)
  arguments-renamed [] = refl
  arguments-renamed (argument ∷ arguments) = ap (λ rest. reference.«Type» (r.types argument.ty) ∷ rest) (arguments-renamed arguments)

  -- the function with its handles outside the body renamed, and with another body
  abbrev with_renamed : function.Function → the_block.Block → function.Function
  with_renamed old body = record old {
    arguments = with_items old.arguments (map (rename_argument r) old.arguments.items);
    result = option_map (rename_result r) old.result;
    local_variables = map_values (rename_local_variable r) old.local_variables;
    expressions = map_values (rename_expression r) old.expressions;
    body = body;
  }

  references_in_part-with_renamed : ((handle : ℕ) → r.expressions handle ≡ handle) → (old : function.Function) (body : the_block.Block) → tree_of body ≡ rename_tree r (tree_of old.body) → (inner : Part) →
      references_in_part (with_renamed old body) inner ≡ map (rename_reference r) (references_in_part old inner)
  references_in_part-with_renamed same old body is part.Arguments =
      ap (map (λ (x : argument.FunctionArgument). reference.«Type» x.ty)) (items-mapped (rename_argument r) old.arguments) ∙ arguments-renamed old.arguments.items
  references_in_part-with_renamed same old body is part.Result = of_result old.result
    where
      of_result : (result : Option _) → option_to_list (option_map (λ outcome. reference.«Type» outcome.ty) (option_map (rename_result r) result)) ≡ map (rename_reference r) (option_to_list (option_map (λ outcome. reference.«Type» outcome.ty) result))
      of_result None = refl
      of_result (Some outcome) = refl
  references_in_part-with_renamed same old body is (part.LocalVariable handle) =
      found-mapped references_of_local_variable (rename_local_variable r) references_of_local_variable-renamed old.local_variables handle
  references_in_part-with_renamed same old body is (part.Expression handle) =
      found-mapped references_of_expression (rename_expression r) (references_of_expression-renamed r) old.expressions handle
  references_in_part-with_renamed same old body is part.NamedExpressions = operands-kept same _
  references_in_part-with_renamed same old body is part.Body = ap references_of_tree is ∙ references_of_tree-renamed r (tree_of old.body)
  references_in_part-with_renamed same old body is part.DiagnosticFilterLeaf = leaf-kept old.diagnostic_filter_leaf

  pub references_in_part-renamed : ((handle : ℕ) → r.expressions handle ≡ handle) → (old new : function.Function) → IsRenamedFunction r old new → (inner : Part) → references_in_part new inner ≡ map (rename_reference r) (references_in_part old inner)
  references_in_part-renamed same old new is inner =
      ap (λ (declared : function.Function). references_in_part declared inner) is.outside ∙ references_in_part-with_renamed same old new.body is.body inner

  -- ---- entry points

  pub references_of_mesh_info-renamed : (info : MeshStageInfo) → references_of_mesh_info (rename_mesh_info r info) ≡ map (rename_reference r) (references_of_mesh_info info)
  references_of_mesh_info-renamed info =
      let vertices : List Reference = option_to_list (option_map reference.GlobalExpression info.max_vertices_override) in
      let primitives : List Reference = option_to_list (option_map reference.GlobalExpression info.max_primitives_override) in
      appended (rename_reference r) (vertices ++ primitives) (reference.«Type» info.vertex_output_type ∷ reference.«Type» info.primitive_output_type ∷ reference.GlobalVariable info.output_variable ∷ [])
      (appended (rename_reference r) vertices primitives
      (optional-renamed r reference.GlobalExpression r.global_expressions (λ h. refl) info.max_vertices_override)
      (optional-renamed r reference.GlobalExpression r.global_expressions (λ h. refl) info.max_primitives_override))
      refl

  global_overrides-renamed : (handles : List (Option ℕ)) → global_overrides (rename_sizes r handles) ≡ map (rename_reference r) (global_overrides handles)
  global_overrides-renamed [] = refl
  global_overrides-renamed (handle ∷ handles) =
      appended (rename_reference r) (option_to_list (option_map reference.GlobalExpression handle)) (global_overrides handles)
      (optional-renamed r reference.GlobalExpression r.global_expressions (λ h. refl) handle)
      (global_overrides-renamed handles)

  found-renamed : {X : Type 0} (references : X → List Reference) (f : X → X) → ((x : X) → references (f x) ≡ map (rename_reference r) (references x)) → (found : Option X) →
      references_found references (option_map f found) ≡ map (rename_reference r) (references_found references found)
  found-renamed references f is None = refl
  found-renamed references f is (Some x) = is x

  payloads-renamed : (task incoming : Option ℕ) → option_to_list (option_map reference.GlobalVariable (option_map r.global_variables task)) ++ option_to_list (option_map reference.GlobalVariable (option_map r.global_variables incoming)) ≡ map (rename_reference r) (option_to_list (option_map reference.GlobalVariable task) ++ option_to_list (option_map reference.GlobalVariable incoming))
  payloads-renamed task incoming =
      appended (rename_reference r) (option_to_list (option_map reference.GlobalVariable task)) (option_to_list (option_map reference.GlobalVariable incoming))
      (optional-renamed r reference.GlobalVariable r.global_variables (λ h. refl) task)
      (optional-renamed r reference.GlobalVariable r.global_variables (λ h. refl) incoming)

  pub references_of_entry_point-renamed : (old new : entry_point.EntryPoint) → IsRenamedEntryPoint r old new → references_of_entry_point new ≡ map (rename_reference r) (references_of_entry_point old)
  references_of_entry_point-renamed old new is =
      ap references_of_entry_point is.outside
      ∙ appended (rename_reference r) (references_found global_overrides old.workgroup_size_overrides) (references_found references_of_mesh_info old.mesh_info ++ references_of_payloads old)
      (found-renamed global_overrides (rename_sizes r) global_overrides-renamed old.workgroup_size_overrides)
      (appended (rename_reference r) (references_found references_of_mesh_info old.mesh_info) (references_of_payloads old)
      (found-renamed references_of_mesh_info (rename_mesh_info r) references_of_mesh_info-renamed old.mesh_info)
      (payloads-renamed old.task_payload old.incoming_ray_payload))
