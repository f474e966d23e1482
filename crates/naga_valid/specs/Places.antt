-- The handles that the parts of a module contain, and how far they may go.
use Rattle.std.specs.Prelude.{ℕ, List, [], ◌∷◌, ◌++◌, map, length, slice_get, Option, Some, None, option_to_list}
use Rattle.std.specs.Option.{option_map}
use Rattle.indexmap.specs.IndexMap.{keys, values as map_values}
use Rattle.naga_arena.specs.Arena.{value_at}
use Rattle.naga_ir.specs.View.{tree_of}
use Rattle.naga_ir.specs.declared.module.EntryPoint as entry_point
use Rattle.naga_ir.specs.declared.module.Function as function
use Rattle.naga_ir.specs.declared.module.Module as the_module
use Rattle.naga_ir.specs.declared.module.SpecialTypes as special
use Rattle.naga_valid.specs.Declarations.{references_of_type, references_of_constant, references_of_override, references_of_global_variable, references_of_local_variable, references_of_filter, references_of_leaf, references_of_mesh_info}
use Rattle.naga_valid.specs.Expressions.{references_of_expression}
use Rattle.naga_valid.specs.Limits.{AreWithin}
use Rattle.naga_valid.specs.Reference.{operands, present_then}
use Rattle.naga_valid.specs.Statements.{references_of_tree}
use Rattle.naga_valid.specs.declared.limits.Limits.{Limits}
use Rattle.naga_valid.specs.declared.reference.Reference.{Reference}
use Rattle.naga_valid.specs.declared.reference.Reference.TheVariants as reference
use Rattle.naga_valid.specs.declared.place.Part.{Part}
use Rattle.naga_valid.specs.declared.place.Part.TheVariants as part
use Rattle.naga_valid.specs.declared.place.Place.{Place}
use Rattle.naga_valid.specs.declared.place.Place.TheVariants.{«Type», SpecialTypes, Constant, Override, GlobalVariable, GlobalExpression, Function, EntryPoint, EntryPointFunction, DiagnosticFilter, DiagnosticFilterLeaf, TypeComments, MemberComments, FunctionComments, ConstantComments, GlobalVariableComments}

-- what a value contains, or nothing if there is no value
abbrev pub references_found : {X : Type 0} → (X → List Reference) → Option X → List Reference
references_found references (Some value) = references value
references_found references None = []

-- ---- functions

-- what a part of a function contains
abbrev pub references_in_part : function.Function → Part → List Reference
references_in_part whole part.Arguments = map (λ argument. reference.«Type» argument.ty) whole.arguments.items
references_in_part whole part.Result = option_to_list (option_map (λ result. reference.«Type» result.ty) whole.result)
references_in_part whole (part.LocalVariable handle) = references_found references_of_local_variable (value_at whole.local_variables handle)
references_in_part whole (part.Expression handle) = references_found references_of_expression (value_at whole.expressions handle)
references_in_part whole part.NamedExpressions = operands (keys whole.named_expressions)
references_in_part whole part.Body = references_of_tree (tree_of whole.body)
references_in_part whole part.DiagnosticFilterLeaf = references_of_leaf whole.diagnostic_filter_leaf

-- the limits inside a function: its own expressions and local variables
abbrev pub limits_inside : Limits → function.Function → Limits
limits_inside limits whole = record limits { expressions = length whole.expressions; local_variables = length whole.local_variables }

-- an expression refers only to earlier expressions
abbrev pub limits_in_part : Limits → Part → Limits
limits_in_part limits (part.Expression handle) = record limits { expressions = handle }
limits_in_part limits part.Arguments = limits
limits_in_part limits part.Result = limits
limits_in_part limits (part.LocalVariable handle) = limits
limits_in_part limits part.NamedExpressions = limits
limits_in_part limits part.Body = limits
limits_in_part limits part.DiagnosticFilterLeaf = limits

-- ---- modules

-- the special types that are present, without the predeclared ones
abbrev pub references_of_fixed_types : special.SpecialTypes → List Reference
references_of_fixed_types types =
    present_then (map (option_map reference.«Type») (types.ray_desc ∷ types.ray_intersection ∷ types.ray_vertex_return ∷ types.external_texture_params ∷ types.external_texture_transfer_function ∷ [])) []

-- the special types that are present, and the predeclared ones
abbrev pub references_of_special_types : special.SpecialTypes → List Reference
references_of_special_types types = references_of_fixed_types types ++ map reference.«Type» (map_values types.predeclared_types)

-- the global expressions that are present
abbrev pub global_overrides : List (Option ℕ) → List Reference
global_overrides [] = []
global_overrides (handle ∷ handles) = option_to_list (option_map reference.GlobalExpression handle) ++ global_overrides handles

-- the variables that an entry point passes to another stage, or that a ray passes to it
abbrev pub references_of_payloads : entry_point.EntryPoint → List Reference
references_of_payloads entry =
    option_to_list (option_map reference.GlobalVariable entry.task_payload)
    ++ option_to_list (option_map reference.GlobalVariable entry.incoming_ray_payload)

-- what an entry point contains, without its function
abbrev pub references_of_entry_point : entry_point.EntryPoint → List Reference
references_of_entry_point entry =
    references_found global_overrides entry.workgroup_size_overrides
    ++ (references_found references_of_mesh_info entry.mesh_info ++ references_of_payloads entry)

-- what the part of a module at this place contains
abbrev pub references_in : the_module.Module → Place → List Reference
references_in whole («Type» handle) = references_found references_of_type (value_at whole.types handle)
references_in whole SpecialTypes = references_of_special_types whole.special_types
references_in whole (Constant handle) = references_found references_of_constant (value_at whole.constants handle)
references_in whole (Override handle) = references_found references_of_override (value_at whole.overrides handle)
references_in whole (GlobalVariable handle) = references_found references_of_global_variable (value_at whole.global_variables handle)
references_in whole (GlobalExpression handle) = references_found references_of_expression (value_at whole.global_expressions handle)
references_in whole (Function handle inner) = references_found (λ declared. references_in_part declared inner) (value_at whole.functions handle)
references_in whole (EntryPoint position) = references_found references_of_entry_point (slice_get whole.entry_points.items position)
references_in whole (EntryPointFunction position inner) = references_found (λ entry. references_in_part entry.function inner) (slice_get whole.entry_points.items position)
references_in whole (DiagnosticFilter handle) = references_found references_of_filter (value_at whole.diagnostic_filters handle)
references_in whole DiagnosticFilterLeaf = references_of_leaf whole.diagnostic_filter_leaf
references_in whole TypeComments = references_found (λ comments. map reference.«Type» (keys comments.value.types)) whole.doc_comments
references_in whole MemberComments = references_found (λ comments. map (λ key. reference.«Type» key.0) (keys comments.value.struct_members)) whole.doc_comments
references_in whole FunctionComments = references_found (λ comments. map reference.Function (keys comments.value.functions)) whole.doc_comments
references_in whole ConstantComments = references_found (λ comments. map reference.Constant (keys comments.value.constants)) whole.doc_comments
references_in whole GlobalVariableComments = references_found (λ comments. map reference.GlobalVariable (keys comments.value.global_variables)) whole.doc_comments

-- the number of elements of each arena; outside functions there are no expressions and no local variables
abbrev pub lengths : the_module.Module → Limits
lengths whole = record {
  types = length whole.types;
  constants = length whole.constants;
  overrides = length whole.overrides;
  global_variables = length whole.global_variables;
  global_expressions = length whole.global_expressions;
  expressions = 0;
  local_variables = 0;
  functions = length whole.functions;
  diagnostic_filters = length whole.diagnostic_filters;
}

-- the limits inside a function that is there
abbrev pub limits_found : Limits → Part → Option function.Function → Limits
limits_found limits inner (Some declared) = limits_in_part (limits_inside limits declared) inner
limits_found limits inner None = limits

-- a type refers only to earlier types, an expression to earlier expressions, a function to earlier functions and a
-- filter to an earlier filter; everything else refers to any element
abbrev pub limits_at : the_module.Module → Place → Limits
limits_at whole («Type» handle) = record (lengths whole) { types = handle }
limits_at whole SpecialTypes = lengths whole
limits_at whole (Constant handle) = lengths whole
limits_at whole (Override handle) = lengths whole
limits_at whole (GlobalVariable handle) = lengths whole
limits_at whole (GlobalExpression handle) = record (lengths whole) { expressions = handle }
limits_at whole (Function handle inner) = limits_found (record (lengths whole) { functions = handle }) inner (value_at whole.functions handle)
limits_at whole (EntryPoint position) = lengths whole
limits_at whole (EntryPointFunction position inner) = limits_found (lengths whole) inner (option_map (λ entry. entry.function) (slice_get whole.entry_points.items position))
limits_at whole (DiagnosticFilter handle) = record (lengths whole) { diagnostic_filters = handle }
limits_at whole DiagnosticFilterLeaf = lengths whole
limits_at whole TypeComments = lengths whole
limits_at whole MemberComments = lengths whole
limits_at whole FunctionComments = lengths whole
limits_at whole ConstantComments = lengths whole
limits_at whole GlobalVariableComments = lengths whole
