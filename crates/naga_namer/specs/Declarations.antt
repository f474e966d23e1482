-- What a module declares: keys, each with the label from which its name is made.
--
-- The members of each structure are in a scope of their own. All else is in one scope, in which the types come first.
use Rattle.std.specs.Prelude.{ℕ, ◌+◌, List, [], ◌∷◌, ◌++◌, Bool, false, if◌then◌else◌, Option, Some, None, codes, fold, map, nat_eq, slice_get, string_bytes}
use Rattle.std.specs.Option.{option_map_or}
use Rattle.std.specs.declared.string.String.{String}
use Rattle.std.specs.declared.alloc.Global.{Global}
use Rattle.naga_arena.specs.Arena.{values}
use Rattle.naga_kinds.specs.declared.entry_point.ShaderStage.{ShaderStage}
use Rattle.naga_kinds.specs.declared.entry_point.ShaderStage.TheVariants.{Vertex, Fragment, Compute}
use Rattle.naga_ir.specs.declared.module.Constant as constant
use Rattle.naga_ir.specs.declared.module.EntryPoint as entry_point
use Rattle.naga_ir.specs.declared.module.Function as function
use Rattle.naga_ir.specs.declared.module.FunctionArgument as function_argument
use Rattle.naga_ir.specs.declared.module.FunctionResult as function_result
use Rattle.naga_ir.specs.declared.module.GlobalVariable as global_variable
use Rattle.naga_ir.specs.declared.module.LocalVariable as local_variable
use Rattle.naga_ir.specs.declared.module.Module as the_module
use Rattle.naga_ir.specs.declared.module.Override as override
use Rattle.naga_ir.specs.declared.types.StructMember.{StructMember}
use Rattle.naga_ir.specs.declared.types.«Type».{«Type» as NamedType}
use Rattle.naga_ir.specs.declared.types.TypeInner.{TypeInner}
use Rattle.naga_ir.specs.declared.types.TypeInner.TheVariants.{Struct}
use Rattle.naga_namer.specs.Names.{label_or}
use Rattle.naga_namer.specs.declared.name_key.BodyKey.{BodyKey}
use Rattle.naga_namer.specs.declared.name_key.BodyKey.TheVariants as body
use Rattle.naga_namer.specs.declared.name_key.NameKey.{NameKey}
use Rattle.naga_namer.specs.declared.name_key.NameKey.TheVariants as key

-- A key and its label.
abbrev pub Declaration : Type 0
Declaration = NameKey × List ℕ

-- A key and its name.
abbrev pub Entry : Type 0
Entry = NameKey × String Global

-- the text of a name
abbrev pub text_of : Entry → List ℕ
text_of entry = string_bytes entry.1

-- what is made of each item and its position, one after another, where the first position is given
abbrev pub each : {A B : Type 0} → (ℕ → A → List B) → ℕ → List A → List B
each make position [] = []
each make position (x ∷ xs) = make position x ++ each make (position + 1) xs

-- ---- types

-- the label of a structure without a name that is the result of an entry point of this stage
abbrev pub output_label : ShaderStage → List ℕ
output_label Vertex = codes "VertexOutput"
output_label Fragment = codes "FragmentOutput"
output_label Compute = codes "ComputeOutput"
output_label _ = codes "type"

-- the result of the function has the type with this handle
abbrev pub returns_type : ℕ → Option function_result.FunctionResult → Bool
returns_type ty None = false
returns_type ty (Some returned) = nat_eq returned.ty ty

-- the stage of each type, after that of one more entry point
abbrev pub stage_after : (ℕ → Option ShaderStage) → entry_point.EntryPoint → (ty : ℕ) → Option ShaderStage
stage_after stage_of entry ty = if returns_type ty entry.function.result then Some entry.stage else stage_of ty

-- the stage of the last entry point whose result has the type
abbrev pub stage_of_result : List entry_point.EntryPoint → (ty : ℕ) → Option ShaderStage
stage_of_result entries = fold stage_after (λ ty. None) entries

-- the label of a type without a name
abbrev pub unnamed_type_label : Option ShaderStage → TypeInner → List ℕ
unnamed_type_label (Some stage) (Struct members span) = output_label stage
unnamed_type_label _ _ = codes "type"

-- the types, each with the stage of an entry point that returns it, if there is one
abbrev pub declarations_of_types : (stage_of : ℕ → Option ShaderStage) → List NamedType → List Declaration
declarations_of_types stage_of = each (λ ty (type : NamedType).
    (key.«Type» ty, label_or (unnamed_type_label (stage_of ty) type.inner) type.name) ∷ []) 0

abbrev pub type_declarations : the_module.Module → List Declaration
type_declarations whole = declarations_of_types (stage_of_result whole.entry_points.items) (values whole.types)

-- ---- functions

-- the key of a function or of an entry point itself
abbrev pub body_key : BodyKey → NameKey
body_key (body.Function handle) = key.Function handle
body_key (body.EntryPoint index) = key.EntryPoint index

-- the key of an argument
abbrev pub argument_key : BodyKey → ℕ → NameKey
argument_key (body.Function handle) index = key.FunctionArgument handle index
argument_key (body.EntryPoint entry) index = key.EntryPointArgument entry index

-- the key of a local variable
abbrev pub local_key : BodyKey → ℕ → NameKey
local_key (body.Function handle) local = key.FunctionLocal handle local
local_key (body.EntryPoint entry) local = key.EntryPointLocal entry local

abbrev pub argument_declarations : BodyKey → List function_argument.FunctionArgument → List Declaration
argument_declarations owner = each (λ index (argument : function_argument.FunctionArgument).
    (argument_key owner index, label_or (codes "param") argument.name) ∷ []) 0

abbrev pub local_declarations : BodyKey → List local_variable.LocalVariable → List Declaration
local_declarations owner = each (λ index (local : local_variable.LocalVariable).
    (local_key owner index, label_or (codes "local") local.name) ∷ []) 0

-- a function, its arguments and its variables
abbrev pub body_declarations : BodyKey → (label : List ℕ) → function.Function → List Declaration
body_declarations owner label whole = (body_key owner, label)
    ∷ (argument_declarations owner whole.arguments.items ++ local_declarations owner (values whole.local_variables))

abbrev pub entry_point_declarations : List entry_point.EntryPoint → List Declaration
entry_point_declarations = each (λ index (entry : entry_point.EntryPoint).
    body_declarations (body.EntryPoint index) (string_bytes entry.name) entry.function) 0

abbrev pub function_declarations : List function.Function → List Declaration
function_declarations = each (λ index (whole : function.Function).
    body_declarations (body.Function index) (label_or (codes "function") whole.name) whole) 0

-- ---- variables and constants

abbrev pub global_declarations : List global_variable.GlobalVariable → List Declaration
global_declarations = each (λ index (global : global_variable.GlobalVariable).
    (key.GlobalVariable index, label_or (codes "global") global.name) ∷ []) 0

-- the name of the type with this handle, or the empty text if there is none
abbrev pub name_of_type : (types : List Entry) → ℕ → List ℕ
name_of_type types ty = option_map_or text_of (slice_get types ty) []

-- A constant without a name has the label `const_` and the name of its type.
abbrev pub constant_declarations : (types : List Entry) → List constant.Constant → List Declaration
constant_declarations types = each (λ index (value : constant.Constant).
    (key.Constant index, label_or (codes "const_" ++ name_of_type types value.ty) value.name) ∷ []) 0

-- An override without a name has the label `override_` and the name of its type.
abbrev pub override_declarations : (types : List Entry) → List override.Override → List Declaration
override_declarations types = each (λ index (value : override.Override).
    (key.Override index, label_or (codes "override_" ++ name_of_type types value.ty) value.name) ∷ []) 0

-- all that is in the scope of the module, except the types, whose names are given
abbrev pub other_declarations : (types : List Entry) → the_module.Module → List Declaration
other_declarations types whole = entry_point_declarations whole.entry_points.items
    ++ (function_declarations (values whole.functions)
    ++ (global_declarations (values whole.global_variables)
    ++ (constant_declarations types (values whole.constants)
    ++ override_declarations types (values whole.overrides))))

-- ---- members

abbrev pub members_of_structure : (ty : ℕ) → List StructMember → List Declaration
members_of_structure ty = each (λ index (member : StructMember).
    (key.StructMember ty index, label_or (codes "member") member.name) ∷ []) 0

-- the members of the type with this handle, if it is a structure
abbrev pub member_declarations : (ty : ℕ) → TypeInner → List Declaration
member_declarations ty (Struct members span) = members_of_structure ty members.items
member_declarations ty _ = []

-- the scopes of the members of types
abbrev pub member_scopes : List NamedType → List (List Declaration)
member_scopes = each (λ ty (type : NamedType). member_declarations ty type.inner ∷ []) 0

-- ---- keys and labels

abbrev pub keys_of_declarations : List Declaration → List NameKey
keys_of_declarations = map (λ declaration. declaration.0)

abbrev pub labels_of_declarations : List Declaration → List (List ℕ)
labels_of_declarations = map (λ declaration. declaration.1)

-- a key for each item, by its position
abbrev pub key_of_each : {A : Type 0} → (ℕ → NameKey) → List A → List NameKey
key_of_each make = each (λ position _. make position ∷ []) 0

-- a function or an entry point, its arguments and its local variables
abbrev pub keys_of_body : BodyKey → function.Function → List NameKey
keys_of_body owner whole = body_key owner
    ∷ (key_of_each (argument_key owner) whole.arguments.items ++ key_of_each (local_key owner) (values whole.local_variables))

-- the members of the type with this handle, if it is a structure
abbrev pub keys_of_members : (ty : ℕ) → TypeInner → List NameKey
keys_of_members ty (Struct members span) = key_of_each (key.StructMember ty) members.items
keys_of_members ty _ = []

abbrev pub keys_of_entry_points : List entry_point.EntryPoint → List NameKey
keys_of_entry_points = each (λ index (entry : entry_point.EntryPoint). keys_of_body (body.EntryPoint index) entry.function) 0

abbrev pub keys_of_functions : List function.Function → List NameKey
keys_of_functions = each (λ index (whole : function.Function). keys_of_body (body.Function index) whole) 0

-- The keys of a module: types, entry points and functions with their arguments and local variables, global variables, constants,
-- overrides, and members.
abbrev pub keys_of_module : the_module.Module → List NameKey
keys_of_module whole = key_of_each key.«Type» (values whole.types)
    ++ (keys_of_entry_points whole.entry_points.items
    ++ (keys_of_functions (values whole.functions)
    ++ (key_of_each key.GlobalVariable (values whole.global_variables)
    ++ (key_of_each key.Constant (values whole.constants)
    ++ (key_of_each key.Override (values whole.overrides)
    ++ each (λ ty (type : NamedType). keys_of_members ty type.inner) 0 (values whole.types))))))
