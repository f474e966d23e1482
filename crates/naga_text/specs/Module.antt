-- The text of a module: a line for each declaration, and the lines of each function.
use Rattle.std.specs.Prelude.{ℕ, List, [], ◌∷◌, ◌++◌, ◌==◌, if◌then◌else◌, Option, Some, None, String, codes, flat_map, slice_get, string_bytes, string_eq}
use Rattle.std.specs.Int.RustNames.{bit_and}
use Rattle.std.specs.List.{enumerate_from}
use Rattle.std.specs.Option.{option_eq, option_map}
use Rattle.std.specs.declared.alloc.Global.{Global}
use Rattle.naga_arena.specs.Arena.{value_at, values}
use Rattle.naga_kinds.specs.derived.Names.{shader_stage_name}
use Rattle.naga_kinds.specs.declared.binding.ResourceBinding.{ResourceBinding}
use Rattle.naga_kinds.specs.declared.flags.MemoryDecorations.{MemoryDecorations}
use Rattle.naga_ir.specs.Tree.{Tree}
use Rattle.naga_ir.specs.View.{tree_of}
use Rattle.naga_ir.specs.declared.expression.Expression.{Expression}
use Rattle.naga_ir.specs.declared.module.Constant as constant
use Rattle.naga_ir.specs.declared.module.EntryPoint as entry_point
use Rattle.naga_ir.specs.declared.module.Function as function
use Rattle.naga_ir.specs.declared.module.FunctionArgument as argument
use Rattle.naga_ir.specs.declared.module.FunctionResult as result
use Rattle.naga_ir.specs.declared.module.GlobalVariable as global
use Rattle.naga_ir.specs.declared.module.LocalVariable as local
use Rattle.naga_ir.specs.declared.module.Module as the_module
use Rattle.naga_ir.specs.declared.module.Override as override
use Rattle.naga_arena.specs.declared.span.Span.{Span}
use Rattle.naga_ir.specs.declared.types.«Type».{«Type» as Declared}
use Rattle.naga_typifier.specs.declared.resolution.TypeResolution.{TypeResolution}
use Rattle.naga_valid.specs.Declarations.{references_of_constant, references_of_global_variable, references_of_local_variable, references_of_override}
use Rattle.naga_valid.specs.ElementNames.{name_of_part, text_of}
use Rattle.naga_valid.specs.declared.place.Part.TheVariants as part
use Rattle.naga_text.specs.Blocks.{tree_text}
use Rattle.naga_text.specs.Expressions.{expression_text}
use Rattle.naga_text.specs.Operands.{between, references_text}
use Rattle.naga_text.specs.Resolved.{resolved_text, types_in}
use Rattle.naga_text.specs.Types.{optional_binding, type_line, type_text}
use Rattle.naga_text.specs.derived.AddressSpace.{address_space_text}
use Rattle.naga_text.specs.Words.{flag, name_text, number, quoted, word}

-- ---- declarations

-- what is declared, its index and its name
abbrev pub declared_text : List ℕ → ℕ → Option (List ℕ) → List ℕ
declared_text what index name = what ++ (number index ++ name_text name)

-- a constant: its type and its value
abbrev pub constant_line : ℕ × constant.Constant → List ℕ
constant_line entry =
    declared_text (codes "constant") entry.0 (text_of (entry.1).name) ++ (references_text (references_of_constant entry.1) ++ codes "\n")

abbrev pub optional_id : Option ℕ → List ℕ
optional_id (Some id) = codes " id" ++ number id
optional_id None = []

-- an override: its number, its type and its value
abbrev pub override_line : ℕ × override.Override → List ℕ
override_line entry =
    declared_text (codes "override") entry.0 (text_of (entry.1).name)
    ++ (optional_id (entry.1).id ++ (references_text (references_of_override entry.1) ++ codes "\n"))

-- the place at which a pipeline finds a variable
abbrev pub optional_place : Option ResourceBinding → List ℕ
optional_place (Some place) = (codes " group" ++ number place.group) ++ (codes " binding" ++ number place.binding)
optional_place None = []

abbrev pub decorations_text : MemoryDecorations → List ℕ
decorations_text decorations =
    flag (bit_and decorations.0 1 == 1) (codes "coherent") ++ flag (bit_and decorations.0 2 == 2) (codes "volatile")

-- where a variable is: its address space, its binding and its decorations
abbrev pub storage_text : global.GlobalVariable → List ℕ
storage_text declared = address_space_text declared.space ++ (optional_place declared.binding ++ decorations_text declared.memory_decorations)

-- a global variable: where it is, its type and its value
abbrev pub global_line : ℕ × global.GlobalVariable → List ℕ
global_line entry =
    declared_text (codes "global") entry.0 (text_of (entry.1).name)
    ++ (storage_text entry.1 ++ (references_text (references_of_global_variable entry.1) ++ codes "\n"))

-- a global expression
abbrev pub global_expression_line : ℕ × Expression → List ℕ
global_expression_line entry = between (codes "expression [") entry.0 (codes "] = ") ++ (expression_text entry.1 ++ codes "\n")

-- ---- functions

-- an argument: its type and its binding
abbrev pub argument_line : ℕ × argument.FunctionArgument → List ℕ
argument_line entry =
    declared_text (codes "    argument") entry.0 (text_of (entry.1).name) ++ ((type_text (entry.1).ty ++ optional_binding (entry.1).binding) ++ codes "\n")

-- the result: its type and its binding
abbrev pub result_line : Option result.FunctionResult → List ℕ
result_line (Some declared) = codes "    result" ++ ((type_text declared.ty ++ optional_binding declared.binding) ++ codes "\n")
result_line None = []

-- a local variable: its type and its value
abbrev pub local_line : ℕ × local.LocalVariable → List ℕ
local_line entry =
    declared_text (codes "    local") entry.0 (text_of (entry.1).name) ++ (references_text (references_of_local_variable entry.1) ++ codes "\n")

-- an expression with its handle, its name if it has one, and its type; `resolved` are the types of the first expressions
abbrev pub expression_line : (types : List (Declared × Span)) → (resolved : List TypeResolution) → function.Function → ℕ × Expression → List ℕ
expression_line types resolved declared entry =
    (between (codes "    [") entry.0 (codes "]") ++ name_text (name_of_part declared (part.Expression entry.0)))
    ++ ((codes ":" ++ resolved_text types (slice_get resolved entry.0)) ++ (codes " = " ++ (expression_text entry.1 ++ codes "\n")))

-- the arguments, the result and the local variables of a function
abbrev pub signature_lines : function.Function → List ℕ
signature_lines declared =
    flat_map argument_line (enumerate_from 0 declared.arguments.items)
    ++ (result_line declared.result ++ flat_map local_line (enumerate_from 0 (values declared.local_variables)))

-- the lines of a function: its signature, its expressions and its body; `old` is the counterpart of the body
abbrev pub function_body : (old : Option Tree) → the_module.Module → function.Function → List ℕ
function_body old owner declared =
    signature_lines declared
    ++ (flat_map (expression_line owner.types (types_in owner declared) declared) (enumerate_from 0 (values declared.expressions))
    ++ tree_text (codes "    ") old (tree_of declared.body))

-- the lines of a function in braces
abbrev pub braced : (old : Option Tree) → the_module.Module → function.Function → List ℕ
braced old owner declared = codes " {\n" ++ (function_body old owner declared ++ codes "}\n")

-- the body of a function that has this name
abbrev pub body_if_named : Option (String Global) → Option function.Function → Option Tree
body_if_named name None = None
body_if_named name (Some declared) = if option_eq string_eq declared.name name then Some (tree_of declared.body) else None

-- the counterpart of the body of a function: the body of the function of the old module with the same handle, if the two
-- have the same name, or none has one
abbrev pub body_before : (old : Option the_module.Module) → ℕ × function.Function → Option Tree
body_before None entry = None
body_before (Some old) entry = body_if_named (entry.1).name (value_at old.functions entry.0)

-- a function of the module
abbrev pub function_lines : (old : Option the_module.Module) → the_module.Module → ℕ × function.Function → List ℕ
function_lines old owner entry =
    declared_text (codes "function") entry.0 (text_of (entry.1).name) ++ braced (body_before old entry) owner entry.1

-- numbers, one after another
abbrev pub numbers : List ℕ → List ℕ
numbers [] = []
numbers (n ∷ others) = number n ++ numbers others

-- the stage of an entry point, and the size of its workgroups
abbrev pub stage_text : entry_point.EntryPoint → List ℕ
stage_text entry = word (shader_stage_name entry.stage) ++ (codes " workgroup" ++ numbers entry.workgroup_size)

abbrev pub entry_body : entry_point.EntryPoint → Tree
entry_body entry = tree_of entry.function.body

-- the counterpart of the body of an entry point: the body of the entry point of the old module at the same position
abbrev pub entry_body_before : (old : Option the_module.Module) → (position : ℕ) → Option Tree
entry_body_before None position = None
entry_body_before (Some old) position = option_map entry_body (slice_get old.entry_points.items position)

-- an entry point
abbrev pub entry_point_lines : (old : Option the_module.Module) → the_module.Module → ℕ × entry_point.EntryPoint → List ℕ
entry_point_lines old owner entry =
    (codes "entry point" ++ (number entry.0 ++ quoted (string_bytes (entry.1).name)))
    ++ (stage_text entry.1 ++ braced (entry_body_before old entry.0) owner (entry.1).function)

-- ---- modules

-- the types, the constants, the overrides and the global variables
abbrev pub declaration_lines : the_module.Module → List ℕ
declaration_lines whole =
    flat_map type_line (enumerate_from 0 (values whole.types))
    ++ (flat_map constant_line (enumerate_from 0 (values whole.constants))
    ++ (flat_map override_line (enumerate_from 0 (values whole.overrides))
    ++ flat_map global_line (enumerate_from 0 (values whole.global_variables))))

-- the global expressions, the functions and the entry points
abbrev pub definition_lines : (old : Option the_module.Module) → the_module.Module → List ℕ
definition_lines old whole =
    flat_map global_expression_line (enumerate_from 0 (values whole.global_expressions))
    ++ (flat_map (function_lines old whole) (enumerate_from 0 (values whole.functions))
    ++ flat_map (entry_point_lines old whole) (enumerate_from 0 whole.entry_points.items))

-- a module, with marks if there is an old module with which it is compared
abbrev pub text_after : (old : Option the_module.Module) → the_module.Module → List ℕ
text_after old whole = declaration_lines whole ++ definition_lines old whole

-- a module
abbrev pub module_text : the_module.Module → List ℕ
module_text = text_after None

-- a module, with a mark at each return that the old module does not have at the same place
abbrev pub module_text_compared : (old new : the_module.Module) → List ℕ
module_text_compared old new = text_after (Some old) new
