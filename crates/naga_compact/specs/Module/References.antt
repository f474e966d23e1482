-- The handles that the elements and the entry points of a module contain.
use Rattle.std.specs.Prelude.{◌<◌, List, [], ◌++◌, map, length}
use Rattle.std.specs.List.{flat_map}
use Rattle.naga_arena.specs.Arena.{value_at, values}
use Rattle.naga_ir.specs.declared.module.EntryPoint as entry_point
use Rattle.naga_ir.specs.declared.module.Function as function
use Rattle.naga_ir.specs.declared.module.Module as the_module
use Rattle.naga_valid.specs.Declarations.{references_of_constant, references_of_global_variable, references_of_local_variable, references_of_override, references_of_type}
use Rattle.naga_valid.specs.Expressions.{references_of_expression}
use Rattle.naga_valid.specs.Places.{references_found, references_in_part, references_of_entry_point}
use Rattle.naga_valid.specs.declared.reference.Reference.{Reference}
use Rattle.naga_valid.specs.declared.reference.Reference.TheVariants.{«Type», Constant, Override, GlobalVariable, GlobalExpression, Expression, Function}
use Rattle.naga_valid.specs.declared.place.Part.TheVariants as part

-- the handle is one of an element of the module; handles inside functions and handles of diagnostic filters are not
abbrev pub IsElement : the_module.Module → Reference → Type 0
IsElement whole («Type» handle) = handle < length whole.types
IsElement whole (Constant handle) = handle < length whole.constants
IsElement whole (Override handle) = handle < length whole.overrides
IsElement whole (GlobalVariable handle) = handle < length whole.global_variables
IsElement whole (GlobalExpression handle) = handle < length whole.global_expressions
IsElement whole (Function handle) = handle < length whole.functions
IsElement whole _ = ⊥

-- what a function contains, except for the keys of its named expressions and its innermost diagnostic filter
abbrev pub references_of_function : function.Function → List Reference
references_of_function declared =
    references_in_part declared part.Arguments
    ++ (references_in_part declared part.Result
    ++ (flat_map references_of_local_variable (values declared.local_variables)
    ++ (flat_map references_of_expression (values declared.expressions)
    ++ references_in_part declared part.Body)))

-- an operand of a global expression is a global expression; any other handle is unchanged
abbrev pub as_global : Reference → Reference
as_global (Expression handle) = GlobalExpression handle
as_global other = other

-- what an element of the module contains
abbrev pub references_of_element : the_module.Module → Reference → List Reference
references_of_element whole («Type» handle) = references_found references_of_type (value_at whole.types handle)
references_of_element whole (Constant handle) = references_found references_of_constant (value_at whole.constants handle)
references_of_element whole (Override handle) = references_found references_of_override (value_at whole.overrides handle)
references_of_element whole (GlobalVariable handle) = references_found references_of_global_variable (value_at whole.global_variables handle)
references_of_element whole (GlobalExpression handle) = map as_global (references_found references_of_expression (value_at whole.global_expressions handle))
references_of_element whole (Function handle) = references_found references_of_function (value_at whole.functions handle)
references_of_element whole _ = []

-- what an entry point contains, in its function, too
abbrev pub references_of_whole_entry_point : entry_point.EntryPoint → List Reference
references_of_whole_entry_point entry = references_of_entry_point entry ++ references_of_function entry.function
