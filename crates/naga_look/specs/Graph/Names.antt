-- The names of what expressions and statements refer to.
use Rattle.std.specs.Prelude.{ℕ, List, Option, None, slice_get}
use Rattle.naga_ir.specs.declared.expression.Expression.{Expression}
use Rattle.naga_ir.specs.declared.expression.Expression.TheVariants as expression
use Rattle.naga_ir.specs.declared.module.Function as function
use Rattle.naga_ir.specs.declared.module.Module as the_module
use Rattle.naga_ir.specs.declared.statement.Statement.{Statement, Call}
use Rattle.naga_valid.specs.ElementNames.{name_found, name_of_part, name_of_place}
use Rattle.naga_valid.specs.declared.place.Part.TheVariants as part
use Rattle.naga_valid.specs.declared.place.Place.TheVariants as place

-- the name of the function with a handle, if it is there and has one
abbrev pub function_name : the_module.Module → ℕ → Option (List ℕ)
function_name whole handle = name_of_place whole (place.Function handle part.Body)

-- the name of the argument of a function at an index, if it is there and has one
abbrev pub argument_name : function.Function → ℕ → Option (List ℕ)
argument_name declared index = name_found (λ one. one.name) (slice_get declared.arguments.items index)

-- the name of the constant, the override, the variable, the argument or the function to which an expression refers
abbrev pub referent_name : the_module.Module → function.Function → Expression → Option (List ℕ)
referent_name whole declared (expression.Constant handle) = name_of_place whole (place.Constant handle)
referent_name whole declared (expression.Override handle) = name_of_place whole (place.Override handle)
referent_name whole declared (expression.GlobalVariable handle) = name_of_place whole (place.GlobalVariable handle)
referent_name whole declared (expression.LocalVariable handle) = name_of_part declared (part.LocalVariable handle)
referent_name whole declared (expression.FunctionArgument index) = argument_name declared index
referent_name whole declared (expression.CallResult handle) = function_name whole handle
referent_name whole declared other = None

-- the name of the function that a statement calls
abbrev pub called_name : the_module.Module → Statement → Option (List ℕ)
called_name whole (Call handle arguments result) = function_name whole handle
called_name whole statement = None
