-- The names of the elements of a module, as UTF-8 bytes.
use Rattle.std.specs.Prelude.{ℕ, List, Option, None, String, string_bytes, nat_eq, option_and_then, option_map, slice_get}
use Rattle.std.specs.declared.alloc.Global.{Global}
use Rattle.indexmap.specs.IndexMap.{get_by}
use Rattle.naga_arena.specs.Arena.{value_at}
use Rattle.naga_ir.specs.declared.module.Function as function
use Rattle.naga_ir.specs.declared.module.Module as the_module
use Rattle.naga_valid.specs.declared.place.Part.{Part}
use Rattle.naga_valid.specs.declared.place.Part.TheVariants as part
use Rattle.naga_valid.specs.declared.place.Place.{Place}
use Rattle.naga_valid.specs.declared.place.Place.TheVariants as place

-- the text of a name, if there is one
abbrev pub text_of : Option (String Global) → Option (List ℕ)
text_of = option_map string_bytes

-- the name of an element, if the element is there and has a name
abbrev pub name_found : {X : Type 0} → (X → Option (String Global)) → Option X → Option (List ℕ)
name_found name element = text_of (option_and_then name element)

-- the name of the local variable or of the expression that a part of a function is
abbrev pub name_of_part : function.Function → Part → Option (List ℕ)
name_of_part whole (part.LocalVariable handle) = name_found (λ declared. declared.name) (value_at whole.local_variables handle)
name_of_part whole (part.Expression handle) = text_of (get_by (nat_eq handle) whole.named_expressions)
name_of_part whole part.Arguments = None
name_of_part whole part.Result = None
name_of_part whole part.NamedExpressions = None
name_of_part whole part.Body = None
name_of_part whole part.DiagnosticFilterLeaf = None

-- the name of the element of the module that a place is, or of the function or the entry point that contains it
abbrev pub name_of_place : the_module.Module → Place → Option (List ℕ)
name_of_place whole (place.«Type» handle) = name_found (λ type. type.name) (value_at whole.types handle)
name_of_place whole (place.Constant handle) = name_found (λ declared. declared.name) (value_at whole.constants handle)
name_of_place whole (place.Override handle) = name_found (λ declared. declared.name) (value_at whole.overrides handle)
name_of_place whole (place.GlobalVariable handle) = name_found (λ declared. declared.name) (value_at whole.global_variables handle)
name_of_place whole (place.Function handle inner) = name_found (λ declared. declared.name) (value_at whole.functions handle)
name_of_place whole (place.EntryPoint position) = option_map (λ entry. string_bytes entry.name) (slice_get whole.entry_points.items position)
name_of_place whole (place.EntryPointFunction position inner) = option_map (λ entry. string_bytes entry.name) (slice_get whole.entry_points.items position)
name_of_place whole place.SpecialTypes = None
name_of_place whole (place.GlobalExpression handle) = None
name_of_place whole (place.DiagnosticFilter handle) = None
name_of_place whole place.DiagnosticFilterLeaf = None
name_of_place whole place.TypeComments = None
name_of_place whole place.MemberComments = None
name_of_place whole place.FunctionComments = None
name_of_place whole place.ConstantComments = None
name_of_place whole place.GlobalVariableComments = None
