-- The texts of references, places and errors. A text with names is known if all characters of the names are ASCII.
use Rattle.std.specs.Prelude.{ℕ, List, [], ◌++◌, nat_eq, nat_lt, Option, Some, None, option_and_then, option_map, slice_get, if◌then◌else◌, codes}
use Rattle.std.specs.Fmt.{◌++?◌, debug_str, decimal}
use Rattle.naga_arena.specs.Arena.{value_at}
use Rattle.naga_ir.specs.declared.module.Function as function
use Rattle.naga_ir.specs.declared.module.Module as the_module
use Rattle.naga_valid.specs.ElementNames.{name_of_part, name_of_place}
use Rattle.naga_valid.specs.Faults.{place_of_fault}
use Rattle.naga_valid.specs.declared.invalid_handle.InvalidHandle.{InvalidHandle}
use Rattle.naga_valid.specs.declared.invalid_handle.InvalidHandle.TheVariants.{BadHandle, BadRange, ForwardDependency, NotConstant, InitDependency, SizeDependency, OverrideDependency}
use Rattle.naga_valid.specs.declared.place.Part.{Part}
use Rattle.naga_valid.specs.declared.place.Part.TheVariants as part
use Rattle.naga_valid.specs.declared.place.Place.{Place}
use Rattle.naga_valid.specs.declared.place.Place.TheVariants as place
use Rattle.naga_valid.specs.declared.reference.Reference.{Reference}
use Rattle.naga_valid.specs.declared.reference.Reference.TheVariants as reference

-- what a reference refers to
abbrev pub reference_text : Reference → List ℕ
reference_text (reference.«Type» handle) = codes "type " ++ decimal handle
reference_text (reference.Constant handle) = codes "constant " ++ decimal handle
reference_text (reference.Override handle) = codes "override " ++ decimal handle
reference_text (reference.GlobalVariable handle) = codes "global variable " ++ decimal handle
reference_text (reference.GlobalExpression handle) = codes "global expression " ++ decimal handle
reference_text (reference.Expression handle) = codes "expression " ++ decimal handle
reference_text (reference.Expressions first past) = codes "expressions " ++ decimal first ++ codes ".." ++ decimal past
reference_text (reference.LocalVariable handle) = codes "local variable " ++ decimal handle
reference_text (reference.Function handle) = codes "function " ++ decimal handle
reference_text (reference.DiagnosticFilter handle) = codes "diagnostic filter " ++ decimal handle

-- ---- places

-- a part of a function
abbrev pub part_text : Part → List ℕ
part_text part.Arguments = codes "arguments"
part_text part.Result = codes "result"
part_text (part.LocalVariable handle) = codes "local variable " ++ decimal handle
part_text (part.Expression handle) = codes "expression " ++ decimal handle
part_text part.NamedExpressions = codes "named expressions"
part_text part.Body = codes "body"
part_text part.DiagnosticFilterLeaf = codes "diagnostic filter leaf"

-- a place without the part of a function
abbrev pub element_text : Place → List ℕ
element_text (place.«Type» handle) = codes "type " ++ decimal handle
element_text place.SpecialTypes = codes "special types"
element_text (place.Constant handle) = codes "constant " ++ decimal handle
element_text (place.Override handle) = codes "override " ++ decimal handle
element_text (place.GlobalVariable handle) = codes "global variable " ++ decimal handle
element_text (place.GlobalExpression handle) = codes "global expression " ++ decimal handle
element_text (place.Function handle inner) = codes "function " ++ decimal handle
element_text (place.EntryPoint position) = codes "entry point " ++ decimal position
element_text (place.EntryPointFunction position inner) = codes "entry point " ++ decimal position
element_text (place.DiagnosticFilter handle) = codes "diagnostic filter " ++ decimal handle
element_text place.DiagnosticFilterLeaf = codes "diagnostic filter leaf"
element_text place.TypeComments = codes "doc comments on types"
element_text place.MemberComments = codes "doc comments on members"
element_text place.FunctionComments = codes "doc comments on functions"
element_text place.ConstantComments = codes "doc comments on constants"
element_text place.GlobalVariableComments = codes "doc comments on global variables"

-- the part of a function that a place is
abbrev pub part_of_place : Place → Option Part
part_of_place (place.Function handle inner) = Some inner
part_of_place (place.EntryPointFunction position inner) = Some inner
part_of_place _ = None

-- the function that contains a place
abbrev pub function_of_place : the_module.Module → Place → Option function.Function
function_of_place whole (place.Function handle inner) = value_at whole.functions handle
function_of_place whole (place.EntryPointFunction position inner) =
    option_map (λ entry. entry.function) (slice_get whole.entry_points.items position)
function_of_place whole _ = None

-- a part of a function behind the place of the function
abbrev pub part_behind : Option Part → List ℕ
part_behind None = []
part_behind (Some inner) = codes ", " ++ part_text inner

-- a place
abbrev pub place_text : Place → List ℕ
place_text at = element_text at ++ part_behind (part_of_place at)

-- a name in quotes, behind what has the name
abbrev pub name_text : Option (List ℕ) → Option (List ℕ)
name_text None = Some []
name_text (Some name) = Some (codes " ") ++? debug_str name

-- the name of a part of a function that may not be there
abbrev pub name_inside : Option function.Function → Part → Option (List ℕ)
name_inside whole inner = option_and_then (λ inside. name_of_part inside inner) whole

-- a part of a function with its name, behind the place of the function
abbrev pub named_part_behind : Option function.Function → Option Part → Option (List ℕ)
named_part_behind whole None = Some []
named_part_behind whole (Some inner) = Some (codes ", " ++ part_text inner) ++? name_text (name_inside whole inner)

-- a place without the part of a function, with its name
abbrev pub named_element_text : the_module.Module → Place → Option (List ℕ)
named_element_text whole at = Some (element_text at) ++? name_text (name_of_place whole at)

-- a place with its names in the module
abbrev pub named_place_text : the_module.Module → Place → Option (List ℕ)
named_place_text whole at = named_element_text whole at ++? named_part_behind (function_of_place whole at) (part_of_place at)

-- ---- errors

-- what is wrong with a range that is inverted or is not in its arena
abbrev pub range_fault : (first past : ℕ) → List ℕ
range_fault first past = if nat_lt past first then codes "inverted" else codes "not in its arena"

-- such a range, and what is wrong with it
abbrev pub range_fault_text : (first past : ℕ) → List ℕ
range_fault_text first past =
    codes "range " ++ (decimal first ++ (codes ".." ++ (decimal past ++ (codes " of expressions is " ++ range_fault first past))))

-- a function does not come before one that calls it
abbrev pub late_callee_text : (callee caller : ℕ) → List ℕ
late_callee_text callee caller =
    if nat_eq callee caller then codes "the function calls itself"
    else (codes "function " ++ (decimal callee ++ (codes " must come before function " ++ (decimal caller ++ codes ", which calls it"))))

-- what is wrong with a handle that does not refer to an earlier element
abbrev pub forward_fault_text : Reference → Place → List ℕ
forward_fault_text (reference.Function callee) (place.Function caller inner) = late_callee_text callee caller
forward_fault_text handle at = reference_text handle ++ codes " does not come earlier"

-- an error without its place
abbrev pub invalid_text : InvalidHandle → List ℕ
invalid_text (BadHandle handle at) = reference_text handle ++ codes " is not in its arena"
invalid_text (BadRange first past at) = range_fault_text first past
invalid_text (ForwardDependency handle at) = forward_fault_text handle at
invalid_text (NotConstant handle at) = reference_text handle ++ codes " is not constant"
invalid_text (InitDependency expression handle init) =
    codes "the init of "
    ++ (reference_text handle ++ (codes " is global expression " ++ (decimal init ++ codes ", which does not come earlier")))
invalid_text (SizeDependency ty expression depends_on) =
    codes "its size comes after global expression " ++ (decimal expression ++ (codes ", which depends on type " ++ decimal depends_on))
invalid_text (OverrideDependency ty size depends_on) =
    codes "its size is override " ++ (decimal size ++ (codes ", which depends on type " ++ decimal depends_on))

-- an error
abbrev pub invalid_handle_text : InvalidHandle → List ℕ
invalid_handle_text invalid = place_text (place_of_fault invalid) ++ (codes ": " ++ invalid_text invalid)

-- an error with the names of its place in the module
abbrev pub named_invalid_handle_text : the_module.Module → InvalidHandle → Option (List ℕ)
named_invalid_handle_text whole invalid =
    named_place_text whole (place_of_fault invalid) ++? Some (codes ": " ++ invalid_text invalid)
