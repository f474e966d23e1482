-- The bodies of functions and of entry points that pass both checks, and the first fault of a module.
use Rattle.std.specs.Prelude.{◌≡◌, ◌⊎◌, ℕ, true, List, [], map, take, All, Some, slice_get}
use Rattle.naga_arena.specs.Arena.{values}
use Rattle.naga_ir.specs.View.{tree_of}
use Rattle.naga_ir.specs.declared.module.EntryPoint as entry_point
use Rattle.naga_ir.specs.declared.module.Function as function
use Rattle.naga_ir.specs.declared.module.Module as the_module
use Rattle.naga_flow.specs.Jumps.{IsMisplaced}
use Rattle.naga_flow.specs.Misuses.{BlockMisuse}
use Rattle.naga_flow.specs.Scopes.{BlockPasses}
use Rattle.naga_flow.specs.Structured.{jumps_are_structured}
use Rattle.naga_flow.specs.Uses.{expressions_in}
use Rattle.naga_flow.specs.declared.bodies.BodyOwner.{BodyOwner}
use Rattle.naga_flow.specs.declared.bodies.BodyOwner.TheVariants as owner
use Rattle.naga_flow.specs.declared.bodies.InvalidBody.{InvalidBody}
use Rattle.naga_flow.specs.declared.bodies.InvalidBody.TheVariants as invalid

-- each jump of the body is allowed where it is, and each expression is evaluated before its value is used, and not again
-- in its scope
abbrev pub BodyPasses : function.Function → Type 0
BodyPasses whole =
    (jumps_are_structured (tree_of whole.body) ≡ true) × BlockPasses (expressions_in whole.expressions) [] [] (tree_of whole.body)

-- the error is the first one of the body: of its jumps, or if each of these is allowed, of its uses, whose check allocates
abbrev pub HasFault : function.Function → InvalidBody → Type 0
HasFault whole invalid.Memory = jumps_are_structured (tree_of whole.body) ≡ true
HasFault whole (invalid.Jump misplaced) = IsMisplaced (tree_of whole.body) misplaced
HasFault whole (invalid.Use misuse) =
    (jumps_are_structured (tree_of whole.body) ≡ true)
    × BlockMisuse (expressions_in whole.expressions) 0 [] [] (tree_of whole.body) misuse

-- the function at this position has the error, and those before it pass
pub record IsFaultAt (functions : List function.Function) (position : ℕ) (error : InvalidBody) : Type 0 where
  pub whole : function.Function
  pub at : slice_get functions position ≡ Some whole
  pub fault : HasFault whole error
  pub earlier : All BodyPasses (take position functions)

abbrev pub functions_of : the_module.Module → List function.Function
functions_of whole = values whole.functions

abbrev pub functions_of_entries : List entry_point.EntryPoint → List function.Function
functions_of_entries = map (λ (entry : entry_point.EntryPoint). entry.function)

-- the body of each function and of each entry point passes
abbrev pub BodiesPass : the_module.Module → Type 0
BodiesPass whole = All BodyPasses (functions_of whole) × All BodyPasses (functions_of_entries whole.entry_points.items)

-- the first error of the functions that are not entry points
abbrev pub IsFaultOfFunctions : List function.Function → BodyOwner → InvalidBody → Type 0
IsFaultOfFunctions functions (owner.Function handle) error = IsFaultAt functions handle error
IsFaultOfFunctions functions (owner.EntryPoint position) error = ⊥

-- the first error of the functions of entry points
abbrev pub IsFaultOfEntries : List function.Function → BodyOwner → InvalidBody → Type 0
IsFaultOfEntries functions (owner.Function handle) error = ⊥
IsFaultOfEntries functions (owner.EntryPoint position) error = IsFaultAt functions position error

-- the first error of a module: the functions come before the entry points
abbrev pub IsFaultOf : the_module.Module → BodyOwner → InvalidBody → Type 0
IsFaultOf whole owner error =
    IsFaultOfFunctions (functions_of whole) owner error
    ⊎ (All BodyPasses (functions_of whole) × IsFaultOfEntries (functions_of_entries whole.entry_points.items) owner error)
