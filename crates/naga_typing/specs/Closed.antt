-- The functions that return nothing, or whose closed bodies got no return.
use Rattle.std.specs.Prelude.{◌≡◌, ◌⊎◌, All, None}
use Rattle.naga_ir.specs.View.{tree_of}
use Rattle.naga_ir.specs.declared.module.Function as function
use Rattle.naga_ir.specs.declared.module.Module as the_module
use Rattle.naga_flow.specs.Bodies.{functions_of, functions_of_entries}
use Rattle.naga_proc.specs.Closing.{closed}
use Rattle.naga_proc.specs.declared.terminator.rule.Rule.{Rule}

-- the function has no result, or its body is closed already
abbrev pub HasNoResult : Rule → function.Function → Type 0
HasNoResult rule inside = (inside.result ≡ None) ⊎ (closed rule (tree_of inside.body) ≡ tree_of inside.body)

-- each function and each entry point that gets a return has no result
abbrev pub ClosesWithoutResult : Rule → the_module.Module → Type 0
ClosesWithoutResult rule whole =
    All (HasNoResult rule) (functions_of whole) × All (HasNoResult rule) (functions_of_entries whole.entry_points.items)
