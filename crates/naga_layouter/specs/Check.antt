-- The first fault of the layouts of a module.
use Rattle.std.specs.Prelude.{◌≡◌, ⊤, ℕ, List, [], Option, Some, None, Bool, true, false, if◌then◌else◌, length}
use Rattle.std.specs.Option.{option_or}
use Rattle.naga_arena.specs.Arena.{values}
use Rattle.naga_arena.specs.declared.span.Span.{Span}
use Rattle.naga_ir.specs.declared.global_ctx.GlobalCtx.{GlobalCtx}
use Rattle.naga_ir.specs.declared.module.GlobalVariable.{GlobalVariable}
use Rattle.naga_ir.specs.declared.module.Module as the_module
use Rattle.naga_ir.specs.declared.types.«Type».{«Type» as NamedType}
use Rattle.naga_valid.specs.Contexts.{IsContextOf}
use Rattle.naga_layouter.specs.Faults.{fault_by, types_fault}
use Rattle.naga_layouter.specs.Layout.{laying}
use Rattle.naga_layouter.specs.Spaces.{all_space_faults, variables_fault}
use Rattle.naga_layouter.specs.declared.layouter.TypeLayout.{TypeLayout}
use Rattle.naga_layouter.specs.declared.layout_error.LayoutError.{LayoutError}
use Rattle.naga_layouter.specs.declared.layout_error.LayoutErrorInner.{LayoutErrorInner}
use Rattle.naga_layouter.specs.declared.layout_error.LayoutErrorInner.TheVariants.{InvalidStructMemberType}
use Rattle.naga_layouter.specs.declared.layout_error.LayoutErrorInner.TheVariants as lack
use Rattle.naga_layouter.specs.declared.layout_fault.InvalidLayouts.{InvalidLayouts}
use Rattle.naga_layouter.specs.declared.layout_fault.InvalidLayouts.TheVariants.{Memory, Fault}
use Rattle.naga_layouter.specs.declared.layout_fault.LayoutCause.TheVariants.{NoLayout}
use Rattle.naga_layouter.specs.declared.layout_fault.LayoutFault.{LayoutFault}

-- the member that an error is about
abbrev pub member_of : LayoutErrorInner → Option ℕ
member_of (InvalidStructMemberType index member) = Some index
member_of _ = None

-- the first fault of types with these layouts, or else of the types of variables in their spaces
abbrev pub fault_of_parts : List (NamedType × Span) → List (GlobalVariable × Span) → List TypeLayout → Option LayoutFault
fault_of_parts types variables known =
    option_or (types_fault types known 0 (values types))
    (variables_fault (all_space_faults types [] (values types)) (values variables))

-- the fault of the first type that has no layout, after those that have these, or else the fault of the parts of types
abbrev pub fault_after : List (NamedType × Span) → List (GlobalVariable × Span) → List TypeLayout → Option LayoutErrorInner → Option LayoutFault
fault_after types variables known (Some error) = fault_by (length known) (member_of error) (Some (NoLayout error))
fault_after types variables known None = fault_of_parts types variables known

-- the first fault of the layouts of the types of a context, and of these variables
abbrev pub layout_fault : GlobalCtx → List (GlobalVariable × Span) → Option LayoutFault
layout_fault ctx variables =
    let laid = laying ctx [] (values ctx.types.now) in fault_after ctx.types.now variables laid.0 laid.1

-- the cause is that an allocation failed
abbrev pub is_memory : LayoutErrorInner → Bool
is_memory lack.Memory = true
is_memory _ = false

-- the error by which the check of layouts fails, if a type has no layout
abbrev pub invalid_of : LayoutError → InvalidLayouts
invalid_of error =
    if is_memory error.inner then Memory
    else Fault (record { ty = error.ty; member = member_of error.inner; cause = NoLayout error.inner })

-- the first fault of the layouts of a module, in a context of it
abbrev pub FirstFaultIs : the_module.Module → Option LayoutFault → Type 0
FirstFaultIs whole fault = (ctx : GlobalCtx) × IsContextOf whole ctx × (layout_fault ctx whole.global_variables ≡ fault)

-- the error is the fault that was found; nothing is said if an allocation failed
abbrev pub IsFaultOf : (found : Option LayoutFault) → InvalidLayouts → Type 0
IsFaultOf found Memory = ⊤
IsFaultOf found (Fault fault) = found ≡ Some fault

-- the error is the first fault of the layouts of a module
abbrev pub IsInvalid : the_module.Module → InvalidLayouts → Type 0
IsInvalid whole Memory = ⊤
IsInvalid whole (Fault fault) = FirstFaultIs whole (Some fault)
