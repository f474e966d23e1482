-- The type that is found where another one is required, in short.
use Rattle.std.specs.Prelude.{ℕ, Option, Some, None, option_and_then}
use Rattle.std.specs.Option.{option_map}
use Rattle.naga_ir.specs.declared.types.TypeInner.{TypeInner}
use Rattle.naga_ir.specs.declared.types.TypeInner.TheVariants as inner
use Rattle.naga_typifier.specs.Context.{Context}
use Rattle.naga_typifier.specs.declared.resolution.TypeResolution.{TypeResolution}
use Rattle.naga_typifier.specs.declared.resolution.TypeResolution.TheVariants as resolution
use Rattle.naga_typing.specs.declared.found.FoundType.{FoundType}
use Rattle.naga_typing.specs.declared.found.Shape.{Shape}
use Rattle.naga_typing.specs.declared.found.Shape.TheVariants as shape
use Rattle.naga_typing.specs.declared.requirement.Requirement.{Requirement}
use Rattle.naga_typing.specs.declared.requirement.Requirement.TheVariants as requirement

-- the contents of a type, without their lists
abbrev pub shape_of : TypeInner → Shape
shape_of (inner.Scalar scalar) = shape.Scalar scalar
shape_of (inner.Vector size scalar) = shape.Vector size scalar
shape_of (inner.Matrix columns rows scalar) = shape.Matrix columns rows scalar
shape_of (inner.CooperativeMatrix columns rows scalar role) = shape.CooperativeMatrix scalar
shape_of (inner.Atomic scalar) = shape.Atomic scalar
shape_of (inner.Pointer base space) = shape.Pointer base
shape_of (inner.ValuePointer size scalar space) = shape.ValuePointer size scalar
shape_of (inner.Array base size stride) = shape.Array base
shape_of (inner.Struct members span) = shape.Struct
shape_of (inner.Image dim arrayed class) = shape.Image
shape_of (inner.Sampler comparison) = shape.Sampler comparison
shape_of (inner.AccelerationStructure vertex_return) = shape.AccelerationStructure
shape_of (inner.RayQuery vertex_return) = shape.RayQuery
shape_of (inner.BindingArray base size) = shape.BindingArray base

-- a type, by its handle if it is declared, and by the shape of its contents if these are known
abbrev pub short : Context → TypeResolution → FoundType
short ctx (resolution.Handle ty) = record { declared = Some ty; shape = option_map shape_of (ctx.types ty) }
short ctx (resolution.Value contents) = record { declared = None; shape = Some (shape_of contents) }

-- the operand that a requirement is about, or `None` if it is about something else
abbrev pub operand_of : Requirement → Option ℕ
operand_of (requirement.Operand operand expected) = Some operand
operand_of (requirement.Layers image has_index) = Some image
operand_of (requirement.Samples image has_index) = Some image
operand_of (requirement.Levels image has_level) = Some image
operand_of _ = None

-- the type of the operand that a requirement is about, or `None` if no type is known
abbrev pub found_in : Context → (known : ℕ → Option TypeResolution) → Requirement → Option FoundType
found_in ctx known required = option_and_then (λ operand. option_map (short ctx) (known operand)) (operand_of required)
