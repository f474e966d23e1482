-- The operands of expressions, clones of expressions, and the times at which expressions have their values.
use Rattle.std.specs.Prelude.{◌≡◌, ⊤, ℕ, Bool, true, false, List, Option, Some, None}
use Rattle.naga_kinds.specs.Scalar.{components_of}
use Rattle.naga_ir.specs.declared.expression.Expression.{Expression}
use Rattle.naga_ir.specs.declared.expression.Expression.TheVariants.{Literal, Constant, Override, ZeroValue, Compose, Access, AccessIndex, Splat, FunctionArgument, GlobalVariable, LocalVariable}
use Rattle.naga_ir.specs.declared.expression.SampleLevel.{SampleLevel}
use Rattle.naga_ir.specs.declared.expression.SampleLevel.TheVariants.{Auto, Bias}

-- the base of an access, or `None` for any other expression
abbrev pub base_of : Expression → Option ℕ
base_of (Access base index) = Some base
base_of (AccessIndex base index) = Some base
base_of _ = None

-- the global variable that an expression refers to, or `None` for any other expression
abbrev pub global_of : Expression → Option ℕ
global_of (GlobalVariable variable) = Some variable
global_of _ = None

-- the type and the components of a `Compose`, or `None` for any other expression
abbrev pub compose_of : Expression → Option (ℕ × List ℕ)
compose_of (Compose ty components) = Some (ty, components.items)
compose_of _ = None

-- the size and the value of a `Splat`, or `None` for any other expression
abbrev pub splat_of : Expression → Option (ℕ × ℕ)
splat_of (Splat size value) = Some (components_of size, value)
splat_of _ = None

-- the clone is the same expression, whatever the spare capacity of its components
abbrev pub IsCloneOf : Expression → Expression → Type 0
IsCloneOf (Compose ty components) (Compose type_again copies) = (type_again ≡ ty) × (copies.items ≡ components.items)
IsCloneOf expression clone = clone ≡ expression

-- the expression contains no list, so that cloning it allocates nothing
abbrev pub IsPlain : Expression → Type 0
IsPlain (Compose ty components) = ⊥
IsPlain expression = ⊤

-- the expression has its value when a function is entered
abbrev pub needs_pre_emit : Expression → Bool
needs_pre_emit (Literal literal) = true
needs_pre_emit (Constant constant) = true
needs_pre_emit (Override override) = true
needs_pre_emit (ZeroValue ty) = true
needs_pre_emit (FunctionArgument index) = true
needs_pre_emit (GlobalVariable variable) = true
needs_pre_emit (LocalVariable variable) = true
needs_pre_emit _ = false

-- the expression, as an index, is not known before the pipeline is created
abbrev pub is_dynamic_index : Expression → Bool
is_dynamic_index (Literal literal) = false
is_dynamic_index (ZeroValue ty) = false
is_dynamic_index (Constant constant) = false
is_dynamic_index _ = true

-- derivatives of the coordinate determine the level
abbrev pub implicit_derivatives : SampleLevel → Bool
implicit_derivatives Auto = true
implicit_derivatives (Bias offset) = true
implicit_derivatives _ = false
