-- The type of an expression, if it has one, by its rule and from the types of the expressions before it.
--
-- The ground of each row is given above its definition, here and in the files of rows: the documentation of naga's IR,
-- the rules of WGSL where that documentation is silent, or a choice where both are.
use Rattle.std.specs.Prelude.{ℕ, Option, Some, None}
use Rattle.std.specs.Option.{option_map}
use Rattle.naga_kinds.specs.declared.address_space.AddressSpace.{AddressSpace}
use Rattle.naga_kinds.specs.declared.address_space.AddressSpace.TheVariants as space
use Rattle.naga_kinds.specs.declared.math.MathFunction.{MathFunction}
use Rattle.naga_kinds.specs.declared.scalar.CooperativeRole.{CooperativeRole}
use Rattle.naga_kinds.specs.declared.scalar.CooperativeSize.{CooperativeSize}
use Rattle.naga_kinds.specs.declared.scalar.Scalar.{Scalar}
use Rattle.naga_kinds.specs.declared.scalar.TheConstants.Scalar.{BOOL}
use Rattle.naga_ir.specs.declared.expression.Expression.{Expression}
use Rattle.naga_ir.specs.declared.types.TypeInner.{TypeInner}
use Rattle.naga_ir.specs.declared.types.TypeInner.TheVariants as inner
use Rattle.naga_typifier.specs.Context.{Context, inner_of}
use Rattle.naga_typifier.specs.Images.{class_of, sample, size_of, texel}
use Rattle.naga_typifier.specs.Math.{applied, rule_of}
use Rattle.naga_typifier.specs.Rows.{◌>>=◌, accessed, cast, copied, handle, loaded, mapped, product, scalar_behind, sized, splatted, swizzled, value}
use Rattle.naga_typifier.specs.Rules.{rule_of_expression}
use Rattle.naga_typifier.specs.declared.resolution.TypeResolution.{TypeResolution}
use Rattle.naga_typifier.specs.declared.resolution.TypeResolution.TheVariants as resolution
use Rattle.naga_typifier.specs.declared.rules.Named.{Named}
use Rattle.naga_typifier.specs.declared.rules.Named.TheVariants as named
use Rattle.naga_typifier.specs.declared.rules.Reading.{Reading}
use Rattle.naga_typifier.specs.declared.rules.Reading.TheVariants as reading
use Rattle.naga_typifier.specs.declared.rules.Rule.{Rule}
use Rattle.naga_typifier.specs.declared.rules.Rule.TheVariants as rule

-- By the documentation, a pointer to a variable of this type, or the type itself if the space is `Handle`.
abbrev pub pointed : AddressSpace → ℕ → TypeResolution
pointed space.Handle ty = handle ty
pointed space ty = resolution.Value (inner.Pointer ty space)

-- the type of an expression that names a global variable with this space and this type
abbrev pub variable : AddressSpace × ℕ → TypeResolution
variable found = pointed found.0 found.1

-- a cooperative matrix of these scalars
abbrev pub cooperative : CooperativeSize → CooperativeSize → CooperativeRole → Scalar → Option TypeResolution
cooperative columns rows role scalar = value (inner.CooperativeMatrix columns rows scalar role)

module _ (ctx : Context) where
  -- the type of an expression that names this
  abbrev pub type_of_named : Named → Option TypeResolution
  type_of_named (named.Constant constant) = option_map handle (ctx.constants constant)
  type_of_named (named.Override override) = option_map handle (ctx.overrides override)
  type_of_named (named.Argument index) = option_map handle (ctx.arguments index)
  type_of_named (named.GlobalVariable global) = option_map variable (ctx.globals global)
  type_of_named (named.LocalVariable local) = option_map (pointed space.Function) (ctx.locals local)
  type_of_named (named.Result function) = option_map handle (ctx.results function >>= λ result. result)
  type_of_named named.RayVertexReturn = option_map handle ctx.ray_vertex_return
  type_of_named named.RayIntersection = option_map handle ctx.ray_intersection

  -- what is read from the contents of the type of an operand
  abbrev pub read_from : Reading → TypeInner → Option TypeResolution
  read_from (reading.Part index) contents = accessed ctx index contents
  read_from (reading.Splat size) contents = splatted size contents
  read_from (reading.Swizzle size) contents = swizzled size contents
  read_from reading.Load contents = loaded ctx contents
  read_from (reading.Sample gather) contents = class_of contents >>= sample gather
  read_from reading.Texel contents = class_of contents >>= λ class. value (texel class)
  read_from reading.Size contents = size_of contents
  read_from reading.Truths contents = mapped (λ _. BOOL) contents
  read_from (reading.Cast kind convert) contents = mapped (cast kind convert) contents
  read_from (reading.Matrix columns rows role) contents = scalar_behind ctx contents >>= cooperative columns rows role

-- `known` has the types of the expressions that come before.
module _ (ctx : Context) (known : ℕ → Option TypeResolution) where
  -- the contents of the type of an operand
  abbrev pub the : ℕ → Option TypeInner
  the operand = known operand >>= inner_of ctx

  -- the type of an operand
  abbrev pub same : ℕ → Option TypeResolution
  same operand = known operand >>= copied

  -- the contents of the type of an operand that may be absent
  abbrev pub optional : Option ℕ → Option TypeInner
  optional None = None
  optional (Some operand) = the operand

  -- the product of two operands
  abbrev pub product_of : ℕ → ℕ → Option TypeResolution
  product_of left right =
      known left >>= λ of_left. known right >>= λ of_right.
      inner_of ctx of_left >>= λ in_left. inner_of ctx of_right >>= product of_left of_right in_left

  -- the result of a mathematical function
  abbrev pub computed : MathFunction → (first : ℕ) → (second : Option ℕ) → Option TypeResolution
  computed fun first second =
      known first >>= λ of_first. inner_of ctx of_first >>= λ in_first.
      applied ctx (rule_of fun) of_first in_first (optional second)

  -- the type of an expression with this rule, or `None` if it has none
  abbrev pub type_by : Rule → Option TypeResolution
  type_by (rule.Fixed size scalar) = value (sized size scalar)
  type_by (rule.Declared ty) = Some (handle ty)
  type_by (rule.Named named) = type_of_named ctx named
  type_by (rule.Like operand) = same operand
  type_by (rule.Read reading operand) = the operand >>= read_from ctx reading
  type_by (rule.Product left right) = product_of left right
  type_by (rule.Math fun first second) = computed fun first second

  -- the type of an expression, or `None` if it has none
  abbrev pub type_of : Expression → Option TypeResolution
  type_of expression = type_by (rule_of_expression expression)
