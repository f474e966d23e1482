-- Which literals are finite.
use Rattle.std.specs.Prelude.{◌&&◌, Bool, true, List, from_bits}
use Rattle.std.specs.Float.{binary32, binary64, float_is_finite}
use Rattle.std.specs.List.{list_all}
use Rattle.naga_arena.specs.Arena.{values}
use Rattle.naga_arena.specs.declared.span.Span.{Span}
use Rattle.naga_ir.specs.declared.expression.Expression.{Expression}
use Rattle.naga_ir.specs.declared.expression.Expression.TheVariants as expression
use Rattle.naga_ir.specs.declared.literal.Literal.{Literal}
use Rattle.naga_ir.specs.declared.literal.Literal.TheVariants as literal
use Rattle.naga_ir.specs.declared.module.EntryPoint.{EntryPoint}
use Rattle.naga_ir.specs.declared.module.Function.{Function}
use Rattle.naga_ir.specs.declared.module.Module.{Module}

-- `false` for a literal that is a NaN or an infinity
abbrev pub is_finite_literal : Literal → Bool
is_finite_literal (literal.F64 bits) = float_is_finite (from_bits binary64 bits)
is_finite_literal (literal.F32 bits) = float_is_finite (from_bits binary32 bits)
is_finite_literal (literal.AbstractFloat bits) = float_is_finite (from_bits binary64 bits)
is_finite_literal _ = true

-- `false` for an expression that is such a literal
abbrev pub is_finite : Expression → Bool
is_finite (expression.Literal value) = is_finite_literal value
is_finite _ = true

-- `false` if one of the expressions is such a literal
abbrev pub are_finite : List (Expression × Span) → Bool
are_finite expressions = list_all is_finite (values expressions)

-- `false` if an expression of one of the functions is such a literal
abbrev pub functions_are_finite : List (Function × Span) → Bool
functions_are_finite functions = list_all (λ function. are_finite function.expressions) (values functions)

-- `false` if an expression of one of the entry points is such a literal
abbrev pub entry_points_are_finite : List EntryPoint → Bool
entry_points_are_finite entries = list_all (λ entry. are_finite entry.function.expressions) entries

-- `false` if an expression of the module is a NaN or an infinity
abbrev pub is_finite_module : Module → Bool
is_finite_module whole =
    are_finite whole.global_expressions && (functions_are_finite whole.functions && entry_points_are_finite whole.entry_points.items)
