-- The texts of the expressions of a function, or of a module, by handle.
use Rattle.std.specs.Prelude.{ℕ, List, [], Option, Some, None, Result, Ok, String, slice_get, string_bytes, unwrap_or}
use Rattle.std.specs.declared.alloc.Global.{Global}
use Rattle.naga_ir.specs.declared.expression.Expression.{Expression}
use Rattle.naga_ir.specs.declared.expression.Expression.TheVariants.{AccessIndex, As, Load}
use Rattle.naga_wgsl.specs.Forms.{form_text}
use Rattle.naga_wgsl.specs.TypeTexts.{texts_after}
use Rattle.naga_wgsl.specs.declared.scope.Scope.{Scope}
use Rattle.naga_wgsl.specs.declared.scope.Shape.{Shape}
use Rattle.naga_wgsl.specs.declared.scope.Shape.TheVariants.{Other}
use Rattle.naga_wgsl.specs.declared.write_error.Cause.{Cause}

-- the shape of the operand on whose type the text of an expression depends, if there is one
abbrev pub shape_at : List Shape → (operand : ℕ) → Shape
shape_at shapes operand = unwrap_or (slice_get shapes operand) Other

abbrev pub operand_shape : List Shape → Expression → Shape
operand_shape shapes (AccessIndex base index) = shape_at shapes base
operand_shape shapes (Load pointer) = shape_at shapes pointer
operand_shape shapes (As expr kind convert) = shape_at shapes expr
operand_shape shapes _ = Other

-- a name, if the expression has one, or else its form
abbrev pub named_or : Option (Option (String Global)) → (form : Result (List ℕ) Cause) → Result (List ℕ) Cause
named_or (Some (Some name)) form = Ok (string_bytes name)
named_or (Some None) form = form
named_or None form = form

module _ (scope : Scope) (shapes : List Shape) (names : List (Option (String Global))) where
  -- the text of an expression with an index, given those of the expressions before it
  abbrev pub expression_text : (known : List (Result (List ℕ) Cause)) → (index : ℕ) → Expression → Result (List ℕ) Cause
  expression_text known index expression =
      named_or (slice_get names index) (form_text scope known (operand_shape shapes expression) expression)

  -- the texts of all expressions
  abbrev pub expression_texts : List Expression → List (Result (List ℕ) Cause)
  expression_texts expressions = texts_after expression_text [] expressions
