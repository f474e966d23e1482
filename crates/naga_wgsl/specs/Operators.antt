-- The texts of operators and the names of built-in functions.
use Rattle.std.specs.Prelude.{ℕ, List, [], ◌∷◌, Option, Some, None, codes, unwrap_or}
use Rattle.naga_kinds.specs.declared.math.MathFunction.{MathFunction}
use Rattle.naga_kinds.specs.declared.math.MathFunction.TheVariants as math
use Rattle.naga_kinds.specs.declared.operator.BinaryOperator.{BinaryOperator}
use Rattle.naga_kinds.specs.declared.operator.BinaryOperator.TheVariants as binary
use Rattle.naga_kinds.specs.declared.operator.DerivativeAxis.{DerivativeAxis}
use Rattle.naga_kinds.specs.declared.operator.DerivativeAxis.TheVariants as axis
use Rattle.naga_kinds.specs.declared.operator.DerivativeControl.{DerivativeControl}
use Rattle.naga_kinds.specs.declared.operator.DerivativeControl.TheVariants as control
use Rattle.naga_kinds.specs.declared.operator.RelationalFunction.{RelationalFunction}
use Rattle.naga_kinds.specs.declared.operator.RelationalFunction.TheVariants as relational
use Rattle.naga_kinds.specs.declared.operator.UnaryOperator.{UnaryOperator}
use Rattle.naga_kinds.specs.declared.operator.UnaryOperator.TheVariants as unary

-- an operator before its operand
abbrev pub unary_operator_text : UnaryOperator → List ℕ
unary_operator_text unary.Negate = codes "-"
unary_operator_text unary.LogicalNot = codes "!"
unary_operator_text unary.BitwiseNot = codes "~"

-- an operator between its operands
abbrev pub binary_operator_text : BinaryOperator → List ℕ
binary_operator_text binary.Add = codes "+"
binary_operator_text binary.Subtract = codes "-"
binary_operator_text binary.Multiply = codes "*"
binary_operator_text binary.Divide = codes "/"
binary_operator_text binary.Modulo = codes "%"
binary_operator_text binary.Equal = codes "=="
binary_operator_text binary.NotEqual = codes "!="
binary_operator_text binary.Less = codes "<"
binary_operator_text binary.LessEqual = codes "<="
binary_operator_text binary.Greater = codes ">"
binary_operator_text binary.GreaterEqual = codes ">="
binary_operator_text binary.And = codes "&"
binary_operator_text binary.ExclusiveOr = codes "^"
binary_operator_text binary.InclusiveOr = codes "|"
binary_operator_text binary.LogicalAnd = codes "&&"
binary_operator_text binary.LogicalOr = codes "||"
binary_operator_text binary.ShiftLeft = codes "<<"
binary_operator_text binary.ShiftRight = codes ">>"

-- the function that computes a derivative
abbrev pub derivative_text : DerivativeAxis → DerivativeControl → List ℕ
derivative_text axis.X control.Coarse = codes "dpdxCoarse"
derivative_text axis.X control.Fine = codes "dpdxFine"
derivative_text axis.X control.None = codes "dpdx"
derivative_text axis.Y control.Coarse = codes "dpdyCoarse"
derivative_text axis.Y control.Fine = codes "dpdyFine"
derivative_text axis.Y control.None = codes "dpdy"
derivative_text axis.Width control.Coarse = codes "fwidthCoarse"
derivative_text axis.Width control.Fine = codes "fwidthFine"
derivative_text axis.Width control.None = codes "fwidth"

-- the axes of derivatives, each with each precision
abbrev pub derivatives : List (DerivativeAxis × DerivativeControl)
derivatives =
    (axis.X, control.Coarse) ∷ (axis.X, control.Fine) ∷ (axis.X, control.None)
    ∷ (axis.Y, control.Coarse) ∷ (axis.Y, control.Fine) ∷ (axis.Y, control.None)
    ∷ (axis.Width, control.Coarse) ∷ (axis.Width, control.Fine) ∷ (axis.Width, control.None) ∷ []

-- the function that computes a derivative along an axis, with a precision
abbrev pub derivative_pair_text : DerivativeAxis × DerivativeControl → List ℕ
derivative_pair_text pair = derivative_text pair.0 pair.1

-- the function, if WGSL has it
abbrev pub relational_text : RelationalFunction → Option (List ℕ)
relational_text relational.All = Some (codes "all")
relational_text relational.Any = Some (codes "any")
relational_text relational.IsNan = None
relational_text relational.IsInf = None

-- the function, if WGSL has it: it has neither an outer product nor an inverse of matrices
abbrev pub math_text : MathFunction → Option (List ℕ)
math_text math.Abs = Some (codes "abs")
math_text math.Min = Some (codes "min")
math_text math.Max = Some (codes "max")
math_text math.Clamp = Some (codes "clamp")
math_text math.Saturate = Some (codes "saturate")
math_text math.Cos = Some (codes "cos")
math_text math.Cosh = Some (codes "cosh")
math_text math.Sin = Some (codes "sin")
math_text math.Sinh = Some (codes "sinh")
math_text math.Tan = Some (codes "tan")
math_text math.Tanh = Some (codes "tanh")
math_text math.Acos = Some (codes "acos")
math_text math.Asin = Some (codes "asin")
math_text math.Atan = Some (codes "atan")
math_text math.Atan2 = Some (codes "atan2")
math_text math.Asinh = Some (codes "asinh")
math_text math.Acosh = Some (codes "acosh")
math_text math.Atanh = Some (codes "atanh")
math_text math.Radians = Some (codes "radians")
math_text math.Degrees = Some (codes "degrees")
math_text math.Ceil = Some (codes "ceil")
math_text math.Floor = Some (codes "floor")
math_text math.Round = Some (codes "round")
math_text math.Fract = Some (codes "fract")
math_text math.Trunc = Some (codes "trunc")
math_text math.Modf = Some (codes "modf")
math_text math.Frexp = Some (codes "frexp")
math_text math.Ldexp = Some (codes "ldexp")
math_text math.Exp = Some (codes "exp")
math_text math.Exp2 = Some (codes "exp2")
math_text math.Log = Some (codes "log")
math_text math.Log2 = Some (codes "log2")
math_text math.Pow = Some (codes "pow")
math_text math.Dot = Some (codes "dot")
math_text math.Dot4I8Packed = Some (codes "dot4I8Packed")
math_text math.Dot4U8Packed = Some (codes "dot4U8Packed")
math_text math.Outer = None
math_text math.Cross = Some (codes "cross")
math_text math.Distance = Some (codes "distance")
math_text math.Length = Some (codes "length")
math_text math.Normalize = Some (codes "normalize")
math_text math.FaceForward = Some (codes "faceForward")
math_text math.Reflect = Some (codes "reflect")
math_text math.Refract = Some (codes "refract")
math_text math.Sign = Some (codes "sign")
math_text math.Fma = Some (codes "fma")
math_text math.Mix = Some (codes "mix")
math_text math.Step = Some (codes "step")
math_text math.SmoothStep = Some (codes "smoothstep")
math_text math.Sqrt = Some (codes "sqrt")
math_text math.InverseSqrt = Some (codes "inverseSqrt")
math_text math.Inverse = None
math_text math.Transpose = Some (codes "transpose")
math_text math.Determinant = Some (codes "determinant")
math_text math.QuantizeToF16 = Some (codes "quantizeToF16")
math_text math.CountTrailingZeros = Some (codes "countTrailingZeros")
math_text math.CountLeadingZeros = Some (codes "countLeadingZeros")
math_text math.CountOneBits = Some (codes "countOneBits")
math_text math.ReverseBits = Some (codes "reverseBits")
math_text math.ExtractBits = Some (codes "extractBits")
math_text math.InsertBits = Some (codes "insertBits")
math_text math.FirstTrailingBit = Some (codes "firstTrailingBit")
math_text math.FirstLeadingBit = Some (codes "firstLeadingBit")
math_text math.Pack4x8snorm = Some (codes "pack4x8snorm")
math_text math.Pack4x8unorm = Some (codes "pack4x8unorm")
math_text math.Pack2x16snorm = Some (codes "pack2x16snorm")
math_text math.Pack2x16unorm = Some (codes "pack2x16unorm")
math_text math.Pack2x16float = Some (codes "pack2x16float")
math_text math.Pack4xI8 = Some (codes "pack4xI8")
math_text math.Pack4xU8 = Some (codes "pack4xU8")
math_text math.Pack4xI8Clamp = Some (codes "pack4xI8Clamp")
math_text math.Pack4xU8Clamp = Some (codes "pack4xU8Clamp")
math_text math.Unpack4x8snorm = Some (codes "unpack4x8snorm")
math_text math.Unpack4x8unorm = Some (codes "unpack4x8unorm")
math_text math.Unpack2x16snorm = Some (codes "unpack2x16snorm")
math_text math.Unpack2x16unorm = Some (codes "unpack2x16unorm")
math_text math.Unpack2x16float = Some (codes "unpack2x16float")
math_text math.Unpack4xI8 = Some (codes "unpack4xI8")
math_text math.Unpack4xU8 = Some (codes "unpack4xU8")

-- the text, or none at all
abbrev pub text_or_none : {A : Type 0} → (A → Option (List ℕ)) → A → List ℕ
text_or_none text_of a = unwrap_or (text_of a) []
