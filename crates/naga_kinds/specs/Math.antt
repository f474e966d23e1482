-- The numbers of arguments of built-in functions.
use Rattle.std.specs.Prelude.{ℕ}
use Rattle.naga_kinds.specs.declared.math.MathFunction.{MathFunction}
use Rattle.naga_kinds.specs.declared.math.MathFunction.TheVariants.{Min, Max, Clamp, Atan2, Ldexp, Pow, Dot, Dot4I8Packed, Dot4U8Packed, Outer, Cross, Distance, FaceForward, Reflect, Refract, Fma, Mix, Step, SmoothStep, ExtractBits, InsertBits}

-- the number of arguments: four, three or two for the functions that are listed here, and one for all others
abbrev pub argument_count_of : MathFunction → ℕ
argument_count_of InsertBits = 4
argument_count_of Clamp = 3
argument_count_of FaceForward = 3
argument_count_of Refract = 3
argument_count_of Fma = 3
argument_count_of Mix = 3
argument_count_of SmoothStep = 3
argument_count_of ExtractBits = 3
argument_count_of Min = 2
argument_count_of Max = 2
argument_count_of Atan2 = 2
argument_count_of Ldexp = 2
argument_count_of Pow = 2
argument_count_of Dot = 2
argument_count_of Dot4I8Packed = 2
argument_count_of Dot4U8Packed = 2
argument_count_of Outer = 2
argument_count_of Cross = 2
argument_count_of Distance = 2
argument_count_of Reflect = 2
argument_count_of Step = 2
argument_count_of _ = 1
