-- Alignments, as the exponents of powers of two.
use Rattle.std.specs.Prelude.{ℕ, ◌+◌, ◌*◌, ◌/◌, ◌%◌, ◌^◌, min, ◌==◌, Option, Some, None, if◌then◌else◌}
use Rattle.naga_kinds.specs.declared.scalar.CooperativeSize.{CooperativeSize}
use Rattle.naga_kinds.specs.declared.scalar.CooperativeSize.TheVariants.{Eight, Sixteen}
use Rattle.naga_kinds.specs.declared.scalar.VectorSize.{VectorSize}
use Rattle.naga_kinds.specs.declared.scalar.VectorSize.TheVariants.{Bi, Tri, Quad}

-- the alignment of scalars of a width: the width, if it is a power of two
abbrev pub alignment_of_width : ℕ → Option ℕ
alignment_of_width width =
    if width == 1 then Some 0 else
    if width == 2 then Some 1 else
    if width == 4 then Some 2 else
    if width == 8 then Some 3 else
    if width == 16 then Some 4 else
    if width == 32 then Some 5 else
    if width == 64 then Some 6 else
    if width == 128 then Some 7 else None

-- the factor by which the alignment of a vector exceeds that of its scalars: 2 for two of them, and 4 for three or four
abbrev pub alignment_of_size : VectorSize → ℕ
alignment_of_size Bi = 1
alignment_of_size Tri = 2
alignment_of_size Quad = 2

-- the factor by which the alignment of a cooperative matrix exceeds that of its scalars: the number of rows
abbrev pub alignment_of_side : CooperativeSize → ℕ
alignment_of_side Eight = 3
alignment_of_side Sixteen = 4

-- the least multiple of the alignment that is not below the number
abbrev pub rounded_up : (alignment number : ℕ) → ℕ
rounded_up alignment number = (number / 2 ^ alignment + min 1 (number % 2 ^ alignment)) * 2 ^ alignment
