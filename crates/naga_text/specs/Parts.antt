-- The texts of parts of expressions, statements and types that do not follow from the declarations.
use Rattle.std.specs.Prelude.{ℕ, List, [], ◌∷◌, ◌++◌, ◌==◌, Option, Some, None, codes}
use Rattle.std.specs.Int.RustNames.{bit_and}
use Rattle.naga_kinds.specs.declared.flags.Barrier.{Barrier}
use Rattle.naga_kinds.specs.declared.flags.StorageAccess.{StorageAccess}
use Rattle.naga_kinds.specs.declared.operator.SwizzleComponent.{SwizzleComponent}
use Rattle.naga_kinds.specs.derived.Names.{swizzle_component_name}
use Rattle.naga_text.specs.Words.{flag}

-- the components that a pattern selects
abbrev pub pattern_text : List SwizzleComponent → List ℕ
pattern_text [] = []
pattern_text (component ∷ others) = swizzle_component_name component ++ pattern_text others

-- the accesses that a shader may make
abbrev pub access_text : StorageAccess → List ℕ
access_text access =
    flag (bit_and access.0 1 == 1) (codes "load") ++ (flag (bit_and access.0 2 == 2) (codes "store") ++ flag (bit_and access.0 4 == 4) (codes "atomic"))

-- the kinds of memory for which a barrier is
abbrev pub barrier_text : Barrier → List ℕ
barrier_text barrier =
    flag (bit_and barrier.0 1 == 1) (codes "storage")
    ++ (flag (bit_and barrier.0 2 == 2) (codes "work_group")
    ++ (flag (bit_and barrier.0 4 == 4) (codes "sub_group") ++ flag (bit_and barrier.0 8 == 8) (codes "texture")))

-- a loop, and whether a condition ends it
abbrev pub loop_words : (break_if : Option ℕ) → List ℕ
loop_words None = codes "loop"
loop_words (Some condition) = codes "loop break if"
