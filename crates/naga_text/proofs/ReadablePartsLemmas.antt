-- The texts of parts that do not follow from the declarations contain only characters that show themselves.
use Rattle.std.proofs.Common.{refl, ℕ, List, [], ◌∷◌}
use Rattle.std.specs.Prelude.{◌==◌, Option, Some, None, codes}
use Rattle.std.specs.Int.RustNames.{bit_and}
use Rattle.naga_kinds.specs.declared.flags.Barrier.{Barrier}
use Rattle.naga_kinds.specs.declared.flags.StorageAccess.{StorageAccess}
use Rattle.naga_kinds.specs.declared.operator.SwizzleComponent.{SwizzleComponent}
use Rattle.naga_text.specs.Parts.{access_text, barrier_text, loop_words, pattern_text}
use Rattle.naga_text.specs.Readable.{IsPlain}
use Rattle.naga_text.proofs.derived_lemmas.ReadableNamesLemmas.{swizzle_component_name-plain}
use Rattle.naga_text.proofs.ReadableWordsLemmas.{flag-plain}
use Rattle.naga_text.proofs.SpellsLemmas.{Spells-append, Spells-ascii, Spells-nil}

pub pattern_text-plain : (pattern : List SwizzleComponent) → IsPlain (pattern_text pattern)
pattern_text-plain [] = Spells-nil
pattern_text-plain (component ∷ others) = Spells-append (swizzle_component_name-plain component) (pattern_text-plain others)

pub access_text-plain : (access : StorageAccess) → IsPlain (access_text access)
access_text-plain access =
    Spells-append (flag-plain (bit_and access.0 1 == 1) (Spells-ascii (codes "load") refl))
    (Spells-append (flag-plain (bit_and access.0 2 == 2) (Spells-ascii (codes "store") refl)) (flag-plain (bit_and access.0 4 == 4) (Spells-ascii (codes "atomic") refl)))

pub barrier_text-plain : (barrier : Barrier) → IsPlain (barrier_text barrier)
barrier_text-plain barrier =
    Spells-append (flag-plain (bit_and barrier.0 1 == 1) (Spells-ascii (codes "storage") refl))
    (Spells-append (flag-plain (bit_and barrier.0 2 == 2) (Spells-ascii (codes "work_group") refl))
    (Spells-append (flag-plain (bit_and barrier.0 4 == 4) (Spells-ascii (codes "sub_group") refl)) (flag-plain (bit_and barrier.0 8 == 8) (Spells-ascii (codes "texture") refl))))

pub loop_words-plain : (break_if : Option ℕ) → IsPlain (loop_words break_if)
loop_words-plain None = Spells-ascii (codes "loop") refl
loop_words-plain (Some condition) = Spells-ascii (codes "loop break if") refl
