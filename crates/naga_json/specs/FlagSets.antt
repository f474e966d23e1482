-- The sets of flags of the IR.
use Rattle.std.specs.Prelude.{ℕ, List, [], ◌∷◌, codes}
use Rattle.naga_kinds.specs.declared.flags.StorageAccess.{StorageAccess}
use Rattle.naga_kinds.specs.declared.flags.MemoryDecorations.{MemoryDecorations}
use Rattle.naga_kinds.specs.declared.flags.Barrier.{Barrier}
use Rattle.naga_json.specs.Codec.{Codec, as_codec}
use Rattle.naga_json.specs.Flags.{bits_codec}

-- the names and bits of the accesses to an image or a buffer
abbrev pub storage_accesses : List (List ℕ × ℕ)
storage_accesses = (codes "LOAD", 1) ∷ (codes "STORE", 2) ∷ (codes "ATOMIC", 4) ∷ []

-- the accesses to an image or a buffer
abbrev pub storage_access_codec : Codec StorageAccess
storage_access_codec =
    as_codec (bits_codec storage_accesses 32) (λ bits. record { 0 = bits }) (λ accesses. accesses.0)

-- the names and bits of the memory decorations
abbrev pub memory_decorations : List (List ℕ × ℕ)
memory_decorations = (codes "COHERENT", 1) ∷ (codes "VOLATILE", 2) ∷ []

-- the memory decorations of a variable
abbrev pub memory_decorations_codec : Codec MemoryDecorations
memory_decorations_codec =
    as_codec (bits_codec memory_decorations 8) (λ bits. record { 0 = bits }) (λ decorations. decorations.0)

-- the names and bits of the accesses that a barrier orders
abbrev pub barriers : List (List ℕ × ℕ)
barriers = (codes "STORAGE", 1) ∷ (codes "WORK_GROUP", 2) ∷ (codes "SUB_GROUP", 4) ∷ (codes "TEXTURE", 8) ∷ []

-- the accesses that a barrier orders
abbrev pub barrier_codec : Codec Barrier
barrier_codec = as_codec (bits_codec barriers 32) (λ bits. record { 0 = bits }) (λ barrier. barrier.0)
