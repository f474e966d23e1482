-- The sets of flags of the IR are read as they are written.
use Rattle.std.proofs.Common.{◌≡◌, ◌∙◌, sym, ap, refl, ℕ, Option, Some, None, option_map, arith}
use Rattle.bitflags.proofs.OnLiterals.{bitflags_on_literals}
use Rattle.naga_json.specs.FlagSets.{storage_accesses, storage_access_codec, memory_decorations, memory_decorations_codec, barriers, barrier_codec}
use Rattle.naga_json.specs.Lawful.{Lawful}
use Rattle.naga_json.proofs.CodecLemmas.{lawful-as}
use Rattle.naga_json.proofs.FlagsLemmas.{IsTable, lawful-bits}

storage_accesses-IsTable : IsTable storage_accesses 32 3 29
unfolding bitflags_on_literals
storage_accesses-IsTable = record { low = (omega arith, (omega arith, (omega arith, tt))); whole = refl; mask = refl; within = omega arith; same = λ ds. refl }

memory_decorations-IsTable : IsTable memory_decorations 8 2 6
unfolding bitflags_on_literals
memory_decorations-IsTable = record { low = (omega arith, (omega arith, tt)); whole = refl; mask = refl; within = omega arith; same = λ ds. refl }

barriers-IsTable : IsTable barriers 32 4 28
unfolding bitflags_on_literals
barriers-IsTable = record {
  low = (omega arith, (omega arith, (omega arith, (omega arith, tt))));
  whole = refl;
  mask = refl;
  within = omega arith;
  same = λ ds. refl;
}

pub lawful-storage_access : Lawful storage_access_codec
lawful-storage_access =
    lawful-as _ _ _ (lawful-bits storage_accesses 32 3 29 storage_accesses-IsTable (omega arith, (omega arith, (omega arith, tt)))) (λ value. refl) (λ bits. refl)

pub lawful-memory_decorations : Lawful memory_decorations_codec
lawful-memory_decorations = lawful-as _ _ _ (lawful-bits memory_decorations 8 2 6 memory_decorations-IsTable (omega arith, (omega arith, tt))) (λ value. refl) (λ bits. refl)

pub lawful-barrier : Lawful barrier_codec
lawful-barrier =
    lawful-as _ _ _ (lawful-bits barriers 32 4 28 barriers-IsTable (omega arith, (omega arith, (omega arith, (omega arith, tt))))) (λ value. refl) (λ bits. refl)

-- a set of flags is the one with its bits
pub option_map-made : {A : Type 0} (bits : A → ℕ) (make : ℕ → A) (again : (a : A) → make (bits a) ≡ a) (found : Option A) (meaning : Option ℕ) → option_map bits found ≡ meaning → found ≡ option_map make meaning
option_map-made bits make again None meaning e = ap (option_map make) e
option_map-made bits make again (Some a) meaning e = sym (ap Some (again a)) ∙ ap (option_map make) e
