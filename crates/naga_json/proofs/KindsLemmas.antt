-- Kinds are read as they are written, if the name of each variant is its own.
use Rattle.std.proofs.Common.{ℕ, List, refl}
use Rattle.json.specs.Find.{as_str}
use Rattle.naga_kinds.specs.Names.{named, IsFirstOfItsName}
use Rattle.naga_json.specs.Kinds.{kind_codec}
use Rattle.naga_json.specs.Lawful.{Lawful}
use Rattle.naga_json.proofs.GivesLemmas.{Gives-any, then_any}

-- a kind of which each variant is the first of its name
pub lawful-kind : {A : Type 0} (name_of : A → List ℕ) (kinds : List A) → ((kind : A) → IsFirstOfItsName name_of kinds kind) → Lawful (kind_codec name_of kinds)
lawful-kind name_of kinds each = record {
  reads = λ kind fits. record { reads = each kind; numbers = tt; present = refl };
  gives = λ j. then_any _ (as_str j) (named name_of kinds) (λ name. Gives-any (named name_of kinds name));
}
