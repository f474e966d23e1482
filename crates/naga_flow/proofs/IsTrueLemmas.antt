-- What a test has found.
use Rattle.std.proofs.Common.{◌≡◌, Bool, true, false, IsTrue}

no_truth : (b : Bool) → IsTrue b → ¬ (b ≡ false)
no_truth true h e = let q : true ≡ false = e in cc
no_truth false h e = let q : false ≡ true = h in cc

pub IsTrue-not : (b : Bool) (P : Type 0) → (IsTrue b → P) × (P → IsTrue b) → b ≡ false → ¬ P
IsTrue-not b P both is h = no_truth b (both.1 h) is

pub IsTrue-so : (b : Bool) (P : Type 0) → (IsTrue b → P) × (P → IsTrue b) → b ≡ true → P
IsTrue-so b P both is = both.0 is
