-- Runs that are made of alike runs are alike.
use Rattle.std.proofs.Common.{ℕ, zero, suc, List, [], ◌∷◌}
use Rattle.naga_runs.proofs.Execution.{asked, selected}
use Rattle.naga_runs.specs.Runs.{Run, answered, quiet}
use Rattle.naga_runs.specs.declared.run.Ending.TheVariants.{Cut}

-- a relation between two runs that holds for the cut run, and that an answer more keeps
module _ (Alike : Run → Run → Type 0) (cut : Alike (quiet Cut) (quiet Cut)) (one_answer : (r s : Run) → Alike r s → Alike (answered r) (answered s)) where
  pub asked-alike : (at_no at_yes at_no' at_yes' : List ℕ → Run) → ((rest : List ℕ) → Alike (at_no rest) (at_no' rest)) →
      ((rest : List ℕ) → Alike (at_yes rest) (at_yes' rest)) → (answers : List ℕ) → Alike (asked at_no at_yes answers) (asked at_no' at_yes' answers)
  asked-alike at_no at_yes at_no' at_yes' h k [] = cut
  asked-alike at_no at_yes at_no' at_yes' h k (zero ∷ rest) = one_answer _ _ (h rest)
  asked-alike at_no at_yes at_no' at_yes' h k (suc answer ∷ rest) = one_answer _ _ (k rest)

  pub selected-alike : (chosen chosen' : ℕ → List ℕ → Run) → ((answer : ℕ) (rest : List ℕ) → Alike (chosen answer rest) (chosen' answer rest)) →
      (answers : List ℕ) → Alike (selected chosen answers) (selected chosen' answers)
  selected-alike chosen chosen' h [] = cut
  selected-alike chosen chosen' h (answer ∷ rest) = one_answer _ _ (h answer rest)
