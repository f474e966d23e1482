-- The position of the case that an answer enters.
use Rattle.std.proofs.Common.{◌≡◌, ℕ, suc, ◌<◌, ◌≤◌, Bool, true, false, cond, ltb, List, [], ◌∷◌, length, refl, ap, arith}
use Rattle.std.proofs.lemmas.Bool.{ltb-true, ltb-false}
use Rattle.naga_ir.specs.View.{cases_of}
use Rattle.naga_ir.specs.declared.statement.SwitchCase.{SwitchCase}
use Rattle.naga_runs.specs.Runs.{values, entered, first_default}

length-values : (cases : List SwitchCase) → length (values (cases_of cases)) ≡ length cases
length-values [] = refl
length-values (first ∷ cases) = ap suc (length-values cases)

-- an answer that is the position of a case enters that case
pub entered-named : (cases : List SwitchCase) (answer : ℕ) → answer < length cases → entered (values (cases_of cases)) answer ≡ answer
unfolding entered
entered-named cases answer named = by_test _ refl where
  by_test : (b : Bool) → ltb answer (length (values (cases_of cases))) ≡ b → cond b answer (first_default (values (cases_of cases))) ≡ answer
  by_test true p = refl
  by_test false p = absurd (omega (arith, named, ltb-false answer (length (values (cases_of cases))) p, length-values cases))

-- an answer that is not the position of a case enters the first default case
pub entered-default : (cases : List SwitchCase) (answer : ℕ) → length cases ≤ answer → entered (values (cases_of cases)) answer ≡ first_default (values (cases_of cases))
unfolding entered
entered-default cases answer past = by_test _ refl where
  by_test : (b : Bool) → ltb answer (length (values (cases_of cases))) ≡ b → cond b answer (first_default (values (cases_of cases))) ≡ first_default (values (cases_of cases))
  by_test true p = absurd (omega (arith, past, ltb-true answer (length (values (cases_of cases))) p, length-values cases))
  by_test false p = refl
