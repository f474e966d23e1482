-- Switches that no return follows and that have one case, which does not fall through.
use Rattle.std.proofs.Common.{◌≡◌, ◌∙◌, refl, sym, ap, ◌≤◌, List, [], ◌∷◌, length, get_or, true, false, arith}
use Rattle.std.proofs.lemmas.Bool.{not-true}
use Rattle.naga_ir.specs.Tree.{Cases}
use Rattle.naga_ir.specs.View.{cases_of}
use Rattle.naga_ir.specs.declared.statement.SwitchCase.{SwitchCase}
use Rattle.naga_proc.specs.Closing.{follows_switch, goes_straight_through}
use Rattle.naga_proc.specs.declared.terminator.rule.Rule.{Rule}
use Rattle.naga_proc.specs.declared.terminator.rule.Rule.TheVariants.{New, Old}

pub goes_straight_through-shut : (rule : Rule) (cs : Cases) → goes_straight_through rule cs ≡ true → follows_switch rule cs ≡ false
goes_straight_through-shut Old cs h = refl
goes_straight_through-shut New cs h = absurd (let e : false ≡ true = h in cc)

pub goes_straight_through-only : (rule : Rule) (xs : List SwitchCase) (x : SwitchCase) → goes_straight_through rule (cases_of xs) ≡ true → x ≡ get_or xs 0 x → (xs ≡ x ∷ []) × (x.fall_through ≡ false)
goes_straight_through-only Old (y ∷ []) x h at =
    (ap (λ (z : SwitchCase). z ∷ []) (sym at), ap (λ (z : SwitchCase). z.fall_through) at ∙ not-true y.fall_through h)
goes_straight_through-only Old [] x h at = absurd (let e : false ≡ true = h in cc)
goes_straight_through-only Old (y ∷ z ∷ xs) x h at = absurd (let e : false ≡ true = h in cc)
goes_straight_through-only New xs x h at = absurd (let e : false ≡ true = h in cc)

pub many_cases : (rule : Rule) (xs : List SwitchCase) → 2 ≤ length xs → goes_straight_through rule (cases_of xs) ≡ false
many_cases New xs l = refl
many_cases Old [] l = refl
many_cases Old (x ∷ []) l = absurd (omega arith)
many_cases Old (x ∷ y ∷ xs) l = refl
