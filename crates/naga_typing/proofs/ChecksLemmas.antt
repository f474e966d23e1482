-- Checks of requirements in order.
use Rattle.std.proofs.Common.{◌≡◌, ℕ, ap, refl, List, [], ◌∷◌, ◌++◌, Option, Some, Result, Ok, Err, map, subst}
use Rattle.std.proofs.lemmas.List.Elements.{All-append, All-cons, All-nil}
use Rattle.std.specs.Prelude.{All}
use Rattle.naga_ir.specs.View.{cases_of}
use Rattle.naga_ir.specs.declared.statement.SwitchCase.{SwitchCase}
use Rattle.naga_flow.specs.Tracking.{IsFirstNot}
use Rattle.naga_flow.proofs.IsFirstNotLemmas.{IsFirstNot-after, IsFirstNot-before, IsFirstNot-here, IsLeft, IsLeft-fails, IsLeft-next}
use Rattle.naga_typing.specs.Checks.{Checks, IsFirstUnmet}
use Rattle.naga_typing.specs.Statements.{of_cases, selects}
use Rattle.naga_typing.specs.declared.requirement.Requirement.{Requirement}

-- what the values of cases require
abbrev pub of_case : ℕ → SwitchCase → Option Requirement
of_case selector one = selects selector one.value

pub of_cases-map : (selector : ℕ) (cases : List SwitchCase) → of_cases selector (cases_of cases) ≡ map (of_case selector) cases
of_cases-map selector [] = refl
of_cases-map selector (x ∷ xs) = ap (λ rest. of_case selector x ∷ rest) (of_cases-map selector xs)

module _ (fits : Option Requirement → Type 0) where
  pub Checks-then : {X : Type 0} (xs ys : List (Option Requirement)) (result : Result X Requirement) → All fits xs → Checks fits ys result → Checks fits (xs ++ ys) result
  Checks-then xs ys (Ok x) before later = All-append fits xs ys before later
  Checks-then xs ys (Err unmet) before later = IsFirstNot-after fits xs ys (Some unmet) before later

  pub Checks-ended : (xs ys : List (Option Requirement)) (unmet : Requirement) → IsFirstUnmet fits xs unmet → IsFirstUnmet fits (xs ++ ys) unmet
  Checks-ended xs ys unmet first = IsFirstNot-before fits xs ys (Some unmet) first

  -- one requirement
  pub one-met : (x : Option Requirement) → fits x → All fits (x ∷ [])
  one-met x here = All-cons fits x [] here (All-nil fits)

  pub one-unmet : (x : Option Requirement) (unmet : Requirement) → x ≡ Some unmet → ¬ fits x → IsFirstUnmet fits (x ∷ []) unmet
  one-unmet x unmet is fails = subst (IsFirstNot fits (x ∷ [])) is (IsFirstNot-here fits x [] fails)

  -- what is left of a list of requirements
  module _ (now rest whole : List (Option Requirement)) (x : Option Requirement) (is : now ≡ x ∷ rest) (so : IsLeft fits now whole) where
    pub IsLeft-met : fits x → IsLeft fits rest whole
    IsLeft-met here = IsLeft-next fits now (x ∷ []) rest whole is so (one-met x here)

    pub IsLeft-unmet : (unmet : Requirement) → x ≡ Some unmet → ¬ fits x → IsFirstUnmet fits whole unmet
    IsLeft-unmet unmet same fails = IsLeft-fails fits now (x ∷ []) rest whole is so (Some unmet) (one-unmet x unmet same fails)
