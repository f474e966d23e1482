-- What a visitor that appends texts has appended when it has gone through a list.
use Rattle.std.proofs.Common.{◌≡◌, ◌∙◌, sym, ap, ℕ, List, [], ◌∷◌, ◌++◌, append_assoc, append-nil, inl, inr, subst}
use Rattle.std.specs.ControlFlow.{MatchControlFlow}
use Rattle.std.specs.declared.ops.ControlFlow.{ControlFlow}
use Rattle.std.specs.declared.ops.ControlFlow.TheVariants.{Break, Continue}
use Rattle.naga_valid.specs.Visits.{AreVisited}
use Rattle.naga_valid.specs.declared.reference.Reference.{Reference}
use Rattle.naga_text.specs.Operands.{appends, reference_text, references_text}

abbrev goes_on : (Stop : Type 0) → ControlFlow Stop (Unit {0})
goes_on Stop = Continue tt

continue≢break : (Stop : Type 0) (stop : Stop) → goes_on Stop ≡ Break stop → ⊥
continue≢break Stop stop same = subst (λ answer. MatchControlFlow answer (λ _. Unit {0}) (λ _. ⊥)) same (tt {0})

references_text-goes_on : (Stop : Type 0) (old : List ℕ) (list : List Reference) (new : List ℕ) → AreVisited (appends {E = Stop}) old list (goes_on Stop) new → new ≡ old ++ references_text list
references_text-goes_on Stop old [] new visited = visited.1 ∙ sym (append-nil old)
references_text-goes_on Stop old (x ∷ xs) new (inl stopped) = absurd (continue≢break Stop stopped.0 stopped.1)
references_text-goes_on Stop old (x ∷ xs) new (inr on) =
    references_text-goes_on Stop on.0 xs new on.2
    ∙ ap (λ text. text ++ references_text xs) on.1
    ∙ append_assoc old (reference_text x) (references_text xs)

-- a visitor that went on to the end has appended the text of each reference
pub references_text-visited : (Stop : Type 0) (old : List ℕ) (list : List Reference) (answer : ControlFlow Stop (Unit {0})) (new : List ℕ) → answer ≡ Continue tt → AreVisited (appends {E = Stop}) old list answer new → new ≡ old ++ references_text list
references_text-visited Stop old list answer new goes visited =
    references_text-goes_on Stop old list new (subst (λ a. AreVisited (appends {E = Stop}) old list a new) goes visited)
