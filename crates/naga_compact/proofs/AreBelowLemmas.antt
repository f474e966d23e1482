-- Whether the expressions among some handles are below an index, handle by handle.
use Rattle.std.proofs.Common.{◌≡◌, sym, subst, refl, inl, inr, ℕ, ◌<◌, List, [], ◌∷◌, Option, Some, None}
use Rattle.std.specs.ControlFlow.{MatchControlFlow}
use Rattle.std.specs.List.{cons_option}
use Rattle.std.specs.declared.ops.ControlFlow.{ControlFlow}
use Rattle.std.specs.declared.ops.ControlFlow.TheVariants.{Break, Continue}
use Rattle.std.specs.Prelude.{◌↔◌, All, IfSome}
use Rattle.std.proofs.lemmas.List.Elements.{All-cons, All-head, All-nil, All-tail}
use Rattle.naga_valid.specs.Operands.{expression_of, expressions_of}
use Rattle.naga_valid.specs.Visits.{AreVisited, Step}
use Rattle.naga_valid.specs.declared.reference.Reference.{Reference}
use Rattle.naga_compact.specs.Precede.{IsBelow, stops_past}

abbrev pub AreBelow : ℕ → List Reference → Type 0
AreBelow index references = All (λ operand. operand < index) (expressions_of references)

pub AreBelow-nil : (index : ℕ) → AreBelow index []
AreBelow-nil index = All-nil (λ operand. operand < index)

module _ (index : ℕ) where
  cons_below : (first : Option ℕ) (rest : List ℕ) → IfSome first (λ operand. operand < index) → All (λ operand. operand < index) rest → All (λ operand. operand < index) (cons_option first rest)
  cons_below None rest h all = all
  cons_below (Some x) rest h all = All-cons (λ operand. operand < index) x rest h all

  first_below : (first : Option ℕ) (rest : List ℕ) → All (λ operand. operand < index) (cons_option first rest) → IfSome first (λ operand. operand < index)
  first_below None rest all = tt
  first_below (Some x) rest all = All-head (λ operand. operand < index) x rest all

  rest_below : (first : Option ℕ) (rest : List ℕ) → All (λ operand. operand < index) (cons_option first rest) → All (λ operand. operand < index) rest
  rest_below None rest all = all
  rest_below (Some x) rest all = All-tail (λ operand. operand < index) x rest all

  pub AreBelow-first : (references rest : List Reference) (first : Reference) → references ≡ first ∷ rest → AreBelow index references → IfSome (expression_of first) (λ operand. operand < index)
  AreBelow-first references rest first is all = first_below (expression_of first) (expressions_of rest) (subst (AreBelow index) is all)

  pub AreBelow-rest : (references rest : List Reference) (first : Reference) → references ≡ first ∷ rest → IfSome (expression_of first) (λ operand. operand < index) → AreBelow index rest ↔ AreBelow index references
  AreBelow-rest references rest first is h = (
    λ all. subst (AreBelow index) (sym is) (cons_below (expression_of first) (expressions_of rest) h all),
    λ all. rest_below (expression_of first) (expressions_of rest) (subst (AreBelow index) is all),
  )

-- what a visitor finds that stops at an expression that is not below the index
module _ {State : Type 0} (index_of : State → ℕ) where
  abbrev step : Step (Unit {0}) State
  step old to answer new = stops_past (index_of old) to answer (index_of new)

  abbrev Found : ℕ → List Reference → ControlFlow (Unit {0}) (Unit {0}) → Type 0
  Found index list answer = MatchControlFlow answer (λ _. AreBelow index list) (λ _. ¬ AreBelow index list)

  -- the first reference is below the index, and this is so of the others
  later : (index : ℕ) (to : Reference) (others : List Reference) → IsBelow index to → (answer : ControlFlow (Unit {0}) (Unit {0})) → Found index others answer → Found index (to ∷ others) answer
  later index to others below (Continue _) all = (AreBelow-rest index (to ∷ others) others to refl below).0 all
  later index to others below (Break _) none = λ all. none ((AreBelow-rest index (to ∷ others) others to refl below).1 all)

  pub AreVisited-below : (old : State) (list : List Reference) (answer : ControlFlow (Unit {0}) (Unit {0})) (new : State) → AreVisited step old list answer new → Found (index_of old) list answer
  AreVisited-below old [] answer new visited = subst (Found (index_of old) []) (sym visited.0) (AreBelow-nil (index_of old))
  AreVisited-below old (to ∷ others) answer new (inl (stop, is, (same, past))) =
      subst (Found (index_of old) (to ∷ others)) (sym is) (λ all. past (AreBelow-first (index_of old) (to ∷ others) others to refl all))
  AreVisited-below old (to ∷ others) answer new (inr (next, (same, below), rest)) =
      later (index_of old) to others below answer (subst (λ index. Found index others answer) same (AreVisited-below next others answer new rest))
