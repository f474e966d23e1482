-- Expressions that are folded: replaced by others whose values are known, as literals are.
use Rattle.std.specs.Prelude.{◌≡◌, ℕ, Bool, true, false, map}
use Rattle.naga_ir.specs.declared.statement.Statement.{Statement}
use Rattle.naga_meaning.specs.Machine.{IfAny}
use Rattle.naga_meaning.specs.Values.{Code, Interpretation, Parts}
use Rattle.naga_meaning.specs.Replacing.{IsConsistent}

module _ {Shape Action Value State : Type 0} (by : Interpretation Shape Action Value State) (folded : ℕ → Bool) (constant : ℕ → Value) where
  -- each folded expression has its constant
  abbrev pub AreFolded : (ℕ → Value) → Type 0
  AreFolded values = (x : ℕ) → folded x ≡ true → values x ≡ constant x

  -- Each folded expression is evaluated to its constant wherever the others have theirs, and the new expression has
  -- this value wherever it is used, as a literal has. All other expressions are unchanged.
  pub record Folds (old new : Code Shape) : Type 0 where
    pub emitted : (x : ℕ) → folded x ≡ true → old.at_use x ≡ false
    pub computed : (x : ℕ) → folded x ≡ true → (values : ℕ → Value) (state : State) → IsConsistent by old values state → AreFolded values →
        by.compute (old.shape x) (map values (old.operands x)) state ≡ constant x
    pub known : (x : ℕ) → folded x ≡ true → (values : ℕ → Value) (state : State) → by.compute (new.shape x) (map values (new.operands x)) state ≡ constant x
    pub ready : (x : ℕ) → folded x ≡ true → new.at_use x ≡ true
    pub shape : (x : ℕ) → folded x ≡ false → new.shape x ≡ old.shape x
    pub operands : (x : ℕ) → folded x ≡ false → new.operands x ≡ old.operands x
    pub at_use : (x : ℕ) → folded x ≡ false → new.at_use x ≡ old.at_use x

  -- the result of the statement is no folded expression
  abbrev pub KeepsFolded : Parts Action → Statement → Type 0
  KeepsFolded parts what = IfAny (λ x. folded x ≡ false) (parts.result what)
