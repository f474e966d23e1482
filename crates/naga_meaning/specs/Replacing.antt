-- Expressions that are replaced by others with the same values.
use Rattle.std.specs.Prelude.{◌≡◌, ℕ, ◌<◌, true, map}
use Rattle.naga_meaning.specs.Renaming.{Each}
use Rattle.naga_meaning.specs.Values.{Code, Interpretation}

module _ {Shape Action Value State : Type 0} (by : Interpretation Shape Action Value State) where
  -- each expression that is evaluated where it is used has its value
  abbrev pub IsConsistent : Code Shape → (values : ℕ → Value) → State → Type 0
  IsConsistent code values state =
      (x : ℕ) → code.at_use x ≡ true → values x ≡ by.compute (code.shape x) (map values (code.operands x)) state

  -- The new expressions have the values of the old ones, whatever values their operands have. The same expressions
  -- are evaluated where they are used, and these are unchanged.
  pub record SameValues (old new : Code Shape) : Type 0 where
    pub at_use : (x : ℕ) → new.at_use x ≡ old.at_use x
    pub shape : (x : ℕ) → old.at_use x ≡ true → new.shape x ≡ old.shape x
    pub operands : (x : ℕ) → old.at_use x ≡ true → new.operands x ≡ old.operands x
    pub computes : (x : ℕ) (values : ℕ → Value) (state : State) → IsConsistent old values state →
        by.compute (new.shape x) (map values (new.operands x)) state ≡ by.compute (old.shape x) (map values (old.operands x)) state

  -- the operands of an expression that is evaluated where it is used come before it
  abbrev pub ChainsGoBack : Code Shape → Type 0
  ChainsGoBack code = (x : ℕ) → code.at_use x ≡ true → Each (λ y. y < x) (code.operands x)
