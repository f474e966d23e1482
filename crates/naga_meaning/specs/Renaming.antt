-- Bodies of which some expressions are dropped, and the others renamed.
use Rattle.std.specs.Prelude.{◌≡◌, ⊤, ℕ, ◌<◌, Bool, true, List, [], ◌∷◌, map, Option, option_map}
use Rattle.std.specs.List.{filter}
use Rattle.naga_ir.specs.declared.statement.Statement.{Statement}
use Rattle.naga_meaning.specs.Machine.{IfAny}
use Rattle.naga_meaning.specs.Values.{Code, Parts, World}

-- each handle of the list is in `P`
abbrev pub Each : (P : ℕ → Type 0) → List ℕ → Type 0
Each P [] = ⊤
Each P (handle ∷ rest) = P handle × Each P rest

module _ (kept : ℕ → Bool) (f : ℕ → ℕ) where
  -- the expression is not dropped
  abbrev pub IsKept : ℕ → Type 0
  IsKept handle = kept handle ≡ true

  -- The new code has the kept expressions of the old one, in their order, at their new handles. The operands of an
  -- expression that is kept are kept, and come before it.
  pub record RenamesCode {Shape : Type 0} (old new : Code Shape) : Type 0 where
    pub grows : (x y : ℕ) → IsKept x → IsKept y → x < y → f x < f y
    pub distinct : (x y : ℕ) → IsKept x → IsKept y → f x ≡ f y → x ≡ y
    pub shape : (x : ℕ) → IsKept x → new.shape (f x) ≡ old.shape x
    pub at_use : (x : ℕ) → IsKept x → new.at_use (f x) ≡ old.at_use x
    pub operands : (x : ℕ) → IsKept x → new.operands (f x) ≡ map f (old.operands x)
    pub operands_kept : (x : ℕ) → IsKept x → Each IsKept (old.operands x)
    pub operands_before : (x : ℕ) → IsKept x → Each (λ y. y < x) (old.operands x)

  -- The new statement is the old one at the new handles. It evaluates only what is kept, and what it uses and its
  -- result are kept.
  pub record RenamesStatement {Action : Type 0} (parts parts' : Parts Action) (old new : Statement) : Type 0 where
    pub action : parts'.action new ≡ parts.action old
    pub emits : parts'.emits new ≡ map f (filter kept (parts.emits old))
    pub uses : parts'.uses new ≡ map f (parts.uses old)
    pub uses_kept : Each IsKept (parts.uses old)
    pub result : parts'.result new ≡ option_map f (parts.result old)
    pub result_kept : IfAny IsKept (parts.result old)

  -- the same state, and the same values of what is kept
  pub record SameKept {Value State : Type 0} (old new : World Value State) : Type 0 where
    pub state : new.state ≡ old.state
    pub values : (x : ℕ) → IsKept x → new.values (f x) ≡ old.values x
