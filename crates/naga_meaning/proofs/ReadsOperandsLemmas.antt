-- What a use reads decides its value, in readings in which it reads what its operands read.
use Rattle.std.proofs.Common.{◌≡◌, ◌∙◌, sym, ap, inl, inr, ℕ, zero, suc, ◌<◌, true, false, List, map, arith}
use Rattle.std.proofs.lemmas.Bool.{cases_Bool}
use Rattle.std.specs.List.{Contains}
use Rattle.std.specs.Prelude.{if◌then◌else◌}
use Rattle.naga_flow.specs.Uses.{Expressions, MayUse, MayUseEach}
use Rattle.naga_meaning.proofs.Known.{ReadsDecide}
use Rattle.naga_meaning.specs.Renaming.{Each}
use Rattle.naga_meaning.specs.Replacing.{ChainsGoBack}
use Rattle.naga_meaning.specs.Values.{Code, Interpretation, World, value, value_within}
use Rattle.naga_meaning.proofs.EachLemmas.{each-both, each-of_all, map-each}

-- where an expression may be used, its operands may be used too if it is evaluated there, and else it has been evaluated
pub record ReadsOperands {Shape : Type 0} (code : Code Shape) (ex : Expressions) : Type 0 where
  pub operands : (known : List ℕ) (x : ℕ) → code.at_use x ≡ true → MayUse ex known x → MayUseEach ex known (code.operands x)
  pub itself : (known : List ℕ) (x : ℕ) → code.at_use x ≡ false → MayUse ex known x → Contains known x

module _ {Shape Action Value State : Type 0} (by : Interpretation Shape Action Value State) (code : Code Shape) (ex : Expressions) (read : ReadsOperands code ex)
    (back : ChainsGoBack by code) where
  -- the second world has what is known in the first, and the same values where expressions are evaluated at their uses
  pub record Keeps (known : List ℕ) (a b : World Value State) : Type 0 where
    pub computes : (x : ℕ) → code.at_use x ≡ true → (values : List Value) → by.compute (code.shape x) values b.state ≡ by.compute (code.shape x) values a.state
    pub values : (x : ℕ) → Contains known x → b.values x ≡ a.values x

  module _ (known : List ℕ) (a b : World Value State) (keeps : Keeps known a b) where
    within-kept : (k x : ℕ) → x < k → MayUse ex known x → value_within by code k b x ≡ value_within by code k a x
    within-kept zero x less so = absurd (omega (arith, less))
    within-kept (suc k) x less so = elim (cases_Bool (code.at_use x)) [
      | inl is ↦
          let fine : Each (λ y. (y < x) × MayUse ex known y) (code.operands x) =
          each-both (λ y. y < x) (MayUse ex known) (code.operands x) (back x is) (each-of_all (MayUse ex known) (code.operands x) (read.operands known x is so))
          in
          let values : map (value_within by code k b) (code.operands x) ≡ map (value_within by code k a) (code.operands x) =
          map-each (λ y. (y < x) × MayUse ex known y) (value_within by code k a) (value_within by code k b)
          (λ y both. within-kept k y (let before : y < x = both.0 in omega (arith, less, before)) both.1) (code.operands x) fine
          in
          (λ i. if is i then by.compute (code.shape x) (map (value_within by code k b) (code.operands x)) b.state else b.values x)
          ∙ (λ i. by.compute (code.shape x) (values i) b.state) ∙ keeps.computes x is (map (value_within by code k a) (code.operands x))
          ∙ sym (λ i. if is i then by.compute (code.shape x) (map (value_within by code k a) (code.operands x)) a.state else a.values x)
      | inr is ↦
          (λ i. if is i then by.compute (code.shape x) (map (value_within by code k b) (code.operands x)) b.state else b.values x)
          ∙ keeps.values x (read.itself known x is so)
          ∙ sym (λ i. if is i then by.compute (code.shape x) (map (value_within by code k a) (code.operands x)) a.state else a.values x)
    ]

    pub value-kept : (x : ℕ) → MayUse ex known x → value by code b x ≡ value by code a x
    value-kept x so = within-kept (suc x) x (omega arith) so

    pub values-kept : (xs : List ℕ) → MayUseEach ex known xs → map (value by code b) xs ≡ map (value by code a) xs
    values-kept xs so = map-each (MayUse ex known) (value by code a) (value by code b) value-kept xs (each-of_all (MayUse ex known) xs so)

  pub operands-decide : ReadsDecide by code ex
  operands-decide known x a b s so =
      value-kept known a b (record { computes = λ y is values. ap (by.compute (code.shape y) values) s.state; values = s.values }) x so
