-- Outcomes do not change when expressions are replaced by others that have the same values.
use Rattle.std.proofs.Common.{◌≡◌, ◌∙◌, ap, refl, ℕ, zero, suc, ◌<◌, Bool, true, false, List, [], ◌∷◌, map, Option, None, Some, arith}
use Rattle.std.specs.Prelude.{if◌then◌else◌, option_map}
use Rattle.naga_ir.specs.Tree.{Tree}
use Rattle.naga_ir.specs.declared.statement.Statement.{Statement}
use Rattle.naga_meaning.specs.Machine.{Machine}
use Rattle.naga_meaning.specs.Replacing.{IsConsistent, SameValues, ChainsGoBack}
use Rattle.naga_meaning.specs.Values.{Interpretation, Code, Parts, World, put, put_result, value_within, value, emitted_value, emit, act, acted, ends, machine, outcome, outcome_of, result_of_ending, stopped}
use Rattle.naga_meaning.specs.Machine as way
use Rattle.naga_meaning.proofs.EachLemmas.{map-each}

module _ {Shape Action Value State : Type 0} (parts : Parts Action) (by : Interpretation Shape Action Value State) (old new : Code Shape) (same : SameValues by old new) (back : ChainsGoBack by old) where
  -- more steps than an expression has change nothing
  pub within-stable : (k l x : ℕ) (w : World Value State) → x < k → x < l → value_within by old l w x ≡ value_within by old k w x
  within-stable zero l x w less less' = absurd (omega (arith, less))
  within-stable (suc k) zero x w less less' = absurd (omega (arith, less'))
  within-stable (suc k) (suc l) x w less less' =
      go (λ y before. within-stable k l y w (omega (arith, less, before)) (omega (arith, less', before))) (old.at_use x) refl
    where
      go : ((y : ℕ) → y < x → value_within by old l w y ≡ value_within by old k w y) → (t : Bool) → old.at_use x ≡ t →
          (if t then by.compute (old.shape x) (map (value_within by old l w) (old.operands x)) w.state else w.values x)
          ≡ (if t then by.compute (old.shape x) (map (value_within by old k w) (old.operands x)) w.state else w.values x)
      go later true is =
          ap (λ vs. by.compute (old.shape x) vs w.state)
          (map-each (λ y. y < x) (value_within by old k w) (value_within by old l w) later (old.operands x) (back x is))
      go later false is = refl

  pub value-consistent : (w : World Value State) → IsConsistent by old (value by old w) w.state
  value-consistent w x is =
      (λ i. if is i then by.compute (old.shape x) (map (value_within by old x w) (old.operands x)) w.state else w.values x)
      ∙ ap (λ vs. by.compute (old.shape x) vs w.state)
      (map-each (λ y. y < x) (value by old w) (value_within by old x w) (λ y before. within-stable (suc y) x y w (omega arith) before) (old.operands x) (back x is))

  within-replaced : (k x : ℕ) (w : World Value State) → value_within by new k w x ≡ value_within by old k w x
  within-replaced zero x w = refl
  within-replaced (suc k) x w =
      (λ i. if same.at_use x i then by.compute (new.shape x) (map (value_within by new k w) (new.operands x)) w.state else w.values x) ∙ go (λ y. within-replaced k y w) (old.at_use x) refl
    where
      go : ((y : ℕ) → value_within by new k w y ≡ value_within by old k w y) → (t : Bool) → old.at_use x ≡ t →
          (if t then by.compute (new.shape x) (map (value_within by new k w) (new.operands x)) w.state else w.values x)
          ≡ (if t then by.compute (old.shape x) (map (value_within by old k w) (old.operands x)) w.state else w.values x)
      go later true is = λ i. by.compute (same.shape x is i) (map (λ y. later y i) (same.operands x is i)) w.state
      go later false is = refl

  value-replaced : (w : World Value State) (x : ℕ) → value by new w x ≡ value by old w x
  value-replaced w x = within-replaced (suc x) x w

  emitted_value-replaced : (w : World Value State) (x : ℕ) → emitted_value by new w x ≡ emitted_value by old w x
  emitted_value-replaced w x =
      (λ i. by.compute (new.shape x) (map (λ y. value-replaced w y i) (new.operands x)) w.state)
      ∙ same.computes x (value by old w) w.state (value-consistent w)

  emit-replaced : (xs : List ℕ) (w : World Value State) → emit by new xs w ≡ emit by old xs w
  emit-replaced [] w = refl
  emit-replaced (x ∷ xs) w =
      ap (λ v. emit by new xs (put x v w)) (emitted_value-replaced w x) ∙ emit-replaced xs (put x (emitted_value by old w x) w)

  acted-replaced : (action : Option Action) (uses : List ℕ) (result : Option ℕ) (w : World Value State) → acted by new action uses result w ≡ acted by old action uses result w
  acted-replaced None uses result w = refl
  acted-replaced (Some action) uses result w =
      λ i. let after = by.perform action (map (λ y. value-replaced w y i) uses) w.state in
      put_result result after.1 (record w { state = after.0 })

  act-replaced : (what : Statement) (w : World Value State) → act parts by new what w ≡ act parts by old what w
  act-replaced what w = acted-replaced (parts.action what) (parts.uses what) (parts.result what) w

  stopped-replaced : (action : Option Action) (uses : List ℕ) (w : World Value State) → stopped by new action uses w ≡ stopped by old action uses w
  stopped-replaced None uses w = refl
  stopped-replaced (Some action) uses w = λ i. by.stop action (map (λ y. value-replaced w y i) uses) w.state

  machine-replaced : machine parts by new ≡ machine parts by old
  machine-replaced = λ i. record {
    perform = λ what w. (ap (act parts by new what) (emit-replaced (parts.emits what) w) ∙ act-replaced what (emit by old (parts.emits what) w)) i;
    stop = λ what w. (ap (ends parts by new what) (emit-replaced (parts.emits what) w) ∙ stopped-replaced (parts.action what) (parts.uses what) (emit by old (parts.emits what) w)) i;
    answer = λ handle w. by.decide (value-replaced w handle i);
    choice = λ handle vs w. by.choose (value-replaced w handle i) vs;
  }

  pub outcome-replaced : (turns : ℕ) (body : Tree) (w : World Value State) → outcome parts by new turns body w ≡ outcome parts by old turns body w
  outcome-replaced turns body w =
      (λ i. outcome_of by new (way.does (machine-replaced i) turns body w)) ∙ of_same (way.does (machine parts by old) turns body w)
    where
      of_same : (left : way.Done (World Value State)) → outcome_of by new left ≡ outcome_of by old left
      of_same left = λ i. record (outcome_of by old left) { returned = option_map (λ y. value-replaced left.state y i) (result_of_ending left.ending) }
