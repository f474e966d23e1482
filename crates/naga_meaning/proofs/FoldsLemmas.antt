-- Folding keeps outcomes.
use Rattle.std.proofs.Common.{◌≡◌, ◌∙◌, sym, ap, subst, refl, inl, inr, ℕ, zero, suc, ◌<◌, Bool, true, false, List, [], ◌∷◌, map, Option, Some, None, arith}
use Rattle.std.proofs.lemmas.Bool.{cases_Bool}
use Rattle.std.specs.Prelude.{if◌then◌else◌}
use Rattle.naga_ir.specs.Tree.{Tree}
use Rattle.naga_ir.specs.declared.statement.Statement.{Statement}
use Rattle.naga_meaning.specs.Folding.{AreFolded, Folds, KeepsFolded}
use Rattle.naga_meaning.specs.Machine.{IfAny, IsIn}
use Rattle.naga_meaning.specs.Replacing.{SameValues, ChainsGoBack}
use Rattle.naga_meaning.proofs.Simulation.{Simulates}
use Rattle.naga_meaning.specs.Values.{Interpretation, Code, Parts, World, put, put_result, value_within, value, emitted_value, emit, act, acted, ends, machine, outcome, stopped}
use Rattle.naga_meaning.proofs.SameValuesLemmas.{value-consistent}
use Rattle.naga_meaning.proofs.EachLemmas.{map-each}
use Rattle.naga_meaning.proofs.SimulatesLemmas.{outcome-simulated}
use Rattle.naga_meaning.specs.Renaming.{Each}
use Rattle.naga_meaning.proofs.RenamesCodeLemmas.{eq-either, eq-no, eq-yes}

-- ---- folding

module _ {Shape Action Value State : Type 0} (parts : Parts Action) (by : Interpretation Shape Action Value State) (folded : ℕ → Bool) (constant : ℕ → Value) (old new : Code Shape)
    (folds : Folds by folded constant old new) (back : ChainsGoBack by old) where
  abbrev Folded : World Value State → Type 0
  Folded w = AreFolded by folded constant w.values

  itself : SameValues by old old
  itself = record { at_use = λ x. refl; shape = λ x h. refl; operands = λ x h. refl; computes = λ x vs state h. refl }

  -- a folded expression, where it is used
  old-folded : (k x : ℕ) (w : World Value State) → Folded w → folded x ≡ true → value_within by old k w x ≡ constant x
  old-folded zero x w h so = h x so
  old-folded (suc k) x w h so =
      (λ i. if folds.emitted x so i then by.compute (old.shape x) (map (value_within by old k w) (old.operands x)) w.state else w.values x) ∙ h x so

  within-folded : (k x : ℕ) (w : World Value State) → Folded w → value_within by new k w x ≡ value_within by old k w x
  within-folded zero x w h = refl
  within-folded (suc k) x w h = elim (cases_Bool (folded x)) [
    | inl so ↦
        (λ i. if folds.ready x so i then by.compute (new.shape x) (map (value_within by new k w) (new.operands x)) w.state else w.values x)
        ∙ folds.known x so (value_within by new k w) w.state ∙ sym (old-folded (suc k) x w h so)
    | inr other ↦
        λ i. if folds.at_use x other i then by.compute (folds.shape x other i) (map (λ y. within-folded k y w h i) (folds.operands x other i)) w.state else w.values x
  ]

  value-folded : (x : ℕ) (w : World Value State) → Folded w → value by new w x ≡ value by old w x
  value-folded x w h = within-folded (suc x) x w h

  old-emitted_value : (x : ℕ) (w : World Value State) → Folded w → folded x ≡ true → emitted_value by old w x ≡ constant x
  old-emitted_value x w h so =
      folds.computed x so (value by old w) w.state (value-consistent parts by old old itself back w) (λ y also. old-folded (suc y) y w h also)

  emitted_value-folded : (x : ℕ) (w : World Value State) → Folded w → emitted_value by new w x ≡ emitted_value by old w x
  emitted_value-folded x w h = elim (cases_Bool (folded x)) [
    | inl so ↦ folds.known x so (value by new w) w.state ∙ sym (old-emitted_value x w h so)
    | inr other ↦ λ i. by.compute (folds.shape x other i) (map (λ y. value-folded y w h i) (folds.operands x other i)) w.state
  ]

  put-folded : (x : ℕ) (v : Value) (w : World Value State) → Folded w → (folded x ≡ true → v ≡ constant x) → Folded (put x v w)
  put-folded x v w h is y so = elim (eq-either y x) [
    | yes e ↦ ap (λ t. if t then v else w.values y) (eq-yes y x e) ∙ is (sym (ap folded e) ∙ so) ∙ sym (ap constant e)
    | no other ↦ ap (λ t. if t then v else w.values y) (eq-no y x other) ∙ h y so
  ]

  emit-folded : (xs : List ℕ) (w : World Value State) → Folded w → Folded (emit by old xs w) × (emit by new xs w ≡ emit by old xs w)
  emit-folded [] w h = (h, refl)
  emit-folded (x ∷ xs) w h =
      let later = emit-folded xs (put x (emitted_value by old w x) w) (put-folded x (emitted_value by old w x) w h (λ so. old-emitted_value x w h so)) in
      (later.0, ap (λ v. emit by new xs (put x v w)) (emitted_value-folded x w h) ∙ later.1)

  result-folded : (result : Option ℕ) (v : Value) (w : World Value State) → Folded w → IfAny (λ x. folded x ≡ false) result → Folded (put_result result v w)
  result-folded None v w h none = h
  result-folded (Some x) v w h none = put-folded x v w h (λ so. let clash : true ≡ false = sym so ∙ none in absurd cc)

  abbrev Same : World Value State → World Value State → Type 0
  Same a b = Folded a × (b ≡ a)

  acted-folded : (action : Option Action) (uses : List ℕ) (result : Option ℕ) → IfAny (λ x. folded x ≡ false) result → (w : World Value State) → Folded w →
      Same (acted by old action uses result w) (acted by new action uses result w)
  acted-folded None uses result keeps w h = (h, refl)
  acted-folded (Some action) uses result keeps w h =
      let after = by.perform action (map (value by old w) uses) w.state in (
        result-folded result after.1 (record w { state = after.0 }) h keeps,
        λ i. let next = by.perform action (map (λ y. value-folded y w h i) uses) w.state in
            put_result result next.1 (record w { state = next.0 }),
      )

  act-folded : (what : Statement) → KeepsFolded by folded constant parts what → (w : World Value State) → Folded w → Same (act parts by old what w) (act parts by new what w)
  act-folded what keeps w h = acted-folded (parts.action what) (parts.uses what) (parts.result what) keeps w h

  stopped-folded : (action : Option Action) (uses : List ℕ) (w : World Value State) → Folded w → stopped by new action uses w ≡ stopped by old action uses w
  stopped-folded None uses w h = refl
  stopped-folded (Some action) uses w h = λ i. by.stop action (map (λ y. value-folded y w h i) uses) w.state

  simulates : Simulates Same (λ x. x) (λ x. Unit {0}) (KeepsFolded by folded constant parts) (λ what. what) (machine parts by old) (machine parts by new)
  simulates = record {
    performs = λ what keeps a b s.
        let emitted = emit-folded (parts.emits what) a s.0 in
        let acted = act-folded what keeps (emit by old (parts.emits what) a) emitted.0 in
        (acted.0, ap (λ w. act parts by new what (emit by new (parts.emits what) w)) s.1 ∙ ap (act parts by new what) emitted.1 ∙ acted.1);
    stops = λ what keeps a b s.
        let emitted = emit-folded (parts.emits what) a s.0 in
        ap (λ w. ends parts by new what (emit by new (parts.emits what) w)) s.1 ∙ ap (ends parts by new what) emitted.1
        ∙ stopped-folded (parts.action what) (parts.uses what) (emit by old (parts.emits what) a) emitted.0;
    answers = λ handle so a b s. ap (λ w. by.decide (value by new w handle)) s.1 ∙ ap by.decide (value-folded handle a s.0);
    choices = λ handle vs so a b s. ap (λ w. by.choose (value by new w handle) vs) s.1 ∙ ap (λ v. by.choose v vs) (value-folded handle a s.0);
  }

  pub outcome-folded : (turns : ℕ) (body : Tree) → IsIn (KeepsFolded by folded constant parts) (λ x. Unit {0}) body → (start : World Value State) → Folded start →
      outcome parts by new turns body start ≡ outcome parts by old turns body start
  outcome-folded turns body h start so =
      outcome-simulated parts by old new (KeepsFolded by folded constant parts) Same simulates
      (λ a b s. ap (λ (w : World Value State). w.state) s.1) (λ x a b s. ap (λ w. value by new w x) s.1 ∙ value-folded x a s.0) turns body h start start (so, refl)

  -- ---- what is evaluated where it is used is not read

  -- the same state, and the same values of what is not evaluated where it is used
  abbrev SameRead : World Value State → World Value State → Type 0
  SameRead a b = (b.state ≡ a.state) × ((x : ℕ) → new.at_use x ≡ false → b.values x ≡ a.values x)

  within-read : (k x : ℕ) (a b : World Value State) → SameRead a b → x < k → value_within by new k b x ≡ value_within by new k a x
  within-read zero x a b s less = absurd (omega (arith, less))
  within-read (suc k) x a b s less = elim (cases_Bool (folded x)) [
    | inl so ↦
        (λ i. if folds.ready x so i then by.compute (new.shape x) (map (value_within by new k b) (new.operands x)) b.state else b.values x)
        ∙ folds.known x so (value_within by new k b) b.state
        ∙ sym ((λ i. if folds.ready x so i then by.compute (new.shape x) (map (value_within by new k a) (new.operands x)) a.state else a.values x)
        ∙ folds.known x so (value_within by new k a) a.state)
    | inr other ↦ go other (λ y before. within-read k y a b s (omega (arith, less, before))) (new.at_use x) refl
  ]
    where
      go : folded x ≡ false → ((y : ℕ) → y < x → value_within by new k b y ≡ value_within by new k a y) → (t : Bool) → new.at_use x ≡ t →
          (if t then by.compute (new.shape x) (map (value_within by new k b) (new.operands x)) b.state else b.values x)
          ≡ (if t then by.compute (new.shape x) (map (value_within by new k a) (new.operands x)) a.state else a.values x)
      go other later true is =
          let before : Each (λ y. y < x) (new.operands x) = subst (Each (λ y. y < x)) (sym (folds.operands x other)) (back x (sym (folds.at_use x other) ∙ is)) in
          λ i. by.compute (new.shape x) (map-each (λ y. y < x) (value_within by new k a) (value_within by new k b) later (new.operands x) before i) (s.0 i)
      go other later false is = s.1 x is

  value-read : (x : ℕ) (a b : World Value State) → SameRead a b → value by new b x ≡ value by new a x
  value-read x a b s = within-read (suc x) x a b s (omega arith)

  put-read : (x : ℕ) (v w : Value) (a b : World Value State) → SameRead a b → w ≡ v → SameRead (put x v a) (put x w b)
  put-read x v w a b s is = (
    s.0,
    λ y emitted. elim (eq-either y x) [
      | yes e ↦ ap (λ t. if t then w else b.values y) (eq-yes y x e) ∙ is ∙ sym (ap (λ t. if t then v else a.values y) (eq-yes y x e))
      | no other ↦ ap (λ t. if t then w else b.values y) (eq-no y x other) ∙ s.1 y emitted ∙ sym (ap (λ t. if t then v else a.values y) (eq-no y x other))
    ],
  )

  emit-read : (xs : List ℕ) (a b : World Value State) → SameRead a b → SameRead (emit by new xs a) (emit by new xs b)
  emit-read [] a b s = s
  emit-read (x ∷ xs) a b s =
      emit-read xs (put x (emitted_value by new a x) a) (put x (emitted_value by new b x) b)
      (put-read x (emitted_value by new a x) (emitted_value by new b x) a b s (λ i. by.compute (new.shape x) (map (λ y. value-read y a b s i) (new.operands x)) (s.0 i)))

  result-read : (result : Option ℕ) (v w : Value) (a b : World Value State) → SameRead a b → w ≡ v → SameRead (put_result result v a) (put_result result w b)
  result-read None v w a b s is = s
  result-read (Some x) v w a b s is = put-read x v w a b s is

  acted-read : (action : Option Action) (uses : List ℕ) (result : Option ℕ) (a b : World Value State) → SameRead a b → SameRead (acted by new action uses result a) (acted by new action uses result b)
  acted-read None uses result a b s = s
  acted-read (Some action) uses result a b s =
      let after = by.perform action (map (value by new a) uses) a.state in
      let after' = by.perform action (map (value by new b) uses) b.state in
      let same : after' ≡ after = λ i. by.perform action (map (λ y. value-read y a b s i) uses) (s.0 i) in
      result-read result after.1 after'.1 (record a { state = after.0 }) (record b { state = after'.0 }) (ap (λ x. x.0) same, s.1) (ap (λ x. x.1) same)

  stopped-read : (action : Option Action) (uses : List ℕ) (a b : World Value State) → SameRead a b → stopped by new action uses b ≡ stopped by new action uses a
  stopped-read None uses a b s = refl
  stopped-read (Some action) uses a b s = λ i. by.stop action (map (λ y. value-read y a b s i) uses) (s.0 i)

  simulates-read : Simulates SameRead (λ x. x) (λ x. Unit {0}) (KeepsFolded by folded constant parts) (λ what. what) (machine parts by new) (machine parts by new)
  simulates-read = record {
    performs = λ what keeps a b s. acted-read (parts.action what) (parts.uses what) (parts.result what) (emit by new (parts.emits what) a) (emit by new (parts.emits what) b) (emit-read (parts.emits what) a b s);
    stops = λ what keeps a b s. stopped-read (parts.action what) (parts.uses what) (emit by new (parts.emits what) a) (emit by new (parts.emits what) b) (emit-read (parts.emits what) a b s);
    answers = λ handle so a b s. ap by.decide (value-read handle a b s);
    choices = λ handle vs so a b s. ap (λ v. by.choose v vs) (value-read handle a b s);
  }

  abbrev with_constants : World Value State → World Value State
  with_constants w = record w { values = λ x. if folded x then constant x else w.values x }

  with_constants-folded : (w : World Value State) → Folded (with_constants w)
  with_constants-folded w x so = ap (λ t. if t then constant x else w.values x) so

  with_constants-read : (w : World Value State) → SameRead (with_constants w) w
  with_constants-read w = (
    refl,
    λ x emitted. elim (cases_Bool (folded x)) [
      | inl so ↦ absurd (let clash : true ≡ false = sym (folds.ready x so) ∙ emitted in cc)
      | inr other ↦ sym (ap (λ t. if t then constant x else w.values x) other)
    ],
  )

  -- the folded body has the outcome that the old one has where folded expressions have their constants
  pub outcome-read : (turns : ℕ) (body : Tree) → IsIn (KeepsFolded by folded constant parts) (λ x. Unit {0}) body → (start : World Value State) →
      outcome parts by new turns body start ≡ outcome parts by old turns body (record start { values = λ x. if folded x then constant x else start.values x })
  outcome-read turns body h start =
      outcome-simulated parts by new new (KeepsFolded by folded constant parts) SameRead simulates-read (λ a b s. s.0) value-read turns body h (with_constants start) start (with_constants-read start)
      ∙ outcome-folded turns body h (with_constants start) (with_constants-folded start)
