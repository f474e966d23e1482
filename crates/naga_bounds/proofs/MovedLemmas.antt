-- Values and statements in a function whose expressions have new handles, where some of those that an `Emit` evaluates are
-- replaced.
use Rattle.std.proofs.Common.{◌≡◌, ◌∙◌, sym, ap, refl, ℕ, zero, suc, ◌<◌, Bool, true, false, List, [], ◌∷◌, map, Option, Some, None, arith}
use Rattle.std.proofs.lemmas.Bool.Decides.{nat_tests}
use Rattle.std.specs.Prelude.{if◌then◌else◌, nat_lt, option_map}
use Rattle.naga_meaning.specs.Machine.{IfAny}
use Rattle.naga_meaning.specs.Renaming.{Each, IsKept, SameKept}
use Rattle.naga_meaning.specs.Values.{Code, Interpretation, World, acted, constant, constant_within, emitted_value, entered, put, put_result, stopped, value, value_within}
use Rattle.naga_meaning.proofs.EachLemmas.{each-both, map-renamed}
use Rattle.naga_meaning.proofs.RenamesCodeLemmas.{EachPresent, eq-either, eq-no, eq-yes}

-- the first expressions
abbrev pub below : (count : ℕ) → ℕ → Bool
below count x = nat_lt x count

module _ {Shape Action Value State : Type 0} (by : Interpretation Shape Action Value State) (count : ℕ) (f : ℕ → ℕ) (old new : Code Shape) where
  abbrev pub Inside : ℕ → Type 0
  Inside x = IsKept (below count) f x

  -- the expression has its shape and its operands at its new handle
  abbrev pub IsSame : ℕ → Type 0
  IsSame x = (new.shape (f x) ≡ old.shape x) × (new.operands (f x) ≡ map f (old.operands x))

  -- The first expressions have new handles, in their order. Those that are evaluated where they are used have their shapes
  -- and their operands there, which are among them.
  pub record MovesCode : Type 0 where
    pub grows : (x y : ℕ) → Inside x → Inside y → x < y → f x < f y
    pub distinct : (x y : ℕ) → Inside x → Inside y → f x ≡ f y → x ≡ y
    pub at_use : (x : ℕ) → Inside x → new.at_use (f x) ≡ old.at_use x
    pub before : (x : ℕ) → Inside x → Each (λ y. y < x) (old.operands x)
    pub same : (x : ℕ) → Inside x → old.at_use x ≡ true → IsSame x

  abbrev pub Moved : World Value State → World Value State → Type 0
  Moved = SameKept (below count) f

  pub inside-less : (x : ℕ) → Inside x → x < count
  inside-less x so = let test : nat_lt x count ≡ true = so in grind (arith, nat_tests)

  pub less-inside : (x : ℕ) → x < count → Inside x
  less-inside x less = let test : nat_lt x count ≡ true = grind (arith, nat_tests) in test

  module _ (moves : MovesCode) where
    each-inside : (x : ℕ) → Inside x → (ys : List ℕ) → Each (λ y. y < x) ys → Each Inside ys
    each-inside x so [] h = tt
    each-inside x so (y ∷ ys) h = (let less = inside-less x so in less-inside y (omega (arith, less, h.0)), each-inside x so ys h.1)

    within-moved : (k l x : ℕ) (a b : World Value State) → Moved a b → Inside x → x < k → f x < l → value_within by new l b (f x) ≡ value_within by old k a x
    within-moved zero l x a b s so less less' = absurd (omega (arith, less))
    within-moved (suc k) zero x a b s so less less' = absurd (omega (arith, less'))
    within-moved (suc k) (suc l) x a b s so less less' =
        let operand : (y : ℕ) → Inside y × (y < x) → value_within by new l b (f y) ≡ value_within by old k a y =
        λ y both.
        let rises = moves.grows y x both.0 so both.1 in
        within-moved k l y a b s both.0 (omega (arith, less, both.1)) (omega (arith, less', rises))
        in
        go operand (old.at_use x) refl
      where
        go : ((y : ℕ) → Inside y × (y < x) → value_within by new l b (f y) ≡ value_within by old k a y) → (t : Bool) → old.at_use x ≡ t → value_within by new (suc l) b (f x) ≡ value_within by old (suc k) a x
        go operand true is =
            let same = moves.same x so is in
            (λ i. if (moves.at_use x so ∙ is) i then by.compute (new.shape (f x)) (map (value_within by new l b) (new.operands (f x))) b.state else b.values (f x))
            ∙ (λ i. by.compute (same.0 i)
            ((ap (map (value_within by new l b)) same.1
            ∙ map-renamed (λ y. Inside y × (y < x)) f (value_within by old k a) (value_within by new l b) operand (old.operands x)
            (each-both Inside (λ y. y < x) (old.operands x) (each-inside x so (old.operands x) (moves.before x so)) (moves.before x so))) i)
            (s.state i))
            ∙ (λ i. if sym is i then by.compute (old.shape x) (map (value_within by old k a) (old.operands x)) a.state else a.values x)
        go operand false is =
            (λ i. if (moves.at_use x so ∙ is) i then by.compute (new.shape (f x)) (map (value_within by new l b) (new.operands (f x))) b.state else b.values (f x))
            ∙ s.values x so
            ∙ (λ i. if sym is i then by.compute (old.shape x) (map (value_within by old k a) (old.operands x)) a.state else a.values x)

    pub value-moved : (x : ℕ) (a b : World Value State) → Moved a b → Inside x → value by new b (f x) ≡ value by old a x
    value-moved x a b s so = within-moved (suc x) (suc (f x)) x a b s so (omega arith) (omega arith)

    pub values-moved : (xs : List ℕ) (a b : World Value State) → Moved a b → Each Inside xs → map (value by new b) (map f xs) ≡ map (value by old a) xs
    values-moved xs a b s so = map-renamed Inside f (value by old a) (value by new b) (λ y h. value-moved y a b s h) xs so

    -- an expression that is not replaced
    pub emitted_value-moved : (x : ℕ) (a b : World Value State) → Moved a b → Inside x → IsSame x → emitted_value by new b (f x) ≡ emitted_value by old a x
    emitted_value-moved x a b s so same =
        λ i. by.compute (same.0 i) ((ap (map (value by new b)) same.1 ∙ values-moved (old.operands x) a b s (each-inside x so (old.operands x) (moves.before x so))) i) (s.state i)

    -- ---- initial values

    -- these expressions are not replaced, and neither are their operands
    pub record AreClosed (Needed : ℕ → Type 0) : Type 0 where
      pub inside : (x : ℕ) → Needed x → Inside x
      pub same : (x : ℕ) → Needed x → IsSame x
      pub operands : (x : ℕ) → Needed x → Each Needed (old.operands x)

    module _ (Needed : ℕ → Type 0) (closed : AreClosed Needed) where
      constant-moved : (k l x : ℕ) (a b : World Value State) → Moved a b → Needed x → x < k → f x < l → constant_within by new l b (f x) ≡ constant_within by old k a x
      constant-moved zero l x a b s so less less' = absurd (omega (arith, less))
      constant-moved (suc k) zero x a b s so less less' = absurd (omega (arith, less'))
      constant-moved (suc k) (suc l) x a b s so less less' =
          let inside = closed.inside x so in
          let operand : (y : ℕ) → Needed y × (y < x) → constant_within by new l b (f y) ≡ constant_within by old k a y =
          λ y both.
          let rises = moves.grows y x (closed.inside y both.0) inside both.1 in
          constant-moved k l y a b s both.0 (omega (arith, less, both.1)) (omega (arith, less', rises))
          in
          let same = closed.same x so in
          λ i. by.compute (same.0 i)
          ((ap (map (constant_within by new l b)) same.1
          ∙ map-renamed (λ y. Needed y × (y < x)) f (constant_within by old k a) (constant_within by new l b) operand (old.operands x) (each-both Needed (λ y. y < x) (old.operands x) (closed.operands x so) (moves.before x inside))) i)
          (s.state i)

      constants-moved : (inits : List (Option ℕ)) (a b : World Value State) → Moved a b → EachPresent Needed inits →
          map (option_map (constant by new b)) (map (option_map f) inits) ≡ map (option_map (constant by old a)) inits
      constants-moved [] a b s so = refl
      constants-moved (None ∷ rest) a b s so = ap (λ vs. None ∷ vs) (constants-moved rest a b s so.1)
      constants-moved (Some x ∷ rest) a b s so =
          λ i. Some (constant-moved (suc x) (suc (f x)) x a b s so.0 (omega arith) (omega arith) i) ∷ constants-moved rest a b s so.1 i

      pub entered-moved : (inits : List (Option ℕ)) (a b : World Value State) → Moved a b → EachPresent Needed inits → Moved (entered by old inits a) (entered by new (map (option_map f) inits) b)
      entered-moved inits a b s so = record {
        state = λ i. by.enter (constants-moved inits a b s so i) (s.state i);
        values = s.values;
      }

    -- ---- evaluation

    pub put-moved : (x : ℕ) (v w : Value) (a b : World Value State) → Moved a b → Inside x → w ≡ v → Moved (put x v a) (put (f x) w b)
    put-moved x v w a b s so is = record {
      state = s.state;
      values = λ y inside. elim (eq-either y x) [
        | yes e ↦
            ap (λ t. if t then w else b.values (f y)) (eq-yes (f y) (f x) (ap f e)) ∙ is ∙ sym (ap (λ t. if t then v else a.values y) (eq-yes y x e))
        | no other ↦
            ap (λ t. if t then w else b.values (f y)) (eq-no (f y) (f x) (λ e. other (moves.distinct y x inside so e))) ∙ s.values y inside
            ∙ sym (ap (λ t. if t then v else a.values y) (eq-no y x other))
      ];
    }

    -- what is inserted changes no value that there was
    pub put-inserted : (p : ℕ) (v : Value) (a b : World Value State) → Moved a b → ((y : ℕ) → Inside y → f y ≡ p → ⊥) → Moved a (put p v b)
    put-inserted p v a b s other = record {
      state = s.state;
      values = λ y inside. ap (λ t. if t then v else b.values (f y)) (eq-no (f y) p (other y inside)) ∙ s.values y inside;
    }

    put_result-moved : (result : Option ℕ) → IfAny Inside result → (v w : Value) (a b : World Value State) → Moved a b → w ≡ v → Moved (put_result result v a) (put_result (option_map f result) w b)
    put_result-moved None so v w a b s is = s
    put_result-moved (Some x) so v w a b s is = put-moved x v w a b s so is

    pub acted-moved : (action : Option Action) (uses : List ℕ) (result : Option ℕ) → Each Inside uses → IfAny Inside result → (a b : World Value State) → Moved a b →
        Moved (acted by old action uses result a) (acted by new action (map f uses) (option_map f result) b)
    acted-moved None uses result so named a b s = s
    acted-moved (Some action) uses result so named a b s =
        let after = by.perform action (map (value by old a) uses) a.state in
        let after' = by.perform action (map (value by new b) (map f uses)) b.state in
        let same : after' ≡ after = λ i. by.perform action (values-moved uses a b s so i) (s.state i) in
        put_result-moved result named after.1 after'.1 (record a { state = after.0 }) (record b { state = after'.0 })
        (record { state = ap (λ x. x.0) same; values = s.values })
        (ap (λ x. x.1) same)

    pub stopped-moved : (action : Option Action) (uses : List ℕ) → Each Inside uses → (a b : World Value State) → Moved a b → stopped by new action (map f uses) b ≡ stopped by old action uses a
    stopped-moved None uses so a b s = refl
    stopped-moved (Some action) uses so a b s = λ i. by.stop action (values-moved uses a b s so i) (s.state i)
