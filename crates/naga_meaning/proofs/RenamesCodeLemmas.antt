-- Outcomes do not change when expressions that nothing needs are dropped, and the others renamed.
use Rattle.std.proofs.Common.{◌≡◌, ◌∙◌, sym, ap, subst, refl, inl, inr, ℕ, zero, suc, ◌<◌, Bool, true, false, List, [], ◌∷◌, map, Option, Some, None, arith}
use Rattle.std.proofs.lemmas.Bool.{cases_Bool}
use Rattle.std.proofs.lemmas.Bool.Decides.{nat_tests}
use Rattle.std.specs.List.{filter}
use Rattle.std.specs.Prelude.{option_map, nat_eq, if◌then◌else◌}
use Rattle.naga_ir.specs.Tree.{Tree}
use Rattle.naga_ir.specs.declared.statement.Statement.{Statement}
use Rattle.naga_runs.specs.declared.run.Ending.{Ending}
use Rattle.naga_runs.specs.declared.run.Ending.TheVariants.{Normal, Break, Continue, Return, Kill, Cut}
use Rattle.naga_compact.specs.Mapping.{map_tree}
use Rattle.naga_compact.specs.Mapping.Runs.{map_ending}
use Rattle.naga_meaning.specs.Machine.{Done, IfAny, IsIn, does}
use Rattle.naga_meaning.specs.Renaming.{Each, IsKept, RenamesCode, RenamesStatement, SameKept}
use Rattle.naga_meaning.proofs.Simulation.{EndsIn, Matches, Simulates}
use Rattle.naga_meaning.specs.Values.{Interpretation, Code, Parts, World, put, put_result, result_of_ending, value_within, value, constant_within, constant, entered, emitted_value, emit, act, acted, ends, machine, outcome_of, outcome, stopped}
use Rattle.naga_meaning.proofs.EachLemmas.{each-both}
use Rattle.naga_meaning.proofs.MatchesLemmas.{does-matches}
use Rattle.std.specs.Prelude.{⊤}

-- each handle that is present is in `P`
abbrev pub EachPresent : (P : ℕ → Type 0) → List (Option ℕ) → Type 0
EachPresent P [] = ⊤
EachPresent P (handle ∷ rest) = IfAny P handle × EachPresent P rest

-- ---- tests

filter-yes : (kept : ℕ → Bool) (x : ℕ) (rest : List ℕ) → kept x ≡ true → filter kept (x ∷ rest) ≡ x ∷ filter kept rest
filter-yes kept x rest so = rw so refl

filter-no : (kept : ℕ → Bool) (x : ℕ) (rest : List ℕ) → kept x ≡ false → filter kept (x ∷ rest) ≡ filter kept rest
filter-no kept x rest so = rw so refl

pub eq-yes : (x y : ℕ) → x ≡ y → nat_eq x y ≡ true
eq-yes x y h = grind (arith, nat_tests)

pub eq-no : (x y : ℕ) → ¬ (x ≡ y) → nat_eq x y ≡ false
eq-no x y h = grind (arith, nat_tests)

pub eq-either : (x y : ℕ) → Dec (x ≡ y)
eq-either x y = elim (cases_Bool (nat_eq x y)) [
  | inl so ↦ yes (grind (arith, nat_tests))
  | inr no' ↦ no (λ e. let other = eq-yes x y e in absurd (cc))
]

module _ {Shape Action Value State : Type 0} (parts parts' : Parts Action) (by : Interpretation Shape Action Value State) (kept : ℕ → Bool) (f : ℕ → ℕ) (old new : Code Shape) (r : RenamesCode kept f old new) where
  abbrev Same : World Value State → World Value State → Type 0
  Same = SameKept kept f

  -- ---- values where they are used

  -- lists of values, of handles of which each is kept and below a bound
  map-same : (P : ℕ → Type 0) (g : ℕ → Value) (h : ℕ → Value) → ((y : ℕ) → P y → h (f y) ≡ g y) → (ys : List ℕ) → Each P ys → map h (map f ys) ≡ map g ys
  map-same P g h same [] so = refl
  map-same P g h same (y ∷ ys) so = λ i. same y so.0 i ∷ map-same P g h same ys so.1 i

  within-same : (k l x : ℕ) (a b : World Value State) → Same a b → IsKept kept f x → x < k → f x < l → value_within by new l b (f x) ≡ value_within by old k a x
  within-same zero l x a b s so less less' = absurd (omega (arith, less))
  within-same (suc k) zero x a b s so less less' = absurd (omega (arith, less'))
  within-same (suc k) (suc l) x a b s so less less' =
      let operand : (y : ℕ) → IsKept kept f y × (y < x) → value_within by new l b (f y) ≡ value_within by old k a y =
      λ y both.
      let before = r.grows y x both.0 so both.1 in
      within-same k l y a b s both.0 (omega (arith, less, both.1)) (omega (arith, less', before))
      in
      let computed : by.compute (new.shape (f x)) (map (value_within by new l b) (new.operands (f x))) b.state ≡ by.compute (old.shape x) (map (value_within by old k a) (old.operands x)) a.state =
      λ i. by.compute (r.shape x so i)
      ((ap (map (value_within by new l b)) (r.operands x so)
      ∙ map-same (λ y. IsKept kept f y × (y < x)) (value_within by old k a) (value_within by new l b) operand (old.operands x) (each-both (IsKept kept f) (λ y. y < x) (old.operands x) (r.operands_kept x so) (r.operands_before x so))) i)
      (s.state i)
      in
      λ i. if r.at_use x so i then computed i else s.values x so i

  value-same : (x : ℕ) (a b : World Value State) → Same a b → IsKept kept f x → value by new b (f x) ≡ value by old a x
  value-same x a b s so = within-same (suc x) (suc (f x)) x a b s so (omega arith) (omega arith)

  values-same : (xs : List ℕ) (a b : World Value State) → Same a b → Each (IsKept kept f) xs → map (value by new b) (map f xs) ≡ map (value by old a) xs
  values-same xs a b s so = map-same (IsKept kept f) (value by old a) (value by new b) (λ y h. value-same y a b s h) xs so

  emitted_value-same : (x : ℕ) (a b : World Value State) → Same a b → IsKept kept f x → emitted_value by new b (f x) ≡ emitted_value by old a x
  emitted_value-same x a b s so =
      λ i. by.compute (r.shape x so i) ((ap (map (value by new b)) (r.operands x so) ∙ values-same (old.operands x) a b s (r.operands_kept x so)) i) (s.state i)

  -- ---- initial values

  constant-same : (k l x : ℕ) (a b : World Value State) → Same a b → IsKept kept f x → x < k → f x < l → constant_within by new l b (f x) ≡ constant_within by old k a x
  constant-same zero l x a b s so less less' = absurd (omega (arith, less))
  constant-same (suc k) zero x a b s so less less' = absurd (omega (arith, less'))
  constant-same (suc k) (suc l) x a b s so less less' =
      let operand : (y : ℕ) → IsKept kept f y × (y < x) → constant_within by new l b (f y) ≡ constant_within by old k a y =
      λ y both.
      let before = r.grows y x both.0 so both.1 in
      constant-same k l y a b s both.0 (omega (arith, less, both.1)) (omega (arith, less', before))
      in
      λ i. by.compute (r.shape x so i)
      ((ap (map (constant_within by new l b)) (r.operands x so)
      ∙ map-same (λ y. IsKept kept f y × (y < x)) (constant_within by old k a) (constant_within by new l b) operand (old.operands x) (each-both (IsKept kept f) (λ y. y < x) (old.operands x) (r.operands_kept x so) (r.operands_before x so))) i)
      (s.state i)

  constants-same : (inits : List (Option ℕ)) (a b : World Value State) → Same a b → EachPresent (IsKept kept f) inits →
      map (option_map (constant by new b)) (map (option_map f) inits) ≡ map (option_map (constant by old a)) inits
  constants-same [] a b s so = refl
  constants-same (None ∷ rest) a b s so = ap (λ vs. None ∷ vs) (constants-same rest a b s so.1)
  constants-same (Some x ∷ rest) a b s so =
      λ i. Some (constant-same (suc x) (suc (f x)) x a b s so.0 (omega arith) (omega arith) i) ∷ constants-same rest a b s so.1 i

  pub entered-same : (inits : List (Option ℕ)) (a b : World Value State) → Same a b → EachPresent (IsKept kept f) inits → Same (entered by old inits a) (entered by new (map (option_map f) inits) b)
  entered-same inits a b s so = record {
    state = λ i. by.enter (constants-same inits a b s so i) (s.state i);
    values = s.values;
  }

  -- ---- evaluation

  put-same : (x : ℕ) (v w : Value) (a b : World Value State) → Same a b → IsKept kept f x → w ≡ v → Same (put x v a) (put (f x) w b)
  put-same x v w a b s so is = record {
    state = s.state;
    values = λ y kept_y. elim (eq-either y x) [
      | yes e ↦
          ap (λ t. if t then w else b.values (f y)) (eq-yes (f y) (f x) (ap f e)) ∙ is ∙ sym (ap (λ t. if t then v else a.values y) (eq-yes y x e))
      | no other ↦
          ap (λ t. if t then w else b.values (f y)) (eq-no (f y) (f x) (λ e. other (r.distinct y x kept_y so e))) ∙ s.values y kept_y
          ∙ sym (ap (λ t. if t then v else a.values y) (eq-no y x other))
    ];
  }

  -- what is dropped changes nothing that is kept
  put-dropped : (x : ℕ) (v : Value) (a b : World Value State) → Same a b → kept x ≡ false → Same (put x v a) b
  put-dropped x v a b s dropped = record {
    state = s.state;
    values = λ y kept_y.
        let other : ¬ (y ≡ x) = λ e. let clash : true ≡ false = sym kept_y ∙ ap kept e ∙ dropped in absurd (cc) in
        s.values y kept_y ∙ sym (ap (λ t. if t then v else a.values y) (eq-no y x other));
  }

  emit-same : (xs : List ℕ) (a b : World Value State) → Same a b → Same (emit by old xs a) (emit by new (map f (filter kept xs)) b)
  emit-same [] a b s = s
  emit-same (x ∷ xs) a b s = elim (cases_Bool (kept x)) [
    | inl so ↦
        subst (λ ys. Same (emit by old (x ∷ xs) a) (emit by new (map f ys) b)) (sym (filter-yes kept x xs so))
        (emit-same xs (put x (emitted_value by old a x) a) (put (f x) (emitted_value by new b (f x)) b) (put-same x _ _ a b s so (emitted_value-same x a b s so)))
    | inr dropped ↦
        subst (λ ys. Same (emit by old (x ∷ xs) a) (emit by new (map f ys) b)) (sym (filter-no kept x xs dropped))
        (emit-same xs (put x (emitted_value by old a x) a) b (put-dropped x (emitted_value by old a x) a b s dropped))
  ]

  put_result-same : (result : Option ℕ) → IfAny (IsKept kept f) result → (v w : Value) (a b : World Value State) → Same a b → w ≡ v → Same (put_result result v a) (put_result (option_map f result) w b)
  put_result-same None so v w a b s is = s
  put_result-same (Some x) so v w a b s is = put-same x v w a b s so is

  acted-same : (action : Option Action) (uses : List ℕ) (result : Option ℕ) → Each (IsKept kept f) uses → IfAny (IsKept kept f) result → (a b : World Value State) → Same a b →
      Same (acted by old action uses result a) (acted by new action (map f uses) (option_map f result) b)
  acted-same None uses result so named a b s = s
  acted-same (Some action) uses result so named a b s =
      let after = by.perform action (map (value by old a) uses) a.state in
      let after' = by.perform action (map (value by new b) (map f uses)) b.state in
      let same : after' ≡ after = λ i. by.perform action (values-same uses a b s so i) (s.state i) in
      put_result-same result named after.1 after'.1 (record a { state = after.0 }) (record b { state = after'.0 })
      (record { state = ap (λ x. x.0) same; values = s.values })
      (ap (λ x. x.1) same)

  act-same : (what what' : Statement) → RenamesStatement kept f parts parts' what what' → (a b : World Value State) → Same a b → Same (act parts by old what a) (act parts' by new what' b)
  act-same what what' n a b s =
      subst (Same (act parts by old what a)) (sym (λ i. acted by new (n.action i) (n.uses i) (n.result i) b))
      (acted-same (parts.action what) (parts.uses what) (parts.result what) n.uses_kept n.result_kept a b s)

  stopped-same : (action : Option Action) (uses : List ℕ) → Each (IsKept kept f) uses → (a b : World Value State) → Same a b → stopped by new action (map f uses) b ≡ stopped by old action uses a
  stopped-same None uses so a b s = refl
  stopped-same (Some action) uses so a b s = λ i. by.stop action (values-same uses a b s so i) (s.state i)

  ends-same : (what what' : Statement) → RenamesStatement kept f parts parts' what what' → (a b : World Value State) → Same a b → ends parts' by new what' b ≡ ends parts by old what a
  ends-same what what' n a b s = (λ i. stopped by new (n.action i) (n.uses i) b) ∙ stopped-same (parts.action what) (parts.uses what) n.uses_kept a b s

  -- ---- bodies

  module _ (on_plain : Statement → Statement) where
    abbrev pub IsRenamed : Statement → Type 0
    IsRenamed what = RenamesStatement kept f parts parts' what (on_plain what)

    emits-same : (what : Statement) → IsRenamed what → (a b : World Value State) → Same a b → Same (emit by old (parts.emits what) a) (emit by new (parts'.emits (on_plain what)) b)
    emits-same what n a b s = subst (λ ys. Same (emit by old (parts.emits what) a) (emit by new ys b)) (sym n.emits) (emit-same (parts.emits what) a b s)

    simulates : Simulates Same f (IsKept kept f) IsRenamed on_plain (machine parts by old) (machine parts' by new)
    simulates = record {
      performs = λ what n a b s.
          act-same what (on_plain what) n (emit by old (parts.emits what) a) (emit by new (parts'.emits (on_plain what)) b) (emits-same what n a b s);
      stops = λ what n a b s.
          ends-same what (on_plain what) n (emit by old (parts.emits what) a) (emit by new (parts'.emits (on_plain what)) b) (emits-same what n a b s);
      answers = λ handle so a b s. ap by.decide (value-same handle a b s so);
      choices = λ handle vs so a b s. ap (λ v. by.choose v vs) (value-same handle a b s so);
    }

    ending-same : (e : Ending) → map_ending (λ handle. 0) (map_ending f e) ≡ map_ending (λ handle. 0) e
    ending-same Normal = refl
    ending-same Break = refl
    ending-same Continue = refl
    ending-same (Return None) = refl
    ending-same (Return (Some x)) = refl
    ending-same Kill = refl
    ending-same Cut = refl

    returned-same : (e : Ending) (a b : World Value State) → Same a b → EndsIn (IsKept kept f) e →
        option_map (value by new b) (result_of_ending (map_ending f e)) ≡ option_map (value by old a) (result_of_ending e)
    returned-same Normal a b s so = refl
    returned-same Break a b s so = refl
    returned-same Continue a b s so = refl
    returned-same (Return None) a b s so = refl
    returned-same (Return (Some x)) a b s so = ap Some (value-same x a b s so)
    returned-same Kill a b s so = refl
    returned-same Cut a b s so = refl

    outcome_of-same : (left : Done (World Value State)) (left' : Done (World Value State)) → Matches Same f (IsKept kept f) left left' →
        outcome_of by new left' ≡ outcome_of by old left
    outcome_of-same left left' m = λ i. record {
      state = m.state.state i;
      ending = (ap (map_ending (λ handle. 0)) m.ending ∙ ending-same left.ending) i;
      slipped = m.slipped i;
      returned = (ap (λ e. option_map (value by new left'.state) (result_of_ending e)) m.ending ∙ returned-same left.ending left.state left'.state m.state m.within) i;
    }

    pub outcome-renamed : (turns : ℕ) (body : Tree) → IsIn IsRenamed (IsKept kept f) body → (a b : World Value State) → Same a b →
        outcome parts' by new turns (map_tree on_plain f body) b ≡ outcome parts by old turns body a
    outcome-renamed turns body h a b s =
        outcome_of-same (does (machine parts by old) turns body a) (does (machine parts' by new) turns (map_tree on_plain f body) b)
        (does-matches Same f (IsKept kept f) IsRenamed on_plain (machine parts by old) (machine parts' by new) simulates turns body h a b s)
