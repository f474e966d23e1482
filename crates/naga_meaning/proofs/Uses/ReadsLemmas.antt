-- What a use of an expression reads in an arena of which some expressions are kept and renamed.
use Rattle.std.proofs.Common.{◌≡◌, ◌∙◌, refl, sym, ap, subst, inl, inr, ℕ, zero, suc, ◌<◌, ◌≤◌, Bool, true, false, List, [], ◌∷◌, ◌++◌, map, Option, Some, None, option_to_list, arith}
use Rattle.std.proofs.lemmas.Bool.{cases_lt}
use Rattle.std.proofs.lemmas.Bool.Decides.{nat_tests}
use Rattle.std.proofs.lemmas.List.Elements.{All-append, All-cons, All-head, All-nil, All-tail}
use Rattle.std.specs.Option.{option_map}
use Rattle.std.specs.Prelude.{All, if◌then◌else◌, nat_lt, option_and_then}
use Rattle.naga_arena.specs.Arena.{value_at}
use Rattle.naga_arena.specs.declared.span.Span.{Span}
use Rattle.naga_ir.specs.Expression.{base_of, needs_pre_emit}
use Rattle.naga_ir.specs.declared.expression.Expression as expression
use Rattle.naga_ir.specs.declared.expression.Expression.TheVariants.{Literal, Access, AccessIndex}
use Rattle.std.specs.List.{filter}
use Rattle.naga_arena.specs.Range.{handles_of}
use Rattle.naga_valid.specs.Operands.{operands_of}
use Rattle.naga_flow.specs.Places.{base_before, end_of_chain, if_before, index_of, indices_of_chain, reads_in, ready_in}
use Rattle.naga_flow.specs.Results.{evaluation_of}
use Rattle.naga_flow.specs.Uses.{expressions_in, operands_found}
use Rattle.naga_flow.proofs.PlacesLemmas.{at_access, base_before-less, end-last, end-next, indices-last, indices-next}
use Rattle.naga_compact.specs.Renaming.{Renaming}
use Rattle.naga_compact.specs.derived.Renaming.{rename_expression}
use Rattle.naga_compact.proofs.RenamedOperandsLemmas.{operands_of-renamed}
use Rattle.naga_meaning.specs.Renames.{AreKept, Renames, rename_evaluation}

-- ---- expressions

module _ (r : Renaming) where
  base_of-renamed : (e : expression.Expression) → base_of (rename_expression r e) ≡ option_map r.expressions (base_of e)
  base_of-renamed (Literal literal) = refl
  base_of-renamed _ = refl

  index_of-renamed : (e : expression.Expression) → index_of (rename_expression r e) ≡ option_map r.expressions (index_of e)
  index_of-renamed (Literal literal) = refl
  index_of-renamed _ = refl

  needs_pre_emit-renamed : (e : expression.Expression) → needs_pre_emit (rename_expression r e) ≡ needs_pre_emit e
  needs_pre_emit-renamed (Literal literal) = refl
  needs_pre_emit-renamed _ = refl

  pub evaluation_of-renamed : (e : expression.Expression) → evaluation_of (rename_expression r e) ≡ rename_evaluation r.functions (evaluation_of e)
  evaluation_of-renamed (Literal literal) = refl
  evaluation_of-renamed _ = refl

-- the base and the index of an access are operands
module _ (P : ℕ → Type 0) where
  pub base_of-operands : (e : expression.Expression) → All P (operands_of e) → All P (option_to_list (base_of e))
  base_of-operands (Access base index) so = All-cons P base [] (All-head P base (index ∷ []) so) (All-nil P)
  base_of-operands (AccessIndex base index) so = so
  base_of-operands _ so = All-nil P

  pub index_of-operands : (e : expression.Expression) → All P (operands_of e) → All P (option_to_list (index_of e))
  index_of-operands (Access base index) so = All-tail P base (index ∷ []) so
  index_of-operands _ so = All-nil P

abbrev IfKept : (kept : ℕ → Bool) → Option ℕ → Type 0
IfKept kept handle = AreKept kept (option_to_list handle)

-- ---- chains

module _ (kept : ℕ → Bool) (r : Renaming) (old new : List (expression.Expression × Span))
    (found : (x : ℕ) → kept x ≡ true → value_at new (r.expressions x) ≡ option_map (rename_expression r) (value_at old x))
    (closed : (x : ℕ) (e : expression.Expression) → kept x ≡ true → value_at old x ≡ Some e → AreKept kept (operands_of e))
    (grows : (x y : ℕ) → kept x ≡ true → x < y → r.expressions x < r.expressions y)
    (falls : (x y : ℕ) → y ≤ x → r.expressions y ≤ r.expressions x) where
  abbrev f : ℕ → ℕ
  f = r.expressions

  -- what is read of the value at a handle
  read-renamed : (read : expression.Expression → Option ℕ) → ((e : expression.Expression) → read (rename_expression r e) ≡ option_map f (read e)) → (value : Option expression.Expression) →
      option_and_then read (option_map (rename_expression r) value) ≡ option_map f (option_and_then read value)
  read-renamed read is None = refl
  read-renamed read is (Some e) = is e

  read-kept : (read : expression.Expression → Option ℕ) → ((e : expression.Expression) → AreKept kept (operands_of e) → IfKept kept (read e)) → (x : ℕ) → kept x ≡ true →
      (value : Option expression.Expression) → value_at old x ≡ value → IfKept kept (option_and_then read value)
  read-kept read is x so None at = All-nil (λ n. kept n ≡ true)
  read-kept read is x so (Some e) at = is e (closed x e so at)

  if_before-kept : (x : ℕ) (base : Option ℕ) → IfKept kept base → IfKept kept (if_before x base)
  if_before-kept x None so = so
  if_before-kept x (Some base) so = by (nat_lt base x)
    where
      by : (t : Bool) → IfKept kept (if t then Some base else None)
      by true = so
      by false = All-nil (λ n. kept n ≡ true)

  base-kept : (x : ℕ) → kept x ≡ true → IfKept kept (base_before old x)
  base-kept x so = if_before-kept x (option_and_then base_of (value_at old x)) (read-kept base_of (base_of-operands (λ n. kept n ≡ true)) x so (value_at old x) refl)

  index-kept : (x : ℕ) → kept x ≡ true → IfKept kept (option_and_then index_of (value_at old x))
  index-kept x so = read-kept index_of (index_of-operands (λ n. kept n ≡ true)) x so (value_at old x) refl

  -- the base comes before the access exactly if it does so after both are renamed
  order-same : (x base : ℕ) → kept base ≡ true → nat_lt (f base) (f x) ≡ nat_lt base x
  order-same x base so = elim (cases_lt base x) [
    | inl lt ↦
        let before = grows base x so lt in
        let one : nat_lt (f base) (f x) ≡ true = grind (arith, nat_tests) in
        let two : nat_lt base x ≡ true = grind (arith, nat_tests) in
        one ∙ sym two
    | inr ge ↦
        let after = falls base x ge in
        let one : nat_lt (f base) (f x) ≡ false = grind (arith, nat_tests) in
        let two : nat_lt base x ≡ false = grind (arith, nat_tests) in
        one ∙ sym two
  ]

  if_before-renamed : (x : ℕ) (base : Option ℕ) → IfKept kept base → if_before (f x) (option_map f base) ≡ option_map f (if_before x base)
  if_before-renamed x None so = refl
  if_before-renamed x (Some base) so =
      ap (λ t. if t then Some (f base) else None) (order-same x base (All-head (λ n. kept n ≡ true) base [] so)) ∙ by (nat_lt base x)
    where
      by : (t : Bool) → (if t then Some (f base) else None) ≡ option_map f (if t then Some base else None)
      by true = refl
      by false = refl

  base-renamed : (x : ℕ) → kept x ≡ true → base_before new (f x) ≡ option_map f (base_before old x)
  base-renamed x so =
      ap (λ value. if_before (f x) (option_and_then base_of value)) (found x so)
      ∙ (ap (if_before (f x)) (read-renamed base_of (base_of-renamed r) (value_at old x))
      ∙ if_before-renamed x (option_and_then base_of (value_at old x)) (read-kept base_of (base_of-operands (λ n. kept n ≡ true)) x so (value_at old x) refl))

  index-renamed : (x : ℕ) → kept x ≡ true → option_and_then index_of (value_at new (f x)) ≡ option_map f (option_and_then index_of (value_at old x))
  index-renamed x so = ap (option_and_then index_of) (found x so) ∙ read-renamed index_of (index_of-renamed r) (value_at old x)

  base_is-kept : (x b : ℕ) → kept x ≡ true → base_before old x ≡ Some b → kept b ≡ true
  base_is-kept x b so is = All-head (λ n. kept n ≡ true) b [] (subst (IfKept kept) is (base-kept x so))

  base_is-renamed : (x : ℕ) (base : Option ℕ) → kept x ≡ true → base_before old x ≡ base → base_before new (f x) ≡ option_map f base
  base_is-renamed x base so is = base-renamed x so ∙ ap (option_map f) is

  -- ---- ends

  end-renamed : (bound x : ℕ) → x < bound → kept x ≡ true → end_of_chain new (f x) (f x) ≡ f (end_of_chain old x x)
  end-renamed zero x below so = absurd (omega (arith, below))
  end-renamed (suc bound) x below so =
      go (base_before old x) refl (λ b less kept_base. end-renamed bound b (omega (arith, less, below)) kept_base)
    where
      go : (base : Option ℕ) → base_before old x ≡ base → ((b : ℕ) → b < x → kept b ≡ true → end_of_chain new (f b) (f b) ≡ f (end_of_chain old b b)) →
          end_of_chain new (f x) (f x) ≡ f (end_of_chain old x x)
      go None is later = end-last new (f x) (base_is-renamed x None so is) ∙ sym (ap f (end-last old x is))
      go (Some b) is later =
          end-next new (f x) (f b) (base_is-renamed x (Some b) so is)
          ∙ (later b (base_before-less old x b is) (base_is-kept x b so is) ∙ sym (ap f (end-next old x b is)))

  end-kept : (bound x : ℕ) → x < bound → kept x ≡ true → kept (end_of_chain old x x) ≡ true
  end-kept zero x below so = absurd (omega (arith, below))
  end-kept (suc bound) x below so =
      go (base_before old x) refl (λ b less kept_base. end-kept bound b (omega (arith, less, below)) kept_base)
    where
      go : (base : Option ℕ) → base_before old x ≡ base → ((b : ℕ) → b < x → kept b ≡ true → kept (end_of_chain old b b) ≡ true) → kept (end_of_chain old x x) ≡ true
      go None is later = ap kept (end-last old x is) ∙ so
      go (Some b) is later = ap kept (end-next old x b is) ∙ later b (base_before-less old x b is) (base_is-kept x b so is)

  -- ---- indices

  index-append : (index : Option ℕ) (rest : List ℕ) → option_to_list (option_map f index) ++ map f rest ≡ map f (option_to_list index ++ rest)
  index-append None rest = refl
  index-append (Some index) rest = refl

  at_access-renamed : (x : ℕ) (rest : List ℕ) → kept x ≡ true → at_access new (f x) (map f rest) ≡ map f (at_access old x rest)
  at_access-renamed x rest so =
      ap (λ index. option_to_list index ++ map f rest) (index-renamed x so) ∙ index-append (option_and_then index_of (value_at old x)) rest

  indices-renamed : (bound x : ℕ) → x < bound → kept x ≡ true → indices_of_chain new (f x) (f x) ≡ map f (indices_of_chain old x x)
  indices-renamed zero x below so = absurd (omega (arith, below))
  indices-renamed (suc bound) x below so =
      go (base_before old x) refl (λ b less kept_base. indices-renamed bound b (omega (arith, less, below)) kept_base)
    where
      go : (base : Option ℕ) → base_before old x ≡ base → ((b : ℕ) → b < x → kept b ≡ true → indices_of_chain new (f b) (f b) ≡ map f (indices_of_chain old b b)) →
          indices_of_chain new (f x) (f x) ≡ map f (indices_of_chain old x x)
      go None is later = indices-last new (f x) (base_is-renamed x None so is) ∙ sym (ap (map f) (indices-last old x is))
      go (Some b) is later =
          indices-next new (f x) (f b) (base_is-renamed x (Some b) so is)
          ∙ (ap (at_access new (f x)) (later b (base_before-less old x b is) (base_is-kept x b so is))
          ∙ (at_access-renamed x (indices_of_chain old b b) so ∙ sym (ap (map f) (indices-next old x b is))))

  indices-kept : (bound x : ℕ) → x < bound → kept x ≡ true → AreKept kept (indices_of_chain old x x)
  indices-kept zero x below so = absurd (omega (arith, below))
  indices-kept (suc bound) x below so =
      go (base_before old x) refl (λ b less kept_base. indices-kept bound b (omega (arith, less, below)) kept_base)
    where
      go : (base : Option ℕ) → base_before old x ≡ base → ((b : ℕ) → b < x → kept b ≡ true → AreKept kept (indices_of_chain old b b)) → AreKept kept (indices_of_chain old x x)
      go None is later = subst (AreKept kept) (sym (indices-last old x is)) (All-nil (λ n. kept n ≡ true))
      go (Some b) is later =
          subst (AreKept kept) (sym (indices-next old x b is))
          (All-append (λ n. kept n ≡ true) (option_to_list (option_and_then index_of (value_at old x))) (indices_of_chain old b b) (index-kept x so)
          (later b (base_before-less old x b is) (base_is-kept x b so is)))

  -- ---- what is read

  ready-renamed : (value : Option expression.Expression) → ready_in (option_map (rename_expression r) value) ≡ ready_in value
  ready-renamed None = refl
  ready-renamed (Some e) = needs_pre_emit-renamed r e

  pub place-same : (x : ℕ) → kept x ≡ true → ready_in (value_at new (end_of_chain new (f x) (f x))) ≡ ready_in (value_at old (end_of_chain old x x))
  place-same x so =
      ap (λ n. ready_in (value_at new n)) (end-renamed (suc x) x (omega arith) so)
      ∙ (ap ready_in (found (end_of_chain old x x) (end-kept (suc x) x (omega arith) so)) ∙ ready-renamed (value_at old (end_of_chain old x x)))

  pub reads_in-renamed : (x : ℕ) → kept x ≡ true → reads_in new (f x) ≡ map f (reads_in old x)
  reads_in-renamed x so =
      ap (λ is_place. if is_place then indices_of_chain new (f x) (f x) else f x ∷ []) (place-same x so)
      ∙ go (ready_in (value_at old (end_of_chain old x x)))
    where
      go : (t : Bool) → (if t then indices_of_chain new (f x) (f x) else f x ∷ []) ≡ map f (if t then indices_of_chain old x x else x ∷ [])
      go true = indices-renamed (suc x) x (omega arith) so
      go false = refl

  pub reads_in-kept : (x : ℕ) → kept x ≡ true → AreKept kept (reads_in old x)
  reads_in-kept x so = go (ready_in (value_at old (end_of_chain old x x)))
    where
      go : (t : Bool) → AreKept kept (if t then indices_of_chain old x x else x ∷ [])
      go true = indices-kept (suc x) x (omega arith) so
      go false = All-cons (λ n. kept n ≡ true) x [] so (All-nil (λ n. kept n ≡ true))

  -- ---- operands and evaluation

  operands-moved : (value : Option expression.Expression) → operands_found (option_map (rename_expression r) value) ≡ map f (operands_found value)
  operands-moved None = refl
  operands-moved (Some e) = operands_of-renamed r e

  evaluation-moved : (value : Option expression.Expression) →
      option_map evaluation_of (option_map (rename_expression r) value) ≡ option_map (rename_evaluation r.functions) (option_map evaluation_of value)
  evaluation-moved None = refl
  evaluation-moved (Some e) = ap Some (evaluation_of-renamed r e)

  operands-kept : (x : ℕ) → kept x ≡ true → (value : Option expression.Expression) → value_at old x ≡ value → AreKept kept (operands_found value)
  operands-kept x so None at = All-nil (λ n. kept n ≡ true)
  operands-kept x so (Some e) at = closed x e so at

  pub Renames-of : ((x y : ℕ) → kept x ≡ true → kept y ≡ true → f x ≡ f y → x ≡ y) →
      ((range : ℕ × ℕ) → handles_of (r.ranges range) ≡ map f (filter kept (handles_of range))) →
      Renames kept r (expressions_in old) (expressions_in new)
  Renames-of distinct ranges = record {
    distinct = distinct;
    ranges = ranges;
    evaluation = λ x so. ap (option_map evaluation_of) (found x so) ∙ evaluation-moved (value_at old x);
    operands = λ x so. ap operands_found (found x so) ∙ operands-moved (value_at old x);
    operands_kept = λ x so. operands-kept x so (value_at old x) refl;
    reads = reads_in-renamed;
    reads_kept = reads_in-kept;
  }
