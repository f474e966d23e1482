-- A function whose accesses are clamped evaluates nothing again in its scope, if it did not before.
use Rattle.std.proofs.Common.{◌≡◌, ◌+◌, ◌-◌, ◌<◌, ◌≤◌, ap, arith, length, refl, subst, sym, inl, inr, ℕ, zero, suc, Bool, true, false, List, [], ◌∷◌, ◌++◌, Option, Some, None, option_to_list}
use Rattle.std.proofs.lemmas.Bool.{cases_lt}
use Rattle.std.proofs.lemmas.Bool.Decides.{nat_tests}
use Rattle.std.proofs.lemmas.List.{append-nil}
use Rattle.std.proofs.lemmas.List.Elements.{All-contains, All-cons, All-head, All-nil, All-tail, Contains-append_cases, Contains-append_left, Contains-append_right}
use Rattle.std.specs.List.{Contains, cons_option, range_with_len}
use Rattle.std.specs.Prelude.{All, if◌then◌else◌, nat_lt, option_map}
use Rattle.naga_arena.specs.Range.{handles_of}
use Rattle.naga_ir.specs.Tree.{Tree, empty, push, Node, plain, nested, branch, switch, loop, jump, Cases, no_cases, case}
use Rattle.naga_ir.specs.declared.statement.Statement as statement
use Rattle.naga_valid.specs.Operands.{expression_of, expressions_of}
use Rattle.naga_valid.specs.Reference.{operands, present}
use Rattle.naga_valid.specs.Statements.{references_of_cases, references_of_node, references_of_statement, references_of_tree}
use Rattle.naga_valid.specs.declared.reference.Reference.{Reference}
use Rattle.naga_valid.specs.declared.reference.Reference.TheVariants as reference
use Rattle.naga_flow.proofs.IncludesLemmas.{Contains-one}
use Rattle.naga_flow.proofs.ResultsLemmas.{ResultIsNamed, result-named}
use Rattle.naga_flow.specs.Results.{emitted_by, evaluated_by, result_of}
use Rattle.naga_flow.specs.Scopes.{AreNew, CasesEvaluatedOnce, EvaluatedOnce, NodeEvaluatedOnce}
use Rattle.naga_flow.specs.Uses.{values_of, values_of_node}
use Rattle.naga_compact.specs.Renaming.{Renaming, rename_range}
use Rattle.naga_compact.specs.Renaming.Blocks.{rename_cases, rename_node, rename_tree}
use Rattle.naga_compact.specs.derived.Renaming.{rename_statement}
use Rattle.naga_meaning.proofs.Uses.RenamesLemmas.{result_of-renamed}
use Rattle.naga_bounds.specs.Restricted.{moving, new_of, start_of}
use Rattle.naga_bounds.specs.declared.change.Change.{Change}
use Rattle.naga_bounds.proofs.KeepsOutcomesLemmas.{references-left, references-right}
use Rattle.naga_bounds.proofs.NewHandlesLemmas.{new-next, start-rises}

-- ---- ranges

pub range-bounds : (k a p : ℕ) → Contains (range_with_len a k) p → (a ≤ p) × (p < a + k)
range-bounds zero a p there = absurd (omega (arith, there.1))
range-bounds (suc k) a p there = elim (Contains-append_cases (a ∷ []) (range_with_len (a + 1) k) p there) [
  | inl first ↦ (let same = Contains-one a p first in (omega (arith, same), omega (arith, same)))
  | inr later ↦ (let rest = range-bounds k (a + 1) p later in let low = rest.0 in let high = rest.1 in (omega (arith, low), omega (arith, high)))
]

AreNew-range : (k a : ℕ) (scope : List ℕ) → ((p : ℕ) → a ≤ p → p < a + k → ¬ Contains scope p) → AreNew scope (range_with_len a k)
AreNew-range zero a scope h = tt
AreNew-range (suc k) a scope h = (
  h a (omega arith) (omega arith),
  AreNew-range k (a + 1) (a ∷ scope)
      (λ p low high there. elim (Contains-append_cases (a ∷ []) scope p there) [
        | inl first ↦ absurd (let same = Contains-one a p first in omega (arith, same, low))
        | inr later ↦ h p (omega (arith, low)) (omega (arith, high)) later
      ]),
)

AreNew-not : (k a : ℕ) (scope : List ℕ) → AreNew scope (range_with_len a k) → (x : ℕ) → a ≤ x → x < a + k → ¬ Contains scope x
AreNew-not zero a scope h x low high = absurd (omega (arith, low, high))
AreNew-not (suc k) a scope h x low high = elim (cases_lt a x) [
  | inl before ↦ (λ there. AreNew-not k (a + 1) (a ∷ scope) h.1 x (omega (arith, before)) (omega (arith, high)) (Contains-append_right (a ∷ []) scope x there))
  | inr behind ↦ (let same : a ≡ x = omega (arith, low, behind) in subst (λ y. ¬ Contains scope y) same h.0)
]

pub Contains-range : (k a p : ℕ) → a ≤ p → p < a + k → Contains (range_with_len a k) p
Contains-range zero a p low high = absurd (omega (arith, low, high))
Contains-range (suc k) a p low high = elim (cases_lt a p) [
  | inl before ↦ Contains-append_right (a ∷ []) (range_with_len (a + 1) k) p (Contains-range k (a + 1) p (omega (arith, before)) (omega (arith, high)))
  | inr behind ↦ (let same : a ≡ p = omega (arith, low, behind) in subst (Contains (range_with_len a (suc k))) same (0, omega arith, refl))
]

module _ (changes : List Change) where
  abbrev F : ℕ → ℕ
  F = new_of changes

  abbrev R : Renaming
  R = moving changes

  abbrev start : ℕ → ℕ
  start = start_of changes

  abbrev N : ℕ
  N = length changes

  -- the handle is that of an expression, or of what is inserted before it
  pub record InGroup (x p : ℕ) : Type 0 where
    pub inside : x < N
    pub low : start x ≤ p
    pub high : p ≤ F x

  -- each handle of the second list belongs to an expression of the first
  pub record ComesFrom (xs xs' : List ℕ) : Type 0 where
    pub each : (p : ℕ) → Contains xs' p → (x : ℕ) × Contains xs x × InGroup x p

  one-group : (x y p : ℕ) → InGroup x p → InGroup y p → x ≡ y
  one-group x y p g h = elim (cases_lt x y) [
    | inl before ↦ absurd (below x y g h before)
    | inr behind ↦ elim (cases_lt y x) [ inl before ↦ absurd (below y x h g before) | inr also ↦ omega (arith, behind, also) ]
  ]
    where
      below : (x y : ℕ) → InGroup x p → InGroup y p → x < y → ⊥
      below x y g h before =
          let next = new-next changes x g.inside in
          let within = h.inside in
          let rises = start-rises changes (x + 1) y (omega (arith, before)) (omega (arith, within)) in
          let high = g.high in
          let low = h.low in
          omega (arith, next, rises, high, low)

  its-own : (x : ℕ) → x < N → InGroup x (F x)
  its-own x inside =
      let next = new-next changes x inside in
      let rises = start-rises changes x (x + 1) (omega arith) (omega (arith, inside)) in
      record { inside = inside; low = omega (arith, next, rises); high = omega arith }

  -- a new handle between the starts of two expressions belongs to one of those between them
  group-of : (k s p : ℕ) → s + k ≤ N → start s ≤ p → p < start (s + k) → (x : ℕ) × (s ≤ x) × (x < s + k) × InGroup x p
  group-of zero s p within low high =
      absurd (let same : s + 0 ≡ s = omega arith in let starts = ap start same in omega (arith, starts, low, high))
  group-of (suc k) s p within low high = elim (cases_lt p (start (s + 1))) [
    | inl here ↦
        let next = new-next changes s (omega (arith, within)) in
        (s, omega arith, omega arith, record { inside = omega (arith, within); low = low; high = omega (arith, next, here) })
    | inr later ↦
        let same : s + suc k ≡ (s + 1) + k = omega arith in
        let starts = ap start same in
        let rest = group-of k (s + 1) p (omega (arith, within)) later (omega (arith, starts, high)) in
        let first = rest.1 in
        let past = rest.2 in
        (rest.0, omega (arith, first), omega (arith, past), rest.3)
  ]

  pub comes-nothing : ComesFrom [] []
  comes-nothing = record { each = λ p there. absurd (omega (arith, there.1)) }

  comes-joined : (xs ys xs' ys' : List ℕ) → ComesFrom xs xs' → ComesFrom ys ys' → ComesFrom (xs ++ ys) (xs' ++ ys')
  comes-joined xs ys xs' ys' f g = record {
    each = λ p there. elim (Contains-append_cases xs' ys' p there) [
      | inl left ↦ (let one = f.each p left in (one.0, Contains-append_left xs ys one.0 one.1, one.2))
      | inr right ↦ (let one = g.each p right in (one.0, Contains-append_right xs ys one.0 one.1, one.2))
    ];
  }

  module _ (Within : Reference → Type 0) (handle-within : (handle : ℕ) → Within (reference.Expression handle) → handle < N)
      (range-within : (first past : ℕ) → Within (reference.Expressions first past) → (first ≤ past) × (past ≤ N)) where
    abbrev Below : ℕ → Type 0
    Below y = y < N

    one-below : (x : Reference) (rest : List ℕ) → Within x → All Below rest → All Below (cons_option (expression_of x) rest)
    one-below (reference.Expression handle) rest w h = All-cons Below handle rest (handle-within handle w) h
    one-below _ rest w h = h

    each-below : (xs : List Reference) → All Within xs → All Below (expressions_of xs)
    each-below [] h = All-nil Below
    each-below (x ∷ xs) h = one-below x (expressions_of xs) (All-head Within x xs h) (each-below xs (All-tail Within x xs h))

    -- the result of a statement is an expression of the function
    named-within : (what : statement.Statement) (y : ℕ) → All Within (references_of_statement what) → result_of what ≡ Some y → y < N
    named-within what y h is =
        All-contains Below (expressions_of (references_of_statement what)) y (each-below (references_of_statement what) h)
        (subst (λ result. ResultIsNamed result (expressions_of (references_of_statement what))) is (result-named what))

    -- what the renamed range has
    range-comes : (first past : ℕ) → first ≤ past → past ≤ N → ComesFrom (handles_of (first, past)) (handles_of (rename_range start (first, past)))
    range-comes first past before within = record { each = go (nat_lt (start first) (start past)) refl }
      where
        go : (t : Bool) → nat_lt (start first) (start past) ≡ t → (p : ℕ) → Contains (handles_of (rename_range start (first, past))) p → (x : ℕ) × Contains (handles_of (first, past)) x × InGroup x p
        go true test p there =
            let less : start first < start past = grind (arith, nat_tests) in
            let bounds = range-bounds (start past - start first) (start first) p (subst (λ range. Contains (handles_of range) p) (ap (λ t. if t then (start first, start past) else (0, 0)) test) there) in
            let low = bounds.0 in
            let high = bounds.1 in
            let whole : first + (past - first) ≡ past = omega (arith, before) in
            let ends : start (first + (past - first)) ≡ start past = ap start whole in
            let one = group-of (past - first) first p (omega (arith, whole, within)) low (omega (arith, ends, high, less)) in
            (one.0, Contains-range (past - first) first one.0 one.1 one.2, one.3)
        go false test p there =
            absurd (let none = range-bounds 0 0 p (subst (λ range. Contains (handles_of range) p) (ap (λ t. if t then (start first, start past) else (0, 0)) test) there) in let high = none.1 in omega (arith, high))

    result-comes : (result : Option ℕ) → ((y : ℕ) → result ≡ Some y → y < N) → ComesFrom (option_to_list result) (option_to_list (option_map F result))
    result-comes None inside = comes-nothing
    result-comes (Some y) inside = record {
      each = λ p there.
          (let same : F y ≡ p = Contains-one (F y) p there in (y, (0, omega arith, refl), subst (InGroup y) same (its-own y (inside y refl))));
    }

    pub evaluated-comes : (what : statement.Statement) → All Within (references_of_statement what) → ComesFrom (evaluated_by what) (evaluated_by (rename_statement R what))
    evaluated-comes what h =
        comes-joined (emitted_by what) (option_to_list (result_of what)) (emitted_by (rename_statement R what)) (option_to_list (result_of (rename_statement R what)))
        (emitted what h)
        (subst (λ result. ComesFrom (option_to_list (result_of what)) (option_to_list result)) (sym (result_of-renamed R what)) (result-comes (result_of what) (λ y is. named-within what y h is)))
      where
        emitted : (what : statement.Statement) → All Within (references_of_statement what) → ComesFrom (emitted_by what) (emitted_by (rename_statement R what))
        emitted (statement.Emit range) h =
            let pair = range-within range.0 range.1 (All-head Within (reference.Expressions range.0 range.1) [] h) in
            range-comes range.0 range.1 pair.0 pair.1
        emitted _ h = comes-nothing

    values-come : (block : Tree) → All Within (references_of_tree block) → ComesFrom (values_of block) (values_of (rename_tree R block))
    values-come empty h = comes-nothing
    values-come (push front last span) h =
        comes-joined (values_of front) (values_of_node last) (values_of (rename_tree R front)) (values_of_node (rename_node R last))
        (values-come front (references-left Within (references_of_tree front) (references_of_node last) h))
        (node last (references-right Within (references_of_tree front) (references_of_node last) h))
      where
        node : (last : Node) → All Within (references_of_node last) → ComesFrom (values_of_node last) (values_of_node (rename_node R last))
        node (plain what) h = evaluated-comes what h
        node (nested inner) h = comes-nothing
        node (branch condition accept reject) h = comes-nothing
        node (switch selector cases) h = comes-nothing
        node (loop body continuing break_if) h = comes-nothing
        node (jump to) h = comes-nothing

    -- ---- what is new stays new

    range-new : (first past : ℕ) (scope scope' : List ℕ) → first ≤ past → past ≤ N → ComesFrom scope scope' → AreNew scope (handles_of (first, past)) → AreNew scope' (handles_of (rename_range start (first, past)))
    range-new first past scope scope' before within comes h = go (nat_lt (start first) (start past)) refl
      where
        fresh : start first < start past → (p : ℕ) → start first ≤ p → p < start first + (start past - start first) → ¬ Contains scope' p
        fresh less p low high there =
            let whole : first + (past - first) ≡ past = omega (arith, before) in
            let ends : start (first + (past - first)) ≡ start past = ap start whole in
            let one = group-of (past - first) first p (omega (arith, whole, within)) low (omega (arith, ends, high, less)) in
            let other = comes.each p there in
            let same : other.0 ≡ one.0 = one-group other.0 one.0 p other.2 one.3 in
            AreNew-not (past - first) first scope h one.0 one.1 one.2 (subst (Contains scope) same other.1)

        go : (t : Bool) → nat_lt (start first) (start past) ≡ t → AreNew scope' (handles_of (rename_range start (first, past)))
        go true test =
            let less : start first < start past = grind (arith, nat_tests) in
            subst (λ range. AreNew scope' (handles_of range)) (sym (ap (λ t. if t then (start first, start past) else (0, 0)) test))
            (AreNew-range (start past - start first) (start first) scope' (fresh less))
        go false test = subst (λ range. AreNew scope' (handles_of range)) (sym (ap (λ t. if t then (start first, start past) else (0, 0)) test)) tt

    result-new : (result : Option ℕ) → ((y : ℕ) → result ≡ Some y → y < N) → (scope scope' : List ℕ) → ComesFrom scope scope' → AreNew scope (option_to_list result) → AreNew scope' (option_to_list (option_map F result))
    result-new None inside scope scope' comes h = tt
    result-new (Some y) inside scope scope' comes h = (
      (λ there.
          let other = comes.each (F y) there in
          let same : other.0 ≡ y = one-group other.0 y (F y) other.2 (its-own y (inside y refl)) in
          h.0 (subst (Contains scope) same other.1)),
      tt,
    )

    plain-new : (what : statement.Statement) (scope scope' : List ℕ) → All Within (references_of_statement what) → ComesFrom scope scope' → AreNew scope (evaluated_by what) → AreNew scope' (evaluated_by (rename_statement R what))
    plain-new (statement.Emit range) scope scope' h comes new =
        let pair = range-within range.0 range.1 (All-head Within (reference.Expressions range.0 range.1) [] h) in
        subst (AreNew scope') (sym (append-nil (handles_of (rename_range start (range.0, range.1)))))
        (range-new range.0 range.1 scope scope' pair.0 pair.1 comes (subst (AreNew scope) (append-nil (handles_of (range.0, range.1))) new))
    plain-new what scope scope' h comes new =
        subst (λ result. AreNew scope' (option_to_list result)) (sym (result_of-renamed R what)) (result-new (result_of what) (λ y is. named-within what y h is) scope scope' comes new)

    mutual
      pub tree-once : (block : Tree) (scope scope' : List ℕ) → All Within (references_of_tree block) → ComesFrom scope scope' → EvaluatedOnce scope block → EvaluatedOnce scope' (rename_tree R block)
      tree-once empty scope scope' h comes once = tt
      tree-once (push front last span) scope scope' h comes once =
          let left = references-left Within (references_of_tree front) (references_of_node last) h in (
            tree-once front scope scope' left comes once.0,
            node-once last (values_of front ++ scope) (values_of (rename_tree R front) ++ scope') (references-right Within (references_of_tree front) (references_of_node last) h)
                (comes-joined (values_of front) scope (values_of (rename_tree R front)) scope' (values-come front left) comes) once.1,
          )

      node-once : (node : Node) (scope scope' : List ℕ) → All Within (references_of_node node) → ComesFrom scope scope' → NodeEvaluatedOnce scope node → NodeEvaluatedOnce scope' (rename_node R node)
      node-once (plain what) scope scope' h comes once = plain-new what scope scope' h comes once
      node-once (nested inner) scope scope' h comes once = tree-once inner scope scope' h comes once
      node-once (branch condition accept reject) scope scope' h comes once =
          let own = references-right Within (operands (condition ∷ [])) (references_of_tree accept ++ references_of_tree reject) h in (
            tree-once accept scope scope' (references-left Within (references_of_tree accept) (references_of_tree reject) own) comes once.0,
            tree-once reject scope scope' (references-right Within (references_of_tree accept) (references_of_tree reject) own) comes once.1,
          )
      node-once (switch selector cases) scope scope' h comes once = cases-once cases scope scope' (references-right Within (operands (selector ∷ [])) (references_of_cases cases) h) comes once
      node-once (loop body continuing break_if) scope scope' h comes once =
          let own = references-right Within (present (break_if ∷ [])) (references_of_tree body ++ references_of_tree continuing) h in
          let left = references-left Within (references_of_tree body) (references_of_tree continuing) own in (
            tree-once body scope scope' left comes once.0,
            tree-once continuing (values_of body ++ scope) (values_of (rename_tree R body) ++ scope') (references-right Within (references_of_tree body) (references_of_tree continuing) own)
                (comes-joined (values_of body) scope (values_of (rename_tree R body)) scope' (values-come body left) comes) once.1,
          )
      node-once (jump to) scope scope' h comes once = tt

      cases-once : (cases : Cases) (scope scope' : List ℕ) → All Within (references_of_cases cases) → ComesFrom scope scope' → CasesEvaluatedOnce scope cases → CasesEvaluatedOnce scope' (rename_cases R cases)
      cases-once no_cases scope scope' h comes once = tt
      cases-once (case value body falls_through others) scope scope' h comes once = (
        tree-once body scope scope' (references-left Within (references_of_tree body) (references_of_cases others) h) comes once.0,
        cases-once others scope scope' (references-right Within (references_of_tree body) (references_of_cases others) h) comes once.1,
      )
