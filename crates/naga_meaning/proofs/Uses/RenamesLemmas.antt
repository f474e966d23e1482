-- Renaming keeps that each value is evaluated before it is used.
use Rattle.std.proofs.Common.{◌≡◌, ◌∙◌, refl, sym, ap, subst, inl, inr, ℕ, Bool, true, false, not, ◌||◌, List, [], ◌∷◌, ◌++◌, map, Option, Some, None, cond, option_to_list, arith}
use Rattle.std.proofs.lemmas.Bool.{eqb-true, eq-eqb}
use Rattle.std.proofs.lemmas.List.{map-append}
use Rattle.std.proofs.lemmas.List.Elements.{All-contains, All-cons, All-head, All-nil, All-tail, Contains-append_cases, Contains-append_right, filter-append, filter_map-append}
use Rattle.std.specs.List.{Contains, filter}
use Rattle.std.specs.Option.{option_map}
use Rattle.std.specs.Prelude.{if◌then◌else◌, nat_eq}
use Rattle.naga_arena.specs.Span.{undefined}
use Rattle.naga_ir.specs.Tree.{Tree, empty, push, Node, plain, nested, branch, switch, loop, jump, Jump, break, continue, kill, return, Cases, no_cases, case}
use Rattle.naga_ir.specs.declared.statement.RayQueryFunction.TheVariants as ray
use Rattle.naga_ir.specs.declared.statement.Statement.{Statement, Emit, RayQuery}
use Rattle.naga_runs.specs.Exits.{has_default}
use Rattle.naga_valid.specs.Operands.{expression_of, expressions_of}
use Rattle.naga_valid.specs.Reference.{operands, present}
use Rattle.naga_valid.specs.Statements.{references_of_statement, references_of_tree, references_of_node, references_of_cases}
use Rattle.naga_valid.specs.declared.reference.Reference.{Reference}
use Rattle.naga_valid.proofs.ContainsLemmas.{Contains-map}
use Rattle.naga_flow.specs.Results.{emitted_by, evaluated_by, evaluation_by, result_of, used_by, without, without_first}
use Rattle.naga_flow.specs.Scopes.{AreNew, CasesEvaluatedOnce, EvaluatedOnce, NodeEvaluatedOnce}
use Rattle.naga_flow.specs.Uses.{Expressions, IsKnown, AreKnown, MayUse, MayUseEach, AreEvaluatedBy, OperandsAreKnown, PlainUsesKnown, UsesKnown, NodeUsesKnown, CasesUseKnown, JumpUsesKnown, after_body, values_of, values_of_node, certain, may_be_skipped, where_reached}
use Rattle.naga_flow.specs.Ways.{may_go_on, only_off, either, followed, out_of_case, ways_of, ways_of_node, ways_of_cases, ways_of_jump}
use Rattle.naga_flow.specs.declared.evaluation.Evaluation.{Evaluation}
use Rattle.naga_flow.proofs.IncludesLemmas.{Contains-one}
use Rattle.naga_flow.proofs.ResultsLemmas.{ResultIsNamed, result-named}
use Rattle.naga_compact.specs.Mapping.{map_jump, map_tree, map_node, map_cases}
use Rattle.naga_compact.specs.Renaming.{Renaming}
use Rattle.naga_compact.specs.Renaming.Blocks.{rename_tree, rename_node, rename_cases}
use Rattle.naga_compact.specs.derived.Renaming.{rename_statement}
use Rattle.naga_compact.proofs.RenamedOperandsLemmas.{used_by-renamed}
use Rattle.naga_flow.proofs.AllLemmas.{All-both}
use Rattle.naga_meaning.proofs.MappedLemmas.{last_falls-map_cases, values-map_cases}
use Rattle.naga_meaning.specs.Renames.{AreKept, Renames, rename_evaluation}

-- ---- lists

here : (b : Bool) (y : ℕ) (ys : List ℕ) → b ≡ true → Contains (cond b (y ∷ ys) ys) y
here true y ys h = (0, omega arith, refl)
here false y ys h = absurd (let q : false ≡ true = h in cc)

there : (b : Bool) (y : ℕ) (ys : List ℕ) (x : ℕ) → Contains ys x → Contains (cond b (y ∷ ys) ys) x
there true y ys x c = Contains-append_right (y ∷ []) ys x c
there false y ys x c = c

Contains-filter : (kept : ℕ → Bool) (xs : List ℕ) (x : ℕ) → kept x ≡ true → Contains xs x → Contains (filter kept xs) x
Contains-filter kept [] x k c = absurd (omega (arith, c.1))
Contains-filter kept (y ∷ ys) x k c =
    let later : Contains ys x → Contains (filter kept ys) x = Contains-filter kept ys x k in
    elim (Contains-append_cases (y ∷ []) ys x c) as (λ _. Contains (filter kept (y ∷ ys)) x) [
      | inl a ↦
          let e : y ≡ x = Contains-one y x a in
          subst (λ z. Contains (filter kept (y ∷ ys)) z) e (here (kept y) y (filter kept ys) (ap kept e ∙ k))
      | inr b ↦ there (kept y) y (filter kept ys) x (later b)
    ]

-- ---- ways

map_jump-ways : (f : ℕ → ℕ) (to : Jump) → ways_of_jump (map_jump f to) ≡ ways_of_jump to
map_jump-ways f break = refl
map_jump-ways f continue = refl
map_jump-ways f kill = refl
map_jump-ways f (return value) = refl

module _ (on_plain : Statement → Statement) (on_expression : ℕ → ℕ) where
  mutual
    pub map_tree-ways : (block : Tree) → ways_of (map_tree on_plain on_expression block) ≡ ways_of block
    map_tree-ways empty = refl
    map_tree-ways (push front last span) = λ i. followed (map_tree-ways front i) (map_node-ways last i)

    map_node-ways : (node : Node) → ways_of_node (map_node on_plain on_expression node) ≡ ways_of_node node
    map_node-ways (plain what) = refl
    map_node-ways (nested inner) = map_tree-ways inner
    map_node-ways (branch condition accept reject) = λ i. either (map_tree-ways accept i) (map_tree-ways reject i)
    map_node-ways (switch selector cases) =
        λ i. either (only_off (not (has_default (values-map_cases on_plain on_expression cases i)) || last_falls-map_cases on_plain on_expression cases i)) (map_cases-ways cases i)
    map_node-ways (loop body continuing break_if) = refl
    map_node-ways (jump to) = map_jump-ways on_expression to

    map_cases-ways : (cases : Cases) → ways_of_cases (map_cases on_plain on_expression cases) ≡ ways_of_cases cases
    map_cases-ways no_cases = refl
    map_cases-ways (case value body falls_through others) = λ i. either (out_of_case falls_through (map_tree-ways body i)) (map_cases-ways others i)

  -- ---- statements that are executed for certain

  if-mapped : (t : Bool) (a b : Tree) → (if t then map_tree on_plain on_expression a else map_tree on_plain on_expression b) ≡ map_tree on_plain on_expression (if t then a else b)
  if-mapped true a b = refl
  if-mapped false a b = refl

  pub map_tree-certain : (block : Tree) → certain (map_tree on_plain on_expression block) ≡ map_tree on_plain on_expression (certain block)
  map_tree-certain empty = refl
  map_tree-certain (push front last span) =
      (λ i. if may_be_skipped (map_tree-ways front i) (map_node-ways last i) then map_tree-certain front i else map_tree on_plain on_expression (push front last span))
      ∙ if-mapped (may_be_skipped (ways_of front) (ways_of_node last)) (certain front) (push front last span)

-- ---- results

module _ (r : Renaming) where
  pub result_of-renamed : (s : Statement) → result_of (rename_statement r s) ≡ option_map r.expressions (result_of s)
  result_of-renamed (RayQuery query (ray.Initialize x y)) = refl
  result_of-renamed (RayQuery query (ray.Proceed x)) = refl
  result_of-renamed (RayQuery query (ray.GenerateIntersection x)) = refl
  result_of-renamed (RayQuery query ray.ConfirmIntersection) = refl
  result_of-renamed (RayQuery query ray.Terminate) = refl
  result_of-renamed _ = refl

  evaluation_by-renamed : (s : Statement) → evaluation_by (rename_statement r s) ≡ rename_evaluation r.functions (evaluation_by s)
  evaluation_by-renamed (Emit range) = refl
  evaluation_by-renamed _ = refl

  -- the expressions to which a statement refers
  expressions-renamed : (s : Statement) → expressions_of (references_of_statement (rename_statement r s)) ≡ map r.expressions (expressions_of (references_of_statement s))
  expressions-renamed s = used_by-renamed r (push empty (plain s) undefined)

-- ---- values

module _ (kept : ℕ → Bool) (r : Renaming) (old new : Expressions) (renames : Renames kept r old new) where
  abbrev f : ℕ → ℕ
  f = r.expressions

  -- the handles that are kept, renamed
  abbrev moved : List ℕ → List ℕ
  moved known = map f (filter kept known)

  abbrev TreeIsKept : Tree → Type 0
  TreeIsKept block = AreKept kept (expressions_of (references_of_tree block))

  moved-yes : (x : ℕ) (known : List ℕ) → kept x ≡ true → moved (x ∷ known) ≡ f x ∷ moved known
  moved-yes x known h = ap (λ b. map f (cond b (x ∷ filter kept known) (filter kept known))) h

  moved-no : (x : ℕ) (known : List ℕ) → kept x ≡ false → moved (x ∷ known) ≡ moved known
  moved-no x known h = ap (λ b. map f (cond b (x ∷ filter kept known) (filter kept known))) h

  moved-append : (xs ys : List ℕ) → moved (xs ++ ys) ≡ moved xs ++ moved ys
  moved-append xs ys = ap (map f) (filter-append kept xs ys) ∙ map-append f (filter kept xs) (filter kept ys)

  IsKnown-moved : (known : List ℕ) (x : ℕ) → kept x ≡ true → IsKnown old known x → IsKnown new (moved known) (f x)
  IsKnown-moved known x k (inl ready) = inl (renames.evaluation x k ∙ ap (option_map (rename_evaluation r.functions)) ready)
  IsKnown-moved known x k (inr c) = inr (Contains-map f (filter kept known) x (Contains-filter kept known x k c))

  AreKnown-moved : (known xs : List ℕ) → AreKept kept xs → AreKnown old known xs → AreKnown new (moved known) (map f xs)
  AreKnown-moved known [] k h = All-nil (IsKnown new (moved known))
  AreKnown-moved known (x ∷ xs) k h =
      All-cons (IsKnown new (moved known)) (f x) (map f xs)
      (IsKnown-moved known x (All-head (λ y. kept y ≡ true) x xs k) (All-head (IsKnown old known) x xs h))
      (AreKnown-moved known xs (All-tail (λ y. kept y ≡ true) x xs k) (All-tail (IsKnown old known) x xs h))

  MayUse-moved : (known : List ℕ) (x : ℕ) → kept x ≡ true → MayUse old known x → MayUse new (moved known) (f x)
  MayUse-moved known x k h = subst (AreKnown new (moved known)) (sym (renames.reads x k)) (AreKnown-moved known (old.reads x) (renames.reads_kept x k) h)

  MayUseEach-moved : (known xs : List ℕ) → AreKept kept xs → MayUseEach old known xs → MayUseEach new (moved known) (map f xs)
  MayUseEach-moved known [] k h = All-nil (MayUse new (moved known))
  MayUseEach-moved known (x ∷ xs) k h =
      All-cons (MayUse new (moved known)) (f x) (map f xs)
      (MayUse-moved known x (All-head (λ y. kept y ≡ true) x xs k) (All-head (MayUse old known) x xs h))
      (MayUseEach-moved known xs (All-tail (λ y. kept y ≡ true) x xs k) (All-tail (MayUse old known) x xs h))

  AreEvaluatedBy-moved : (way : Evaluation) (xs : List ℕ) → AreEvaluatedBy old way xs → AreEvaluatedBy new (rename_evaluation r.functions way) (moved xs)
  AreEvaluatedBy-moved way [] h = All-nil (λ handle. new.evaluation handle ≡ Some (rename_evaluation r.functions way))
  AreEvaluatedBy-moved way (x ∷ xs) h =
      go (kept x) refl (All-head (λ handle. old.evaluation handle ≡ Some way) x xs h)
      (AreEvaluatedBy-moved way xs (All-tail (λ handle. old.evaluation handle ≡ Some way) x xs h))
    where
      go : (b : Bool) → kept x ≡ b → old.evaluation x ≡ Some way → AreEvaluatedBy new (rename_evaluation r.functions way) (moved xs) → AreEvaluatedBy new (rename_evaluation r.functions way) (moved (x ∷ xs))
      go true q own rest =
          subst (AreEvaluatedBy new (rename_evaluation r.functions way)) (sym (moved-yes x xs q))
          (All-cons (λ handle. new.evaluation handle ≡ Some (rename_evaluation r.functions way)) (f x) (moved xs) (renames.evaluation x q ∙ ap (option_map (rename_evaluation r.functions)) own) rest)
      go false q own rest = subst (AreEvaluatedBy new (rename_evaluation r.functions way)) (sym (moved-no x xs q)) rest

  OperandsAreKnown-moved : (known xs : List ℕ) → OperandsAreKnown old known xs → OperandsAreKnown new (moved known) (moved xs)
  OperandsAreKnown-moved known [] h = tt
  OperandsAreKnown-moved known (x ∷ xs) h =
      let rest : OperandsAreKnown new (moved (x ∷ known)) (moved xs) = OperandsAreKnown-moved (x ∷ known) xs h.1 in
      go (kept x) refl h.0 rest
    where
      go : (b : Bool) → kept x ≡ b → MayUseEach old known (old.operands x) → OperandsAreKnown new (moved (x ∷ known)) (moved xs) → OperandsAreKnown new (moved known) (moved (x ∷ xs))
      go true q own rest =
          subst (OperandsAreKnown new (moved known)) (sym (moved-yes x xs q)) (
            subst (MayUseEach new (moved known)) (sym (renames.operands x q)) (MayUseEach-moved known (old.operands x) (renames.operands_kept x q) own),
            subst (λ ks. OperandsAreKnown new ks (moved xs)) (moved-yes x known q) rest,
          )
      go false q own rest =
          subst (OperandsAreKnown new (moved known)) (sym (moved-no x xs q)) (subst (λ ks. OperandsAreKnown new ks (moved xs)) (moved-no x known q) rest)

  -- ---- a plain statement

  same_test : (x y : ℕ) → kept x ≡ true → kept y ≡ true → nat_eq (f x) (f y) ≡ nat_eq x y
  same_test x y h k = go (nat_eq x y) (nat_eq (f x) (f y)) refl refl
    where
      go : (a b : Bool) → nat_eq x y ≡ a → nat_eq (f x) (f y) ≡ b → nat_eq (f x) (f y) ≡ nat_eq x y
      go true b p q = eq-eqb (f x) (f y) (ap f (eqb-true x y p)) ∙ sym p
      go false true p q = absurd (
          let yes : nat_eq x y ≡ true = eq-eqb x y (renames.distinct x y h k (eqb-true (f x) (f y) q)) in
          let e : false ≡ true = sym p ∙ yes in cc
          )
      go false false p q = q ∙ sym p

  without_first-moved : (y : ℕ) (xs : List ℕ) → kept y ≡ true → AreKept kept xs → without_first (f y) (map f xs) ≡ map f (without_first y xs)
  without_first-moved y [] k h = refl
  without_first-moved y (x ∷ xs) k h =
      (λ i. if same_test x y (All-head (λ y. kept y ≡ true) x xs h) k i then map f xs else f x ∷ without_first-moved y xs k (All-tail (λ y. kept y ≡ true) x xs h) i)
      ∙ go (nat_eq x y)
    where
      go : (t : Bool) → (if t then map f xs else f x ∷ map f (without_first y xs)) ≡ map f (if t then xs else x ∷ without_first y xs)
      go true = refl
      go false = refl

  without-moved : (result : Option ℕ) (xs : List ℕ) → ResultIsNamed result xs → AreKept kept xs → without (option_map f result) (map f xs) ≡ map f (without result xs)
  without-moved None xs r h = refl
  without-moved (Some y) xs r h = without_first-moved y xs (All-contains (λ y. kept y ≡ true) xs y h r) h

  pub used_by-moved : (s : Statement) → AreKept kept (expressions_of (references_of_statement s)) → used_by (rename_statement r s) ≡ map f (used_by s)
  used_by-moved s h =
      (λ i. without (result_of-renamed r s i) (expressions-renamed r s i))
      ∙ without-moved (result_of s) (expressions_of (references_of_statement s)) (result-named s) h

  without_first-kept : (y : ℕ) (xs : List ℕ) → AreKept kept xs → AreKept kept (without_first y xs)
  without_first-kept y [] h = h
  without_first-kept y (x ∷ xs) h =
      let first : kept x ≡ true = All-head (λ y. kept y ≡ true) x xs h in
      let others : AreKept kept xs = All-tail (λ y. kept y ≡ true) x xs h in
      let rest : AreKept kept (without_first y xs) = without_first-kept y xs others in
      go (nat_eq x y) first others rest
    where
      go : (t : Bool) → kept x ≡ true → AreKept kept xs → AreKept kept (without_first y xs) → AreKept kept (if t then xs else x ∷ without_first y xs)
      go true first others rest = others
      go false first others rest = All-cons (λ y. kept y ≡ true) x (without_first y xs) first rest

  pub without-kept : (result : Option ℕ) (xs : List ℕ) → AreKept kept xs → AreKept kept (without result xs)
  without-kept None xs h = h
  without-kept (Some y) xs h = without_first-kept y xs h

  pub emitted_by-moved : (s : Statement) → emitted_by (rename_statement r s) ≡ moved (emitted_by s)
  emitted_by-moved (Emit range) = renames.ranges range
  emitted_by-moved _ = refl

  result-moved : (result : Option ℕ) (xs : List ℕ) → ResultIsNamed result xs → AreKept kept xs → option_to_list (option_map f result) ≡ moved (option_to_list result)
  result-moved None xs r h = refl
  result-moved (Some y) xs r h = sym (moved-yes y [] (All-contains (λ y. kept y ≡ true) xs y h r))

  evaluated_by-moved : (s : Statement) → AreKept kept (expressions_of (references_of_statement s)) → evaluated_by (rename_statement r s) ≡ moved (evaluated_by s)
  evaluated_by-moved s h =
      (λ i. emitted_by-moved s i ++ (ap option_to_list (result_of-renamed r s) ∙ result-moved (result_of s) (expressions_of (references_of_statement s)) (result-named s) h) i)
      ∙ sym (moved-append (emitted_by s) (option_to_list (result_of s)))

  PlainUsesKnown-moved : (known : List ℕ) (s : Statement) → AreKept kept (expressions_of (references_of_statement s)) → PlainUsesKnown old known s → PlainUsesKnown new (moved known) (rename_statement r s)
  PlainUsesKnown-moved known s k h = record {
    used = subst (MayUseEach new (moved known)) (sym (used_by-moved s k)) (MayUseEach-moved known (used_by s) (without-kept (result_of s) (expressions_of (references_of_statement s)) k) h.used);
    operands = subst (OperandsAreKnown new (moved known)) (sym (emitted_by-moved s)) (OperandsAreKnown-moved known (emitted_by s) h.operands);
    evaluated = subst (λ way. AreEvaluatedBy new way (evaluated_by (rename_statement r s))) (sym (evaluation_by-renamed r s))
        (subst (AreEvaluatedBy new (rename_evaluation r.functions (evaluation_by s))) (sym (evaluated_by-moved s k)) (AreEvaluatedBy-moved (evaluation_by s) (evaluated_by s) h.evaluated));
  }

  -- ---- blocks

  pub split : (xs ys : List Reference) → AreKept kept (expressions_of (xs ++ ys)) → AreKept kept (expressions_of xs) × AreKept kept (expressions_of ys)
  split xs ys h =
      let both : AreKept kept (expressions_of xs ++ expressions_of ys) = subst (AreKept kept) (filter_map-append expression_of xs ys) h in
      All-both (λ y. kept y ≡ true) (expressions_of xs) (expressions_of ys) both

  values_of_node-moved : (node : Node) → AreKept kept (expressions_of (references_of_node node)) → values_of_node (rename_node r node) ≡ moved (values_of_node node)
  values_of_node-moved (plain what) k = evaluated_by-moved what k
  values_of_node-moved (nested inner) k = refl
  values_of_node-moved (branch condition accept reject) k = refl
  values_of_node-moved (switch selector cases) k = refl
  values_of_node-moved (loop body continuing break_if) k = refl
  values_of_node-moved (jump to) k = refl

  values_of-moved : (block : Tree) → TreeIsKept block → values_of (rename_tree r block) ≡ moved (values_of block)
  values_of-moved empty k = refl
  values_of-moved (push front last span) k =
      let parts = split (references_of_tree front) (references_of_node last) k in
      (λ i. values_of-moved front parts.0 i ++ values_of_node-moved last parts.1 i) ∙ sym (moved-append (values_of front) (values_of_node last))

  certain-kept : (block : Tree) → TreeIsKept block → TreeIsKept (certain block)
  certain-kept empty k = k
  certain-kept (push front last span) k =
      let before : TreeIsKept (certain front) = certain-kept front (split (references_of_tree front) (references_of_node last) k).0 in
      go (may_be_skipped (ways_of front) (ways_of_node last)) before k
    where
      go : (t : Bool) → TreeIsKept (certain front) → TreeIsKept (push front last span) → TreeIsKept (if t then certain front else push front last span)
      go true before k = before
      go false before k = k

  -- what is known after a block, and before it
  after-moved : (block : Tree) (known : List ℕ) → TreeIsKept block → values_of (rename_tree r block) ++ moved known ≡ moved (values_of block ++ known)
  after-moved block known k = ap (λ xs. xs ++ moved known) (values_of-moved block k) ∙ sym (moved-append (values_of block) known)

  certain-moved : (block : Tree) (known : List ℕ) → TreeIsKept block → values_of (certain (rename_tree r block)) ++ moved known ≡ moved (values_of (certain block) ++ known)
  certain-moved block known k = ap (λ b. values_of b ++ moved known) (map_tree-certain (rename_statement r) f block) ∙ after-moved (certain block) known (certain-kept block k)

  optional-moved : (known : List ℕ) (value : Option ℕ) → AreKept kept (expressions_of (present (value ∷ []))) → MayUseEach old known (option_to_list value) → MayUseEach new (moved known) (option_to_list (option_map f value))
  optional-moved known None k h = All-nil (MayUse new (moved known))
  optional-moved known (Some value) k h = MayUseEach-moved known (value ∷ []) k h

  JumpUsesKnown-moved : (known : List ℕ) (to : Jump) → AreKept kept (expressions_of (references_of_node (jump to))) → JumpUsesKnown old known to → JumpUsesKnown new (moved known) (map_jump f to)
  JumpUsesKnown-moved known break k h = tt
  JumpUsesKnown-moved known continue k h = tt
  JumpUsesKnown-moved known kill k h = tt
  JumpUsesKnown-moved known (return value) k h = optional-moved known value k h

  -- ---- what is in scope

  Contains-moved_back : (scope : List ℕ) (x : ℕ) → kept x ≡ true → Contains (moved scope) (f x) → Contains scope x
  Contains-moved_back [] x k c = absurd (omega (arith, c.1))
  Contains-moved_back (y ∷ ys) x k c =
      let later : Contains (moved ys) (f x) → Contains ys x = Contains-moved_back ys x k in
      go (kept y) refl later
    where
      go : (b : Bool) → kept y ≡ b → (Contains (moved ys) (f x) → Contains ys x) → Contains (y ∷ ys) x
      go true q later = elim (Contains-append_cases (f y ∷ []) (moved ys) (f x) (subst (λ xs. Contains xs (f x)) (moved-yes y ys q) c)) as (λ _. Contains (y ∷ ys) x) [
        | inl a ↦ (0, omega arith, renames.distinct y x q k (Contains-one (f y) (f x) a))
        | inr b ↦ Contains-append_right (y ∷ []) ys x (later b)
      ]
      go false q later = Contains-append_right (y ∷ []) ys x (later (subst (λ xs. Contains xs (f x)) (moved-no y ys q) c))

  AreNew-moved : (scope xs : List ℕ) → AreNew scope xs → AreNew (moved scope) (moved xs)
  AreNew-moved scope [] h = tt
  AreNew-moved scope (x ∷ xs) h =
      let rest : AreNew (moved (x ∷ scope)) (moved xs) = AreNew-moved (x ∷ scope) xs h.1 in
      go (kept x) refl rest
    where
      go : (b : Bool) → kept x ≡ b → AreNew (moved (x ∷ scope)) (moved xs) → AreNew (moved scope) (moved (x ∷ xs))
      go true q rest =
          subst (AreNew (moved scope)) (sym (moved-yes x xs q))
          (λ c. h.0 (Contains-moved_back scope x q c), subst (λ all. AreNew all (moved xs)) (moved-yes x scope q) rest)
      go false q rest = subst (AreNew (moved scope)) (sym (moved-no x xs q)) (subst (λ all. AreNew all (moved xs)) (moved-no x scope q) rest)

  mutual
    pub rename_tree-once : (scope : List ℕ) (block : Tree) → TreeIsKept block → EvaluatedOnce scope block → EvaluatedOnce (moved scope) (rename_tree r block)
    rename_tree-once scope empty k h = tt
    rename_tree-once scope (push front last span) k h =
        let parts = split (references_of_tree front) (references_of_node last) k in (
          rename_tree-once scope front parts.0 h.0,
          subst (λ xs. NodeEvaluatedOnce xs (rename_node r last)) (sym (after-moved front scope parts.0)) (rename_node-once (values_of front ++ scope) last parts.1 h.1),
        )

    rename_node-once : (scope : List ℕ) (node : Node) → AreKept kept (expressions_of (references_of_node node)) → NodeEvaluatedOnce scope node → NodeEvaluatedOnce (moved scope) (rename_node r node)
    rename_node-once scope (plain what) k h = subst (AreNew (moved scope)) (sym (evaluated_by-moved what k)) (AreNew-moved scope (evaluated_by what) h)
    rename_node-once scope (nested inner) k h = rename_tree-once scope inner k h
    rename_node-once scope (branch condition accept reject) k h =
        let own = split (operands (condition ∷ [])) (references_of_tree accept ++ references_of_tree reject) k in
        let parts = split (references_of_tree accept) (references_of_tree reject) own.1 in
        (rename_tree-once scope accept parts.0 h.0, rename_tree-once scope reject parts.1 h.1)
    rename_node-once scope (switch selector cases) k h =
        let own = split (operands (selector ∷ [])) (references_of_cases cases) k in
        rename_cases-once scope cases own.1 h
    rename_node-once scope (loop body continuing break_if) k h =
        let own = split (present (break_if ∷ [])) (references_of_tree body ++ references_of_tree continuing) k in
        let parts = split (references_of_tree body) (references_of_tree continuing) own.1 in (
          rename_tree-once scope body parts.0 h.0,
          subst (λ xs. EvaluatedOnce xs (rename_tree r continuing)) (sym (after-moved body scope parts.0)) (rename_tree-once (values_of body ++ scope) continuing parts.1 h.1),
        )
    rename_node-once scope (jump to) k h = tt

    rename_cases-once : (scope : List ℕ) (cases : Cases) → AreKept kept (expressions_of (references_of_cases cases)) → CasesEvaluatedOnce scope cases → CasesEvaluatedOnce (moved scope) (rename_cases r cases)
    rename_cases-once scope no_cases k h = tt
    rename_cases-once scope (case value body falls_through others) k h =
        let parts = split (references_of_tree body) (references_of_cases others) k in
        (rename_tree-once scope body parts.0 h.0, rename_cases-once scope others parts.1 h.1)

-- ---- the uses of a block

-- where control reaches a use only if the test holds
Renames-where_reached : (kept : ℕ → Bool) (r : Renaming) (old new : Expressions) (t : Bool) → Renames kept r old new → Renames kept r (where_reached t old) (where_reached t new)
Renames-where_reached kept r old new t so = record {
  distinct = so.distinct;
  ranges = so.ranges;
  evaluation = so.evaluation;
  operands = so.operands;
  operands_kept = so.operands_kept;
  reads = λ x k. reads t x (so.reads x k);
  reads_kept = λ x k. kept_too t x (so.reads_kept x k);
}
  where
    reads : (t : Bool) (x : ℕ) → new.reads (r.expressions x) ≡ map r.expressions (old.reads x) →
        (if t then new.reads (r.expressions x) else []) ≡ map r.expressions (if t then old.reads x else [])
    reads true x is = is
    reads false x is = refl

    kept_too : (t : Bool) (x : ℕ) → AreKept kept (old.reads x) → AreKept kept (if t then old.reads x else [])
    kept_too true x h = h
    kept_too false x h = All-nil (λ y. kept y ≡ true)

module _ (kept : ℕ → Bool) (r : Renaming) where
  mutual
    pub rename_tree-uses : (old new : Expressions) → Renames kept r old new → (known : List ℕ) (block : Tree) → AreKept kept (expressions_of (references_of_tree block)) →
        UsesKnown old known block → UsesKnown new (map r.expressions (filter kept known)) (rename_tree r block)
    rename_tree-uses old new so known empty k h = tt
    rename_tree-uses old new so known (push front last span) k h =
        let parts = split kept r old new so (references_of_tree front) (references_of_node last) k in (
          rename_tree-uses old new so known front parts.0 h.0,
          subst (λ xs. NodeUsesKnown new xs (rename_node r last)) (sym (after-moved kept r old new so front known parts.0)) (rename_node-uses old new so (values_of front ++ known) last parts.1 h.1),
        )

    rename_node-uses : (old new : Expressions) → Renames kept r old new → (known : List ℕ) (node : Node) → AreKept kept (expressions_of (references_of_node node)) →
        NodeUsesKnown old known node → NodeUsesKnown new (map r.expressions (filter kept known)) (rename_node r node)
    rename_node-uses old new so known (plain what) k h = PlainUsesKnown-moved kept r old new so known what k h
    rename_node-uses old new so known (nested inner) k h = rename_tree-uses old new so known inner k h
    rename_node-uses old new so known (branch condition accept reject) k h =
        let own = split kept r old new so (operands (condition ∷ [])) (references_of_tree accept ++ references_of_tree reject) k in
        let parts = split kept r old new so (references_of_tree accept) (references_of_tree reject) own.1 in
        (MayUse-moved kept r old new so known condition (All-head (λ y. kept y ≡ true) condition [] own.0) h.0, rename_tree-uses old new so known accept parts.0 h.1, rename_tree-uses old new so known reject parts.1 h.2)
    rename_node-uses old new so known (switch selector cases) k h =
        let own = split kept r old new so (operands (selector ∷ [])) (references_of_cases cases) k in
        (MayUse-moved kept r old new so known selector (All-head (λ y. kept y ≡ true) selector [] own.0) h.0, rename_cases-use old new so known cases own.1 h.1)
    rename_node-uses old new so known (loop body continuing break_if) k h =
        let own = split kept r old new so (present (break_if ∷ [])) (references_of_tree body ++ references_of_tree continuing) k in
        let parts = split kept r old new so (references_of_tree body) (references_of_tree continuing) own.1 in
        let joined = certain-moved kept r old new so body known parts.0 in
        let joined_too = ap (λ xs. values_of (certain (rename_tree r continuing)) ++ xs) joined ∙ certain-moved kept r old new so continuing (values_of (certain body) ++ known) parts.1 in
        let after = Renames-where_reached kept r old new (may_go_on (ways_of body)) so in
        let there : after_body body new ≡ after_body (rename_tree r body) new = ap (λ ways. where_reached (may_go_on ways) new) (sym (map_tree-ways (rename_statement r) r.expressions body)) in (
          rename_tree-uses old new so known body parts.0 h.0,
          subst (λ ex. UsesKnown ex (values_of (certain (rename_tree r body)) ++ map r.expressions (filter kept known)) (rename_tree r continuing)) there
              (subst (λ xs. UsesKnown (after_body body new) xs (rename_tree r continuing)) (sym joined)
              (rename_tree-uses (after_body body old) (after_body body new) after (values_of (certain body) ++ known) continuing parts.1 h.1)),
          subst (λ ex. MayUseEach ex (values_of (certain (rename_tree r continuing)) ++ (values_of (certain (rename_tree r body)) ++ map r.expressions (filter kept known))) (option_to_list (option_map r.expressions break_if))) there
              (subst (λ xs. MayUseEach (after_body body new) xs (option_to_list (option_map r.expressions break_if))) (sym joined_too)
              (optional-moved kept r (after_body body old) (after_body body new) after (values_of (certain continuing) ++ (values_of (certain body) ++ known)) break_if own.0 h.2)),
        )
    rename_node-uses old new so known (jump to) k h = JumpUsesKnown-moved kept r old new so known to k h

    rename_cases-use : (old new : Expressions) → Renames kept r old new → (known : List ℕ) (cases : Cases) → AreKept kept (expressions_of (references_of_cases cases)) →
        CasesUseKnown old known cases → CasesUseKnown new (map r.expressions (filter kept known)) (rename_cases r cases)
    rename_cases-use old new so known no_cases k h = tt
    rename_cases-use old new so known (case value body falls_through others) k h =
        let parts = split kept r old new so (references_of_tree body) (references_of_cases others) k in
        (rename_tree-uses old new so known body parts.0 h.0, rename_cases-use old new so known others parts.1 h.1)
