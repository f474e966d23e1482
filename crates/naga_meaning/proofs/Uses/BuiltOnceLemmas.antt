-- What is built from commands that evaluate each expression before its value is used, if no two of them have one result.
use Rattle.std.proofs.Common.{◌≡◌, ◌∙◌, refl, sym, ap, subst, inl, inr, ◌⊎◌, ℕ, zero, suc, ◌+◌, ◌-◌, ◌<◌, ◌≤◌, true, false, List, [], ◌∷◌, ◌++◌, append-nil, cond, length, Option, Some, None, option_to_list, arith}
use Rattle.std.proofs.lemmas.Bool.{cases_lt}
use Rattle.std.proofs.lemmas.List.Elements.{All-contains, All-head, Contains-append_cases, Contains-append_left, Contains-append_right}
use Rattle.std.specs.List.{All, Contains, range_with_len}
use Rattle.std.specs.Option.{option_map}
use Rattle.std.specs.Prelude.{slice_range}
use Rattle.naga_arena.specs.Arena.{spans, value_at}
use Rattle.naga_arena.specs.Range.{handles_of}
use Rattle.naga_arena.specs.Span.{total}
use Rattle.naga_arena.specs.declared.span.Span.{Span}
use Rattle.naga_ir.specs.Tree.{Node, push, plain, nested, branch, switch, loop, jump, is_plain}
use Rattle.naga_ir.specs.View.{node_of, tree}
use Rattle.naga_ir.specs.declared.expression.Expression.{Expression}
use Rattle.naga_ir.specs.declared.statement.Statement.{Statement, Emit, Atomic, Call, RayQuery, SubgroupBallot, SubgroupCollectiveOperation, SubgroupGather, WorkGroupUniformLoad}
use Rattle.naga_ir.proofs.NodeOfLemmas.{node_of-plain}
use Rattle.naga_ir.proofs.PushedLemmas.{tree-push}
use Rattle.naga_flow.specs.Results.{emitted_by, evaluated_by, evaluation_by, evaluation_of, result_of}
use Rattle.naga_flow.specs.Scopes.{AreNew, EvaluatedOnce, NodeEvaluatedOnce}
use Rattle.naga_flow.specs.Tracking.{IsDistinct}
use Rattle.naga_flow.specs.Uses.{AreEvaluatedBy, Expressions, expressions_in, values_of, values_of_node}
use Rattle.naga_flow.specs.declared.evaluation.Evaluation.TheVariants as by
use Rattle.naga_flow.proofs.IncludesLemmas.{Contains-one}
use Rattle.naga_proc.specs.Building.{appended}
use Rattle.naga_proc.specs.Building.Emission.{emission, is_filled}
use Rattle.naga_meaning.specs.Evaluated.{IsResultOf, MayBePushed, MayPush, results}
use Rattle.naga_proc.specs.declared.builder.BuildCommand.{BuildCommand}
use Rattle.naga_proc.specs.declared.builder.BuildCommand.TheVariants.{Finish, Push}
use Rattle.naga_proc.proofs.Building.AppendedLemmas.{appended-without}
use Rattle.naga_meaning.proofs.Uses.IsAvailableLemmas.{results-append, value_at-later}

-- ---- lists

-- the numbers from one on
range-within : (start n x : ℕ) → Contains (range_with_len start n) x → (start ≤ x) × (x < start + n)
range-within start zero x c = absurd (omega (arith, c.1))
range-within start (suc n) x c =
    let later : Contains (range_with_len (start + 1) n) x → (start + 1 ≤ x) × (x < (start + 1) + n) = range-within (start + 1) n x in
    elim (Contains-append_cases (start ∷ []) (range_with_len (start + 1) n) x c) as (λ _. (start ≤ x) × (x < start + suc n)) [
      | inl a ↦ let same : start ≡ x = Contains-one start x a in (omega (arith, same), omega (arith, same))
      | inr b ↦ let h = later b in (omega (arith, h.0), omega (arith, h.1))
    ]

AreNew-range : (start n : ℕ) (scope : List ℕ) → ((x : ℕ) → start ≤ x → x < start + n → ¬ Contains scope x) → AreNew scope (range_with_len start n)
AreNew-range start zero scope h = tt
AreNew-range start (suc n) scope h = (
  h start (omega arith) (omega arith),
  AreNew-range (start + 1) n (start ∷ scope) (λ x from to c. elim (Contains-append_cases (start ∷ []) scope x c) as (λ _. ⊥) [
    | inl a ↦ let same : start ≡ x = Contains-one start x a in omega (arith, same, from)
    | inr b ↦ h x (omega (arith, from)) (omega (arith, to)) b
  ]),
)

range-there : (start n x : ℕ) → start ≤ x → x < start + n → Contains (range_with_len start n) x
range-there start zero x from to = absurd (omega (arith, from, to))
range-there start (suc n) x from to =
    let later : start + 1 ≤ x → Contains (range_with_len (start + 1) n) x = λ more. range-there (start + 1) n x more (omega (arith, to)) in
    elim (cases_lt start x) as (λ _. Contains (range_with_len start (suc n)) x) [
      | inl less ↦ Contains-append_right (start ∷ []) (range_with_len (start + 1) n) x (later (omega (arith, less)))
      | inr past ↦ (0, omega arith, (let same : start ≡ x = omega (arith, from, past) in same))
    ]

IsDistinct-split : (xs ys : List ℕ) (x : ℕ) → IsDistinct (xs ++ x ∷ ys) → ¬ Contains xs x
IsDistinct-split [] ys x h c = omega (arith, c.1)
IsDistinct-split (y ∷ xs) ys x h c =
    let later : ¬ Contains xs x = IsDistinct-split xs ys x h.1 in
    elim (Contains-append_cases (y ∷ []) xs x c) as (λ _. ⊥) [
      | inl a ↦ h.0 (subst (λ z. Contains (xs ++ x ∷ ys) z) (sym (Contains-one y x a)) (Contains-append_right xs (x ∷ ys) x (0, omega arith, refl)))
      | inr b ↦ later b
    ]

-- a result gets its value by no `Emit`
result-not_emitted : (s : Statement) (x : ℕ) → result_of s ≡ Some x → evaluation_by s ≡ by.Emit → ⊥
result-not_emitted (Atomic pointer fun value result) x is h = cc
result-not_emitted (WorkGroupUniformLoad pointer result) x is h = cc
result-not_emitted (Call function arguments result) x is h = cc
result-not_emitted (RayQuery query fun) x is h = cc
result-not_emitted (SubgroupBallot result predicate) x is h = cc
result-not_emitted (SubgroupGather mode argument result) x is h = cc
result-not_emitted (SubgroupCollectiveOperation op collective_op argument result) x is h = cc
result-not_emitted _ x is h = cc

not_filled : (start past : ℕ) → start ≡ past → is_filled (start, past) ≡ false
not_filled start past same = grind (arith, same)

module _ (commands : List BuildCommand) (distinct : IsDistinct (results commands)) where
  abbrev expressions : Expressions
  expressions = expressions_in (appended commands)

  -- the expression was emitted and is before the bound, or it is the result of a statement that was pushed
  abbrev CameFrom : (before : List BuildCommand) (bound : ℕ) → ℕ → Type 0
  CameFrom before bound x =
      ((x < bound) × (expressions.evaluation x ≡ Some by.Emit)) ⊎ (Contains (results before) x × ¬ (expressions.evaluation x ≡ Some by.Emit))

  -- the first commands have built this block, and what is emitted next is not before the bound
  pub record IsOnce (before : List BuildCommand) (block : List (Statement × Span)) (bound : ℕ) : Type 0 where
    pub once : EvaluatedOnce [] (tree block)
    pub origin : (x : ℕ) → Contains (values_of (tree block)) x → CameFrom before bound x

  -- the bound after these commands
  abbrev pub bound_of : List BuildCommand → Option ℕ → ℕ
  bound_of before None = length (appended before)
  bound_of before (Some start) = start

  CameFrom-more : (before more : List BuildCommand) (bound bound' x : ℕ) → bound ≤ bound' → CameFrom before bound x → CameFrom (before ++ more) bound' x
  CameFrom-more before more bound bound' x h (inl emitted) = inl (omega (arith, h, emitted.0), emitted.1)
  CameFrom-more before more bound bound' x h (inr result) =
      inr (subst (λ all. Contains all x) (sym (results-append before more)) (Contains-append_left (results before) (results more) x result.0), result.1)

  module _ (before : List BuildCommand) (block : List (Statement × Span)) where
    -- one more command, and no more statements
    pub IsOnce-kept : (more : List BuildCommand) (bound bound' : ℕ) → bound ≤ bound' → IsOnce before block bound → IsOnce (before ++ more) block bound'
    IsOnce-kept more bound bound' h so = record { once = so.once; origin = λ x c. CameFrom-more before more bound bound' x h (so.origin x c) }

    -- one more statement
    IsOnce-statement : (command : BuildCommand) (statement : Statement) (span : Span) (bound bound' : ℕ) → bound ≤ bound' →
        NodeEvaluatedOnce (values_of (tree block)) (node_of statement) →
        ((x : ℕ) → Contains (values_of_node (node_of statement)) x → CameFrom (before ++ command ∷ []) bound' x) →
        IsOnce before block bound → IsOnce (before ++ command ∷ []) (block ++ (statement, span) ∷ []) bound'
    IsOnce-statement command statement span bound bound' h once origin so =
        let old = values_of (tree block) in
        let one_more : tree (block ++ (statement, span) ∷ []) ≡ push (tree block) (node_of statement) span = tree-push block statement span in record {
          once = subst (λ whole. EvaluatedOnce [] whole) (sym one_more) (so.once, subst (λ scope. NodeEvaluatedOnce scope (node_of statement)) (sym (append-nil old)) once);
          origin = λ x c. elim (Contains-append_cases old (values_of_node (node_of statement)) x (subst (λ whole. Contains (values_of whole) x) one_more c)) as (λ _. CameFrom (before ++ command ∷ []) bound' x) [
            | inl earlier ↦ CameFrom-more before (command ∷ []) bound bound' x h (so.origin x earlier)
            | inr here ↦ origin x here
          ];
        }

    -- the emitter stops, and what is pending is emitted
    module _ (start : ℕ) (so : IsOnce before block start) (within : start ≤ length (appended before))
        (fit : AreEvaluatedBy expressions by.Emit (handles_of (start, length (appended before)))) where
      abbrev past : ℕ
      past = length (appended before)

      abbrev cover : Span
      cover = total (slice_range (spans (appended before)) start past)

      ends : start + (past - start) ≡ past
      ends = omega (arith, within)

      emitted : (x : ℕ) → Contains (handles_of (start, past)) x → expressions.evaluation x ≡ Some by.Emit
      emitted x c = All-contains (λ handle. expressions.evaluation handle ≡ Some by.Emit) (handles_of (start, past)) x fit c

      absent : (x : ℕ) → start ≤ x → x < start + (past - start) → ¬ Contains (values_of (tree block)) x
      absent x from to c = elim (so.origin x c) as (λ _. ⊥) [
        | inl earlier ↦ omega (arith, earlier.0, from)
        | inr result ↦ result.1 (emitted x (range-there start (past - start) x from to))
      ]

      same_bound : past ≡ length (appended (before ++ Finish ∷ []))
      same_bound = ap length (sym (appended-without before Finish refl))

      pub IsOnce-Finish : (arena : List (Expression × Span)) → arena ≡ appended before →
          IsOnce (before ++ Finish ∷ []) (block ++ option_to_list (emission arena (start, length arena))) (length (appended (before ++ Finish ∷ [])))
      IsOnce-Finish arena same = subst (IsOnce (before ++ Finish ∷ []) (block ++ option_to_list (emission arena (start, length arena)))) same_bound (elim (cases_lt start past) [
        | inl less ↦
            let filled : is_filled (start, past) ≡ true = grind (arith, less) in
            let emits : emission (appended before) (start, past) ≡ Some (Emit (start, past), cover) = ap (λ test. cond test (Some (Emit (start, past), cover)) None) filled in
            subst (λ more. IsOnce (before ++ Finish ∷ []) (block ++ option_to_list more) past) (sym (ap (λ all. emission all (start, length all)) same ∙ emits))
            (IsOnce-statement Finish (Emit (start, past)) cover start past within
            (subst (AreNew (values_of (tree block))) (sym (append-nil (handles_of (start, past)))) (AreNew-range start (past - start) (values_of (tree block)) absent))
            (λ x c.
            let there : Contains (handles_of (start, past)) x = subst (λ all. Contains all x) (append-nil (handles_of (start, past))) c in
            inl (let h = (range-within start (past - start) x there).1 in omega (arith, h, ends), emitted x there))
            so)
        | inr over ↦
            let empty_range : is_filled (start, past) ≡ false = let e : start ≡ past = omega (arith, over, within) in not_filled start past e in
            let emits : emission (appended before) (start, past) ≡ None = ap (λ test. cond test (Some (Emit (start, past), cover)) None) empty_range in
            subst (λ more. IsOnce (before ++ Finish ∷ []) (block ++ option_to_list more) past) (sym (ap (λ all. emission all (start, length all)) same ∙ emits))
            (subst (λ all. IsOnce (before ++ Finish ∷ []) all past) (sym (append-nil block)) (IsOnce-kept (Finish ∷ []) start past within so))
      ])

    -- a statement is pushed
    module _ (after : List BuildCommand) (statement : Statement) (span : Span) (split : commands ≡ before ++ Push statement span ∷ after) (may : MayPush before statement)
        (bound : ℕ) (so : IsOnce before block bound) where
      evaluation-is : (x : ℕ) → result_of statement ≡ Some x → expressions.evaluation x ≡ Some (evaluation_by statement)
      evaluation-is x found =
          let is : IsResultOf before statement x = All-head (IsResultOf before statement) x [] (subst (λ result. All (IsResultOf before statement) (option_to_list result)) found may.result) in
          ap (option_map evaluation_of) (ap (λ all. value_at (appended all) x) split ∙ value_at-later before (Push statement span ∷ after) x is.expression is.found) ∙ ap Some is.kind

      not_emitted : (x : ℕ) → result_of statement ≡ Some x → ¬ (expressions.evaluation x ≡ Some by.Emit)
      not_emitted x found h = result-not_emitted statement x found (let e : Some (evaluation_by statement) ≡ Some by.Emit = sym (evaluation-is x found) ∙ h in cc)

      result-absent : (x : ℕ) → result_of statement ≡ Some x → ¬ Contains (values_of (tree block)) x
      result-absent x found c = elim (so.origin x c) as (λ _. ⊥) [
        | inl emitted ↦ not_emitted x found emitted.1
        | inr result ↦
            IsDistinct-split (results before) (results after) x
            (subst IsDistinct (ap results split ∙ (results-append before (Push statement span ∷ after) ∙ ap (λ own. results before ++ (option_to_list own ++ results after)) found)) distinct) result.0
      ]

      results-new : AreNew (values_of (tree block)) (option_to_list (result_of statement))
      results-new = go (result_of statement) refl
        where
          go : (found : Option ℕ) → result_of statement ≡ found → AreNew (values_of (tree block)) (option_to_list found)
          go None is = tt
          go (Some x) is = (result-absent x is, tt)

      results-origin : (x : ℕ) → Contains (option_to_list (result_of statement)) x → CameFrom (before ++ Push statement span ∷ []) bound x
      results-origin x c = go (result_of statement) refl c
        where
          go : (found : Option ℕ) → result_of statement ≡ found → Contains (option_to_list found) x → CameFrom (before ++ Push statement span ∷ []) bound x
          go None is d = absurd (omega (arith, d.1))
          go (Some y) is d =
              let same : y ≡ x = Contains-one y x d in
              let found : result_of statement ≡ Some x = is ∙ ap Some same in
              inr (
                subst (λ all. Contains all x) (sym (results-append before (Push statement span ∷ []) ∙ ap (λ own. results before ++ (option_to_list own ++ [])) found))
                    (Contains-append_right (results before) (x ∷ []) x (0, omega arith, refl)),
                not_emitted x found,
              )

      pub IsOnce-Push : IsOnce (before ++ Push statement span ∷ []) (block ++ (statement, span) ∷ []) bound
      IsOnce-Push = by_node (node_of statement) refl may.form
        where
          by_node : (node : Node) → node_of statement ≡ node → MayBePushed node → IsOnce (before ++ Push statement span ∷ []) (block ++ (statement, span) ∷ []) bound
          by_node (plain what) is none =
              let itself : node_of statement ≡ plain statement = node_of-plain statement (ap is_plain is) in
              let same : plain what ≡ plain statement = sym is ∙ itself in
              let emits_none : emitted_by statement ≡ [] = subst MayBePushed same none in
              let evaluates : evaluated_by statement ≡ option_to_list (result_of statement) = ap (λ xs. xs ++ option_to_list (result_of statement)) emits_none in
              IsOnce-statement (Push statement span) statement span bound bound (omega arith)
              (subst (λ node. NodeEvaluatedOnce (values_of (tree block)) node) (sym itself) (subst (AreNew (values_of (tree block))) (sym evaluates) results-new))
              (λ x c. results-origin x (subst (λ all. Contains all x) (ap values_of_node itself ∙ evaluates) c)) so
          by_node (nested inner) is none = absurd none
          by_node (branch condition accept reject) is none = absurd none
          by_node (switch selector cases) is none = absurd none
          by_node (loop body continuing break_if) is none = absurd none
          by_node (jump to) is allowed =
              IsOnce-statement (Push statement span) statement span bound bound (omega arith)
              (subst (λ node. NodeEvaluatedOnce (values_of (tree block)) node) (sym is) tt)
              (λ x c. absurd (let d : Contains {X = ℕ} [] x = subst (λ all. Contains all x) (ap values_of_node is) c in omega (arith, d.1))) so

pub IsOnce-none : (commands : List BuildCommand) (distinct : IsDistinct (results commands)) → IsOnce commands distinct [] [] 0
IsOnce-none commands distinct = record { once = tt; origin = λ x c. absurd (omega (arith, c.1)) }
