-- What is built from commands that evaluate each expression before its value is used.
use Rattle.std.proofs.Common.{◌≡◌, ◌∙◌, refl, sym, ap, subst, inl, inr, ◌⊎◌, ℕ, zero, suc, ◌-◌, ◌≤◌, true, false, ◌&&◌, List, [], ◌∷◌, ◌++◌, append-nil, append_assoc, cond, length, length-append, Option, Some, None, option_to_list, add-one, arith}
use Rattle.std.proofs.lemmas.Bool.{cases_lt, false≢true}
use Rattle.std.proofs.lemmas.List.Elements.{All-append, All-cons, All-nil, All-weaker, Contains-append_cases, Contains-append_left, Contains-append_right}
use Rattle.std.specs.List.{Contains}
use Rattle.std.specs.Option.{option_map}
use Rattle.std.specs.Prelude.{slice_range}
use Rattle.std.specs.List.{range_with_len}
use Rattle.naga_arena.specs.Span.{total}
use Rattle.naga_arena.specs.Arena.{value_at, spans}
use Rattle.naga_arena.specs.Range.{handles_of}
use Rattle.naga_arena.specs.declared.span.Span.{Span}
use Rattle.naga_arena.proofs.HandlesOfLemmas.{range_with_len-suc}
use Rattle.naga_ir.specs.Block.{pairs}
use Rattle.naga_ir.specs.Tree.{Jump, break, continue, kill, return, Node, push, plain, nested, branch, switch, loop, jump, is_plain}
use Rattle.naga_ir.specs.View.{node_of, tree, tree_of}
use Rattle.naga_ir.specs.declared.expression.Expression.{Expression}
use Rattle.naga_ir.specs.declared.module.Function.{Function}
use Rattle.naga_ir.specs.declared.statement.Statement.{Statement, Emit, Break, Continue, Return, Kill}
use Rattle.naga_ir.proofs.NodeOfLemmas.{node_of-plain}
use Rattle.naga_ir.proofs.PushedLemmas.{tree-push}
use Rattle.naga_valid.specs.Operands.{operands_of}
use Rattle.naga_flow.specs.Bodies.{BodyPasses}
use Rattle.naga_flow.specs.Results.{emitted_by, evaluation_by, evaluation_of, result_of, used_by}
use Rattle.naga_flow.specs.Scopes.{EvaluatedOnce}
use Rattle.naga_flow.specs.Structured.{allows, jumps_are_structured, node_is_structured, of_function}
use Rattle.naga_flow.specs.Tracking.{Includes, IsDistinct}
use Rattle.naga_flow.specs.Uses.{AreEvaluatedBy, Expressions, MayUse, MayUseEach, NodeUsesKnown, OperandsAreKnown, PlainUsesKnown, UsesKnown, JumpUsesKnown, expressions_in, operands_found, values_of, values_of_node}
use Rattle.naga_flow.specs.declared.evaluation.Evaluation.TheVariants as by
use Rattle.naga_flow.proofs.EmitLemmas.{range-end}
use Rattle.naga_flow.proofs.IncludesLemmas.{Includes-both, Includes-itself, Includes-left, Includes-nothing, Includes-right, Includes-shifted}
use Rattle.naga_flow.proofs.UsesKnownLemmas.{MayUseEach-more}
use Rattle.naga_proc.specs.Building.{appended, is_running, IsInTurn, listed}
use Rattle.naga_proc.specs.Building.Emission.{emission, is_filled}
use Rattle.naga_meaning.specs.Evaluated.{EvaluatesBeforeUse, IsResultOf, MayAppend, MayBePushed, MayPush, results}
use Rattle.naga_proc.specs.declared.builder.BuildCommand.{BuildCommand}
use Rattle.naga_proc.specs.declared.builder.BuildCommand.TheVariants.{Start, Append, Finish, Push}
use Rattle.naga_proc.proofs.Building.AppendedLemmas.{appended-append, appended-without}
use Rattle.naga_proc.proofs.Building.IsBuiltLemmas.{IsBuilt, IsBuilt-Start, IsBuilt-Append, IsBuilt-Finish, IsBuilt-Push, IsRunningFrom}
use Rattle.naga_proc.proofs.Building.SomeBuiltLemmas.{IsBuilt-none, IsInTurn-induction}
use Rattle.naga_meaning.proofs.Uses.BuiltOnceLemmas.{IsOnce, IsOnce-Finish, IsOnce-Push, IsOnce-kept, IsOnce-none, bound_of}
use Rattle.naga_meaning.proofs.Uses.IsAvailableLemmas.{AreKnownAfter, MayUseEach-available, results-append, value_at-later}

-- ---- lists

value_at-push : (xs : List (Expression × Span)) (last : Expression) (span : Span) (handle : ℕ) (expression : Expression) →
    value_at (xs ++ (last, span) ∷ []) handle ≡ Some expression → (value_at xs handle ≡ Some expression) ⊎ ((handle ≡ length xs) × (last ≡ expression))
value_at-push [] last span zero expression at = inr (refl, cc)
value_at-push [] last span (suc handle) expression at = absurd (cc)
value_at-push (x ∷ xs) last span zero expression at = inl at
value_at-push (x ∷ xs) last span (suc handle) expression at = elim (value_at-push xs last span handle expression at) as (λ _. (value_at (x ∷ xs) (suc handle) ≡ Some expression) ⊎ ((suc handle ≡ length (x ∷ xs)) × (last ≡ expression))) [
  | inl before ↦ inl before
  | inr here ↦ inr (ap suc here.0, here.1)
]

value_at-last : (xs : List (Expression × Span)) (last : Expression) (span : Span) → value_at (xs ++ (last, span) ∷ []) (length xs) ≡ Some last
value_at-last [] last span = refl
value_at-last (x ∷ xs) last span = value_at-last xs last span

OperandsAreKnown-push : (expressions : Expressions) (known xs : List ℕ) (x : ℕ) → OperandsAreKnown expressions known xs → MayUseEach expressions (xs ++ known) (expressions.operands x) →
    OperandsAreKnown expressions known (xs ++ x ∷ [])
OperandsAreKnown-push expressions known [] x h used = (used, tt)
OperandsAreKnown-push expressions known (y ∷ ys) x h used =
    (h.0, OperandsAreKnown-push expressions (y ∷ known) ys x h.1 (MayUseEach-more expressions (Includes-shifted (y ∷ []) ys known) (expressions.operands x) used))

AreKnownAfter-more : (commands : List BuildCommand) (known more : List ℕ) → Includes more known → AreKnownAfter commands known → AreKnownAfter commands more
AreKnownAfter-more commands known more h there = record {
  emitted = λ handle expression at is. h.each handle (there.emitted handle expression at is);
  pushed = λ handle c. h.each handle (there.pushed handle c);
}

-- one more command that neither appends an expression nor pushes a statement with a result
AreKnownAfter-kept : (commands : List BuildCommand) (known : List ℕ) (command : BuildCommand) → appended (command ∷ []) ≡ [] → results (command ∷ []) ≡ [] →
    AreKnownAfter commands known → AreKnownAfter (commands ++ command ∷ []) known
AreKnownAfter-kept commands known command no_append no_result there =
    let same_arena = appended-without commands command no_append in
    let same_results : results (commands ++ command ∷ []) ≡ results commands =
    results-append commands (command ∷ []) ∙ (ap (λ more. results commands ++ more) no_result ∙ append-nil (results commands)) in
    record {
      emitted = λ handle expression at is. there.emitted handle expression (ap (λ arena. value_at arena handle) (sym same_arena) ∙ at) is;
      pushed = λ handle c. there.pushed handle (subst (λ all. Contains all handle) same_results c);
    }

not_filled : (start end' : ℕ) → start ≡ end' → is_filled (start, end') ≡ false
not_filled start end' same = grind (arith, same)

-- ---- jumps

return-used : (statement : Statement) (value : Option ℕ) → node_of statement ≡ jump (return value) → used_by statement ≡ option_to_list value
return-used (Return None) None is = refl
return-used (Return (Some handle)) (Some other) is = let same : handle ≡ other = cc in ap (λ h. h ∷ []) same
return-used _ value is = absurd (cc)

jump-result : (statement : Statement) (to : Jump) → node_of statement ≡ jump to → result_of statement ≡ None
jump-result Break to is = refl
jump-result Continue to is = refl
jump-result (Return value) to is = refl
jump-result Kill to is = refl
jump-result _ to is = absurd (cc)

-- ---- the state so far

-- the expressions that a running emitter is going to emit
abbrev pending : List BuildCommand → Option ℕ → List ℕ
pending before None = []
pending before (Some start) = handles_of (start, length (appended before))

module _ (commands : List BuildCommand) (ordered : EvaluatesBeforeUse commands) where
  abbrev expressions : Expressions
  expressions = expressions_in (appended commands)

  -- the first commands have built this block, and this is pending
  record IsChecked (before : List BuildCommand) (block : List (Statement × Span)) (waiting : List ℕ) : Type 0 where
    uses : UsesKnown expressions [] (tree block)
    structured : jumps_are_structured (tree block) ≡ true
    known : AreKnownAfter before (waiting ++ values_of (tree block))
    operands : OperandsAreKnown expressions (values_of (tree block)) waiting
    fit : AreEvaluatedBy expressions by.Emit waiting

  module _ (before after : List BuildCommand) (arena : List (Expression × Span)) (block : List (Statement × Span)) where
    IsChecked-Start : arena ≡ appended before → IsChecked before block [] → IsChecked (before ++ Start ∷ []) block (pending (before ++ Start ∷ []) (Some (length arena)))
    IsChecked-Start same so =
        let none : pending (before ++ Start ∷ []) (Some (length arena)) ≡ [] =
        range-end (length arena) (length (appended (before ++ Start ∷ []))) (let longer = ap length (same ∙ sym (appended-without before Start refl)) in omega (arith, longer)) in
        subst (λ waiting. IsChecked (before ++ Start ∷ []) block waiting) (sym none) (record {
          uses = so.uses;
          structured = so.structured;
          known = AreKnownAfter-kept before (values_of (tree block)) Start refl refl so.known;
          operands = so.operands;
          fit = so.fit;
        })

    -- an expression that is not emitted
    IsChecked-Append_idle : (expression : Expression) (span : Span) → MayAppend before expression → is_running before ≡ false → IsChecked before block [] →
        IsChecked (before ++ Append expression span ∷ []) block []
    IsChecked-Append_idle expression span may idle so = record {
      uses = so.uses;
      structured = so.structured;
      known = record {
        emitted = λ handle found at is. elim (value_at-push (appended before) expression span handle found (ap (λ all. value_at all handle) (sym (appended-append before (Append expression span ∷ []))) ∙ at)) as (λ _. Contains (values_of (tree block)) handle) [
          | inl earlier ↦ so.known.emitted handle found earlier is
          | inr here ↦ absurd (false≢true (sym idle ∙ may.emitted.1 (ap evaluation_of here.1 ∙ is)))
        ];
        pushed = λ handle c. so.known.pushed handle (subst (λ all. Contains all handle) (results-append before (Append expression span ∷ []) ∙ append-nil (results before)) c);
      };
      operands = so.operands;
      fit = so.fit;
    }

    -- an expression that the running emitter is going to emit
    IsChecked-Append_running : (expression : Expression) (span : Span) (start : ℕ) → commands ≡ before ++ Append expression span ∷ after → start ≤ length (appended before) →
        MayAppend before expression → is_running before ≡ true → IsChecked before block (pending before (Some start)) →
        IsChecked (before ++ Append expression span ∷ []) block (pending (before ++ Append expression span ∷ []) (Some start))
    IsChecked-Append_running expression span start split within may running so =
        subst (λ waiting. IsChecked (before ++ Append expression span ∷ []) block waiting) (sym one_more) (record {
          uses = so.uses;
          structured = so.structured;
          known = record {
            emitted = λ handle found at is. elim (value_at-push (appended before) expression span handle found (ap (λ all. value_at all handle) (sym arena_is) ∙ at)) as (λ _. Contains ((waiting ++ here ∷ []) ++ values_of (tree block)) handle) [
              | inl earlier ↦ more.each handle (so.known.emitted handle found earlier is)
              | inr last ↦ Contains-append_left (waiting ++ here ∷ []) (values_of (tree block)) handle (Contains-append_right waiting (here ∷ []) handle (0, omega arith, sym last.0))
            ];
            pushed = λ handle c. more.each handle (so.known.pushed handle (subst (λ all. Contains all handle) (results-append before (Append expression span ∷ []) ∙ append-nil (results before)) c));
          };
          operands = OperandsAreKnown-push expressions (values_of (tree block)) waiting here so.operands used;
          fit = All-append (λ handle. expressions.evaluation handle ≡ Some by.Emit) waiting (here ∷ []) so.fit
              (All-cons (λ handle. expressions.evaluation handle ≡ Some by.Emit) here [] (ap (option_map evaluation_of) at_here ∙ ap Some emitted) (All-nil (λ handle. expressions.evaluation handle ≡ Some by.Emit)));
        })
      where
        here : ℕ
        here = length (appended before)

        waiting : List ℕ
        waiting = pending before (Some start)

        arena_is : appended (before ++ Append expression span ∷ []) ≡ appended before ++ (expression, span) ∷ []
        arena_is = appended-append before (Append expression span ∷ [])

        longer : length (appended (before ++ Append expression span ∷ [])) ≡ suc here
        longer = ap length arena_is ∙ (length-append (appended before) ((expression, span) ∷ []) ∙ add-one here)

        one_more : pending (before ++ Append expression span ∷ []) (Some start) ≡ waiting ++ here ∷ []
        one_more =
            let count : length (appended (before ++ Append expression span ∷ [])) - start ≡ suc (here - start) = omega (arith, longer, within) in
            ap (range_with_len start) count ∙ range_with_len-suc start (here - start) here (omega (arith, within))

        emitted : evaluation_of expression ≡ by.Emit
        emitted = may.emitted.0 running

        at_here : value_at (appended commands) here ≡ Some expression
        at_here =
            ap (λ all. value_at (appended all) here) (split ∙ sym (append_assoc before (Append expression span ∷ []) after))
            ∙ value_at-later (before ++ Append expression span ∷ []) after here expression (ap (λ all. value_at all here) arena_is ∙ value_at-last (appended before) expression span)

        used : MayUseEach expressions (waiting ++ values_of (tree block)) (expressions.operands here)
        used = subst (λ value. MayUseEach expressions (waiting ++ values_of (tree block)) (operands_found value)) (sym at_here)
            (MayUseEach-available commands ordered before (Append expression span ∷ after) split (waiting ++ values_of (tree block)) so.known (operands_of expression) (may.operands running))

        more : Includes ((waiting ++ here ∷ []) ++ values_of (tree block)) (waiting ++ values_of (tree block))
        more = Includes-both waiting (values_of (tree block))
            (Includes-left (waiting ++ here ∷ []) (values_of (tree block)) (Includes-left waiting (here ∷ []) Includes-itself))
            (Includes-right (waiting ++ here ∷ []) (values_of (tree block)) Includes-itself)

    -- one more statement
    IsChecked-statement : (command : BuildCommand) (waiting : List ℕ) (statement : Statement) (span : Span) → appended (command ∷ []) ≡ [] →
        NodeUsesKnown expressions (values_of (tree block)) (node_of statement) → node_is_structured of_function (node_of statement) ≡ true →
        Includes (values_of (tree block) ++ values_of_node (node_of statement)) waiting →
        Includes (values_of (tree block) ++ values_of_node (node_of statement)) (results (command ∷ [])) →
        IsChecked before block waiting → IsChecked (before ++ command ∷ []) (block ++ (statement, span) ∷ []) []
    IsChecked-statement command waiting statement span no_append uses structured waited given so =
        let same_arena = appended-without before command no_append in
        let old = values_of (tree block) in
        let new = old ++ values_of_node (node_of statement) in
        let more : Includes new (waiting ++ old) = Includes-both waiting old waited (Includes-left old (values_of_node (node_of statement)) Includes-itself) in
        let one_more : tree (block ++ (statement, span) ∷ []) ≡ push (tree block) (node_of statement) span = tree-push block statement span in
        let known : AreKnownAfter (before ++ command ∷ []) new = record {
          emitted = λ handle found at is. more.each handle (so.known.emitted handle found (ap (λ arena. value_at arena handle) (sym same_arena) ∙ at) is);
          pushed = λ handle c. elim (Contains-append_cases (results before) (results (command ∷ [])) handle (subst (λ all. Contains all handle) (results-append before (command ∷ [])) c)) as (λ _. Contains new handle) [
            | inl earlier ↦ more.each handle (so.known.pushed handle earlier)
            | inr here ↦ given.each handle here
          ];
        } in
        record {
          uses = subst (λ whole. UsesKnown expressions [] whole) (sym one_more)
              (so.uses, subst (λ known. NodeUsesKnown expressions known (node_of statement)) (sym (append-nil old)) uses);
          structured = ap jumps_are_structured one_more ∙ (λ i. so.structured i && structured i);
          known = subst (λ whole. AreKnownAfter (before ++ command ∷ []) (values_of whole)) (sym one_more) known;
          operands = tt;
          fit = All-nil (λ handle. expressions.evaluation handle ≡ Some by.Emit);
        }

    -- the emitter stops, and what was pending is emitted
    IsChecked-Finish : (start : ℕ) → arena ≡ appended before → start ≤ length (appended before) → IsChecked before block (pending before (Some start)) →
        IsChecked (before ++ Finish ∷ []) (block ++ option_to_list (emission arena (start, length arena))) []
    IsChecked-Finish start same within so = elim (cases_lt start (length (appended before))) [
      | inl less ↦
          let waiting = pending before (Some start) in
          let filled : is_filled (start, length (appended before)) ≡ true = grind (arith, less) in
          let emits : emission (appended before) (start, length (appended before)) ≡ Some (Emit (start, length (appended before)), cover) =
          ap (λ test. cond test (Some (Emit (start, length (appended before)), cover)) None) filled in
          let uses : PlainUsesKnown expressions (values_of (tree block)) (Emit (start, length (appended before))) = record {
            used = All-nil (MayUse expressions (values_of (tree block)));
            operands = so.operands;
            evaluated = All-append (λ handle. expressions.evaluation handle ≡ Some by.Emit) waiting [] so.fit (All-nil (λ handle. expressions.evaluation handle ≡ Some by.Emit));
          } in
          let kept : Includes (values_of (tree block) ++ (waiting ++ [])) waiting = Includes-right (values_of (tree block)) (waiting ++ []) (Includes-left waiting [] Includes-itself) in
          subst (λ more. IsChecked (before ++ Finish ∷ []) (block ++ option_to_list more) []) (sym (ap (λ all. emission all (start, length all)) same ∙ emits))
          (IsChecked-statement Finish waiting (Emit (start, length (appended before))) cover refl uses refl kept Includes-nothing so)
      | inr past ↦
          let empty_range : is_filled (start, length (appended before)) ≡ false = let e : start ≡ length (appended before) = omega (arith, past, within) in not_filled start (length (appended before)) e in
          let emits : emission (appended before) (start, length (appended before)) ≡ None =
          ap (λ test. cond test (Some (Emit (start, length (appended before)), cover)) None) empty_range in
          let none : pending before (Some start) ≡ [] = range-end start (length (appended before)) past in
          let done : IsChecked before block [] = subst (λ waiting. IsChecked before block waiting) none so in
          subst (λ more. IsChecked (before ++ Finish ∷ []) (block ++ option_to_list more) []) (sym (ap (λ all. emission all (start, length all)) same ∙ emits))
          (subst (λ all. IsChecked (before ++ Finish ∷ []) all []) (sym (append-nil block)) (record {
            uses = done.uses;
            structured = done.structured;
            known = AreKnownAfter-kept before (values_of (tree block)) Finish refl refl done.known;
            operands = done.operands;
            fit = done.fit;
          }))
    ]
      where
        cover : Span
        cover = total (slice_range (spans (appended before)) start (length (appended before)))

    -- a statement is pushed
    module _ (statement : Statement) (span : Span) (split : commands ≡ before ++ Push statement span ∷ after) (may : MayPush before statement) (so : IsChecked before block []) where
      abbrev known_values : List ℕ
      known_values = values_of (tree block)

      used : MayUseEach expressions known_values (used_by statement)
      used = MayUseEach-available commands ordered before (Push statement span ∷ after) split known_values so.known (used_by statement) may.used

      result_evaluation : (handle : ℕ) → IsResultOf before statement handle → expressions.evaluation handle ≡ Some (evaluation_by statement)
      result_evaluation handle is =
          ap (option_map evaluation_of) (ap (λ all. value_at (appended all) handle) split ∙ value_at-later before (Push statement span ∷ after) handle is.expression is.found) ∙ ap Some is.kind

      plain-uses : emitted_by statement ≡ [] → PlainUsesKnown expressions known_values statement
      plain-uses none = record {
        used = used;
        operands = subst (λ handles. OperandsAreKnown expressions known_values handles) (sym none) tt;
        evaluated = subst (λ handles. AreEvaluatedBy expressions (evaluation_by statement) (handles ++ option_to_list (result_of statement))) (sym none)
            (All-weaker (IsResultOf before statement) (λ handle. expressions.evaluation handle ≡ Some (evaluation_by statement)) result_evaluation (option_to_list (result_of statement)) may.result);
      }

      IsChecked-Push_node : NodeUsesKnown expressions known_values (node_of statement) → node_is_structured of_function (node_of statement) ≡ true →
          Includes (values_of_node (node_of statement)) (option_to_list (result_of statement)) → IsChecked (before ++ Push statement span ∷ []) (block ++ (statement, span) ∷ []) []
      IsChecked-Push_node uses structured given =
          IsChecked-statement (Push statement span) [] statement span refl uses structured Includes-nothing
          (Includes-right known_values (values_of_node (node_of statement)) (subst (λ all. Includes (values_of_node (node_of statement)) all) (sym (append-nil (option_to_list (result_of statement)))) given)) so

      IsChecked-Push_jump : (to : Jump) → node_of statement ≡ jump to → allows of_function to ≡ true → JumpUsesKnown expressions known_values to →
          IsChecked (before ++ Push statement span ∷ []) (block ++ (statement, span) ∷ []) []
      IsChecked-Push_jump to is allowed uses =
          IsChecked-Push_node (subst (λ node. NodeUsesKnown expressions known_values node) (sym is) uses) (ap (node_is_structured of_function) is ∙ allowed)
          (subst (λ result. Includes (values_of_node (node_of statement)) (option_to_list result)) (sym (jump-result statement to is)) Includes-nothing)

      IsChecked-Push : IsChecked (before ++ Push statement span ∷ []) (block ++ (statement, span) ∷ []) []
      IsChecked-Push = by_node (node_of statement) refl may.form
        where
          by_node : (node : Node) → node_of statement ≡ node → MayBePushed node → IsChecked (before ++ Push statement span ∷ []) (block ++ (statement, span) ∷ []) []
          by_node (plain what) is none =
              let itself : node_of statement ≡ plain statement = node_of-plain statement (ap is_plain is) in
              let same : plain what ≡ plain statement = sym is ∙ itself in
              let emits_none : emitted_by statement ≡ [] = subst MayBePushed same none in
              IsChecked-Push_node (subst (λ node. NodeUsesKnown expressions known_values node) (sym itself) (plain-uses emits_none)) (ap (node_is_structured of_function) itself)
              (subst (λ node. Includes (values_of_node node) (option_to_list (result_of statement))) (sym itself) (Includes-right (emitted_by statement) (option_to_list (result_of statement)) Includes-itself))
          by_node (nested inner) is none = absurd none
          by_node (branch condition accept reject) is none = absurd none
          by_node (switch selector cases) is none = absurd none
          by_node (loop body continuing break_if) is none = absurd none
          by_node (jump break) is allowed = IsChecked-Push_jump break is allowed tt
          by_node (jump continue) is allowed = IsChecked-Push_jump continue is allowed tt
          by_node (jump kill) is allowed = IsChecked-Push_jump kill is allowed tt
          by_node (jump (return value)) is allowed =
              IsChecked-Push_jump (return value) is allowed (subst (λ handles. MayUseEach expressions known_values handles) (return-used statement value is) used)

-- ---- all commands

module _ (commands : List BuildCommand) (ordered : EvaluatesBeforeUse commands) (distinct : IsDistinct (results commands)) where
  record SomeChecked (before : List BuildCommand) : Type 0 where
    arena : List (Expression × Span)
    block : List (Statement × Span)
    ranges : List (ℕ × ℕ)
    emitter : Option ℕ
    built : IsBuilt before arena block ranges emitter
    checked : IsChecked commands ordered before block (pending before emitter)
    once : IsOnce commands distinct before block (bound_of commands distinct before emitter)

  SomeChecked-none : SomeChecked []
  SomeChecked-none = record {
    arena = [];
    block = [];
    ranges = [];
    emitter = None;
    built = IsBuilt-none;
    checked = record {
      uses = tt;
      structured = refl;
      known = record { emitted = λ handle found at is. absurd (cc); pushed = λ handle c. absurd (omega (arith, c.1)) };
      operands = tt;
      fit = All-nil (λ handle. (expressions_in (appended commands)).evaluation handle ≡ Some by.Emit);
    };
    once = IsOnce-none commands distinct;
  }

  module _ (before after : List BuildCommand) (arena : List (Expression × Span)) (block : List (Statement × Span)) (ranges : List (ℕ × ℕ)) where
    longer : (expression : Expression) (span : Span) → length (appended before) ≤ length (appended (before ++ Append expression span ∷ []))
    longer expression span =
        let e = ap length (appended-append before (Append expression span ∷ [])) in
        let k = length-append (appended before) ((expression, span) ∷ []) in omega (arith, e, k)

    SomeChecked-command : (command : BuildCommand) (emitter : Option ℕ) → commands ≡ before ++ command ∷ after → IsBuilt before arena block ranges emitter → IsChecked commands ordered before block (pending before emitter) → IsOnce commands distinct before block (bound_of commands distinct before emitter) →
        (command ≡ Start → is_running before ≡ false) → (command ≡ Finish → is_running before ≡ true) → SomeChecked (before ++ command ∷ [])
    SomeChecked-command Start None split built checked once idle running = record {
      arena = arena;
      block = block;
      ranges = ranges;
      emitter = Some (length arena);
      built = IsBuilt-Start before arena block ranges built;
      checked = IsChecked-Start commands ordered before after arena block built.arena_is checked;
      once = IsOnce-kept commands distinct before block (Start ∷ []) (length (appended before)) (length arena) (let e = ap length built.arena_is in omega (arith, e)) once;
    }
    SomeChecked-command Start (Some start) split built checked once idle running = absurd (false≢true (sym (idle refl) ∙ built.running))
    SomeChecked-command Finish None split built checked once idle running = absurd (false≢true (sym built.running ∙ running refl))
    SomeChecked-command Finish (Some start) split built checked once idle running = record {
      arena = arena;
      block = block ++ option_to_list (emission arena (start, length arena));
      ranges = _;
      emitter = None;
      built = IsBuilt-Finish before arena block ranges start built;
      checked = let from : IsRunningFrom before start = built.stands in IsChecked-Finish commands ordered before after arena block start built.arena_is from.within checked;
      once = let from : IsRunningFrom before start = built.stands in IsOnce-Finish commands distinct before block start once from.within checked.fit arena built.arena_is;
    }
    SomeChecked-command (Append expression span) None split built checked once idle running = record {
      arena = arena ++ (expression, span) ∷ [];
      block = block;
      ranges = ranges;
      emitter = None;
      built = IsBuilt-Append before arena block ranges None expression span built;
      checked = IsChecked-Append_idle commands ordered before after arena block expression span (ordered before after (Append expression span) split) built.running checked;
      once = IsOnce-kept commands distinct before block (Append expression span ∷ []) (length (appended before)) (length (appended (before ++ Append expression span ∷ []))) (longer expression span) once;
    }
    SomeChecked-command (Append expression span) (Some start) split built checked once idle running = record {
      arena = arena ++ (expression, span) ∷ [];
      block = block;
      ranges = ranges;
      emitter = Some start;
      built = IsBuilt-Append before arena block ranges (Some start) expression span built;
      checked = let from : IsRunningFrom before start = built.stands in
          IsChecked-Append_running commands ordered before after arena block expression span start split from.within (ordered before after (Append expression span) split) built.running checked;
      once = IsOnce-kept commands distinct before block (Append expression span ∷ []) start start (omega arith) once;
    }
    SomeChecked-command (Push statement span) None split built checked once idle running = record {
      arena = arena;
      block = block ++ (statement, span) ∷ [];
      ranges = ranges;
      emitter = None;
      built = IsBuilt-Push before arena block ranges None statement span built;
      checked = IsChecked-Push commands ordered before after arena block statement span split (ordered before after (Push statement span) split) checked;
      once = subst (IsOnce commands distinct (before ++ Push statement span ∷ []) (block ++ (statement, span) ∷ [])) (ap length (sym (appended-without before (Push statement span) refl)))
          (IsOnce-Push commands distinct before block after statement span split (ordered before after (Push statement span) split) (length (appended before)) once);
    }
    SomeChecked-command (Push statement span) (Some start) split built checked once idle running =
        let may : MayPush before statement = ordered before after (Push statement span) split in absurd (false≢true (sym may.idle ∙ built.running))

  SomeChecked-all : IsInTurn commands (length commands) → SomeChecked commands
  SomeChecked-all in_turn =
      IsInTurn-induction SomeChecked commands SomeChecked-none
      (λ before after command split idle running so. SomeChecked-command before after so.arena so.block so.ranges command so.emitter split so.built so.checked so.once idle running) in_turn

-- the body that is built from the commands passes both checks
pub EvaluatesBeforeUse-passes : (commands : List BuildCommand) (whole : Function) → EvaluatesBeforeUse commands → IsDistinct (results commands) → IsInTurn commands (length commands) →
    whole.expressions ≡ appended commands → pairs whole.body ≡ listed commands → BodyPasses whole
EvaluatesBeforeUse-passes commands whole ordered distinct in_turn arena_is body_is =
    let all = SomeChecked-all commands ordered distinct in_turn in
    let body : tree_of whole.body ≡ tree all.block = ap tree (body_is ∙ sym all.built.block_is) in (
      ap jumps_are_structured body ∙ all.checked.structured,
      (
        subst (λ arena. UsesKnown (expressions_in arena) [] (tree_of whole.body)) (sym arena_is)
            (subst (λ block. UsesKnown (expressions_in (appended commands)) [] block) (sym body) all.checked.uses),
        subst (EvaluatedOnce []) (sym body) all.once.once,
      ),
    )
