-- What is in scope before a block keeps its value, if the block evaluates nothing again in its scope.
use Rattle.std.proofs.Common.{◌≡◌, ◌∙◌, refl, ℕ, zero, suc, Bool, true, false, List, [], ◌∷◌, ◌++◌, Option, Some, None, option_to_list, subst}
use Rattle.std.proofs.lemmas.List.Elements.{Contains-append_right}
use Rattle.std.specs.List.{Contains}
use Rattle.std.specs.Prelude.{if◌then◌else◌, map}
use Rattle.naga_arena.specs.declared.span.Span.{Span}
use Rattle.naga_ir.specs.Tree.{Tree, empty, push, Node, plain, nested, branch, switch, loop, jump, Cases, no_cases, case}
use Rattle.naga_ir.specs.declared.expression.Expression.{Expression}
use Rattle.naga_ir.specs.declared.statement.Statement.{Statement}
use Rattle.naga_valid.specs.declared.reference.Reference.{Reference}
use Rattle.naga_runs.specs.Runs.{entered, values}
use Rattle.naga_runs.specs.declared.run.Ending.{Ending}
use Rattle.naga_flow.specs.Results.{emitted_by, evaluated_by, result_of, used_by}
use Rattle.naga_flow.specs.Scopes.{AreNew, CasesEvaluatedOnce, EvaluatedOnce, NodeEvaluatedOnce}
use Rattle.naga_flow.specs.Uses.{values_of}
use Rattle.naga_meaning.specs.Forms.{ExpressionForm, StatementForm}
use Rattle.naga_meaning.specs.Functions.{Meanings, action_of, code_of, parts}
use Rattle.naga_wgsl.specs.Inlining.{not_skipped, skipping}
use Rattle.naga_meaning.specs.Machine.{Machine, Done, Way, goes_on, stays, leaves, in_block, in_case, in_loop, in_turn, by_way, then_by, choose, turns_of, breaks_if, turn_of, does, node_does, cases_do}
use Rattle.naga_meaning.specs.Values.{Code, World, put, emitted_value, emit, acted, machine, value}
use Rattle.naga_meaning.proofs.RedirectsLemmas.{new-first, new-last, put-known}

module _ {Thing Value State : Type 0} (look : Reference → Thing) (by : Meanings Thing Value State) (arena : List (Expression × Span)) (written : ℕ → Bool) where
  abbrev code : Code (Option (ExpressionForm × List (Option Thing)))
  code = code_of look written arena

  abbrev M : Machine (World Value State)
  M = machine (skipping written (parts look)) by code

  emit-kept : (xs known : List ℕ) (y : ℕ) (w : World Value State) → Contains known y → AreNew known xs → (emit by code (not_skipped written xs) w).values y ≡ w.values y
  emit-kept [] known y w c new = refl
  emit-kept (x ∷ xs) known y w c new = go (written x) (λ v. emit-kept xs (x ∷ known) y v (Contains-append_right (x ∷ []) known y c) new.1)
    where
      go : (t : Bool) → ((v : World Value State) → (emit by code (not_skipped written xs) v).values y ≡ v.values y) →
          (emit by code (if t then not_skipped written xs else x ∷ not_skipped written xs) w).values y ≡ w.values y
      go true later = later w
      go false later = later (put x (emitted_value by code w x) w) ∙ put-known known x y (emitted_value by code w x) w new.0 c

  acted-kept : (action : Option (StatementForm × List (Option Thing))) (uses : List ℕ) (result : Option ℕ) (known : List ℕ) (y : ℕ) (w : World Value State) → Contains known y →
      ((x : ℕ) → result ≡ Some x → ¬ Contains known x) → (acted by code action uses result w).values y ≡ w.values y
  acted-kept None uses result known y w c new = refl
  acted-kept (Some action) uses None known y w c new = refl
  acted-kept (Some action) uses (Some x) known y w c new =
      let after = by.perform action (map (value by code w) uses) w.state in put-known known x y after.1 (record w { state = after.0 }) (new x refl) c

  plain-kept : (what : Statement) (known : List ℕ) (y : ℕ) (w : World Value State) → Contains known y → AreNew known (evaluated_by what) → (M.perform what w).values y ≡ w.values y
  plain-kept what known y w c new =
      acted-kept (action_of look what) (used_by what) (result_of what) known y (emit by code (not_skipped written (emitted_by what)) w) c
      (λ x is inside. new-last known (emitted_by what) x (subst (λ t. AreNew known (emitted_by what ++ option_to_list t)) is new) (Contains-append_right (emitted_by what) known x inside))
      ∙ emit-kept (emitted_by what) known y w c (new-first known (emitted_by what) (option_to_list (result_of what)) new)

  module _ (y : ℕ) (v : Value) where
    -- the expression has this value
    abbrev Has : World Value State → Type 0
    Has w = w.values y ≡ v

    then-kept : (way : Ending → Way) (first : Done (World Value State)) (next : World Value State → Done (World Value State)) → Has first.state →
        ((w : World Value State) → Has w → Has (next w).state) → Has (then_by way first next).state
    then-kept way first next h later = go (way first.ending)
      where
        go : (w : Way) → Has (by_way w first next).state
        go goes_on = later first.state h
        go stays = h
        go (leaves slipped) = h

    chosen-kept : (x : ℕ) (at_no at_yes : World Value State → Done (World Value State)) (w : World Value State) → Has (at_no w).state → Has (at_yes w).state →
        Has (choose x at_no at_yes w).state
    chosen-kept zero at_no at_yes w h k = h
    chosen-kept (suc x) at_no at_yes w h k = k

    turns-kept : (k : ℕ) (turn : World Value State → Done (World Value State)) → ((w : World Value State) → Has w → Has (turn w).state) → (w : World Value State) → Has w →
        Has (turns_of k turn w).state
    turns-kept zero turn keeps w h = h
    turns-kept (suc k) turn keeps w h = then-kept in_loop (turn w) (turns_of k turn) (keeps w h) (turns-kept k turn keeps)

    breaks-kept : (break_if : Option ℕ) (w : World Value State) → Has w → Has (breaks_if M break_if w).state
    breaks-kept None w h = h
    breaks-kept (Some condition) w h = h

    mutual
      pub block-kept : (n : ℕ) (block : Tree) (scope : List ℕ) → EvaluatedOnce scope block → Contains scope y → (w : World Value State) → Has w → Has (does M n block w).state
      block-kept n empty scope once c w h = h
      block-kept n (push front last span) scope once c w h =
          then-kept in_block (does M n front w) (node_does M n last) (block-kept n front scope once.0 c w h)
          (λ u k. node-kept n last (values_of front ++ scope) once.1 (Contains-append_right (values_of front) scope y c) u k)

      pub node-kept : (n : ℕ) (node : Node) (scope : List ℕ) → NodeEvaluatedOnce scope node → Contains scope y → (w : World Value State) → Has w → Has (node_does M n node w).state
      node-kept n (plain what) scope once c w h = plain-kept what scope y w c once ∙ h
      node-kept n (nested inner) scope once c w h = block-kept n inner scope once c w h
      node-kept n (branch condition accept reject) scope once c w h =
          chosen-kept (M.answer condition w) (does M n reject) (does M n accept) w (block-kept n reject scope once.1 c w h) (block-kept n accept scope once.0 c w h)
      node-kept n (switch selector cases) scope once c w h = cases-kept n cases (entered (values cases) (M.choice selector (values cases) w)) scope once c w h
      node-kept n (loop body continuing break_if) scope once c w h =
          turns-kept n (turn_of M (does M n body) (does M n continuing) break_if)
          (λ u k.
          then-kept in_turn (does M n body u) (λ middle. then_by in_turn (does M n continuing middle) (breaks_if M break_if)) (block-kept n body scope once.0 c u k)
          (λ middle l.
          then-kept in_turn (does M n continuing middle) (breaks_if M break_if)
          (block-kept n continuing (values_of body ++ scope) once.1 (Contains-append_right (values_of body) scope y c) middle l) (breaks-kept break_if))) w h
      node-kept n (jump to) scope once c w h = h

      pub cases-kept : (n : ℕ) (cases : Cases) (k : ℕ) (scope : List ℕ) → CasesEvaluatedOnce scope cases → Contains scope y → (w : World Value State) → Has w → Has (cases_do M n cases k w).state
      cases-kept n no_cases k scope once c w h = h
      cases-kept n (case value body falls_through others) zero scope once c w h =
          then-kept (in_case falls_through) (does M n body w) (cases_do M n others 0) (block-kept n body scope once.0 c w h) (λ u l. cases-kept n others 0 scope once.1 c u l)
      cases-kept n (case value body falls_through others) (suc k) scope once c w h = cases-kept n others k scope once.1 c w h

    -- the same for a turn of a loop
    pub turn-kept : (n : ℕ) (body continuing : Tree) (break_if : Option ℕ) (scope : List ℕ) → EvaluatedOnce scope body → EvaluatedOnce (values_of body ++ scope) continuing → Contains scope y →
        (w : World Value State) → Has w → Has (turn_of M (does M n body) (does M n continuing) break_if w).state
    turn-kept n body continuing break_if scope once once' c w h =
        then-kept in_turn (does M n body w) (λ middle. then_by in_turn (does M n continuing middle) (breaks_if M break_if)) (block-kept n body scope once c w h)
        (λ middle l.
        then-kept in_turn (does M n continuing middle) (breaks_if M break_if)
        (block-kept n continuing (values_of body ++ scope) once' (Contains-append_right (values_of body) scope y c) middle l) (breaks-kept break_if))
