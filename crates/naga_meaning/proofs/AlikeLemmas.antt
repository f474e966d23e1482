-- Blocks that differ only in parts that do the same do the same.
use Rattle.std.proofs.Common.{◌≡◌, ◌∙◌, sym, ap, refl, ℕ, zero, suc, ◌∷◌}
use Rattle.naga_ir.specs.Tree.{Tree, Node, nested, branch, Cases}
use Rattle.naga_runs.specs.Runs.{entered, values}
use Rattle.naga_meaning.specs.Alike.{Alike, same_block, in_push, AlikeStatements, same_statement, in_nested, in_branch, in_switch, in_loop, AlikeCases, no_more, one_more}
use Rattle.naga_meaning.specs.Machine.{Machine, Done, then_by, in_block, in_case, choose, turns_of, turn_of, does, node_does, cases_do}

values-alike : {State : Type 0} (machine : Machine State) {cs ds : Cases} → AlikeCases machine cs ds → values ds ≡ values cs
values-alike machine no_more = refl
values-alike machine (one_more {value = v} d e) = ap (λ vs. v ∷ vs) (values-alike machine e)

module _ {State : Type 0} (machine : Machine State) where
  mutual
    pub does-alike : {b c : Tree} → Alike machine b c → (n : ℕ) (s : State) → does machine n c s ≡ does machine n b s
    does-alike (same_block h) n s = h n s
    does-alike (in_push d e) n s = λ i. then_by in_block (does-alike d n s i) (λ m. node-alike e n m i)

    node-alike : {x y : Node} → AlikeStatements machine x y → (n : ℕ) (s : State) → node_does machine n y s ≡ node_does machine n x s
    node-alike (same_statement h) n s = h n s
    node-alike (in_nested d) n s = does-alike d n s
    node-alike (in_branch {condition = condition} d e) n s =
        λ i. choose {A = State → Done State} (machine.answer condition s) (λ m. does-alike e n m i) (λ m. does-alike d n m i) s
    node-alike (in_switch {selector = selector} {cases = cs} {cases' = ds} d) n s =
        ap (λ vs. cases_do machine n ds (entered vs (machine.choice selector vs s)) s) (values-alike machine d) ∙ cases-alike d n (entered (values cs) (machine.choice selector (values cs) s)) s
    node-alike (in_loop {break_if = break_if} d e) n s =
        λ i. turns_of n (turn_of machine (λ m. does-alike d n m i) (λ m. does-alike e n m i) break_if) s

    cases-alike : {cs ds : Cases} → AlikeCases machine cs ds → (n k : ℕ) (s : State) → cases_do machine n ds k s ≡ cases_do machine n cs k s
    cases-alike no_more n k s = refl
    cases-alike (one_more {falls_through = through} d e) n zero s =
        λ i. then_by (in_case through) (does-alike d n s i) (λ m. cases-alike e n 0 m i)
    cases-alike (one_more d e) n (suc k) s = cases-alike e n k s

  -- a branch on a condition that always holds does what its first block does
  pub branch-always : (condition answer : ℕ) (accept reject : Tree) → ((s : State) → machine.answer condition s ≡ suc answer) →
      AlikeStatements machine (branch condition accept reject) (nested accept)
  branch-always condition answer accept reject h =
      same_statement (λ n s. go n s (h s))
    where
      go : (n : ℕ) (s : State) → machine.answer condition s ≡ suc answer → does machine n accept s ≡ choose (machine.answer condition s) (does machine n reject) (does machine n accept) s
      go n s is = sym (ap (λ x. choose {A = State → Done State} x (does machine n reject) (does machine n accept) s) is)
