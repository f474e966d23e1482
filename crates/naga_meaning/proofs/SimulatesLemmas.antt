-- Bodies of which no statement is replaced have the same outcome on machines of which one simulates the other.
use Rattle.std.proofs.Common.{◌≡◌, ◌∙◌, sym, ap, refl, ℕ, Option, Some, None}
use Rattle.std.specs.Prelude.{option_map}
use Rattle.naga_ir.specs.Tree.{Tree, empty, push, Node, plain, nested, branch, switch, loop, jump, Cases, no_cases, case, break, continue, kill, return}
use Rattle.naga_ir.specs.declared.statement.Statement.{Statement}
use Rattle.naga_runs.specs.declared.run.Ending.{Ending}
use Rattle.naga_runs.specs.declared.run.Ending.TheVariants.{Return}
use Rattle.naga_compact.specs.Mapping.{map_cases, map_node, map_tree}
use Rattle.naga_compact.specs.Mapping.Runs.{map_ending}
use Rattle.naga_meaning.specs.Machine.{IsIn, does}
use Rattle.naga_meaning.proofs.Simulation.{Matches, Simulates}
use Rattle.naga_meaning.specs.Values.{Interpretation, Code, Parts, World, result_of_ending, value, machine, outcome}
use Rattle.naga_meaning.proofs.MatchesLemmas.{does-matches}

-- ---- a block of which nothing is replaced

option-same : (value : Option ℕ) → option_map (λ (x : ℕ). x) value ≡ value
option-same None = refl
option-same (Some x) = refl

abbrev pub tree_again : Tree → Tree
tree_again = map_tree (λ what. what) (λ x. x)

abbrev node_again : Node → Node
node_again = map_node (λ what. what) (λ x. x)

abbrev cases_again : Cases → Cases
cases_again = map_cases (λ what. what) (λ x. x)

mutual
  pub tree-same : (block : Tree) → tree_again block ≡ block
  tree-same empty = refl
  tree-same (push front last span) = λ i. push (tree-same front i) (node-same last i) span

  node-same : (node : Node) → node_again node ≡ node
  node-same (plain what) = refl
  node-same (nested inner) = ap nested (tree-same inner)
  node-same (branch condition accept reject) = λ i. branch condition (tree-same accept i) (tree-same reject i)
  node-same (switch selector cases) = ap (switch selector) (cases-same cases)
  node-same (loop body continuing break_if) = λ i. loop (tree-same body i) (tree-same continuing i) (option-same break_if i)
  node-same (jump break) = refl
  node-same (jump continue) = refl
  node-same (jump kill) = refl
  node-same (jump (return value)) = ap (λ v. jump (return v)) (option-same value)

  cases-same : (cases : Cases) → cases_again cases ≡ cases
  cases-same no_cases = refl
  cases-same (case value body falls_through others) = λ i. case value (tree-same body i) falls_through (cases-same others i)

pub ending-same : (e : Ending) → map_ending (λ x. x) e ≡ e
ending-same (Return value) = ap Return (option-same value)
ending-same _ = refl

-- ---- machines of which one does the same as the other on the same block

module _ {Shape Action Value State : Type 0} (parts : Parts Action) (by : Interpretation Shape Action Value State) (old new : Code Shape) (P : Statement → Type 0) (R : World Value State → World Value State → Type 0)
    (simulates : Simulates R (λ x. x) (λ x. Unit {0}) P (λ what. what) (machine parts by old) (machine parts by new))
    (states : (a b : World Value State) → R a b → b.state ≡ a.state) (values : (x : ℕ) (a b : World Value State) → R a b → value by new b x ≡ value by old a x) where
  -- the outcomes are the same, if the relation includes that states and values are
  pub outcome-simulated : (turns : ℕ) (body : Tree) → IsIn P (λ x. Unit {0}) body → (a b : World Value State) → R a b → outcome parts by new turns body b ≡ outcome parts by old turns body a
  outcome-simulated turns body h a b r =
      let left = does (machine parts by old) turns body a in
      let left' = does (machine parts by new) turns (tree_again body) b in
      let m : Matches R (λ x. x) (λ x. Unit {0}) left left' =
      does-matches R (λ x. x) (λ x. Unit {0}) P (λ what. what) (machine parts by old) (machine parts by new) simulates turns body h a b r
      in
      ap (λ block. outcome parts by new turns block b) (sym (tree-same body))
      ∙ (λ i. record {
        state = states left.state left'.state m.state i;
        ending = map_ending (λ x. 0) ((m.ending ∙ ending-same left.ending) i);
        slipped = m.slipped i;
        returned = (ap (λ e. option_map (value by new left'.state) (result_of_ending e)) (m.ending ∙ ending-same left.ending)
            ∙ (λ j. option_map (λ y. values y left.state left'.state m.state j) (result_of_ending left.ending))) i;
      })
