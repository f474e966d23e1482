-- The handles of a renamed block are its handles, renamed.
use Rattle.std.proofs.Common.{◌≡◌, ap, refl, [], ◌∷◌, ◌++◌, map}
use Rattle.naga_ir.specs.Tree.{Tree, empty, push, Node, plain, nested, branch, switch, loop, jump, Jump, break, continue, kill, return, Cases, no_cases, case}
use Rattle.naga_valid.specs.Reference.{present}
use Rattle.naga_valid.specs.Statements.{references_of_tree, references_of_node, references_of_cases, references_of_jump}
use Rattle.naga_valid.specs.declared.reference.Reference.TheVariants as reference
use Rattle.naga_compact.specs.Mapping.{map_jump}
use Rattle.naga_compact.specs.Renaming.{Renaming, rename_reference}
use Rattle.naga_compact.specs.Renaming.Blocks.{rename_tree, rename_node, rename_cases}
use Rattle.naga_compact.proofs.RenamedReferencesLemmas.{appended, present-renamed}
use Rattle.naga_compact.proofs.derived_lemmas.RenamedVariantsLemmas.{references_of_statement-renamed}

module _ (r : Renaming) where
  references_of_jump-renamed : (to : Jump) → references_of_jump (map_jump r.expressions to) ≡ map (rename_reference r) (references_of_jump to)
  references_of_jump-renamed break = refl
  references_of_jump-renamed continue = refl
  references_of_jump-renamed kill = refl
  references_of_jump-renamed (return value) = present-renamed r (value ∷ [])

  mutual
    pub references_of_tree-renamed : (t : Tree) → references_of_tree (rename_tree r t) ≡ map (rename_reference r) (references_of_tree t)
    references_of_tree-renamed empty = refl
    references_of_tree-renamed (push front last span) = appended (rename_reference r) (references_of_tree front) (references_of_node last) (references_of_tree-renamed front) (references_of_node-renamed last)

    references_of_node-renamed : (node : Node) → references_of_node (rename_node r node) ≡ map (rename_reference r) (references_of_node node)
    references_of_node-renamed (plain what) = references_of_statement-renamed r what
    references_of_node-renamed (nested inner) = references_of_tree-renamed inner
    references_of_node-renamed (branch condition accept reject) =
        ap (λ rest. reference.Expression (r.expressions condition) ∷ rest)
        (appended (rename_reference r) (references_of_tree accept) (references_of_tree reject) (references_of_tree-renamed accept) (references_of_tree-renamed reject))
    references_of_node-renamed (switch selector cases) =
        ap (λ rest. reference.Expression (r.expressions selector) ∷ rest) (references_of_cases-renamed cases)
    references_of_node-renamed (loop body continuing break_if) =
        appended (rename_reference r) (present (break_if ∷ [])) (references_of_tree body ++ references_of_tree continuing) (present-renamed r (break_if ∷ []))
        (appended (rename_reference r) (references_of_tree body) (references_of_tree continuing) (references_of_tree-renamed body) (references_of_tree-renamed continuing))
    references_of_node-renamed (jump to) = references_of_jump-renamed to

    references_of_cases-renamed : (cases : Cases) → references_of_cases (rename_cases r cases) ≡ map (rename_reference r) (references_of_cases cases)
    references_of_cases-renamed no_cases = refl
    references_of_cases-renamed (case value body falls_through others) = appended (rename_reference r) (references_of_tree body) (references_of_cases others) (references_of_tree-renamed body) (references_of_cases-renamed others)
