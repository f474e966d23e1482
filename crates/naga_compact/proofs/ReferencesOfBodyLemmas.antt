-- What a body contains, as the lists of its statements and cases.
use Rattle.std.proofs.Common.{◌≡◌, ◌∙◌, sym, ap, refl, List, [], ◌∷◌, ◌++◌, append_assoc, map}
use Rattle.std.proofs.lemmas.List.{append-nil}
use Rattle.std.specs.List.{flat_map}
use Rattle.naga_arena.specs.declared.span.Span.{Span}
use Rattle.naga_ir.specs.Block.{pairs, statements}
use Rattle.naga_ir.specs.Tree.{Tree, empty, push}
use Rattle.naga_ir.specs.View.{cases_of, node_of, pushed, tree_of}
use Rattle.naga_ir.specs.declared.block.Block.{Block}
use Rattle.naga_ir.specs.declared.statement.Statement.{Statement}
use Rattle.naga_ir.specs.declared.statement.SwitchCase.{SwitchCase}
use Rattle.naga_valid.specs.Statements.{references_of_cases, references_of_tree}
use Rattle.naga_valid.proofs.ReferencesOfTreeLemmas.{references_inside, references_of_case, statement_of}

references_of_tree-pushed : (front : Tree) (xs : List (Statement × Span)) → references_of_tree (pushed front xs) ≡ references_of_tree front ++ flat_map references_inside (map statement_of xs)
references_of_tree-pushed front [] = sym (append-nil (references_of_tree front))
references_of_tree-pushed front (x ∷ xs) =
    references_of_tree-pushed (push front (node_of x.0) x.1) xs
    ∙ append_assoc (references_of_tree front) (references_inside x.0) (flat_map references_inside (map statement_of xs))

pub references_of_tree-statements : (b : Block) → references_of_tree (tree_of b) ≡ flat_map references_inside (statements b)
references_of_tree-statements b = references_of_tree-pushed empty (pairs b)

pub references_of_cases-each : (cases : List SwitchCase) → references_of_cases (cases_of cases) ≡ flat_map references_of_case cases
references_of_cases-each [] = refl
references_of_cases-each (x ∷ cases) = ap (λ references. references_of_case x ++ references) (references_of_cases-each cases)
