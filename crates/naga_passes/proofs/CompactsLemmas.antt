-- Compacting a closed body.
use Rattle.std.proofs.Common.{◌≡◌, ◌∙◌, sym, ap, subst, ℕ, ◌<◌, ◌⊎◌, List, length}
use Rattle.std.specs.Prelude.{◌↔◌}
use Rattle.std.specs.List.{Contains}
use Rattle.naga_arena.specs.declared.span.Span.{Span}
use Rattle.naga_ir.specs.Tree.{Tree}
use Rattle.naga_ir.specs.declared.expression.Expression.{Expression}
use Rattle.naga_sets.specs.HandleSet.{BoundedSet}
use Rattle.naga_valid.specs.Operands.{expressions_of}
use Rattle.naga_valid.specs.Statements.{references_of_tree}
use Rattle.naga_valid.specs.declared.reference.Reference.{Reference}
use Rattle.naga_compact.specs.Compaction.{Compacts, IsMember}
use Rattle.naga_compact.specs.Kept.{new_index}
use Rattle.naga_compact.specs.Operands.{IsReached}
use Rattle.naga_compact.specs.Renaming.{of_expressions}
use Rattle.naga_compact.specs.derived.Renaming.{rename_statement}
use Rattle.naga_proc.specs.Closing.{closed}
use Rattle.naga_proc.specs.declared.terminator.rule.Rule.{Rule}
use Rattle.naga_proc.proofs.Closing.ClosedByLemmas.{ClosedBy-closed}
use Rattle.naga_meaning.proofs.MappedLemmas.{map_tree-closed}
use Rattle.naga_proc.proofs.ReferencesOfTreeLemmas.{references_of_tree-ClosedBy}

-- exactly what is reached from the needed expressions and from those among the names is kept
abbrev KeepsReached : BoundedSet → List (Expression × Span) → BoundedSet → List Reference → Type 0
KeepsReached needed arena kept names = (handle : ℕ) → IsMember kept handle
    ↔ IsReached arena (λ root. IsMember needed root ⊎ (Contains (expressions_of names) root × (root < length arena))) handle

pub Compacts-closed : (rule : Rule) (needed kept : BoundedSet) (old new : List (Expression × Span)) (b c : Tree) →
    Compacts needed old b kept new c → Compacts needed old (closed rule b) kept new (closed rule c)
Compacts-closed rule needed kept old new b c h =
    let same : references_of_tree (closed rule b) ≡ references_of_tree b = references_of_tree-ClosedBy rule b (closed rule b) (ClosedBy-closed rule b) in
    record {
      bound = h.bound;
      reached = subst (KeepsReached needed old kept) (sym same) h.reached;
      entries = h.entries;
      renamed = ap (closed rule) h.renamed ∙ sym (map_tree-closed (rename_statement (of_expressions (new_index kept))) (new_index kept) rule b);
    }
