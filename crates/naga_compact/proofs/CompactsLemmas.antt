-- The parts of a compaction.
use Rattle.std.proofs.Common.{◌≡◌, ◌∙◌, sym, ap, subst, inl, inr, ℕ, List, length, arith}
use Rattle.std.specs.Prelude.{◌↔◌}
use Rattle.naga_arena.specs.declared.span.Span.{Span}
use Rattle.naga_ir.specs.Tree.{Tree}
use Rattle.naga_ir.specs.declared.expression.Expression.{Expression}
use Rattle.naga_runs.specs.Runs.{BlockRuns}
use Rattle.naga_sets.specs.HandleSet.{BoundedSet}
use Rattle.naga_compact.specs.Compaction.{Compacts, IsMember, IsNeeded}
use Rattle.naga_compact.specs.Kept.{kept_elements, new_index}
use Rattle.naga_compact.specs.Marks.{puts}
use Rattle.naga_compact.specs.Operands.{IsReached, used_by}
use Rattle.naga_compact.specs.Renaming.{Renaming, of_expressions}
use Rattle.naga_compact.specs.derived.Renaming.{rename_expression, rename_statement}
use Rattle.naga_compact.specs.Renaming.Functions.{map_values}
use Rattle.naga_compact.specs.Renaming.Runs.{RenamedRunsFit, rename_run}
use Rattle.naga_compact.specs.Renaming.Blocks.{rename_tree}
use Rattle.naga_compact.proofs.IsReachedLemmas.{IsReached-more}
use Rattle.naga_compact.proofs.MarkLemmas.{puts-bound, puts-has, puts-new, puts-old}
use Rattle.naga_compact.proofs.MappedRunsFitLemmas.{map_tree-MappedRunsFit}

-- the members after the marks of the body are the needed expressions
IsMember-needed : (needed : BoundedSet) (arena : List (Expression × Span)) (body : Tree) → needed.bound ≡ length arena →
    (h : ℕ) → IsMember (puts needed (used_by body)) h ↔ IsNeeded needed arena body h
IsMember-needed needed arena body bound h = (
  λ member. elim (puts-new needed (used_by body) h member) [
    | inl old ↦ inl old
    | inr new ↦ inr (new.0, omega (arith, new.1, bound))
  ],
  λ is. elim is [
    | inl old ↦ puts-old needed (used_by body) h old
    | inr used ↦ puts-has needed (used_by body) h (omega (arith, used.1, bound)) used.0
  ],
)

pub bound_after : (needed u : BoundedSet) (references : List ℕ) (n : ℕ) → needed.bound ≡ n → u ≡ puts needed references → u.bound ≡ n
bound_after needed u references n before first = ap (λ (s : BoundedSet). s.bound) first ∙ (puts-bound needed references ∙ before)

-- the expressions that are kept are those that are reached from the needed ones
kept_reached : (needed : BoundedSet) (arena : List (Expression × Span)) (body : Tree) (u v : BoundedSet) → needed.bound ≡ length arena → u ≡ puts needed (used_by body) →
    ((h : ℕ) → IsMember v h ↔ IsReached arena (IsMember u) h) → (h : ℕ) → IsMember v h ↔ IsReached arena (IsNeeded needed arena body) h
kept_reached needed arena body u v bound first reached h =
    let to : (k : ℕ) → IsMember u k → IsNeeded needed arena body k =
    λ k member. (IsMember-needed needed arena body bound k).0 (subst (λ s. IsMember s k) first member)
    in
    let from : (k : ℕ) → IsNeeded needed arena body k → IsMember u k =
    λ k is. subst (λ s. IsMember s k) (sym first) ((IsMember-needed needed arena body bound k).1 is)
    in (
      λ member. IsReached-more arena (IsMember u) (IsNeeded needed arena body) to h ((reached h).0 member),
      λ way. (reached h).1 (IsReached-more arena (IsNeeded needed arena body) (IsMember u) from h way),
    )

pub compacts_by : (needed : BoundedSet) (arena : List (Expression × Span)) (body : Tree) (u v kept : BoundedSet) (out : List (Expression × Span)) (after : Tree) → needed.bound ≡ length arena → u ≡ puts needed (used_by body) → v.bound ≡ u.bound → ((h : ℕ) → IsMember v h ↔ IsReached arena (IsMember u) h) → kept ≡ v → out ≡ map_values (rename_expression (of_expressions (new_index kept))) (kept_elements kept arena) → after ≡ rename_tree (of_expressions (new_index kept)) body → Compacts needed arena body kept out after
compacts_by needed arena body u v kept out after before first stays reached is left renamed = record {
  bound = ap (λ (s : BoundedSet). s.bound) is ∙ (stays ∙ bound_after needed u (used_by body) (length arena) before first);
  reached = λ h.
      subst (λ (k : BoundedSet). IsMember k h ↔ IsReached arena (IsNeeded needed arena body) h) (sym is)
      (kept_reached needed arena body u v before first reached h);
  entries = left;
  renamed = renamed;
}

pub keeps_runs : (r : Renaming) (old new : Tree) → new ≡ rename_tree r old → RenamedRunsFit r old new
keeps_runs r old new is = λ turns answers run d.
    subst (λ (t : Tree). BlockRuns turns t answers (rename_run r run)) (sym is) (map_tree-MappedRunsFit (rename_statement r) r.expressions old turns answers run d)
