-- Clones of trees: each tree is a clone of itself, clones grow statement by statement and case by case, and a statement
-- that contains clones of blocks is a clone.
use Rattle.std.proofs.Common.{◌≡◌, sym, refl, rules, ℕ, List, [], ◌∷◌, Option, subst}
use Rattle.std.specs.List.{AllZip}
use Rattle.std.specs.declared.vec.Vec.{Vec}
use Rattle.std.specs.declared.alloc.Global.{Global}
use Rattle.naga_arena.specs.declared.span.Span.{Span}
use Rattle.naga_ir.specs.declared.block.Block.{Block}
use Rattle.naga_ir.specs.declared.statement.Statement.{Statement}
use Rattle.naga_ir.specs.declared.statement.Statement as variant
use Rattle.naga_ir.specs.declared.statement.SwitchCase.{SwitchCase}
use Rattle.naga_ir.specs.declared.statement.RayQueryFunction.{RayQueryFunction}
use Rattle.naga_ir.specs.declared.statement.RayQueryFunction.TheVariants.{Initialize, Proceed, GenerateIntersection, ConfirmIntersection, Terminate}
use Rattle.naga_ir.specs.contracts.statement.RayQueryFunctionClone.TheImpl.{by_variants}
use Rattle.naga_ir.specs.Clones.{IsPlainClone, IsTreeClone, IsNodeClone, IsCasesClone, of_empty, of_push, of_plain, of_nested, of_branch, of_switch, of_loop, of_jump, of_no_cases, of_case, IsBlockClone, IsStatementClone, IsCaseClone}
use Rattle.naga_ir.specs.Tree.{Tree, empty, push, Node, plain, nested, branch, switch, loop, jump, Cases, no_cases, case}
use Rattle.naga_ir.specs.View.{node_of, pushed, cases_of}
use Rattle.naga_ir.proofs.NodeOfLemmas.{node_of-Block, node_of-If, node_of-Loop, node_of-Switch}

-- a plain statement is a clone of itself
IsPlainClone-refl : (what : Statement) → IsPlainClone what what
IsPlainClone-refl (variant.Call function arguments result) = (refl, refl, refl)
IsPlainClone-refl what = refl

mutual
  -- a tree is a clone of itself
  pub IsTreeClone-refl : (tree : Tree) → IsTreeClone tree tree
  IsTreeClone-refl empty = of_empty
  IsTreeClone-refl (push front last span) = of_push (IsTreeClone-refl front) (IsNodeClone-refl last)

  pub IsNodeClone-refl : (node : Node) → IsNodeClone node node
  IsNodeClone-refl (plain what) = of_plain (IsPlainClone-refl what)
  IsNodeClone-refl (nested inner) = of_nested (IsTreeClone-refl inner)
  IsNodeClone-refl (branch condition accept reject) = of_branch (IsTreeClone-refl accept) (IsTreeClone-refl reject)
  IsNodeClone-refl (switch selector cases) = of_switch (IsCasesClone-refl cases)
  IsNodeClone-refl (loop body continuing break_if) = of_loop (IsTreeClone-refl body) (IsTreeClone-refl continuing)
  IsNodeClone-refl (jump to) = of_jump

  pub IsCasesClone-refl : (cases : Cases) → IsCasesClone cases cases
  IsCasesClone-refl no_cases = of_no_cases
  IsCasesClone-refl (case value body falls_through others) = of_case (IsTreeClone-refl body) (IsCasesClone-refl others)

-- a copied statement is a clone
pub IsStatementClone-copy : (statement copy : Statement) → statement ≡ copy → IsStatementClone statement copy
IsStatementClone-copy statement copy e = subst (λ s. IsStatementClone statement s) e (IsNodeClone-refl (node_of statement))

-- the pair is a clone of the statement, with its span
abbrev pub IsPairClone : Statement × Span → Statement × Span → Type 0
IsPairClone pair clone = IsStatementClone pair.0 clone.0 × (clone.1 ≡ pair.1)

-- clones of statements, pushed one after another
pub IsTreeClone-pushed : (front copy : Tree) (xs ys : List (Statement × Span)) → IsTreeClone front copy → AllZip IsPairClone xs ys → IsTreeClone (pushed front xs) (pushed copy ys)
IsTreeClone-pushed front copy [] [] fronts all = fronts
IsTreeClone-pushed front copy [] (y ∷ ys) fronts all = absurd all
IsTreeClone-pushed front copy (x ∷ xs) [] fronts all = absurd all
IsTreeClone-pushed front copy (x ∷ xs) (y ∷ ys) fronts all =
    let grown : IsTreeClone (push front (node_of x.0) x.1) (push copy (node_of y.0) y.1) =
    subst (λ span. IsTreeClone (push front (node_of x.0) x.1) (push copy (node_of y.0) span)) (sym all.0.1) (of_push fronts all.0.0)
    in
    IsTreeClone-pushed (push front (node_of x.0) x.1) (push copy (node_of y.0) y.1) xs ys grown all.1

-- clones of cases, one after another
pub IsCasesClone-cases_of : (cases copies : List SwitchCase) → AllZip IsCaseClone cases copies → IsCasesClone (cases_of cases) (cases_of copies)
IsCasesClone-cases_of [] [] all = of_no_cases
IsCasesClone-cases_of [] (copy ∷ copies) all = absurd all
IsCasesClone-cases_of (first ∷ rest) [] all = absurd all
IsCasesClone-cases_of (first ∷ rest) (copy ∷ copies) all =
    let others : IsCasesClone (cases_of rest) (cases_of copies) = IsCasesClone-cases_of rest copies all.1 in
    rw (all.0.0, all.0.2) (of_case all.0.1 others)

pub IsStatementClone-Block : (block copy : Block) → IsBlockClone block copy → IsStatementClone (variant.Block block) (variant.Block copy)
IsStatementClone-Block block copy inner = rw (node_of-Block block, node_of-Block copy) (of_nested inner)

pub IsStatementClone-If : (condition : ℕ) (accept reject accept_copy reject_copy : Block) → IsBlockClone accept accept_copy → IsBlockClone reject reject_copy → IsStatementClone (variant.If condition accept reject) (variant.If condition accept_copy reject_copy)
IsStatementClone-If condition accept reject accept_copy reject_copy first second =
    rw (node_of-If condition accept reject, node_of-If condition accept_copy reject_copy) (of_branch first second)

pub IsStatementClone-Loop : (body continuing body_copy continuing_copy : Block) (break_if : Option ℕ) → IsBlockClone body body_copy → IsBlockClone continuing continuing_copy → IsStatementClone (variant.Loop body continuing break_if) (variant.Loop body_copy continuing_copy break_if)
IsStatementClone-Loop body continuing body_copy continuing_copy break_if first second =
    rw (node_of-Loop body continuing break_if, node_of-Loop body_copy continuing_copy break_if) (of_loop first second)

pub IsStatementClone-Switch : (selector : ℕ) (cases copies : Vec SwitchCase Global) → AllZip IsCaseClone cases.items copies.items → IsStatementClone (variant.Switch selector cases) (variant.Switch selector copies)
IsStatementClone-Switch selector cases copies all =
    rw (node_of-Switch selector cases, node_of-Switch selector copies) (of_switch (IsCasesClone-cases_of cases.items copies.items all))

-- a clone of an operation on a ray query is equal to it
pub by_variants-equal : (fun copy : RayQueryFunction) → by_variants fun copy → copy ≡ fun
by_variants-equal (Initialize structure descriptor) (Initialize structure_again descriptor_again) h = search rules
by_variants-equal (Proceed result) (Proceed result_again) h = search rules
by_variants-equal (GenerateIntersection hit_t) (GenerateIntersection hit_t_again) h = search rules
by_variants-equal ConfirmIntersection ConfirmIntersection h = refl
by_variants-equal Terminate Terminate h = refl
by_variants-equal fun copy h = search rules
