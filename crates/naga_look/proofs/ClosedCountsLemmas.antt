-- The counts of a closed block.
use Rattle.std.proofs.Common.{◌≡◌, ◌∙◌, sym, ap, refl, ℕ, ◌+◌, arith}
use Rattle.naga_ir.specs.Tree.{Tree, Node, Cases}
use Rattle.naga_proc.specs.Closing.{at_empty, stays, changes, InsideAre, in_plain, in_loop, in_jump, in_block, in_branch, in_cases, CaseTailsAre, no_more, falling, ending, GetsReturn, ClosedBy, follows}
use Rattle.naga_proc.specs.declared.terminator.rule.Rule.{Rule}
use Rattle.naga_proc.proofs.Closing.ClosedByLemmas.{ClosedBy-again}
use Rattle.naga_look.specs.Counts.{count_in_cases, inner_count, one_if, open_at, open_in_cases, open_tails, statement_count}

-- one more statement is appended to a block that gets a return
returned_count : (whole front inner new more : ℕ) → whole ≡ (front + (1 + new)) + (1 + 0) → new + 1 ≡ inner + more → whole ≡ (front + (1 + inner)) + more
returned_count whole front inner new more is inside = omega (arith, is, inside)

kept_count : (front inner new more : ℕ) → new + 0 ≡ inner + more → front + (1 + new) ≡ (front + (1 + inner)) + more
kept_count front inner new more inside = omega (arith, inside)

module _ (rule : Rule) where
  mutual
    count-closed : {b c : Tree} → ClosedBy rule b c → statement_count c ≡ statement_count b + open_tails rule b
    count-closed (at_empty is) = ap statement_count is
    count-closed (stays {front = front} {last = last} {new = new} inside unchanged) =
        kept_count (statement_count front) (inner_count last) (inner_count new) (open_at rule last)
        (ap (λ test. inner_count new + one_if test) (sym unchanged) ∙ count-inside inside)
    count-closed (changes {front = front} {c = c} {last = last} {new = new} inside gets is) =
        returned_count (statement_count c) (statement_count front) (inner_count last) (inner_count new) (open_at rule last) (ap statement_count is)
        (ap (λ test. inner_count new + one_if test) (sym gets) ∙ count-inside inside)

    count-inside : {last new : Node} → InsideAre (follows rule) GetsReturn last new → inner_count new + one_if (follows rule last) ≡ inner_count last + open_at rule last
    count-inside in_plain = refl
    count-inside in_loop = refl
    count-inside in_jump = refl
    count-inside (in_block tails) = let inner = count-closed tails in omega (arith, inner)
    count-inside (in_branch accept reject) =
        let accepted = count-closed accept in let rejected = count-closed reject in omega (arith, accepted, rejected)
    count-inside (in_cases cases) = let each = count-cases cases in omega (arith, each)

    count-cases : {cs ds : Cases} → CaseTailsAre (follows rule) GetsReturn cs ds → count_in_cases ds ≡ count_in_cases cs + open_in_cases rule cs
    count-cases no_more = refl
    count-cases (falling others) = let each = count-cases others in omega (arith, each)
    count-cases (ending tails others) =
        let body = count-closed tails in let each = count-cases others in omega (arith, body, each)

pub statement_count-ClosedBy : (rule : Rule) (b c : Tree) → ClosedBy rule b c → statement_count c ≡ statement_count b + open_tails rule b
statement_count-ClosedBy rule b c closed = count-closed rule closed

pub open_tails-ClosedBy : (rule : Rule) (b c : Tree) → ClosedBy rule b c → open_tails rule c ≡ 0
open_tails-ClosedBy rule b c closed =
    let same : statement_count c ≡ statement_count c + open_tails rule c = statement_count-ClosedBy rule c c (ClosedBy-again rule b c closed) in
    omega (arith, same)
