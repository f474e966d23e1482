-- The blocks of the code that are closed, by their last statement.
use Rattle.std.proofs.Common.{◌≡◌, ◌∙◌, sym, ap, subst, ℕ, suc, [], ◌∷◌, ◌++◌, length, Some, None, true, false}
use Rattle.std.proofs.lemmas.List.{append-nil}
use Rattle.std.specs.Prelude.{slice_get}
use Rattle.naga_arena.specs.Span.{undefined}
use Rattle.naga_ir.proofs.PushedLemmas.{tree-push}
use Rattle.naga_ir.specs.Block.{pairs, statements}
use Rattle.naga_ir.specs.Lends.{with_statement}
use Rattle.naga_ir.specs.Tree.{empty, push, jump, Jump}
use Rattle.naga_ir.specs.View.{node_of, pushed, tree, tree_of}
use Rattle.naga_ir.specs.declared.block.Block.{Block}
use Rattle.naga_ir.specs.declared.statement.Statement.{Statement}
use Rattle.naga_proc.specs.Closing.{stays, changes, InsideAre, GetsReturn, ClosedBy, follows, gets_return}
use Rattle.naga_proc.specs.declared.terminator.rule.Rule.{Rule}
use Rattle.naga_proc.specs.declared.terminator.rule.Rule.TheVariants.{Old}
use Rattle.naga_proc.proofs.Closing.ByLastLemmas.{by_last}
use Rattle.naga_proc.proofs.Closing.ClosedByLemmas.{ClosedBy-returned}
use Rattle.naga_proc.proofs.Closing.FollowsLemmas.{follows-Block}
use Rattle.naga_proc.proofs.Closing.InsideAreLemmas.{InsideAre-Block, InsideAre-jump}
use Rattle.naga_ir.specs.declared.statement.Statement as variant

-- a block is closed if the blocks in its last statement are, and no return follows that statement
pub ClosedBy-shut : (rule : Rule) (b : Block) (i : ℕ) (old new : Statement) → length (pairs b) ≡ suc i → slice_get (statements b) i ≡ Some old → follows rule (node_of old) ≡ false → InsideAre (follows rule) GetsReturn (node_of old) (node_of new) → ClosedBy rule (tree_of b) (tree_of (with_statement b i new))
ClosedBy-shut rule b i old new l found shut h =
    let by = by_last b i old new [] l found in
    let written : tree_of (with_statement b i new) ≡ push by.before (node_of new) by.span =
    ap (pushed empty) (sym (append-nil (pairs (with_statement b i new)))) ∙ by.written
    in
    subst (λ t. ClosedBy rule t (tree_of (with_statement b i new))) (sym by.whole) (subst (λ t. ClosedBy rule (push by.before (node_of old) by.span) t) (sym written) (stays h shut))

-- a block is closed if the blocks in its last statement are, and a return was appended that follows that statement
pub ClosedBy-returned_last : (rule : Rule) (b c : Block) (i : ℕ) (old new : Statement) → length (pairs b) ≡ suc i → slice_get (statements b) i ≡ Some old → follows rule (node_of old) ≡ true → InsideAre (follows rule) GetsReturn (node_of old) (node_of new) → pairs c ≡ pairs (with_statement b i new) ++ (variant.Return None, undefined) ∷ [] → ClosedBy rule (tree_of b) (tree_of c)
ClosedBy-returned_last rule b c i old new l found leaves h is =
    let by = by_last b i old new ((variant.Return None, undefined) ∷ []) l found in
    subst (λ t. ClosedBy rule t (tree_of c)) (sym by.whole) (changes h leaves (ap (pushed empty) is ∙ by.written))

-- one return at the end of a block that gets it by the old rule closes the block
pub ClosedBy-returned_open : (rule : Rule) (b c : Block) → gets_return Old (tree_of b) ≡ true → pairs c ≡ pairs b ++ (variant.Return None, undefined) ∷ [] → ClosedBy rule (tree_of b) (tree_of c)
ClosedBy-returned_open rule b c h is =
    subst (ClosedBy rule (tree_of b)) (sym (ap tree is ∙ tree-push (pairs b) (variant.Return None) undefined)) (ClosedBy-returned rule (tree_of b) h)

-- a block that ends in a nested block is closed if that block is
pub ClosedBy-nested : (rule : Rule) (b : Block) (i : ℕ) (old new : Block) → length (pairs b) ≡ suc i → slice_get (statements b) i ≡ Some (variant.Block old) → ClosedBy rule (tree_of old) (tree_of new) → ClosedBy rule (tree_of b) (tree_of (with_statement b i (variant.Block new)))
ClosedBy-nested rule b i old new l found h =
    ClosedBy-shut rule b i (variant.Block old) (variant.Block new) l found (follows-Block rule old) (InsideAre-Block rule old new h)

-- a block that ends in a jump is closed
pub ClosedBy-jump : (rule : Rule) (b : Block) (i : ℕ) (last : Statement) (to : Jump) → length (pairs b) ≡ suc i → slice_get (statements b) i ≡ Some last → node_of last ≡ jump to → ClosedBy rule (tree_of b) (tree_of (with_statement b i last))
ClosedBy-jump rule b i last to l found is =
    ClosedBy-shut rule b i last last l found (ap (follows rule) is) (InsideAre-jump rule last to is)
