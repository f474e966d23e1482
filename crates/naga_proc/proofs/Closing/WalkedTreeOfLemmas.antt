-- The blocks of the code through which a walk leads, by their last statement.
use Rattle.std.proofs.Common.{◌≡◌, ◌∙◌, sym, ap, subst, ℕ, suc, [], ◌∷◌, ◌++◌, length, Some, None, true, false, inl, inr}
use Rattle.std.proofs.lemmas.List.{append-nil, nil_from_length}
use Rattle.std.specs.Prelude.{slice_get}
use Rattle.std.specs.declared.alloc.Global.{Global}
use Rattle.std.specs.declared.vec.Vec.{Vec}
use Rattle.naga_arena.specs.Span.{undefined}
use Rattle.naga_ir.proofs.NodeOfLemmas.{node_of-Block, node_of-If, node_of-Switch}
use Rattle.naga_ir.specs.Block.{pairs, statements}
use Rattle.naga_ir.specs.Lends.{with_statement}
use Rattle.naga_ir.specs.Tree.{empty, push, Node, plain, nested, branch, switch, loop, jump, Jump}
use Rattle.naga_ir.specs.View.{cases_of, node_of, pushed, tree_of}
use Rattle.naga_ir.specs.declared.block.Block.{Block}
use Rattle.naga_ir.specs.declared.statement.Statement.{Statement}
use Rattle.naga_ir.specs.declared.statement.Statement as variant
use Rattle.naga_ir.specs.declared.statement.SwitchCase.{SwitchCase}
use Rattle.naga_proc.specs.Closing.{follows, leaves_open, returned}
use Rattle.naga_proc.specs.Closing.Walked.{Adds, Passes, Walked, WalkedInside, WalkedCases, empty_gets, empty_lacks, stays, gets, lacks, in_plain, in_loop, in_return, in_jump, in_block, in_branch, in_cases, has_no_value}
use Rattle.naga_proc.specs.declared.terminator.one_walk.Walk.{Walk}
use Rattle.naga_proc.specs.declared.terminator.rule.Rule.{Rule}
use Rattle.naga_proc.proofs.Closing.ByLastLemmas.{by_last}

-- ---- the last statement

pub WalkedInside-open : (rule : Rule) (w : Walk) (s : Node) → leaves_open s ≡ true → WalkedInside rule w s s w
WalkedInside-open rule w (plain what) h = in_plain
WalkedInside-open rule w (loop body continuing break_if) h = in_loop
WalkedInside-open rule w (jump to) h = absurd (let e : false ≡ true = h in cc)
WalkedInside-open rule w (nested b) h = absurd (let e : false ≡ true = h in cc)
WalkedInside-open rule w (branch condition b d) h = absurd (let e : false ≡ true = h in cc)
WalkedInside-open rule w (switch selector cs) h = absurd (let e : false ≡ true = h in cc)

pub WalkedInside-jump : (rule : Rule) (w : Walk) (s : Statement) (to : Jump) → node_of s ≡ jump to → has_no_value to ≡ false → WalkedInside rule w (node_of s) (node_of s) w
WalkedInside-jump rule w s to is p = subst (λ x. WalkedInside rule w x x w) (sym is) (in_jump p)

pub WalkedInside-return : (rule : Rule) (w v : Walk) (s : Statement) (to : Jump) → node_of s ≡ jump to → has_no_value to ≡ true → Passes w v → WalkedInside rule w (node_of s) (node_of s) v
WalkedInside-return rule w v s to is p h = subst (λ x. WalkedInside rule w x x v) (sym is) (in_return p h)

pub WalkedInside-Block : (rule : Rule) (w v : Walk) (b c : Block) → Walked rule w (tree_of b) (tree_of c) v → WalkedInside rule w (node_of (variant.Block b)) (node_of (variant.Block c)) v
WalkedInside-Block rule w v b c h =
    subst (λ s. WalkedInside rule w s (node_of (variant.Block c)) v) (sym (node_of-Block b))
    (subst (λ t. WalkedInside rule w (nested (tree_of b)) t v) (sym (node_of-Block c)) (in_block h))

pub WalkedInside-If : (rule : Rule) (w u v : Walk) (x : ℕ) (b c d e : Block) → Walked rule w (tree_of b) (tree_of c) u → Walked rule u (tree_of d) (tree_of e) v → WalkedInside rule w (node_of (variant.If x b d)) (node_of (variant.If x c e)) v
WalkedInside-If rule w u v x b c d e h k =
    subst (λ s. WalkedInside rule w s (node_of (variant.If x c e)) v) (sym (node_of-If x b d))
    (subst (λ t. WalkedInside rule w (branch x (tree_of b) (tree_of d)) t v) (sym (node_of-If x c e)) (in_branch h k))

pub WalkedInside-Switch : (rule : Rule) (w v : Walk) (x : ℕ) (cs ds : Vec SwitchCase Global) → WalkedCases rule w (cases_of cs.items) (cases_of ds.items) v → WalkedInside rule w (node_of (variant.Switch x cs)) (node_of (variant.Switch x ds)) v
WalkedInside-Switch rule w v x cs ds h =
    subst (λ s. WalkedInside rule w s (node_of (variant.Switch x ds)) v) (sym (node_of-Switch x cs))
    (subst (λ t. WalkedInside rule w (switch x (cases_of cs.items)) t v) (sym (node_of-Switch x ds)) (in_cases h))

-- ---- a block

-- a block whose last statement no return follows
pub Walked-shut : (rule : Rule) (w v : Walk) (b : Block) (i : ℕ) (old new : Statement) → length (pairs b) ≡ suc i → slice_get (statements b) i ≡ Some old → follows rule (node_of old) ≡ false → WalkedInside rule w (node_of old) (node_of new) v → Walked rule w (tree_of b) (tree_of (with_statement b i new)) v
Walked-shut rule w v b i old new l found shut h =
    let by = by_last b i old new [] l found in
    let written : tree_of (with_statement b i new) ≡ push by.before (node_of new) by.span =
    ap (pushed empty) (sym (append-nil (pairs (with_statement b i new)))) ∙ by.written
    in
    subst (λ t. Walked rule w t (tree_of (with_statement b i new)) v) (sym by.whole) (subst (λ t. Walked rule w (push by.before (node_of old) by.span) t v) (sym written) (stays h shut))

-- a block that gets a return after its last statement
pub Walked-adds : (rule : Rule) (w u v : Walk) (b c : Block) (i : ℕ) (old new : Statement) → length (pairs b) ≡ suc i → slice_get (statements b) i ≡ Some old → follows rule (node_of old) ≡ true → WalkedInside rule w (node_of old) (node_of new) u → Adds u (with_statement b i new) c v → Walked rule w (tree_of b) (tree_of c) v
Walked-adds rule w u v b c i old new l found leaves h (inl is) =
    let by = by_last b i old new ((variant.Return None, undefined) ∷ []) l found in
    subst (λ t. Walked rule w t (tree_of c) v) (sym by.whole) (subst (λ t. Walked rule w (push by.before (node_of old) by.span) t v) (sym (ap (pushed empty) is.1 ∙ by.written)) (gets h leaves is.0))
Walked-adds rule w u v b c i old new l found leaves h (inr is) =
    let by = by_last b i old new [] l found in
    let written : tree_of c ≡ push by.before (node_of new) by.span =
    ap (pushed empty) is.1 ∙ ap (pushed empty) (sym (append-nil (pairs (with_statement b i new)))) ∙ by.written
    in
    subst (λ t. Walked rule w t (tree_of c) v) (sym by.whole) (subst (λ t. Walked rule w (push by.before (node_of old) by.span) t v) (sym written) (lacks h leaves is.0))

-- an empty block
pub Walked-empty : (rule : Rule) (w v : Walk) (b c : Block) → length (pairs b) ≡ 0 → Adds w b c v → Walked rule w (tree_of b) (tree_of c) v
Walked-empty rule w v b c l (inl is) =
    let none = nil_from_length (pairs b) l in
    let whole : tree_of b ≡ empty = ap (pushed empty) none in
    let written : tree_of c ≡ returned empty = ap (pushed empty) is.1 ∙ ap (λ xs. pushed empty (xs ++ (variant.Return None, undefined) ∷ [])) none in
    subst (λ t. Walked rule w t (tree_of c) v) (sym whole) (subst (λ t. Walked rule w empty t v) (sym written) (empty_gets is.0))
Walked-empty rule w v b c l (inr is) =
    let whole : tree_of b ≡ empty = ap (pushed empty) (nil_from_length (pairs b) l) in
    let written : tree_of c ≡ empty = ap (pushed empty) is.1 ∙ whole in
    subst (λ t. Walked rule w t (tree_of c) v) (sym whole) (subst (λ t. Walked rule w empty t v) (sym written) (empty_lacks is.0))
