-- The blocks of the code from which returns are taken away, by their last statement.
use Rattle.std.proofs.Common.{◌≡◌, ◌∙◌, sym, ap, subst, refl, ℕ, zero, suc, ◌-◌, ◌<◌, Option, List, [], ◌∷◌, ◌++◌, length, map, Some, None, true, false, arith}
use Rattle.std.proofs.lemmas.List.{append-nil, nil_from_length}
use Rattle.std.specs.Prelude.{IsSome, option_to_list, slice_get}
use Rattle.std.specs.declared.alloc.Global.{Global}
use Rattle.std.specs.declared.vec.Vec.{Vec}
use Rattle.naga_arena.specs.declared.span.Span.{Span}
use Rattle.naga_ir.proofs.NodeOfLemmas.{node_of-Block, node_of-If, node_of-Switch}
use Rattle.naga_ir.proofs.PushedLemmas.{tree-push}
use Rattle.naga_ir.specs.Block.{pairs, statements}
use Rattle.naga_ir.specs.Lends.{with_statement}
use Rattle.naga_ir.specs.Tree.{Tree, empty, push, Node, plain, nested, branch, switch, loop, jump, Jump}
use Rattle.naga_ir.specs.View.{cases_of, node_of, pushed, tree, tree_of}
use Rattle.naga_ir.specs.declared.block.Block.{Block}
use Rattle.naga_ir.specs.declared.statement.Statement.{Statement}
use Rattle.naga_ir.specs.declared.statement.Statement as variant
use Rattle.naga_ir.specs.declared.statement.SwitchCase.{SwitchCase}
use Rattle.naga_proc.specs.Closing.{gets_return, leaves_open}
use Rattle.naga_proc.specs.Closing.Walked.{CasesTakeBack, TakesBack, TakesBackInside, TakesBackLast, ends_in_return, is_return}
use Rattle.naga_proc.specs.declared.terminator.rule.Rule.TheVariants.{Old}
use Rattle.naga_proc.proofs.Closing.ByLastLemmas.{by_last, length-by_last}
use Rattle.naga_proc.proofs.Closing.GetsReturnLemmas.{gets_return-no_last}
use Rattle.naga_proc.proofs.Closing.HasRoomInsideLemmas.{is_shallow, is_shallow-leaves_open}
use Rattle.naga_proc.proofs.Closing.TakesBackLemmas.{TakesBack-none, TakesBack-returned, TakesBackInside-branch, TakesBackInside-nested, TakesBackInside-shallow, TakesBackInside-switch, TakesBackLast-empty, TakesBackLast-last}

-- ---- a block

pub TakesBack-zero : (count : ℕ) (b : Tree) → count ≡ 0 → TakesBack count b b count
TakesBack-zero count b none = subst (λ (k : ℕ). TakesBack k b b k) (sym none) (TakesBack-none b)

-- the block whose last return was taken away by `pop`
pub TakesBack-popped : (count : ℕ) (b shorter : Block) (s : Statement) (span : Span) (c : Tree) (left : ℕ) → ends_in_return (tree_of b) ≡ true → pairs b ≡ pairs shorter ++ (s, span) ∷ [] → TakesBackLast count (tree_of shorter) c left → TakesBack (suc count) (tree_of b) c left
TakesBack-popped count b shorter s span c left ends is last =
    let whole : tree_of b ≡ push (tree_of shorter) (node_of s) span = ap tree is ∙ tree-push (pairs shorter) s span in
    subst (λ (t : Tree). TakesBack (suc count) t c left) (sym whole) (TakesBack-returned count (tree_of shorter) (node_of s) span c left (sym (ap ends_in_return whole) ∙ ends) last)

ends_in_return-inside : (xs : List (Statement × Span)) → ends_in_return (tree xs) ≡ true → 0 < length xs
ends_in_return-inside [] ends = absurd (let e : false ≡ true = ends in cc)
ends_in_return-inside (x ∷ xs) ends = omega arith

TakesBack-pop_at : (count : ℕ) (b shorter : Block) (popped : Option (Statement × Span)) (c : Tree) (left : ℕ) → ends_in_return (tree_of b) ≡ true → IsSome popped → pairs b ≡ pairs shorter ++ option_to_list popped → TakesBackLast count (tree_of shorter) c left → TakesBack (suc count) (tree_of b) c left
TakesBack-pop_at count b shorter None c left ends some is last = absurd (let e : false ≡ true = some in cc)
TakesBack-pop_at count b shorter (Some (s, span)) c left ends some is last = TakesBack-popped count b shorter s span c left ends is last

pub TakesBack-pop : (count less : ℕ) (b shorter : Block) (popped : Option (Statement × Span)) (c : Tree) (left : ℕ) → count ≡ suc less → ends_in_return (tree_of b) ≡ true → (0 < length (pairs b) → IsSome popped) → pairs b ≡ pairs shorter ++ option_to_list popped → TakesBackLast less (tree_of shorter) c left → TakesBack count (tree_of b) c left
TakesBack-pop count less b shorter popped c left one ends some is last =
    subst (λ (k : ℕ). TakesBack k (tree_of b) c left) (sym one) (TakesBack-pop_at less b shorter popped c left ends (some (ends_in_return-inside (pairs b) ends)) is last)

-- ---- whether a block ends in a return

pub ends_in_return-last : (b : Block) (last : Statement) → slice_get (statements b) (length (pairs b) - 1) ≡ Some last → is_return (node_of last) ≡ ends_in_return (tree_of b)
ends_in_return-last b last found =
    sym (ap ends_in_return (by_last b (length (pairs b) - 1) last last [] (length-by_last b last found) found).whole)

ends_in_return-gets : (t : Tree) → gets_return Old t ≡ true → false ≡ ends_in_return t
ends_in_return-gets empty h = refl
ends_in_return-gets (push front (plain what) span) h = refl
ends_in_return-gets (push front (loop body continuing break_if) span) h = refl
ends_in_return-gets (push front (nested b) span) h = refl
ends_in_return-gets (push front (branch condition b d) span) h = refl
ends_in_return-gets (push front (switch selector cs) span) h = refl
ends_in_return-gets (push front (jump to) span) h = absurd (let e : false ≡ true = h in cc)

pub ends_in_return-no_last : (b : Block) → slice_get (statements b) (length (pairs b) - 1) ≡ None → false ≡ ends_in_return (tree_of b)
ends_in_return-no_last b none = ends_in_return-gets (tree_of b) (gets_return-no_last b none)

-- ---- the last statement of a block

pub TakesBackLast-none : (count : ℕ) (b : Block) → length (pairs b) ≡ 0 → TakesBackLast count (tree_of b) (tree_of b) count
TakesBackLast-none count b l =
    let none : tree_of b ≡ empty = ap tree (nil_from_length (pairs b) l) in
    subst (λ (t : Tree). TakesBackLast count t t count) (sym none) (TakesBackLast-empty count)

pub TakesBackLast-with : (count : ℕ) (b : Block) (i : ℕ) (old new : Statement) (left : ℕ) → length (pairs b) ≡ suc i → slice_get (statements b) i ≡ Some old → TakesBackInside count (node_of old) (node_of new) left → TakesBackLast count (tree_of b) (tree_of (with_statement b i new)) left
TakesBackLast-with count b i old new left l found inside =
    let by = by_last b i old new [] l found in
    let written : tree_of (with_statement b i new) ≡ push by.before (node_of new) by.span =
    ap (pushed empty) (sym (append-nil (pairs (with_statement b i new)))) ∙ by.written
    in
    subst (λ (t : Tree). TakesBackLast count t (tree_of (with_statement b i new)) left) (sym by.whole) (subst (λ (t : Tree). TakesBackLast count (push by.before (node_of old) by.span) t left) (sym written) (TakesBackLast-last count by.before (node_of old) (node_of new) by.span left inside))

pub TakesBackLast-shallow : (count : ℕ) (b : Block) (i : ℕ) (last : Statement) → length (pairs b) ≡ suc i → slice_get (statements b) i ≡ Some last → is_shallow (node_of last) ≡ true → TakesBackLast count (tree_of b) (tree_of (with_statement b i last)) count
TakesBackLast-shallow count b i last l found shallow =
    TakesBackLast-with count b i last last count l found (TakesBackInside-shallow count (node_of last) shallow)

-- ---- a statement

pub TakesBackInside-Block : (count : ℕ) (b c : Block) (left : ℕ) → TakesBack count (tree_of b) (tree_of c) left → TakesBackInside count (node_of (variant.Block b)) (node_of (variant.Block c)) left
TakesBackInside-Block count b c left back =
    subst (λ (s : Node). TakesBackInside count s (node_of (variant.Block c)) left) (sym (node_of-Block b)) (subst (λ (t : Node). TakesBackInside count (nested (tree_of b)) t left) (sym (node_of-Block c)) (TakesBackInside-nested count (tree_of b) (tree_of c) left back))

pub TakesBackInside-If : (count : ℕ) (x : ℕ) (b c d e : Block) (between left : ℕ) → TakesBack count (tree_of b) (tree_of c) between → TakesBack between (tree_of d) (tree_of e) left → TakesBackInside count (node_of (variant.If x b d)) (node_of (variant.If x c e)) left
TakesBackInside-If count x b c d e between left first second =
    subst (λ (s : Node). TakesBackInside count s (node_of (variant.If x c e)) left) (sym (node_of-If x b d)) (subst (λ (t : Node). TakesBackInside count (branch x (tree_of b) (tree_of d)) t left) (sym (node_of-If x c e)) (TakesBackInside-branch count x (tree_of b) (tree_of c) (tree_of d) (tree_of e) between left first second))

pub TakesBackInside-Switch : (count : ℕ) (x : ℕ) (cs ds : Vec SwitchCase Global) (left : ℕ) → CasesTakeBack count (cases_of cs.items) (cases_of ds.items) left → TakesBackInside count (node_of (variant.Switch x cs)) (node_of (variant.Switch x ds)) left
TakesBackInside-Switch count x cs ds left back =
    subst (λ (s : Node). TakesBackInside count s (node_of (variant.Switch x ds)) left) (sym (node_of-Switch x cs)) (subst (λ (t : Node). TakesBackInside count (switch x (cases_of cs.items)) t left) (sym (node_of-Switch x ds)) (TakesBackInside-switch count x (cases_of cs.items) (cases_of ds.items) left back))

pub TakesBackInside-open : (count : ℕ) (s : Statement) → leaves_open (node_of s) ≡ true → TakesBackInside count (node_of s) (node_of s) count
TakesBackInside-open count s leaves = TakesBackInside-shallow count (node_of s) (is_shallow-leaves_open (node_of s) leaves)

pub TakesBackInside-jump : (count : ℕ) (s : Statement) (to : Jump) → node_of s ≡ jump to → TakesBackInside count (node_of s) (node_of s) count
TakesBackInside-jump count s to is = TakesBackInside-shallow count (node_of s) (ap is_shallow is)

-- ---- the statements that stay when the last one is taken away

slice_get-front : (xs more : List (Statement × Span)) (i : ℕ) (s : Statement) → slice_get (map (λ pair. pair.0) xs) i ≡ Some s → slice_get (map (λ pair. pair.0) (xs ++ more)) i ≡ Some s
slice_get-front [] more i s found = absurd (cc found)
slice_get-front (x ∷ xs) more zero s found = found
slice_get-front (x ∷ xs) more (suc i) s found = slice_get-front xs more i s found

pub statements-front : (b shorter : Block) (more : List (Statement × Span)) (i : ℕ) (s : Statement) → pairs b ≡ pairs shorter ++ more → slice_get (statements shorter) i ≡ Some s → slice_get (statements b) i ≡ Some s
statements-front b shorter more i s is found =
    subst (λ (ps : List (Statement × Span)). slice_get (map (λ pair. pair.0) ps) i ≡ Some s) (sym is) (slice_get-front (pairs shorter) more i s found)
