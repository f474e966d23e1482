-- The blocks that get a return.
use Rattle.std.proofs.Common.{◌≡◌, ◌∙◌, refl, ap, ℕ, zero, suc, ◌-◌, ◌≤◌, List, [], ◌∷◌, length, Some, None, true, arith}
use Rattle.std.proofs.lemmas.List.{length-map, nil_from_length}
use Rattle.std.specs.Prelude.{slice_get}
use Rattle.naga_ir.specs.Block.{pairs, statements}
use Rattle.naga_ir.specs.Tree.{Tree, empty, push}
use Rattle.naga_ir.specs.View.{node_of, pushed, tree_of}
use Rattle.naga_ir.specs.declared.block.Block.{Block}
use Rattle.naga_ir.specs.declared.statement.Statement.{Statement}
use Rattle.naga_proc.specs.Closing.{follows, gets_return, leaves_open}
use Rattle.naga_proc.specs.declared.terminator.rule.Rule.{Rule}
use Rattle.naga_proc.specs.declared.terminator.rule.Rule.TheVariants.{Old}
use Rattle.naga_proc.proofs.Closing.ByLastLemmas.{by_last, length-by_last}
use Rattle.naga_proc.proofs.Closing.FollowsLemmas.{follows-Old, follows-wider}

-- a block that gets a return by the old rule does so by every rule
pub gets_return-wider : (rule : Rule) (t : Tree) → gets_return Old t ≡ true → gets_return rule t ≡ true
gets_return-wider rule empty h = refl
gets_return-wider rule (push front last span) h = follows-wider rule last h

-- ---- the blocks of the code

pub gets_return-last : (rule : Rule) (b : Block) (i : ℕ) (last : Statement) → length (pairs b) ≡ suc i → slice_get (statements b) i ≡ Some last → gets_return rule (tree_of b) ≡ follows rule (node_of last)
gets_return-last rule b i last l found = ap (gets_return rule) (by_last b i last last [] l found).whole

pub gets_return-empty : (rule : Rule) (b : Block) → length (pairs b) ≡ 0 → gets_return rule (tree_of b) ≡ true
gets_return-empty rule b l = ap (λ xs. gets_return rule (pushed empty xs)) (nil_from_length (pairs b) l)

slice_get-None : {A : Type 0} (xs : List A) (i : ℕ) → slice_get xs i ≡ None → length xs ≤ i
slice_get-None [] i none = omega arith
slice_get-None (x ∷ xs) zero none = absurd (cc none)
slice_get-None (x ∷ xs) (suc i) none = omega (arith, slice_get-None xs i none)

-- a block that has no last statement
pub gets_return-no_last : (b : Block) → slice_get (statements b) (length (pairs b) - 1) ≡ None → gets_return Old (tree_of b) ≡ true
gets_return-no_last b none =
    let same : length (statements b) ≡ length (pairs b) = length-map (pairs b) (λ pair. pair.0) in
    let past : length (statements b) ≤ length (pairs b) - 1 = slice_get-None (statements b) (length (pairs b) - 1) none in
    gets_return-empty Old b (omega (arith, same, past))

-- a block with a last statement off whose end control falls
pub gets_return-leaves_open : (b : Block) (last : Statement) → slice_get (statements b) (length (pairs b) - 1) ≡ Some last → leaves_open (node_of last) ≡ true → gets_return Old (tree_of b) ≡ true
gets_return-leaves_open b last found leaves =
    gets_return-last Old b (length (pairs b) - 1) last (length-by_last b last found) found ∙ follows-Old (node_of last) ∙ leaves
