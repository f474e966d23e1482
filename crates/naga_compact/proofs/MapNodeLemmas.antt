-- Mapping the blocks of the code, statement by statement, in place.
use Rattle.std.proofs.Common.{◌≡◌, ◌∙◌, refl, sym, ap, ℕ, ◌<◌, List, length, get_or, Option}
use Rattle.std.specs.Prelude.{option_map}
use Rattle.std.specs.declared.alloc.Global.{Global}
use Rattle.std.specs.declared.vec.Vec.{Vec}
use Rattle.naga_ir.specs.Tree.{nested, branch, switch, loop, Cases, no_cases, case}
use Rattle.naga_ir.specs.View.{cases_of, node_of, tree_of}
use Rattle.naga_ir.specs.declared.block.Block.{Block}
use Rattle.naga_ir.specs.declared.statement.Statement as variant
use Rattle.naga_ir.specs.declared.statement.SwitchCase.{SwitchCase}
use Rattle.naga_ir.proofs.NodeOfLemmas.{node_of-Block, node_of-If, node_of-Loop, node_of-Switch}
use Rattle.naga_ir.specs.declared.statement.Statement.{Statement}
use Rattle.naga_compact.specs.Mapping.{map_tree, map_node, map_cases}
use Rattle.naga_compact.proofs.MappedBlocks.{CaseMapped, mapped_cases, mapped_cases-each}

-- ---- statements that contain blocks

pub mapped_Block : (p : Statement → Statement) (f : ℕ → ℕ) (b c : Block) → tree_of c ≡ map_tree p f (tree_of b) → node_of (variant.Block c) ≡ map_node p f (node_of (variant.Block b))
mapped_Block p f b c h = node_of-Block c ∙ (ap nested h ∙ sym (ap (map_node p f) (node_of-Block b)))

pub mapped_If : (p : Statement → Statement) (f : ℕ → ℕ) (x y : ℕ) (b c d e : Block) → y ≡ f x → tree_of c ≡ map_tree p f (tree_of b) → tree_of e ≡ map_tree p f (tree_of d) → node_of (variant.If y c e) ≡ map_node p f (node_of (variant.If x b d))
mapped_If p f x y b c d e v h k =
    node_of-If y c e ∙ ((λ i. branch (v i) (h i) (k i)) ∙ sym (ap (map_node p f) (node_of-If x b d)))

pub mapped_Loop : (p : Statement → Statement) (f : ℕ → ℕ) (b c d e : Block) (x y : Option ℕ) → tree_of c ≡ map_tree p f (tree_of b) → tree_of e ≡ map_tree p f (tree_of d) → y ≡ option_map f x → node_of (variant.Loop c e y) ≡ map_node p f (node_of (variant.Loop b d x))
mapped_Loop p f b c d e x y h k v =
    node_of-Loop c e y ∙ ((λ i. loop (h i) (k i) (v i)) ∙ sym (ap (map_node p f) (node_of-Loop b d x)))

pub mapped_Switch : (p : Statement → Statement) (f : ℕ → ℕ) (x y : ℕ) (cs ds : Vec SwitchCase Global) → y ≡ f x → cases_of ds.items ≡ map_cases p f (cases_of cs.items) → node_of (variant.Switch y ds) ≡ map_node p f (node_of (variant.Switch x cs))
mapped_Switch p f x y cs ds v h =
    node_of-Switch y ds ∙ ((λ i. switch (v i) (h i)) ∙ sym (ap (map_node p f) (node_of-Switch x cs)))

-- ---- the cases of a switch

map_cases-mapped : (p : Statement → Statement) (f : ℕ → ℕ) (cases : Cases) → mapped_cases (map_tree p f) cases ≡ map_cases p f cases
map_cases-mapped p f no_cases = refl
map_cases-mapped p f (case value body falls_through others) = ap (case value (map_tree p f body) falls_through) (map_cases-mapped p f others)

pub map_cases-each : (p : Statement → Statement) (f : ℕ → ℕ) (xs ys : List SwitchCase) → length ys ≡ length xs → ((k : ℕ) (d : SwitchCase) → k < length xs → CaseMapped (map_tree p f) (get_or xs k d) (get_or ys k d)) → cases_of ys ≡ map_cases p f (cases_of xs)
map_cases-each p f xs ys l h = mapped_cases-each (map_tree p f) xs ys l h ∙ map_cases-mapped p f (cases_of xs)
