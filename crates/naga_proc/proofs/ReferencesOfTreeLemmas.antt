-- The handles in a block whose tail blocks are changed.
use Rattle.std.proofs.Common.{◌≡◌, ◌∙◌, refl, ap, ◌++◌, [], ◌∷◌, Bool, inl, inr}
use Rattle.std.proofs.lemmas.List.{append-nil}
use Rattle.naga_ir.specs.Tree.{Tree, empty, push, Node, Cases}
use Rattle.naga_valid.specs.Reference.{operands}
use Rattle.naga_valid.specs.Statements.{references_of_cases, references_of_node, references_of_tree}
use Rattle.naga_proc.specs.Closing.{TailsAre, at_empty, stays, changes, InsideAre, in_plain, in_loop, in_jump, in_block, in_branch, in_cases, CaseTailsAre, no_more, falling, ending, GetsReturn, MayGetReturn, ClosedBy, Between}
use Rattle.naga_proc.specs.declared.terminator.rule.Rule.{Rule}

-- what replaces a block contains the same handles
abbrev KeepsReferences : (Tree → Tree → Type 0) → Type 0
KeepsReferences Changed = (b c : Tree) → Changed b c → references_of_tree c ≡ references_of_tree b

mutual
  references_of_tree-tails : {test : Node → Bool} {Changed : Tree → Tree → Type 0} {b c : Tree} → KeepsReferences Changed → TailsAre test Changed b c → references_of_tree c ≡ references_of_tree b
  references_of_tree-tails keeps (at_empty {c = c} changed) = keeps empty c changed
  references_of_tree-tails keeps (stays {front = front} inside not_last) =
      ap (λ names. references_of_tree front ++ names) (references_of_node-tails keeps inside)
  references_of_tree-tails keeps (changes {front = front} {c = c} {new = new} {span = span} inside is_last changed) =
      keeps (push front new span) c changed ∙ ap (λ names. references_of_tree front ++ names) (references_of_node-tails keeps inside)

  references_of_node-tails : {test : Node → Bool} {Changed : Tree → Tree → Type 0} {last new : Node} → KeepsReferences Changed → InsideAre test Changed last new → references_of_node new ≡ references_of_node last
  references_of_node-tails keeps in_plain = refl
  references_of_node-tails keeps in_loop = refl
  references_of_node-tails keeps in_jump = refl
  references_of_node-tails keeps (in_block tails) = references_of_tree-tails keeps tails
  references_of_node-tails keeps (in_branch {b = b} {e = e} {condition = condition} accept reject) =
      ap (λ names. operands (condition ∷ []) ++ (names ++ references_of_tree e)) (references_of_tree-tails keeps accept)
      ∙ ap (λ names. operands (condition ∷ []) ++ (references_of_tree b ++ names)) (references_of_tree-tails keeps reject)
  references_of_node-tails keeps (in_cases {selector = selector} cases) =
      ap (λ names. operands (selector ∷ []) ++ names) (references_of_cases-tails keeps cases)

  references_of_cases-tails : {test : Node → Bool} {Changed : Tree → Tree → Type 0} {cs ds : Cases} → KeepsReferences Changed → CaseTailsAre test Changed cs ds → references_of_cases ds ≡ references_of_cases cs
  references_of_cases-tails keeps no_more = refl
  references_of_cases-tails keeps (falling {b = b} others) =
      ap (λ names. references_of_tree b ++ names) (references_of_cases-tails keeps others)
  references_of_cases-tails keeps (ending {b = b} {ds = ds} tails others) =
      ap (λ names. names ++ references_of_cases ds) (references_of_tree-tails keeps tails)
      ∙ ap (λ names. references_of_tree b ++ names) (references_of_cases-tails keeps others)

-- a return without a value contains no handles
references_of_tree-returned : KeepsReferences GetsReturn
references_of_tree-returned b c is = ap references_of_tree is ∙ append-nil (references_of_tree b)

references_of_tree-may_return : KeepsReferences MayGetReturn
references_of_tree-may_return b c (inl same) = ap references_of_tree same
references_of_tree-may_return b c (inr is) = references_of_tree-returned b c is

pub references_of_tree-ClosedBy : (rule : Rule) (b c : Tree) → ClosedBy rule b c → references_of_tree c ≡ references_of_tree b
references_of_tree-ClosedBy rule b c closed = references_of_tree-tails references_of_tree-returned closed

pub references_of_tree-Between : (b c : Tree) → Between b c → references_of_tree c ≡ references_of_tree b
references_of_tree-Between b c between = references_of_tree-tails references_of_tree-may_return between
