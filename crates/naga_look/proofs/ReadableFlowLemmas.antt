-- The control flow of a body is readable.
use Rattle.std.proofs.Common.{refl, ℕ, zero, suc, ◌+◌, List, [], ◌∷◌, ◌++◌, length, Bool, true, false}
use Rattle.std.specs.Prelude.{Option, codes}
use Rattle.naga_kinds.specs.declared.switch.SwitchValue.{SwitchValue}
use Rattle.naga_ir.specs.Tree.{Tree, empty, push, Node, plain, nested, branch, switch, loop, jump, Jump, break, continue, kill, return, Cases, no_cases, case}
use Rattle.naga_ir.specs.declared.module.Module as the_module
use Rattle.naga_text.specs.Blocks.{unless_empty}
use Rattle.naga_text.specs.Counterparts.{inner_at, nodes}
use Rattle.naga_text.specs.Readable.{IsPlain, IsReadable}
use Rattle.naga_text.proofs.ReadableBlocksLemmas.{case_name-plain, unless_empty-readable}
use Rattle.naga_text.proofs.ReadableEscapesLemmas.{decimal-plain}
use Rattle.naga_text.proofs.ReadableOperandsLemmas.{references_text-plain}
use Rattle.naga_text.proofs.ReadablePartsLemmas.{loop_words-plain}
use Rattle.naga_text.proofs.derived_lemmas.ReadableTextsLemmas.{action_text-plain}
use Rattle.naga_text.proofs.ReadableWordsLemmas.{name_text-plain}
use Rattle.naga_text.proofs.SpellsLemmas.{IsReadable-plain, Spells-after, Spells-append, Spells-ascii, Spells-nil}
use Rattle.naga_valid.specs.Reference.{operands, present}
use Rattle.naga_valid.specs.Statements.{references_of_statement}
use Rattle.naga_look.specs.Graph.Flow.{arrow, blocks_flow, case_label, cases_flow, edge_inward, edge_into, edge_to, edge_to_case, fall_through_text, first_name, if_empty, is_inserted_return, jump_label, label_text, node_style, numbered, point_text, statement_node, tree_flow}
use Rattle.naga_look.specs.Graph.Names.{called_name}
use Rattle.naga_look.proofs.ReadableStringsLemmas.{label_attribute-plain}

numbered-plain : {name : List ℕ} → IsPlain name → (n : ℕ) → IsPlain (numbered name n)
numbered-plain name n = Spells-append name (Spells-after (codes "_") refl (decimal-plain n))

-- ---- nodes

jump_label-plain : (to : Jump) → IsPlain (jump_label to)
jump_label-plain break = Spells-ascii (codes "break") refl
jump_label-plain continue = Spells-ascii (codes "continue") refl
jump_label-plain kill = Spells-ascii (codes "kill") refl
jump_label-plain (return value) = Spells-after (codes "return") refl (references_text-plain (present (value ∷ [])))

label_text-plain : (whole : the_module.Module) (node : Node) → IsPlain (label_text whole node)
label_text-plain whole (plain what) =
    Spells-append (action_text-plain what) (Spells-append (name_text-plain (called_name whole what)) (references_text-plain (references_of_statement what)))
label_text-plain whole (nested inner) = Spells-ascii (codes "block") refl
label_text-plain whole (branch condition accept reject) = Spells-after (codes "if") refl (references_text-plain (operands (condition ∷ [])))
label_text-plain whole (switch selector cases) = Spells-after (codes "switch") refl (references_text-plain (operands (selector ∷ [])))
label_text-plain whole (loop body continuing break_if) = Spells-append (loop_words-plain break_if) (references_text-plain (present (break_if ∷ [])))
label_text-plain whole (jump to) = jump_label-plain to

node_style-plain : (marked : Bool) → IsPlain (node_style marked)
node_style-plain true = Spells-ascii (node_style true) refl
node_style-plain false = Spells-ascii (node_style false) refl

statement_node-readable : (whole : the_module.Module) {name : List ℕ} → IsPlain name → (marked : Bool) (node : Node) → IsReadable (statement_node whole name marked node)
statement_node-readable whole name marked node =
    Spells-after (codes "        ") refl (Spells-append (IsReadable-plain name) (Spells-after (codes " [") refl
    (Spells-append (IsReadable-plain (node_style-plain marked)) (Spells-append (IsReadable-plain (label_attribute-plain (label_text-plain whole node))) (Spells-ascii (codes "]\n") refl)))))

-- ---- edges

arrow-plain : {from to : List ℕ} → IsPlain from → IsPlain to → IsPlain (arrow from to)
arrow-plain from to = Spells-after (codes "        ") refl (Spells-append from (Spells-after (codes " -> ") refl to))

edge_to-readable : {block : List ℕ} → IsPlain block → (position : ℕ) → IsReadable (edge_to block position)
edge_to-readable block zero = Spells-nil
edge_to-readable block (suc before) =
    Spells-append (IsReadable-plain (arrow-plain (numbered-plain block before) (numbered-plain block (suc before)))) (Spells-ascii (codes " [style=bold]\n") refl)

edge_inward-readable : {from to label : List ℕ} → IsPlain from → IsPlain to → IsPlain label → IsReadable (edge_inward from to label)
edge_inward-readable from to label =
    Spells-append (IsReadable-plain (arrow-plain from to)) (Spells-after (codes " [style=dashed, ") refl
    (Spells-append (IsReadable-plain (label_attribute-plain label)) (Spells-ascii (codes "]\n") refl)))

edge_into-readable : {name label : List ℕ} → IsPlain name → (index : ℕ) → IsPlain label → (inner : Tree) → IsReadable (edge_into name index label inner)
edge_into-readable name index label inner =
    unless_empty-readable inner (edge_inward-readable name (numbered-plain (numbered-plain name index) 0) label)

-- ---- cases

point_text-readable : {block : List ℕ} → IsPlain block → (inner : Tree) → IsReadable (point_text block inner)
point_text-readable block empty = Spells-after (codes "        ") refl (Spells-append (IsReadable-plain block) (Spells-ascii (codes " [shape=point, height=0.1]\n") refl))
point_text-readable block (push front last span) = Spells-nil

first_name-plain : {block : List ℕ} → IsPlain block → (inner : Tree) → IsPlain (first_name block inner)
first_name-plain block empty = block
first_name-plain block (push front last span) = numbered-plain block 0

fall_through_text-plain : (falls_through : Bool) → IsPlain (fall_through_text falls_through)
fall_through_text-plain true = Spells-ascii (codes ", fall through") refl
fall_through_text-plain false = Spells-nil

edge_to_case-readable : {name block : List ℕ} → IsPlain name → IsPlain block → (value : SwitchValue) (body : Tree) (falls_through : Bool) → IsReadable (edge_to_case name block value body falls_through)
edge_to_case-readable name block value body falls_through =
    Spells-append (point_text-readable block body)
    (edge_inward-readable name (first_name-plain block body) (Spells-append (case_name-plain value) (fall_through_text-plain falls_through)))

-- ---- statements

-- a block in a statement, with the edge to it
part-readable : {name label : List ℕ} → IsPlain name → (index : ℕ) → IsPlain label → (inner : Tree) {flow : List ℕ} → IsReadable flow → IsReadable (edge_into name index label inner ++ flow)
part-readable name index label inner flow = Spells-append (edge_into-readable name index label inner) flow

module _ (whole : the_module.Module) where
  mutual
    pub tree_flow-readable : {block : List ℕ} → IsPlain block → (old : Option Tree) (body : Tree) → IsReadable (tree_flow whole block old body)
    tree_flow-readable block old empty = Spells-nil
    tree_flow-readable block old (push front last span) =
        let name = numbered-plain block (length (nodes front)) in
        Spells-append (tree_flow-readable block old front)
        (Spells-append (edge_to-readable block (length (nodes front)))
        (Spells-append (statement_node-readable whole name (is_inserted_return old (length (nodes front)) last) last)
        (blocks_flow-readable name old (length (nodes front)) last)))

    blocks_flow-readable : {name : List ℕ} → IsPlain name → (old : Option Tree) (position : ℕ) (node : Node) → IsReadable (blocks_flow whole name old position node)
    blocks_flow-readable name old position (plain what) = Spells-nil
    blocks_flow-readable name old position (nested inner) = part-readable name 0 (Spells-ascii (codes "block") refl) inner (tree_flow-readable (numbered-plain name 0) (inner_at old position 0) inner)
    blocks_flow-readable name old position (branch condition accept reject) =
        Spells-append (part-readable name 0 (Spells-ascii (codes "accept") refl) accept (tree_flow-readable (numbered-plain name 0) (inner_at old position 0) accept))
        (part-readable name 1 (Spells-ascii (codes "reject") refl) reject (tree_flow-readable (numbered-plain name 1) (inner_at old position 1) reject))
    blocks_flow-readable name old position (switch selector cases) = cases_flow-readable name old position 0 cases
    blocks_flow-readable name old position (loop body continuing break_if) =
        Spells-append (part-readable name 0 (Spells-ascii (codes "body") refl) body (tree_flow-readable (numbered-plain name 0) (inner_at old position 0) body))
        (part-readable name 1 (Spells-ascii (codes "continuing") refl) continuing (tree_flow-readable (numbered-plain name 1) (inner_at old position 1) continuing))
    blocks_flow-readable name old position (jump to) = Spells-nil

    cases_flow-readable : {name : List ℕ} → IsPlain name → (old : Option Tree) (position index : ℕ) (cases : Cases) → IsReadable (cases_flow whole name old position index cases)
    cases_flow-readable name old position index no_cases = Spells-nil
    cases_flow-readable name old position index (case value body falls_through others) =
        Spells-append
        (Spells-append (edge_to_case-readable name (numbered-plain name index) value body falls_through) (tree_flow-readable (numbered-plain name index) (inner_at old position index) body))
        (cases_flow-readable name old position (index + 1) others)
