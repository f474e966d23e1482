-- The text of a block is readable.
use Rattle.std.proofs.Common.{refl, ℕ, ◌+◌, List, length, Bool, true, false}
use Rattle.std.specs.Prelude.{Option, Some, None, codes}
use Rattle.naga_kinds.specs.declared.switch.SwitchValue.{SwitchValue}
use Rattle.naga_kinds.specs.declared.switch.SwitchValue.TheVariants as switch_value
use Rattle.naga_ir.specs.Tree.{Tree, empty, push, Node, plain, nested, branch, switch, loop, jump, Jump, break, continue, kill, return, Cases, no_cases, case}
use Rattle.naga_text.specs.Blocks.{case_end_text, case_head_text, case_name, cases_text, deeper, head_text, jump_text, line, loop_end_text, mark_text, node_text, operand_line, operand_text, optional_operand, part_text, return_text, tree_text, unless_empty}
use Rattle.naga_text.specs.Counterparts.{inner_at, is_inserted, nodes}
use Rattle.naga_text.specs.Readable.{IsPlain, IsReadable}
use Rattle.naga_text.proofs.ReadableEscapesLemmas.{decimal-plain, signed_decimal-plain}
use Rattle.naga_text.proofs.ReadableOperandsLemmas.{between-plain}
use Rattle.naga_text.proofs.ReadableStatementsLemmas.{statement_text-plain}
use Rattle.naga_text.proofs.SpellsLemmas.{IsReadable-plain, Spells-after, Spells-append, Spells-ascii, Spells-nil}

operand_text-plain : (index : ℕ) → IsPlain (operand_text index)
operand_text-plain index = between-plain (codes " [") refl index (codes "]") refl

optional_operand-plain : (index : Option ℕ) → IsPlain (optional_operand index)
optional_operand-plain None = Spells-nil
optional_operand-plain (Some index) = operand_text-plain index

mark_text-readable : (marked : Bool) → IsReadable (mark_text marked)
mark_text-readable true = Spells-ascii (codes " // inserted\n") refl
mark_text-readable false = Spells-ascii (codes "\n") refl

pub case_name-plain : (value : SwitchValue) → IsPlain (case_name value)
case_name-plain (switch_value.I32 n) = Spells-after (codes "case ") refl (signed_decimal-plain n)
case_name-plain (switch_value.U32 n) = Spells-after (codes "case ") refl (Spells-append (decimal-plain n) (Spells-ascii (codes "u") refl))
case_name-plain switch_value.Default = Spells-ascii (codes "default") refl

pub unless_empty-readable : (block : Tree) {text : List ℕ} → IsReadable text → IsReadable (unless_empty block text)
unless_empty-readable empty text = Spells-nil
unless_empty-readable (push front last span) text = text

-- ---- lines with a margin

module _ {margin : List ℕ} (before : IsReadable margin) where
  deeper-readable : IsReadable (deeper margin)
  deeper-readable = Spells-append before (Spells-ascii (codes "    ") refl)

  line-readable : {content : List ℕ} → IsPlain content → IsReadable (line margin content)
  line-readable content = Spells-append before (Spells-append (IsReadable-plain content) (Spells-ascii (codes "\n") refl))

  head_text-readable : {name : List ℕ} → IsPlain name → (index : ℕ) → IsReadable (head_text margin name index)
  head_text-readable name index =
      Spells-append before (Spells-append (IsReadable-plain name) (Spells-append (IsReadable-plain (operand_text-plain index)) (Spells-ascii (codes " {\n") refl)))

  part_text-readable : {opening body : List ℕ} → IsReadable opening → IsReadable body → IsReadable (part_text margin opening body)
  part_text-readable opening body = Spells-append before (Spells-append opening body)

  operand_line-readable : {name : List ℕ} → IsPlain name → (index : ℕ) → IsReadable (operand_line margin name index)
  operand_line-readable name index =
      Spells-append before (Spells-append (IsReadable-plain name) (Spells-append (IsReadable-plain (operand_text-plain index)) (Spells-ascii (codes "\n") refl)))

  loop_end_text-readable : (break_if : Option ℕ) → IsReadable (loop_end_text margin break_if)
  loop_end_text-readable None = line-readable (Spells-ascii (codes "}") refl)
  loop_end_text-readable (Some index) = operand_line-readable (Spells-ascii (codes "} break if") refl) index

  return_text-readable : (marked : Bool) (value : Option ℕ) → IsReadable (return_text margin marked value)
  return_text-readable marked value =
      Spells-append before (Spells-after (codes "return") refl (Spells-append (IsReadable-plain (optional_operand-plain value)) (mark_text-readable marked)))

  jump_text-readable : (marked : Bool) (to : Jump) → IsReadable (jump_text margin marked to)
  jump_text-readable marked break = line-readable (Spells-ascii (codes "break") refl)
  jump_text-readable marked continue = line-readable (Spells-ascii (codes "continue") refl)
  jump_text-readable marked kill = line-readable (Spells-ascii (codes "kill") refl)
  jump_text-readable marked (return value) = return_text-readable marked value

  case_head_text-readable : (value : SwitchValue) → IsReadable (case_head_text margin value)
  case_head_text-readable value = Spells-append before (Spells-append (IsReadable-plain (case_name-plain value)) (Spells-ascii (codes " {\n") refl))

  case_end_text-readable : (falls_through : Bool) → IsReadable (case_end_text margin falls_through)
  case_end_text-readable false = line-readable (Spells-ascii (codes "}") refl)
  case_end_text-readable true = line-readable (Spells-ascii (codes "} fall through") refl)

-- ---- blocks

mutual
  node_text-readable : (margin : List ℕ) → IsReadable margin → (old : Option Tree) (position : ℕ) (node : Node) → IsReadable (node_text margin old position node)
  node_text-readable margin before old position (plain what) = line-readable before (statement_text-plain what)
  node_text-readable margin before old position (nested inner) =
      Spells-append (part_text-readable before (Spells-ascii (codes "{\n") refl) (tree_text-readable (deeper margin) (deeper-readable before) (inner_at old position 0) inner))
      (line-readable before (Spells-ascii (codes "}") refl))
  node_text-readable margin before old position (branch condition accept reject) =
      Spells-append (head_text-readable before (Spells-ascii (codes "if") refl) condition)
      (Spells-append (tree_text-readable (deeper margin) (deeper-readable before) (inner_at old position 0) accept)
      (Spells-append (unless_empty-readable reject (part_text-readable before (Spells-ascii (codes "} else {\n") refl) (tree_text-readable (deeper margin) (deeper-readable before) (inner_at old position 1) reject)))
      (line-readable before (Spells-ascii (codes "}") refl))))
  node_text-readable margin before old position (switch selector cases) =
      Spells-append (head_text-readable before (Spells-ascii (codes "switch") refl) selector)
      (Spells-append (cases_text-readable (deeper margin) (deeper-readable before) old position 0 cases) (line-readable before (Spells-ascii (codes "}") refl)))
  node_text-readable margin before old position (loop body continuing break_if) =
      Spells-append (part_text-readable before (Spells-ascii (codes "loop {\n") refl) (tree_text-readable (deeper margin) (deeper-readable before) (inner_at old position 0) body))
      (Spells-append (unless_empty-readable continuing (part_text-readable before (Spells-ascii (codes "} continuing {\n") refl) (tree_text-readable (deeper margin) (deeper-readable before) (inner_at old position 1) continuing)))
      (loop_end_text-readable before break_if))
  node_text-readable margin before old position (jump to) = jump_text-readable before (is_inserted old position) to

  pub tree_text-readable : (margin : List ℕ) → IsReadable margin → (old : Option Tree) (block : Tree) → IsReadable (tree_text margin old block)
  tree_text-readable margin before old empty = Spells-nil
  tree_text-readable margin before old (push front last span) =
      Spells-append (tree_text-readable margin before old front) (node_text-readable margin before old (length (nodes front)) last)

  cases_text-readable : (margin : List ℕ) → IsReadable margin → (old : Option Tree) (position index : ℕ) (cases : Cases) → IsReadable (cases_text margin old position index cases)
  cases_text-readable margin before old position index no_cases = Spells-nil
  cases_text-readable margin before old position index (case value body falls_through others) =
      Spells-append (Spells-append (case_head_text-readable before value) (Spells-append (tree_text-readable (deeper margin) (deeper-readable before) (inner_at old position index) body) (case_end_text-readable before falls_through)))
      (cases_text-readable margin before old position (index + 1) others)
