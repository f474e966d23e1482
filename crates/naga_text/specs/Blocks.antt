-- The text of a block: a line for each statement, and those of the blocks in it further to the right.
use Rattle.std.specs.Prelude.{ℕ, ◌+◌, List, [], ◌++◌, length, Bool, true, false, Option, Some, None, codes}
use Rattle.std.specs.Fmt.{decimal, signed_decimal}
use Rattle.naga_kinds.specs.declared.switch.SwitchValue.{SwitchValue}
use Rattle.naga_kinds.specs.declared.switch.SwitchValue.TheVariants as switch_value
use Rattle.naga_ir.specs.Tree.{Tree, empty, push, Node, plain, nested, branch, switch, loop, jump, Jump, break, continue, kill, return, Cases, no_cases, case}
use Rattle.naga_text.specs.Counterparts.{inner_at, is_inserted, nodes}
use Rattle.naga_text.specs.Operands.{between}
use Rattle.naga_text.specs.Statements.{statement_text}

-- the margin of what is inside something with this margin
abbrev pub deeper : List ℕ → List ℕ
deeper margin = margin ++ codes "    "

-- the handle of an expression
abbrev pub operand_text : ℕ → List ℕ
operand_text index = between (codes " [") index (codes "]")

-- a line
abbrev pub line : List ℕ → List ℕ → List ℕ
line margin content = margin ++ (content ++ codes "\n")

-- the first line of a statement that contains blocks, by the expression that decides between them
abbrev pub head_text : List ℕ → List ℕ → ℕ → List ℕ
head_text margin name index = margin ++ (name ++ (operand_text index ++ codes " {\n"))

-- a line that opens a block, and the lines of this block
abbrev pub part_text : List ℕ → List ℕ → List ℕ → List ℕ
part_text margin opening body = margin ++ (opening ++ body)

-- a text about a block, unless it is empty
abbrev pub unless_empty : Tree → List ℕ → List ℕ
unless_empty empty text = []
unless_empty (push front last span) text = text

-- a line that ends with the handle of an expression
abbrev pub operand_line : List ℕ → List ℕ → ℕ → List ℕ
operand_line margin name index = margin ++ (name ++ (operand_text index ++ codes "\n"))

-- the last line of a loop
abbrev pub loop_end_text : List ℕ → Option ℕ → List ℕ
loop_end_text margin None = line margin (codes "}")
loop_end_text margin (Some index) = operand_line margin (codes "} break if") index

-- the handle of an expression, if there is one
abbrev pub optional_operand : Option ℕ → List ℕ
optional_operand None = []
optional_operand (Some index) = operand_text index

-- the rest of the line of a return
abbrev pub mark_text : (marked : Bool) → List ℕ
mark_text true = codes " // inserted\n"
mark_text false = codes "\n"

-- a return, with the value that is returned, if there is one, and the mark, if it is marked
abbrev pub return_text : List ℕ → (marked : Bool) → Option ℕ → List ℕ
return_text margin marked value = margin ++ (codes "return" ++ (optional_operand value ++ mark_text marked))

abbrev pub jump_text : List ℕ → (marked : Bool) → Jump → List ℕ
jump_text margin marked break = line margin (codes "break")
jump_text margin marked continue = line margin (codes "continue")
jump_text margin marked kill = line margin (codes "kill")
jump_text margin marked (return value) = return_text margin marked value

-- the value for which a case is entered
abbrev pub case_name : SwitchValue → List ℕ
case_name (switch_value.I32 n) = codes "case " ++ signed_decimal n
case_name (switch_value.U32 n) = codes "case " ++ (decimal n ++ codes "u")
case_name switch_value.Default = codes "default"

-- the first line of a case
abbrev pub case_head_text : List ℕ → SwitchValue → List ℕ
case_head_text margin value = margin ++ (case_name value ++ codes " {\n")

-- the last line of a case
abbrev pub case_end_text : List ℕ → Bool → List ℕ
case_end_text margin false = line margin (codes "}")
case_end_text margin true = line margin (codes "} fall through")

abbrev mutual
  -- the statement at a position of a block, of which `old` is the counterpart, if there is one
  pub node_text : List ℕ → (old : Option Tree) → (position : ℕ) → Node → List ℕ
  node_text margin old position (plain what) = line margin (statement_text what)
  node_text margin old position (nested inner) =
      part_text margin (codes "{\n") (tree_text (deeper margin) (inner_at old position 0) inner) ++ line margin (codes "}")
  node_text margin old position (branch condition accept reject) =
      head_text margin (codes "if") condition
      ++ (tree_text (deeper margin) (inner_at old position 0) accept
      ++ (unless_empty reject (part_text margin (codes "} else {\n") (tree_text (deeper margin) (inner_at old position 1) reject))
      ++ line margin (codes "}")))
  node_text margin old position (switch selector cases) =
      head_text margin (codes "switch") selector ++ (cases_text (deeper margin) old position 0 cases ++ line margin (codes "}"))
  node_text margin old position (loop body continuing break_if) =
      part_text margin (codes "loop {\n") (tree_text (deeper margin) (inner_at old position 0) body)
      ++ (unless_empty continuing (part_text margin (codes "} continuing {\n") (tree_text (deeper margin) (inner_at old position 1) continuing))
      ++ loop_end_text margin break_if)
  node_text margin old position (jump to) = jump_text margin (is_inserted old position) to

  -- the statements of a block, one after another; `old` is its counterpart, if there is one
  pub tree_text : List ℕ → (old : Option Tree) → Tree → List ℕ
  tree_text margin old empty = []
  tree_text margin old (push front last span) = tree_text margin old front ++ node_text margin old (length (nodes front)) last

  -- the cases of a switch at a position of a block, from the case at an index on, one after another
  pub cases_text : List ℕ → (old : Option Tree) → (position index : ℕ) → Cases → List ℕ
  cases_text margin old position index no_cases = []
  cases_text margin old position index (case value body falls_through others) =
      (case_head_text margin value ++ (tree_text (deeper margin) (inner_at old position index) body ++ case_end_text margin falls_through))
      ++ cases_text margin old position (index + 1) others
