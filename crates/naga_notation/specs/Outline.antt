-- The blocks that have a notation, the texts as which they are written, and their trees.
--
-- An outline is a block with nothing beyond what the notation shows. In the tree that is drawn from it, all handles are
-- 0 and all spans undefined, and the value of a case is its number, counted from 0, unless it is the default case.
use Rattle.std.specs.Prelude.{◌≡◌, ℕ, suc, pos, List, [], ◌++◌, Bool, true, false, Option, Some, None, is_some, codes}
use Rattle.naga_arena.specs.Span.{undefined}
use Rattle.naga_kinds.specs.Switch.{is_default_value}
use Rattle.naga_kinds.specs.declared.switch.SwitchValue.{SwitchValue}
use Rattle.naga_kinds.specs.declared.switch.SwitchValue.TheVariants.{I32, Default}
use Rattle.naga_ir.specs.declared.statement.Statement.{MemoryBarrier}
use Rattle.naga_ir.specs.Tree.{Tree, Node, Cases, Jump}

-- a statement that contains no block: one that control passes through, or a jump
pub data Simple : Type 0 where
  passes : Simple
  breaks : Simple
  continues : Simple
  returns : Simple
  kills : Simple

mutual
  -- a statement
  pub data Item : Type 0 where
    simple : (what : Simple) → Item
    nested : (inner : Outline) → Item
    branch : (accept reject : Outline) → Item
    switch : (cases : CaseOutlines) → Item
    loop : (has_break_if : Bool) (body continuing : Outline) → Item

  -- a block: a list of statements
  pub data Outline : Type 0 where
    empty : Outline
    push : (front : Outline) (last : Item) → Outline

  -- the cases of a switch
  pub data CaseOutlines : Type 0 where
    no_cases : CaseOutlines
    more : (front : CaseOutlines) (is_default : Bool) (body : Outline) (falls_through : Bool) → CaseOutlines

-- the text of a statement without blocks
abbrev pub simple_text : Simple → List ℕ
simple_text passes = codes "p"
simple_text breaks = codes "b"
simple_text continues = codes "c"
simple_text returns = codes "r"
simple_text kills = codes "k"

-- the letter with which a loop begins, by whether it has a break_if
abbrev pub loop_text : Bool → List ℕ
loop_text false = codes "l"
loop_text true = codes "w"

-- the text before a case, by whether it is a default case
abbrev pub default_text : Bool → List ℕ
default_text false = []
default_text true = codes "d"

-- the text after the body of a case, by whether the case falls through
abbrev pub fall_through_text : Bool → List ℕ
fall_through_text false = []
fall_through_text true = codes ">"

-- the text of a case, given the text of its body
abbrev pub case_text : Bool → List ℕ → Bool → List ℕ
case_text is_default body falls_through =
    default_text is_default ++ (codes "[" ++ (body ++ (fall_through_text falls_through ++ codes "]")))

abbrev mutual
  -- the text of a statement
  pub item_text : Item → List ℕ
  item_text (simple what) = simple_text what
  item_text (nested inner) = codes "{" ++ (outline_text inner ++ codes "}")
  item_text (branch accept reject) =
      codes "i{" ++ (outline_text accept ++ (codes "}{" ++ (outline_text reject ++ codes "}")))
  item_text (switch cases) = codes "s(" ++ (cases_text cases ++ codes ")")
  item_text (loop has_break_if body continuing) =
      loop_text has_break_if
      ++ (codes "{" ++ (outline_text body ++ (codes "}{" ++ (outline_text continuing ++ codes "}"))))

  -- the text of a block: the texts of its statements one after another, with nothing between them
  pub outline_text : Outline → List ℕ
  outline_text empty = []
  outline_text (push front last) = outline_text front ++ item_text last

  -- the text of cases: the texts of the cases one after another, with nothing between them
  pub cases_text : CaseOutlines → List ℕ
  cases_text no_cases = []
  cases_text (more front is_default body falls_through) =
      cases_text front ++ case_text is_default (outline_text body) falls_through

-- the number of cases
abbrev pub case_count : Cases → ℕ
case_count Cases.no_cases = 0
case_count (Cases.case value body falls_through others) = suc (case_count others)

-- the cases with one more appended
abbrev pub with_case : Cases → SwitchValue → Tree → Bool → Cases
with_case Cases.no_cases value body falls_through = Cases.case value body falls_through Cases.no_cases
with_case (Cases.case first_value first_body first_falls others) value body falls_through =
    Cases.case first_value first_body first_falls (with_case others value body falls_through)

-- the value of a case that follows these: their number, unless it is the default case
abbrev pub value_after : Cases → Bool → SwitchValue
value_after cases false = I32 (pos (case_count cases))
value_after cases true = Default

-- the handle of every expression: the first one
abbrev pub first_handle : ℕ
first_handle = 0

abbrev pub break_if_of : Bool → Option ℕ
break_if_of false = None
break_if_of true = Some first_handle

-- the statement without blocks; the one that control passes through is a memory barrier without flags
abbrev pub simple_node : Simple → Node
simple_node passes = Node.plain (MemoryBarrier (record { 0 = 0 }))
simple_node breaks = Node.jump Jump.break
simple_node continues = Node.jump Jump.continue
simple_node returns = Node.jump (Jump.return None)
simple_node kills = Node.jump Jump.kill

abbrev mutual
  -- the statement in a tree
  pub drawn_item : Item → Node
  drawn_item (simple what) = simple_node what
  drawn_item (nested inner) = Node.nested (drawn inner)
  drawn_item (branch accept reject) = Node.branch first_handle (drawn accept) (drawn reject)
  drawn_item (switch cases) = Node.switch first_handle (drawn_cases cases)
  drawn_item (loop has_break_if body continuing) = Node.loop (drawn body) (drawn continuing) (break_if_of has_break_if)

  -- the tree of an outline, without spans
  pub drawn : Outline → Tree
  drawn empty = Tree.empty
  drawn (push front last) = Tree.push (drawn front) (drawn_item last) undefined

  -- the cases in a tree, with their numbers as values
  pub drawn_cases : CaseOutlines → Cases
  drawn_cases no_cases = Cases.no_cases
  drawn_cases (more front is_default body falls_through) =
      with_case (drawn_cases front) (value_after (drawn_cases front) is_default) (drawn body) falls_through

-- the text is the notation of the tree
abbrev pub Notation : List ℕ → Tree → Type 0
Notation text tree = (outline : Outline) × (text ≡ outline_text outline) × (tree ≡ drawn outline)

abbrev mutual
  -- the outline of a statement, which ignores its handles and which plain statement it is
  pub item_of : Node → Item
  item_of (Node.plain what) = simple passes
  item_of (Node.nested inner) = nested (outline_of inner)
  item_of (Node.branch condition accept reject) = branch (outline_of accept) (outline_of reject)
  item_of (Node.switch selector cases) = switch (cases_after cases no_cases)
  item_of (Node.loop body continuing break_if) = loop (is_some break_if) (outline_of body) (outline_of continuing)
  item_of (Node.jump Jump.break) = simple breaks
  item_of (Node.jump Jump.continue) = simple continues
  item_of (Node.jump Jump.kill) = simple kills
  item_of (Node.jump (Jump.return value)) = simple returns

  -- the outline of a tree, which ignores its spans
  pub outline_of : Tree → Outline
  outline_of Tree.empty = empty
  outline_of (Tree.push front last span) = push (outline_of front) (item_of last)

  -- `front` followed by the outlines of these cases, which ignore their values except whether they are the default one
  pub cases_after : Cases → CaseOutlines → CaseOutlines
  cases_after Cases.no_cases front = front
  cases_after (Cases.case value body falls_through others) front =
      cases_after others (more front (is_default_value value) (outline_of body) falls_through)
