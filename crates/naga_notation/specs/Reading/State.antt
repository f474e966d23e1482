-- A state of reading is what is unfinished: each open block with its statements so far, and each statement that has
-- begun with its parts so far. It is given over the types of what it carries: blocks (`B`), lists of cases (`C`), open
-- cases (`K`) and the `break_if`s of loops (`F`).
use Rattle.std.specs.Prelude.{ℕ, suc, List, length}

-- a block in braces in a statement, with what precedes it in the statement
pub data Part (B F : Type 0) : Type 0 where
  in_block : Part B F
  in_accept : Part B F
  in_reject : (accept : B) → Part B F
  in_body : (break_if : F) → Part B F
  in_continuing : (body : B) (break_if : F) → Part B F

-- the place of an open block in its statement: it is a block in braces, or the body of a case
pub data Place (B K F : Type 0) : Type 0 where
  of_part : (part : Part B F) → Place B K F
  of_case : (case : K) → Place B K F

-- an open block around the innermost one: its statements so far, and the place of the block that is open in the next
-- one
pub record Outer (B K F : Type 0) : Type 0 where
  pub statements : B
  pub place : Place B K F

-- what has begun after the last statement of the innermost block, without an open block of its own
pub data Begun (B C K F : Type 0) : Type 0 where
  nothing : Begun B C K F
  -- a statement of which this part comes next
  awaiting : (part : Part B F) → Begun B C K F
  -- a switch without its list of cases
  switching : Begun B C K F
  -- an open list of cases
  listing : (cases : C) → Begun B C K F
  -- an open list of cases, in which a default case comes next
  defaulting : (cases : C) → Begun B C K F
  -- a list of cases, in which the body of this case has ended with a `>`
  falling : (case : K) (body : B) → Begun B C K F

-- the state of reading: the open blocks around the innermost one, innermost first; the statements of the innermost
-- block; and what has begun after them
pub record State (B C K F : Type 0) : Type 0 where
  pub outers : List (Outer B K F)
  pub current : B
  pub begun : Begun B C K F

-- the number of open blocks around the statement that has begun, given the number of those around the innermost block:
-- the body of a case that ends with a `>` is still open
abbrev pub begun_depth : {B C K F : Type 0} → ℕ → Begun B C K F → ℕ
begun_depth depth (falling case body) = suc depth
begun_depth depth begun = depth

-- the number of open blocks
abbrev pub depth_at : {B C K F : Type 0} → State B C K F → ℕ
depth_at state = begun_depth (length state.outers) state.begun
