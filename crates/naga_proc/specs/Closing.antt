-- Closing a block by a rule: a return is appended to each tail block for which the rule requires one, and nothing else
-- changes.
--
-- A block is a tail block of itself. If a tail block ends in a nested block, a branch or a switch, the blocks of that
-- statement are tail blocks, too, except the bodies of cases that fall through. A tail block is open if it is empty, or
-- ends in a plain statement or a loop: control falls off its end. By the old rule, which is naga's, each open tail
-- block gets a return. By the new rule, each tail block that ends in a switch with an exit gets one, too.
--
-- This is the block `pi{k}{s([p]d[b])}`, with its tail blocks marked, and closed by each rule. The break leads past the
-- switch, to the end of the tail block that is marked with an exit:
--
--     the block                 (tail)         by the old rule         by the new rule
--       p                                        p                       p
--       if                                       if                      if
--         accept                (tail)             accept                  accept
--           kill                                     kill                    kill
--         reject                (tail, exit)       reject                  reject
--           switch                                   switch                  switch
--             case 0            (tail, open)           case 0                  case 0
--               p                                        p                       p
--                                                        return                  return
--             default           (tail)                 default                 default
--               break                                    break                   break
--                                                                            return
pub mod FallenRuns
pub mod KeptRuns
pub mod Room
pub mod Walked
use Rattle.std.specs.Prelude.{◌≡◌, ◌⊎◌, ℕ, Bool, true, false, not, Option, None}
use Rattle.naga_arena.specs.Span.{undefined}
use Rattle.naga_arena.specs.declared.span.Span.{Span}
use Rattle.naga_kinds.specs.declared.switch.SwitchValue.{SwitchValue}
use Rattle.naga_ir.specs.declared.statement.Statement.{Statement}
use Rattle.naga_ir.specs.Tree.{Tree, empty, push, Node, plain, nested, branch, switch, loop, jump, Jump, return, Cases, no_cases, case}
use Rattle.naga_runs.specs.Exits.{has_exit}
use Rattle.naga_proc.specs.declared.terminator.rule.Rule.{Rule}
use Rattle.naga_proc.specs.declared.terminator.rule.Rule.TheVariants.{New, Old}

-- control falls off the end of a block that ends in this statement
abbrev pub leaves_open : Node → Bool
leaves_open (plain what) = true
leaves_open (loop body continuing break_if) = true
leaves_open last = false

-- by the new rule, a return follows a last switch with these cases if the switch has an exit; by the old rule, none
-- does
abbrev pub follows_switch : Rule → Cases → Bool
follows_switch New cases = has_exit cases
follows_switch Old cases = false

-- by the rule, no return follows a last switch with these cases, and it has one case, which does not fall through
abbrev pub goes_straight_through : Rule → Cases → Bool
goes_straight_through Old (case value body falls_through no_cases) = not falls_through
goes_straight_through rule cases = false

-- by the rule, a return follows this last statement
abbrev pub follows : Rule → Node → Bool
follows rule (switch selector cases) = follows_switch rule cases
follows rule last = leaves_open last

-- the block gets a return by the rule if it is a tail block
abbrev pub gets_return : Rule → Tree → Bool
gets_return rule empty = true
gets_return rule (push front last span) = follows rule last

mutual
  -- The first block is a tail block of the second: it is the second block itself or, if a tail block ends in a block, a
  -- branch or a switch, a block of that statement, except the bodies of cases that fall through.
  pub data IsTail : Tree → Tree → Type 0 where
    itself : {block : Tree} → IsTail block block
    in_nested : {tail front inner : Tree} {span : Span} →
        IsTail tail inner → IsTail tail (push front (nested inner) span)
    in_accept : {tail front accept reject : Tree} {condition : ℕ} {span : Span} →
        IsTail tail accept → IsTail tail (push front (branch condition accept reject) span)
    in_reject : {tail front accept reject : Tree} {condition : ℕ} {span : Span} →
        IsTail tail reject → IsTail tail (push front (branch condition accept reject) span)
    in_switch : {tail front : Tree} {selector : ℕ} {cases : Cases} {span : Span} →
        IsCaseTail tail cases → IsTail tail (push front (switch selector cases) span)

  -- the block is a tail block of every block that ends in a switch with these cases
  pub data IsCaseTail : Tree → Cases → Type 0 where
    in_first : {tail body : Tree} {value : SwitchValue} {others : Cases} →
        IsTail tail body → IsCaseTail tail (case value body false others)
    in_others : {tail body : Tree} {value : SwitchValue} {falls_through : Bool} {others : Cases} →
        IsCaseTail tail others → IsCaseTail tail (case value body falls_through others)

-- no tail block of the block gets a return by the rule
abbrev pub HasNoOpenTail : Rule → Tree → Type 0
HasNoOpenTail rule block = (tail : Tree) → IsTail tail block → gets_return rule tail ≡ false

mutual
  -- The second block is the first with its tail blocks changed: each tail block that is empty, or ends in a statement
  -- for which `test` is true, is related by `Changed` to what replaces it, after the tail blocks in that statement have
  -- been changed.
  pub data TailsAre (test : Node → Bool) (Changed : Tree → Tree → Type 0) : Tree → Tree → Type 0 where
    at_empty : {c : Tree} → Changed empty c → TailsAre test Changed empty c
    stays : {front : Tree} {last new : Node} {span : Span} → InsideAre test Changed last new → test last ≡ false →
        TailsAre test Changed (push front last span) (push front new span)
    changes : {front c : Tree} {last new : Node} {span : Span} → InsideAre test Changed last new → test last ≡ true →
        Changed (push front new span) c → TailsAre test Changed (push front last span) c

  -- the second statement is the first with its tail blocks changed in this way
  pub data InsideAre (test : Node → Bool) (Changed : Tree → Tree → Type 0) : Node → Node → Type 0 where
    in_plain : {what : Statement} → InsideAre test Changed (plain what) (plain what)
    in_loop : {body continuing : Tree} {break_if : Option ℕ} →
        InsideAre test Changed (loop body continuing break_if) (loop body continuing break_if)
    in_jump : {to : Jump} → InsideAre test Changed (jump to) (jump to)
    in_block : {b c : Tree} → TailsAre test Changed b c → InsideAre test Changed (nested b) (nested c)
    in_branch : {b c d e : Tree} {condition : ℕ} → TailsAre test Changed b c → TailsAre test Changed d e →
        InsideAre test Changed (branch condition b d) (branch condition c e)
    in_cases : {cs ds : Cases} {selector : ℕ} → CaseTailsAre test Changed cs ds →
        InsideAre test Changed (switch selector cs) (switch selector ds)

  -- the second cases are the first with their tail blocks changed in this way; the body of a case that falls through is
  -- unchanged
  pub data CaseTailsAre (test : Node → Bool) (Changed : Tree → Tree → Type 0) : Cases → Cases → Type 0 where
    no_more : CaseTailsAre test Changed no_cases no_cases
    falling : {value : SwitchValue} {b : Tree} {cs ds : Cases} →
        CaseTailsAre test Changed cs ds → CaseTailsAre test Changed (case value b true cs) (case value b true ds)
    ending : {value : SwitchValue} {b c : Tree} {cs ds : Cases} →
        TailsAre test Changed b c → CaseTailsAre test Changed cs ds →
        CaseTailsAre test Changed (case value b false cs) (case value c false ds)

-- the block with a return appended, which has no value and the undefined span
abbrev pub returned : Tree → Tree
returned block = push block (jump (return None)) undefined

-- the second block is the first with a return appended
abbrev pub GetsReturn : Tree → Tree → Type 0
GetsReturn b c = c ≡ returned b

-- the second block is the first, or the first with a return appended
abbrev pub MayGetReturn : Tree → Tree → Type 0
MayGetReturn b c = (c ≡ b) ⊎ (c ≡ returned b)

-- the second block is the first, closed by the rule: each tail block that gets a return by the rule has got one
abbrev pub ClosedBy : Rule → Tree → Tree → Type 0
ClosedBy rule = TailsAre (follows rule) GetsReturn

-- the block, with a return appended if `gets` is true
abbrev pub returned_if : (gets : Bool) → Tree → Tree
returned_if true block = returned block
returned_if false block = block

abbrev mutual
  -- the closing of a block by the rule, which is the only block that `ClosedBy` relates to it
  pub closed : Rule → Tree → Tree
  closed rule empty = returned empty
  closed rule (push front last span) = returned_if (follows rule last) (push front (closed_inside rule last) span)

  -- the statement with its tail blocks closed
  pub closed_inside : Rule → Node → Node
  closed_inside rule (nested inner) = nested (closed rule inner)
  closed_inside rule (branch condition accept reject) = branch condition (closed rule accept) (closed rule reject)
  closed_inside rule (switch selector cases) = switch selector (closed_cases rule cases)
  closed_inside rule last = last

  -- the cases with their tail blocks closed; the body of a case that falls through is unchanged
  pub closed_cases : Rule → Cases → Cases
  closed_cases rule no_cases = no_cases
  closed_cases rule (case value body true others) = case value body true (closed_cases rule others)
  closed_cases rule (case value body false others) = case value (closed rule body) false (closed_cases rule others)

-- the second block is the first, closed by the old rule: each open tail block has got a return
abbrev pub Closed : Tree → Tree → Type 0
Closed = ClosedBy Old

-- the second block is the first, closed by the new rule: each open tail block has got a return, and so has each tail
-- block that ends in a switch with an exit
abbrev pub FullyClosed : Tree → Tree → Type 0
FullyClosed = ClosedBy New

-- the second block is the first, with a return at the end of some of the open tail blocks, perhaps none
abbrev pub Between : Tree → Tree → Type 0
Between = TailsAre (follows Old) MayGetReturn
