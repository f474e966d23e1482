-- The ways in which control can leave a block, by the form of the block. Statements that control never reaches make no
-- difference.
use Rattle.std.specs.Prelude.{Bool, true, false, not, ◌&&◌, ◌||◌, if◌then◌else◌}
use Rattle.naga_ir.specs.Tree.{Tree, empty, push, Node, plain, nested, branch, switch, loop, jump, Jump, break, continue, Cases, no_cases, case}
use Rattle.naga_runs.specs.Exits.{has_default, last_falls}
use Rattle.naga_runs.specs.Runs.{values}
use Rattle.naga_runs.specs.declared.run.Ending.{Ending}
use Rattle.naga_runs.specs.declared.run.Ending.TheVariants.{Normal, Break, Continue}
use Rattle.naga_flow.specs.declared.ways.Ways.{Ways}

-- a run of a block with these ways may end like this
abbrev pub has_way : Ways → Ending → Bool
has_way ways Normal = ways.falls_off
has_way ways Break = ways.breaks
has_way ways Continue = ways.continues
has_way ways _ = true

-- the end only, if it may be reached
abbrev pub only_off : Bool → Ways
only_off falls_off = record { falls_off = falls_off; breaks = false; continues = false }

-- the ways of two blocks, one of which is run
abbrev pub either : Ways → Ways → Ways
either first second = record {
  falls_off = first.falls_off || second.falls_off;
  breaks = first.breaks || second.breaks;
  continues = first.continues || second.continues;
}

-- a block, and a statement after it
abbrev pub followed : Ways → Ways → Ways
followed first second =
    if first.falls_off then record (either first second) { falls_off = second.falls_off } else first

-- control may go on to the continuing block after the body of a loop with these ways
abbrev pub may_go_on : Ways → Bool
may_go_on ways = ways.falls_off || ways.continues

-- the ways of a jump
abbrev pub ways_of_jump : Jump → Ways
ways_of_jump break = record { falls_off = false; breaks = true; continues = false }
ways_of_jump continue = record { falls_off = false; breaks = false; continues = true }
ways_of_jump to = only_off false

-- a switch, by a case whose body has these ways
abbrev pub out_of_case : (falls_through : Bool) → Ways → Ways
out_of_case falls_through body = record {
  falls_off = body.breaks || (not falls_through && body.falls_off);
  breaks = false;
  continues = body.continues;
}

-- control may pass the switch without a break: no case need be entered, or the last case falls through
abbrev pub may_be_passed : Cases → Bool
may_be_passed cases = not (has_default (values cases)) || last_falls cases

abbrev mutual
  -- the ways of a block
  pub ways_of : Tree → Ways
  ways_of empty = only_off true
  ways_of (push front last span) = followed (ways_of front) (ways_of_node last)

  -- the ways of a block that has only this statement
  pub ways_of_node : Node → Ways
  ways_of_node (plain what) = only_off true
  ways_of_node (nested inner) = ways_of inner
  ways_of_node (branch condition accept reject) = either (ways_of accept) (ways_of reject)
  ways_of_node (switch selector cases) = either (only_off (may_be_passed cases)) (ways_of_cases cases)
  ways_of_node (loop body continuing break_if) = only_off true
  ways_of_node (jump to) = ways_of_jump to

  -- the ways of a switch, by the bodies of its cases
  pub ways_of_cases : Cases → Ways
  ways_of_cases no_cases = only_off false
  ways_of_cases (case value body falls_through others) = either (out_of_case falls_through (ways_of body)) (ways_of_cases others)
