-- The blocks in which each jump is allowed where it is: a break in a loop or a switch, a continue in a loop, a return
-- or a kill anywhere else, and no jump in a continuing block or out of it.
--
-- What may leave a block inside another one is handed down: a return or a kill in a loop inside a continuing block
-- would leave that block, so neither is allowed there.
use Rattle.std.specs.Prelude.{Bool, true, false, ◌&&◌}
use Rattle.naga_ir.specs.Tree.{Tree, empty, push, Node, plain, nested, branch, switch, loop, jump, Jump, break, continue, kill, return, Cases, no_cases, case}
use Rattle.naga_runs.specs.declared.run.Ending.{Ending}
use Rattle.naga_runs.specs.declared.run.Ending.TheVariants.{Normal, Break, Continue, Return, Kill, Cut}
use Rattle.naga_flow.specs.declared.exits.Exits.{Exits}

-- the body of a function can be left by a return and by a kill
abbrev pub of_function : Exits
of_function = record { by_break = false; by_continue = false; by_return = true; by_kill = true }

-- the body of a case can be left as the switch can, and by a break
abbrev pub in_case : Exits → Exits
in_case around = record around { by_break = true }

-- the body of a loop can be left by a break and by a continue, and by a return and by a kill where the loop can
abbrev pub in_body_of_loop : Exits → Exits
in_body_of_loop around =
    record { by_break = true; by_continue = true; by_return = around.by_return; by_kill = around.by_kill }

-- no jump leaves a continuing block
abbrev pub of_continuing : Exits
of_continuing = record { by_break = false; by_continue = false; by_return = false; by_kill = false }

-- a jump may leave a block with these exits
abbrev pub allows : Exits → Jump → Bool
allows around break = around.by_break
allows around continue = around.by_continue
allows around (return value) = around.by_return
allows around kill = around.by_kill

abbrev mutual
  -- each jump in a block with these exits is allowed where it is
  pub is_structured : Exits → Tree → Bool
  is_structured around empty = true
  is_structured around (push front last span) = is_structured around front && node_is_structured around last

  -- each jump in a statement of a block with these exits is allowed where it is
  pub node_is_structured : Exits → Node → Bool
  node_is_structured around (plain what) = true
  node_is_structured around (nested inner) = is_structured around inner
  node_is_structured around (branch condition accept reject) = is_structured around accept && is_structured around reject
  node_is_structured around (switch selector cases) = cases_are_structured around cases
  node_is_structured around (loop body continuing break_if) =
      is_structured (in_body_of_loop around) body && is_structured of_continuing continuing
  node_is_structured around (jump to) = allows around to

  pub cases_are_structured : Exits → Cases → Bool
  cases_are_structured around no_cases = true
  cases_are_structured around (case value body falls_through others) =
      is_structured (in_case around) body && cases_are_structured around others

-- each jump in the body of a function is allowed where it is
abbrev pub jumps_are_structured : Tree → Bool
jumps_are_structured = is_structured of_function

-- a run of a block with these exits may end like this
abbrev pub may_end : Exits → Ending → Bool
may_end around Normal = true
may_end around Break = around.by_break
may_end around Continue = around.by_continue
may_end around (Return value) = around.by_return
may_end around Kill = around.by_kill
may_end around Cut = true
