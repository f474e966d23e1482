use Rattle.std.proofs.Common.{◌+◌, ◌*◌, length, map}
use Rattle.naga_json.specs.Block.{block_within, case_codec, statement_codec}
use Rattle.naga_json.specs.StatementValue.{value_of_block, value_of_case}
use Rattle.naga_json_tokens.proofs.TakesItems.{TakesItems, TakesStatements}
use Rattle.naga_json_bodies.proofs.take.+block.Given as goal

abbrev pub invariant-take_statements-statements : goal.invariant-take_statements-statements
invariant-take_statements-statements l =
    TakesStatements (statement_codec (block_within l.depth)).decode (value_of_block l.block) l.initial.reader l.reader

abbrev pub invariant-take_cases-cases : goal.invariant-take_cases-cases
invariant-take_cases-cases l =
    TakesItems (case_codec (block_within l.depth)).decode (map value_of_case l.cases.items) l.initial.reader l.reader

abbrev pub decreases-take_statements-statements : goal.decreases-take_statements-statements
decreases-take_statements-statements l = length l.reader

abbrev pub decreases-take_cases-cases : goal.decreases-take_cases-cases
decreases-take_cases-cases l = length l.reader

abbrev pub decreases-take_inner_block : goal.decreases-take_inner_block
decreases-take_inner_block l = 16 * l.depth

abbrev pub decreases-take_block_field : goal.decreases-take_block_field
decreases-take_block_field l = 16 * l.depth + 1

abbrev pub decreases-take_case : goal.decreases-take_case
decreases-take_case l = 16 * l.depth + 2

abbrev pub decreases-take_cases : goal.decreases-take_cases
decreases-take_cases l = 16 * l.depth + 3

abbrev pub decreases-take_if : goal.decreases-take_if
decreases-take_if l = 16 * l.depth + 4

abbrev pub decreases-take_switch : goal.decreases-take_switch
decreases-take_switch l = 16 * l.depth + 4

abbrev pub decreases-take_loop : goal.decreases-take_loop
decreases-take_loop l = 16 * l.depth + 4

abbrev pub decreases-take_held_statement : goal.decreases-take_held_statement
decreases-take_held_statement l = 16 * l.depth + 5

abbrev pub decreases-take_inner_statement : goal.decreases-take_inner_statement
decreases-take_inner_statement l = 16 * l.depth + 6

abbrev pub decreases-take_statements : goal.decreases-take_statements
decreases-take_statements l = 16 * l.depth + 7
