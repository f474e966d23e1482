use Rattle.std.proofs.Common.{◌≡◌, ◌+◌, ◌*◌, ◌++◌, drop, map, Some}
use Rattle.json.specs.Value.{items_view}
use Rattle.naga_json.specs.Block.{block_after, block_within, case_codec, statement_codec}
use Rattle.naga_json.specs.Lists.{each_of}
use Rattle.naga_json.specs.Numbers.{◌>>=◌}
use Rattle.naga_json.specs.StatementValue.{empty, value_of_block, value_of_case}
use Rattle.naga_json_bodies.proofs.read.+block.Given as goal

-- the statements from the position on, after those before it, are all statements
abbrev pub invariant-read_each_statement-statements : goal.invariant-read_each_statement-statements
invariant-read_each_statement-statements l =
    block_after (statement_codec (block_within l.depth)).decode (items_view (drop l.item-index l.items.items)) (value_of_block l.block)
    ≡ block_after (statement_codec (block_within l.depth)).decode (items_view l.items.items) empty

-- the cases before the position, followed by those from it on, are all cases
abbrev pub invariant-read_cases-cases : goal.invariant-read_cases-cases
invariant-read_cases-cases l =
    each_of (case_codec (block_within l.depth)).decode (items_view l.items.items)
    ≡ (each_of (case_codec (block_within l.depth)).decode (items_view (drop l.item-index l.items.items)) >>= λ rest. Some (map value_of_case l.cases.items ++ rest))

abbrev pub decreases-read_inner_block : goal.decreases-read_inner_block
decreases-read_inner_block l = 8 * l.depth

abbrev pub decreases-read_case : goal.decreases-read_case
decreases-read_case l = 8 * l.depth + 1

abbrev pub decreases-read_cases : goal.decreases-read_cases
decreases-read_cases l = 8 * l.depth + 2

abbrev pub decreases-read_if : goal.decreases-read_if
decreases-read_if l = 8 * l.depth + 3

abbrev pub decreases-read_switch : goal.decreases-read_switch
decreases-read_switch l = 8 * l.depth + 3

abbrev pub decreases-read_loop : goal.decreases-read_loop
decreases-read_loop l = 8 * l.depth + 3

abbrev pub decreases-read_held_statement : goal.decreases-read_held_statement
decreases-read_held_statement l = 8 * l.depth + 4

abbrev pub decreases-read_inner_statement : goal.decreases-read_inner_statement
decreases-read_inner_statement l = 8 * l.depth + 5

abbrev pub decreases-read_each_statement : goal.decreases-read_each_statement
decreases-read_each_statement l = 8 * l.depth + 6

abbrev pub decreases-read_statements : goal.decreases-read_statements
decreases-read_statements l = 8 * l.depth + 7
