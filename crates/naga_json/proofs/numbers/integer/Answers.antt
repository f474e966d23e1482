use Rattle.std.proofs.Common.{rules, sym}
use Rattle.json.specs.Value.{value_view}
use Rattle.naga_json.proofs.ParsesLemmas.{integer_in_reads, integer_in-negative_zero}
use Rattle.naga_json.proofs.numbers.integer.Goals as goal

pub returns-then-eq : goal.returns-then-eq
returns-then-eq c =
    integer_in-negative_zero (value_view c.args.value.now) c.in_ok-text.text.now (search rules) (search rules)

pub returns : goal.returns
returns c =
    sym (integer_in_reads (value_view c.args.value.now) c.in_ok-text.text.now c.as_i64.result (search rules) (search rules) c.as_i64.ensures)
