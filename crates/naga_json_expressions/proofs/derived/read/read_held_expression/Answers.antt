-- Made by tests/derive from the declarations of naga_kinds and naga_ir.
use Rattle.std.proofs.Common.{drop, sym, take, ◌∙◌}
use Rattle.json.specs.Value.{value_view}
use Rattle.naga_json.proofs.NamesLemmas.{choose-append}
use Rattle.naga_json_values.proofs.ReadsLemmas.{reads_exact}
use Rattle.naga_json.specs.Expression.{value_of}
use Rattle.naga_json.specs.derived.Expression.{expression_rows}
use Rattle.naga_json_expressions.proofs.derived.read.read_held_expression.Goals as goal

pub returns-in_default : goal.returns-in_default
returns-in_default c =
    let other = c.in_default in
    let rows = expression_rows (value_view c.args.held.now) in
    reads_exact value_of c.read_held_expression_from_swizzle.result _
    (c.read_held_expression_from_swizzle.ensures ∙ sym (choose-append (take 8 rows) (drop 8 rows) c.args.name.now
    (other.not-Literal, (other.not-Constant, (other.not-Override, (other.not-ZeroValue, (other.not-Compose, (other.not-Access, (other.not-AccessIndex, (other.not-Splat, tt))))))))))
