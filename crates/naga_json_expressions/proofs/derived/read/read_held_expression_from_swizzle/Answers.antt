-- Made by tests/derive from the declarations of naga_kinds and naga_ir.
use Rattle.std.proofs.Common.{drop, sym, take, ◌∙◌}
use Rattle.json.specs.Value.{value_view}
use Rattle.naga_json.proofs.NamesLemmas.{choose-append}
use Rattle.naga_json.specs.derived.Expression.{expression_rows}
use Rattle.naga_json_expressions.proofs.derived.read.read_held_expression_from_swizzle.Goals as goal

pub returns-in_default : goal.returns-in_default
returns-in_default c =
    let other = c.in_default in
    let rows = drop 8 (expression_rows (value_view c.args.held.now)) in
    c.read_held_expression_from_unary.ensures ∙ sym (choose-append (take 8 rows) (drop 8 rows) c.args.name.now
    (other.not-Swizzle, (other.not-FunctionArgument, (other.not-GlobalVariable, (other.not-LocalVariable, (other.not-Load, (other.not-ImageSample, (other.not-ImageLoad, (other.not-ImageQuery, tt)))))))))
