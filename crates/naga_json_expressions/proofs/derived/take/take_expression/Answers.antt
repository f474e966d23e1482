-- Made by tests/derive from the declarations of naga_kinds and naga_ir.
use Rattle.std.proofs.Common.{rules}
use Rattle.naga_json.specs.Objects.{choose}
use Rattle.naga_json_tokens.proofs.TakesHolderLemmas.{takes_holder}
use Rattle.naga_json_tokens.proofs.TakesMapLemmas.{takes_named_as}
use Rattle.naga_json.specs.Expression.{value_of}
use Rattle.naga_json.specs.derived.Expression.{expression_form, expression_rows}
use Rattle.naga_json_expressions.proofs.derived.take.take_expression.Goals as goal

pub returns-in-String : goal.returns-in-String
returns-in-String c =
    takes_named_as value_of c.in-String.name.now expression_form.decode c.named_expression.result c.args.reader.now c.next.new.self (search rules) c.named_expression.ensures

pub returns-in_ok-take_end-in-BeginObject : goal.returns-in_ok-take_end-in-BeginObject
returns-in_ok-take_end-in-BeginObject c =
    let name = c.in_ok-name-in-BeginObject in
    let found = c.in_ok-found-in-BeginObject in
    takes_holder name.name.now (λ j. choose (expression_rows j) name.name.now) (value_of found.found) expression_form.decode (value_of found.found) c.args.reader.now c.next.new.self _ _ c.take_end.new.reader
    (search rules) name.ensures found.ensures c.in_ok-take_end-in-BeginObject.ensures (λ j is. is)
