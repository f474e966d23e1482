use Rattle.naga_json_read.proofs.take.function.take_content.Goals as goal

pub returns : goal.returns
returns c = record {
  after_variables = _;
  after_expressions = _;
  after_names = _;
  after_body = _;
  after_leaf = _;
  local_variables = c.in_ok-local_variables.ensures;
  expressions = c.in_ok-expressions.ensures;
  named_expressions = c.in_ok-named_expressions.ensures;
  body = c.in_ok-body.ensures;
  diagnostic_filter_leaf = c.in_ok-diagnostic_filter_leaf.ensures;
  ended = c.in_ok-take_end.ensures;
}
