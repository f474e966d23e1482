use Rattle.naga_json_read.proofs.take.module.take_declarations.Goals as goal

pub returns : goal.returns
returns c = record {
  after_types = _;
  after_constants = _;
  after_overrides = _;
  after_variables = _;
  special_types = c.in_ok-special_types.ensures;
  constants = c.in_ok-constants.ensures;
  overrides = c.in_ok-overrides.ensures;
  global_variables = c.in_ok-global_variables.ensures;
  global_expressions = c.in_ok-global_expressions.ensures;
}
