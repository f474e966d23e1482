use Rattle.naga_json_read.proofs.take.entry_point.take_invocation.Goals as goal

pub returns : goal.returns
returns c = record {
  after_name = _;
  after_stage = _;
  after_test = _;
  after_size = _;
  name = c.in_ok-name.ensures;
  stage = c.in_ok-stage.ensures;
  early_depth_test = c.in_ok-early_depth_test.ensures;
  workgroup_size = c.in_ok-workgroup_size.ensures;
  workgroup_size_overrides = c.in_ok-workgroup_size_overrides.ensures;
}
