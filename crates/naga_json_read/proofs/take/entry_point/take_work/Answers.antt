use Rattle.naga_json_read.proofs.take.entry_point.take_work.Goals as goal

pub returns : goal.returns
returns c = record {
  after_function = _;
  after_info = _;
  after_payload = _;
  after_incoming = _;
  function = c.in_ok-function.ensures;
  mesh_info = c.in_ok-mesh_info.ensures;
  task_payload = c.in_ok-task_payload.ensures;
  incoming_ray_payload = c.in_ok-incoming_ray_payload.ensures;
  ended = c.in_ok-take_end.ensures;
}
