use Rattle.naga_json_read.proofs.take.function.take_signature.Goals as goal

pub returns : goal.returns
returns c = record {
  after_name = _;
  after_arguments = _;
  name = c.in_ok-name.ensures;
  arguments = c.in_ok-arguments.ensures;
  result = c.in_ok-result.ensures;
}
