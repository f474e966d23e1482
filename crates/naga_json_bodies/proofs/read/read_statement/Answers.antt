use Rattle.naga_json.specs.Fields.{struct_in}
use Rattle.naga_json_bodies.proofs.read.read_statement.Goals as goal

pub returns : goal.returns
unfolding struct_in
returns c = c.read_inner_statement.ensures
