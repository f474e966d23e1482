use Rattle.naga_ir.proofs.TypeOfLemmas.{uniform_type-decides}
use Rattle.naga_ir.proofs.laws.equality.lengths_and_uniforms_are_equal_field_by_field.Goals as goal

pub returns-clause-uniforms : goal.returns-clause-uniforms
returns-clause-uniforms c = uniform_type-decides c.args.uniforms.0 c.args.uniforms.1
