-- Made by tests/derive from the declarations of naga_kinds and naga_ir.
use Rattle.std.proofs.Common.{subst}
use Rattle.std.specs.Prelude.{[], List, Option, Some, ℕ, ◌∷◌}
use Rattle.naga_valid.specs.Reference.{present}
use Rattle.naga_valid.specs.Visits.{IsWalk}
use Rattle.naga_valid.proofs.derived.expression.visit_image_sample.Goals as goal

pub returns : goal.returns
returns g c =
    subst (λ (list : List (Option ℕ)). IsWalk g.V.Visitor.visits c.args.visitor.now (present list) c.each_present.result c.each_present.new.visitor)
    (λ i. Some c.args.image ∷ Some c.args.sampler ∷ Some c.args.coordinate ∷ c.args.array_index ∷ c.args.offset ∷ c.first_of_sample_level-level_first.ensures i ∷ c.second_of_sample_level-level_second.ensures i ∷ c.args.depth_ref ∷ [])
    c.each_present.ensures
