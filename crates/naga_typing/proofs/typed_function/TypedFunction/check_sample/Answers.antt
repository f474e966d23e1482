use Rattle.std.proofs.Common.{◌≡◌, ◌∙◌, ◌∷◌, [], Some, ap, subst}
use Rattle.naga_typing.specs.Checks.{Checks}
use Rattle.naga_typing.specs.Expressions.{of, of_if, of_sample}
use Rattle.naga_typing.specs.Statements.{of_kind}
use Rattle.naga_typing.specs.TypedFunctions.{FitsIn}
use Rattle.naga_typing.specs.declared.requirement.Kind.TheVariants as kind
use Rattle.naga_typing.specs.declared.requirement.Requirement.TheVariants as requirement
use Rattle.naga_typing.proofs.typed_function.TypedFunction.check_sample.Goals as goal

pub returns : goal.returns
returns c =
    let image = c.args.image in
    let sampler = c.of_kind.ensures ∙ ap (λ given. of_kind c.args.sampler (kind.Sampler given)) c.is_some-compares.ensures in
    let layers = ap (λ given. Some (requirement.Layers image given)) c.is_some-has_index.ensures in
    let coordinate = c.of.ensures ∙ ap (λ what. of what c.args.coordinate) c.float_position.ensures in
    let depth = c.of_if.ensures ∙ ap (λ what. of_if what c.args.depth_ref) c.float.ensures in
    let same : c.of_sampled.result ∷ c.of_depths.result ∷ c.of_kind.result ∷ c.of.result ∷ Some (requirement.Layers image c.is_some-has_index.result)
    ∷ c.integer_if.result ∷ c.of_type_if.result ∷ c.of_level.result ∷ c.of_derivative.result ∷ c.of_if.result ∷ []
    ≡ of_sample image c.args.sampler c.args.gather c.args.coordinate c.args.array_index c.args.offset c.args.level.now c.args.depth_ref =
    λ i. c.of_sampled.ensures i ∷ c.of_depths.ensures i ∷ sampler i ∷ coordinate i ∷ layers i
    ∷ c.integer_if.ensures i ∷ c.of_type_if.ensures i ∷ c.of_level.ensures i ∷ c.of_derivative.ensures i ∷ depth i ∷ [] in
    subst (λ xs. Checks (FitsIn c.args.self.now) xs c.check.result) same c.check.ensures
