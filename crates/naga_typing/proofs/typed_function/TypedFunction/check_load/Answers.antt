use Rattle.std.proofs.Common.{◌≡◌, ◌∷◌, [], Some, ap, subst}
use Rattle.naga_typing.specs.Checks.{Checks}
use Rattle.naga_typing.specs.Expressions.{of_load}
use Rattle.naga_typing.specs.TypedFunctions.{FitsIn}
use Rattle.naga_typing.specs.declared.requirement.Requirement.TheVariants as requirement
use Rattle.naga_typing.proofs.typed_function.TypedFunction.check_load.Goals as goal

pub returns : goal.returns
returns c =
    let image = c.args.image in
    let layers = ap (λ given. Some (requirement.Layers image given)) c.is_some.ensures in
    let samples = ap (λ given. Some (requirement.Samples image given)) c.is_some-2.ensures in
    let levels = ap (λ given. Some (requirement.Levels image given)) c.is_some-3.ensures in
    let same : c.of_kind.result ∷ c.of.result ∷ Some (requirement.Layers image c.is_some.result) ∷ c.integer_if.result ∷ Some (requirement.Samples image c.is_some-2.result)
    ∷ c.integer_if-2.result ∷ Some (requirement.Levels image c.is_some-3.result) ∷ c.integer_if-3.result ∷ []
    ≡ of_load image c.args.coordinate c.args.array_index c.args.sample c.args.level =
    λ i. c.of_kind.ensures i ∷ c.of.ensures i ∷ layers i ∷ c.integer_if.ensures i ∷ samples i ∷ c.integer_if-2.ensures i ∷ levels i ∷ c.integer_if-3.ensures i ∷ [] in
    subst (λ xs. Checks (FitsIn c.args.self.now) xs c.check.result) same c.check.ensures
