use Rattle.std.proofs.Common.{◌≡◌, ◌∷◌, [], Some, subst}
use Rattle.naga_typing.specs.Checks.{Checks}
use Rattle.naga_typing.specs.Expressions.{of_product}
use Rattle.naga_typing.specs.TypedFunctions.{FitsIn}
use Rattle.naga_typing.specs.declared.requirement.Requirement.TheVariants as requirement
use Rattle.naga_typing.proofs.typed_function.TypedFunction.check_product.Goals as goal

pub returns : goal.returns
returns c =
    let sizes = Some (requirement.Product c.args.a c.args.b c.args.c) in
    let same : c.of_kind.result ∷ c.of_kind-2.result ∷ c.of_kind-3.result ∷ sizes ∷ [] ≡ of_product c.args.a c.args.b c.args.c =
    λ i. c.of_kind.ensures i ∷ c.of_kind-2.ensures i ∷ c.of_kind-3.ensures i ∷ sizes ∷ [] in
    subst (λ xs. Checks (FitsIn c.args.self.now) xs c.check.result) same c.check.ensures
