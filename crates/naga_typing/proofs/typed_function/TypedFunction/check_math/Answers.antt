use Rattle.std.proofs.Common.{◌≡◌, ◌∷◌, [], subst}
use Rattle.naga_typing.specs.Checks.{Checks}
use Rattle.naga_typing.specs.Expressions.{of_math}
use Rattle.naga_typing.specs.TypedFunctions.{FitsIn}
use Rattle.naga_typing.proofs.typed_function.TypedFunction.check_math.Goals as goal

pub returns : goal.returns
returns c =
    let same : c.given.result ∷ c.given-2.result ∷ c.given-3.result ∷ c.of_second.result ∷ c.of_third.result ∷ c.of_type_if.result ∷ []
    ≡ of_math c.args.fun c.args.first c.args.arg1 c.args.arg2 c.args.arg3 =
    λ i. c.given.ensures i ∷ c.given-2.ensures i ∷ c.given-3.ensures i ∷ c.of_second.ensures i ∷ c.of_third.ensures i ∷ c.of_type_if.ensures i ∷ [] in
    subst (λ xs. Checks (FitsIn c.args.self.now) xs c.check.result) same c.check.ensures
