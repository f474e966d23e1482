use Rattle.std.proofs.Common.{◌≡◌, ◌∷◌, [], subst}
use Rattle.naga_kinds.specs.declared.scalar.TheConstants.Scalar.{U32}
use Rattle.naga_typing.specs.Checks.{Checks}
use Rattle.naga_typing.specs.Statements.{of_kind, of_type, of_type_if}
use Rattle.naga_typing.specs.TypedFunctions.{FitsIn}
use Rattle.naga_typing.specs.declared.requirement.Kind.TheVariants as kind
use Rattle.naga_typing.specs.declared.requirement.Scalars.TheVariants as scalars
use Rattle.naga_typing.specs.declared.requirement.Source.TheVariants as source
use Rattle.naga_typing.proofs.typed_function.TypedFunction.check_gather.Goals as goal

pub returns : goal.returns
returns c =
    let same : c.of_type_if.result ∷ c.of_type.result ∷ c.of_kind.result ∷ []
    ≡ of_type_if (source.Scalar U32) c.args.index ∷ of_type (source.Same c.args.outcome) c.args.argument ∷ of_kind c.args.argument (kind.Components scalars.Any) ∷ [] =
    λ i. c.of_type_if.ensures i ∷ c.of_type.ensures i ∷ c.of_kind.ensures i ∷ [] in
    subst (λ xs. Checks (FitsIn c.args.self.now) xs c.check.result) same c.check.ensures
