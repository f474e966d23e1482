use Rattle.std.proofs.Common.{◌≡◌, ◌∙◌, ◌∷◌, [], ap, subst}
use Rattle.naga_typing.specs.Checks.{Checks}
use Rattle.naga_typing.specs.Statements.{atomic_result, of_atomic, of_kind, of_type_if}
use Rattle.naga_typing.specs.TypedFunctions.{FitsIn}
use Rattle.naga_typing.specs.declared.requirement.Kind.TheVariants as kind
use Rattle.naga_typing.specs.declared.requirement.Source.TheVariants as source
use Rattle.naga_typing.proofs.typed_function.TypedFunction.check_atomic.Goals as goal

pub returns : goal.returns
returns c =
    let pointer = c.args.pointer in
    let combined = c.of_kind-2.ensures ∙ ap (λ of. of_kind c.args.value (kind.Single of)) c.combined.ensures in
    let compare = c.of_type_if.ensures ∙ ap (of_type_if (source.AtomicScalar pointer)) c.compared-compare.ensures in
    let from = c.atomic_result-source.ensures ∙ ap (atomic_result pointer) c.compared-compare.ensures in
    let outcome = c.of_type_if-2.ensures ∙ ap (λ s. of_type_if s c.args.outcome) from in
    let same : c.of_kind.result ∷ c.of_type.result ∷ c.of_kind-2.result ∷ c.of_type_if.result ∷ c.of_type_if-2.result ∷ [] ≡ of_atomic pointer c.args.fun.now c.args.value c.args.outcome =
    λ i. c.of_kind.ensures i ∷ c.of_type.ensures i ∷ combined i ∷ compare i ∷ outcome i ∷ [] in
    subst (λ xs. Checks (FitsIn c.args.self.now) xs c.check.result) same c.check.ensures
