use Rattle.std.proofs.Common.{refl, rules}
use Rattle.naga_typing.specs.Statements.{of_kind}
use Rattle.naga_typing.specs.TypedFunctions.{FitsIn}
use Rattle.naga_typing.specs.declared.requirement.Expected.TheVariants as expected
use Rattle.naga_typing.specs.declared.requirement.Requirement.TheVariants as requirement
use Rattle.naga_typing.proofs.ChecksLemmas.{one-unmet}
use Rattle.naga_typing.proofs.typed_function.TypedFunction.check_kind.Goals as goal

pub returns : goal.returns
returns c =
    let fails : ¬ FitsIn c.args.self.now (of_kind c.args.operand c.args.kind) = search rules in
    one-unmet (FitsIn c.args.self.now) (of_kind c.args.operand c.args.kind)
    (requirement.Operand c.args.operand (expected.Kind c.args.kind)) refl fails
