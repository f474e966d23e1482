use Rattle.std.proofs.Common.{refl, rules}
use Rattle.naga_typing.specs.Expressions.{of}
use Rattle.naga_typing.specs.TypedFunctions.{FitsIn}
use Rattle.naga_typing.specs.declared.requirement.Requirement.TheVariants as requirement
use Rattle.naga_typing.proofs.ChecksLemmas.{one-unmet}
use Rattle.naga_typing.proofs.typed_function.TypedFunction.check_expected.Goals as goal

pub returns : goal.returns
returns c =
    let fails : ¬ FitsIn c.args.self.now (of c.args.expected c.args.operand) = search rules in
    one-unmet (FitsIn c.args.self.now) (of c.args.expected c.args.operand)
    (requirement.Operand c.args.operand c.args.expected) refl fails
