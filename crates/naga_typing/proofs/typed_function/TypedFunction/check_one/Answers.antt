use Rattle.naga_typing.specs.TypedFunctions.{FitsIn}
use Rattle.naga_typing.proofs.ChecksLemmas.{one-met, one-unmet}
use Rattle.naga_typing.proofs.typed_function.TypedFunction.check_one.Goals as goal

pub returns-in-Some : goal.returns-in-Some
returns-in-Some c = one-unmet (FitsIn c.args.self.now) c.args.slot c.in-Some.unmet c.in-Some.ensures.0 c.in-Some.ensures.1

pub returns-in-None : goal.returns-in-None
returns-in-None c = one-met (FitsIn c.args.self.now) c.args.slot c.in-None.ensures
