use Rattle.std.proofs.Common.{subst, sym}
use Rattle.naga_typing.specs.Checks.{Checks}
use Rattle.naga_typing.specs.Statements.{required}
use Rattle.naga_typing.specs.TypedFunctions.{FitsIn}
use Rattle.naga_typing.proofs.typed_function.TypedFunction.check_plain.Goals as goal

pub returns-in-Atomic : goal.returns-in-Atomic
returns-in-Atomic c =
    subst (λ s. Checks (FitsIn c.args.self.now) (required s) c.check_atomic.result) (sym c.in-Atomic.is) c.check_atomic.ensures

pub returns-in-ImageAtomic : goal.returns-in-ImageAtomic
returns-in-ImageAtomic c =
    subst (λ s. Checks (FitsIn c.args.self.now) (required s) c.check_image_atomic.result) (sym c.in-ImageAtomic.is) c.check_image_atomic.ensures
