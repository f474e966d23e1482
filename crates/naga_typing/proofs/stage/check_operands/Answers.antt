use Rattle.std.proofs.Common.{subst, sym}
use Rattle.naga_arena.specs.Arena.{values}
use Rattle.naga_typing.specs.Faults.{IsFirstUnfit}
use Rattle.naga_typing.specs.TypedFunctions.{FitsIn}
use Rattle.naga_typing.proofs.stage.check_operands.Goals as goal

pub returns-in-Err : goal.returns-in-Err
returns-in-Err c = (
  subst (IsFirstUnfit (FitsIn c.args.typed.now) (values c.args.expressions.now) c.args.count c.in-Err.unfit.expression) (sym c.unmet.ensures.required) c.in-Err.ensures,
  c.unmet.ensures.found,
)
