use Rattle.std.proofs.Common.{subst, sym}
use Rattle.naga_typing.specs.Faults.{IsFirstUnmetAt}
use Rattle.naga_typing.specs.Initials.{initials}
use Rattle.naga_typing.specs.TypedFunctions.{FitsIn}
use Rattle.naga_typing.proofs.stage.check_initials.Goals as goal

pub returns-in-Err : goal.returns-in-Err
returns-in-Err c =
    let typed = c.args.typed.now in (
      c.in-Err.found.position,
      c.declaration_at.ensures,
      subst (IsFirstUnmetAt (FitsIn typed) (initials typed.«module».now typed.function.now c.args.kind) c.in-Err.found.position) (sym c.unmet.ensures.required) c.in-Err.ensures.1,
      c.unmet.ensures.found,
    )
