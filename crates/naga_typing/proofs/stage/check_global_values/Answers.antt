use Rattle.naga_typing.proofs.TypedModulesLemmas.{DeclarationsAreTyped-stages, AreInvalidDeclarations-expression, AreInvalidDeclarations-initial}
use Rattle.naga_typing.proofs.stage.check_global_values.Goals as goal

pub returns-in-Ok-check_global_initials : goal.returns-in-Ok-check_global_initials
returns-in-Ok-check_global_initials c =
    DeclarationsAreTyped-stages c.args.typed.now c.requires.empty c.in-Ok.ensures c.in-Ok-check_global_initials.ensures

pub returns-in-Err-check_global_initials : goal.returns-in-Err-check_global_initials
returns-in-Err-check_global_initials c =
    AreInvalidDeclarations-initial c.args.typed.now c.requires.empty c.in-Ok.ensures c.in-Err-check_global_initials.fault
    c.in-Err-check_global_initials.ensures

pub returns-in-Err : goal.returns-in-Err
returns-in-Err c = AreInvalidDeclarations-expression c.args.typed.now c.requires.empty c.in-Err.stop c.in-Err.ensures
