use Rattle.naga_typing.specs.Statements.{of_combined, of_image}
use Rattle.naga_typing.specs.TypedFunctions.{FitsIn}
use Rattle.naga_typing.specs.declared.requirement.Source.TheVariants as source
use Rattle.naga_typing.proofs.ChecksLemmas.{Checks-ended, Checks-then}
use Rattle.naga_typing.proofs.typed_function.TypedFunction.check_image_atomic.Goals as goal

pub returns-in-Ok : goal.returns-in-Ok
returns-in-Ok c =
    Checks-then (FitsIn c.args.self.now) (of_image c.args.image c.args.coordinate c.args.array_index (source.Component c.args.image) c.args.value)
    (of_combined (source.Component c.args.image) c.args.fun.now c.args.value) c.check_combined.result c.in-Ok.ensures c.check_combined.ensures

pub returns-in-Err : goal.returns-in-Err
returns-in-Err c =
    Checks-ended (FitsIn c.args.self.now) (of_image c.args.image c.args.coordinate c.args.array_index (source.Component c.args.image) c.args.value)
    (of_combined (source.Component c.args.image) c.args.fun.now c.args.value) c.in-Err.unmet c.in-Err.ensures
