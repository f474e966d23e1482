use Rattle.std.proofs.Common.{◌≡◌, List, None, drop, length, subst}
use Rattle.naga_arena.specs.Arena.{values}
use Rattle.naga_layouter.specs.Layout.{IsStopped, laying}
use Rattle.naga_layouter.specs.declared.layouter.TypeLayout.{TypeLayout}
use Rattle.naga_layouter.proofs.CheckLemmas.{error-invalid}
use Rattle.naga_layouter.proofs.check.lay_all.Goals as goal

pub returns-in-Ok : goal.returns-in-Ok
returns-in-Ok c =
    let ctx = c.args.gctx in
    subst (λ (old : List TypeLayout). laying ctx old (drop (length old) (values ctx.types.now)) ≡ (c.update.new.self, None))
    c.new-layouter.ensures c.in-Ok.ensures.all

pub returns-in-Err : goal.returns-in-Err
returns-in-Err c = λ variables.
    let ctx = c.args.gctx in
    error-invalid ctx variables c.update.new.self c.in-Err.error c.invalid_of.result
    (subst (λ (old : List TypeLayout). IsStopped ctx old (drop (length old) (values ctx.types.now)) c.in-Err.error c.update.new.self)
    c.new-layouter.ensures c.in-Err.ensures.stopped)
    c.invalid_of.ensures
