use Rattle.std.proofs.Common.{subst, sym}
use Rattle.naga_passes.specs.After.{Transforms}
use Rattle.naga_passes.specs.declared.pass.Pass.{Pass}
use Rattle.naga_passes.proofs.RestrictsModuleLemmas.{HandlesAreValid-restrict_error, HandlesAreValid-restricted}
use Rattle.naga_passes.proofs.run.run_pass.Goals as goal

pub returns-in_ok-compact-in-Compact-clause-ran : goal.returns-in_ok-compact-in-Compact-clause-ran
returns-in_ok-compact-in-Compact-clause-ran c =
    subst (λ (pass : Pass). Transforms pass c.args.module.now c.compact.new.module) (sym c.in-Compact.is)
    (c.in_ok-compact-in-Compact.field-0, c.in_ok-compact-in-Compact.ensures.compacted)

pub returns-in-Err-clause-valid : goal.returns-in-Err-clause-valid
returns-in-Err-clause-valid c = HandlesAreValid-restrict_error c.args.module.now c.restrict.new.module c.in-Err.error c.in-Err.ensures c.requires.valid

pub returns-in_default-clause-valid : goal.returns-in_default-clause-valid
returns-in_default-clause-valid c = HandlesAreValid-restricted c.args.module.now c.restrict.new.module c.in_default.ensures c.requires.valid
