use Rattle.std.proofs.Common.{get_or}
use Rattle.std.proofs.lemmas.Option.{slice_get-get_or}
use Rattle.naga_passes.specs.declared.pass.Pass.TheVariants.{Cull}
use Rattle.naga_passes.proofs.AfterLemmas.{After-all, After-next}
use Rattle.naga_passes.proofs.run.run_passes.Goals as goal

pub returns-in-Err-clause-stopped : goal.returns-in-Err-clause-stopped
returns-in-Err-clause-stopped c = record {
  failed = get_or c.args.passes.now c.passes.position Cull;
  found = slice_get-get_or c.args.passes.now c.passes.position Cull c.passes-test.true;
  middle = c.passes.module;
  before = c.passes.invariant.ran;
  left = c.in-Err.ensures.left;
}

pub passes-preserved : goal.passes-preserved
passes-preserved c = record {
  ran = After-next c.args.passes.now c.passes.position _ c.args.module.now c.passes.module c.run_pass.new.module (slice_get-get_or c.args.passes.now c.passes.position Cull c.passes-test.true) c.passes.invariant.ran c.in_default.ensures.ran;
  valid = c.in_default.ensures.valid;
}

pub returns-clause-ran : goal.returns-clause-ran
returns-clause-ran c =
    After-all c.args.passes.now c.passes.position c.args.module.now c.passes.module c.passes-test.false c.passes.invariant.ran
