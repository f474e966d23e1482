use Rattle.std.proofs.Common.{get_or, refl, subst, sym}
use Rattle.std.proofs.lemmas.Option.{slice_get-get_or}
use Rattle.naga_passes.specs.declared.pass.Pass.TheVariants.{Cull}
use Rattle.naga_look.specs.Stats.{Accounts}
use Rattle.naga_look.proofs.StatsLemmas.{Accounts-After, Accounts-all, Accounts-next, StopsCounting-left}
use Rattle.naga_look.proofs.stats.run_counted.Goals as goal

pub passes-init : goal.passes-init
passes-init c = record { counted = (refl, c.new-counts.ensures.items, c.new-notes.ensures); valid = c.requires.valid }

pub returns-in-Err-clause-stopped : goal.returns-in-Err-clause-stopped
returns-in-Err-clause-stopped c =
    StopsCounting-left c.args.detail c.args.passes.now c.passes.position (get_or c.args.passes.now c.passes.position Cull) _ c.args.module.now c.passes.module _ c.passes.counts.items c.passes.notes
    (slice_get-get_or c.args.passes.now c.passes.position Cull c.passes-test.true) c.passes.invariant.counted c.in-Err.ensures.left

pub passes-preserved : goal.passes-preserved
passes-preserved c = record {
  counted = Accounts-next c.args.detail c.args.passes.now c.passes.position (get_or c.args.passes.now c.passes.position Cull) c.args.module.now c.passes.module c.run_one.new.module c.passes.counts.items c.run_one.new.counts.items c.passes.notes c.run_one.new.notes
      (slice_get-get_or c.args.passes.now c.passes.position Cull c.passes-test.true) c.passes.invariant.counted c.in_default.ensures.ran c.in_default.ensures.counts c.in_default.ensures.notes;
  valid = c.in_default.ensures.valid;
}

pub returns-clause-counted : goal.returns-clause-counted
returns-clause-counted c =
    subst (Accounts c.args.detail c.args.passes.now c.args.module.now c.passes.module c.passes.counts.items) (sym c.finish.ensures)
    (Accounts-all c.args.detail c.args.passes.now c.passes.position c.args.module.now c.passes.module c.passes.counts.items c.passes.notes c.passes-test.false c.passes.invariant.counted)

pub returns-clause-ran : goal.returns-clause-ran
returns-clause-ran c =
    Accounts-After c.args.detail c.args.passes.now c.args.module.now c.passes.module c.passes.counts.items c.passes.notes
    (Accounts-all c.args.detail c.args.passes.now c.passes.position c.args.module.now c.passes.module c.passes.counts.items c.passes.notes c.passes-test.false c.passes.invariant.counted)
