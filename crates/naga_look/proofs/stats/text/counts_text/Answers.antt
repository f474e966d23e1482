use Rattle.std.proofs.Common.{◌∙◌, ◌++◌, ap, get_or}
use Rattle.std.proofs.lemmas.Option.{slice_get-get_or}
use Rattle.std.specs.Prelude.{flat_map, string_bytes}
use Rattle.naga_passes.specs.declared.pass.Pass.TheVariants.{Cull}
use Rattle.naga_look.specs.StatsText.{counts_line}
use Rattle.naga_look.specs.declared.stats.PassCounts.{PassCounts}
use Rattle.naga_look.proofs.StatsLemmas.{appended-all, appended-next, appended-none}
use Rattle.naga_look.proofs.stats.text.counts_text.Goals as goal

pub passes-init : goal.passes-init
passes-init c = appended-none counts_line c.args.counts.now (string_bytes c.new-text.result)

pub passes-preserved : goal.passes-preserved
passes-preserved c =
    let other : PassCounts = record { pass = Cull; removed = record { statements = 0; types = 0; constants = 0; overrides = 0; global_variables = 0; global_expressions = 0; functions = 0; expressions = 0 }; returns_inserted = 0; expressions_inserted = 0 } in
    appended-next counts_line c.args.counts.now c.passes.pass-index (get_or c.args.counts.now c.passes.pass-index other)
    (string_bytes c.new-text.result) (string_bytes c.passes.text) (string_bytes c.push_line.new.text)
    (slice_get-get_or c.args.counts.now c.passes.pass-index other c.passes-test.true) c.passes.invariant c.in_ok-push_line.ensures

pub returns : goal.returns
returns c =
    appended-all counts_line c.args.counts.now c.passes.pass-index (string_bytes c.new-text.result) (string_bytes c.passes.text) c.passes-test.false c.passes.invariant
    ∙ ap (λ none. none ++ flat_map counts_line c.args.counts.now) c.new-text.ensures.bytes
