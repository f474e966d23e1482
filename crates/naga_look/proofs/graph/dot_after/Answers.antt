use Rattle.std.proofs.Common.{◌∙◌, ◌++◌, ap, subst, sym}
use Rattle.std.specs.Prelude.{option_copied}
use Rattle.naga_text.specs.Readable.{IsReadable}
use Rattle.naga_look.specs.Graph.{dot_after}
use Rattle.naga_look.proofs.ReadableGraphLemmas.{dot_after-readable}
use Rattle.naga_look.proofs.graph.dot_after.Goals as goal

pub returns-clause-readable : goal.returns-clause-readable
returns-clause-readable c =
    let written = c.finish.ensures ∙ c.in_ok-push_module.ensures ∙ ap (λ before. before ++ dot_after (option_copied c.args.old) c.args.«module».now) c.new-text.ensures in
    subst IsReadable (sym written) (dot_after-readable (option_copied c.args.old) c.args.«module».now)
