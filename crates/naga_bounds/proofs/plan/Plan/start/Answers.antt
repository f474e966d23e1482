use Rattle.std.proofs.Common.{◌∙◌, ◌<◌, ap, arith, length}
use Rattle.std.proofs.lemmas.List.{get_or_read}
use Rattle.naga_bounds.specs.Restricted.{start_of}
use Rattle.naga_bounds.proofs.StartsLemmas.{starts-read}
use Rattle.naga_bounds.proofs.plan.Plan.start.Goals as goal

pub returns : goal.returns
returns c =
    let inside = c.self.inside in
    let count = c.self.invariant.all in
    let within : c.min-position.result < length inside.starts.items = omega (arith, count) in
    get_or_read inside.starts.items c.min-position.result c.index.result.now within c.index.ensures 0
    ∙ starts-read inside.changes.items inside.starts.items c.args.index c.min-position.result c.self.invariant
    (λ h. omega (arith, count)) (λ h. omega (arith, count))
    ∙ ap (λ changes. start_of changes c.args.index) c.self.view_is
