use Rattle.std.proofs.Common.{rules, ap, ◌∙◌}
use Rattle.std.proofs.lemmas.Iterator.{items_from_collect}
use Rattle.std.proofs.lemmas.Iterator.Adapters.{YieldsList-from_skip, YieldsList-from_vec}
use Rattle.std.specs.Vec.Iter.{into_iter_items, into_iter_len}
use Rattle.naga_opt.proofs.arguments.arguments_after_name.Goals as goal

pub returns-in-Ok-clause-arguments : goal.returns-in-Ok-clause-arguments
returns-in-Ok-clause-arguments c =
    let all = YieldsList-from_vec (into_iter_items c.in-Ok.all) (ap into_iter_items c.skip.ensures.source) (ap into_iter_len c.skip.ensures.source ∙ c.in-Ok.all.rest.ok.0) in
    let given = items_from_collect c.collect.result c.collect.ensures.ran (YieldsList-from_skip _ all c.skip.ensures.count) in
    search rules
