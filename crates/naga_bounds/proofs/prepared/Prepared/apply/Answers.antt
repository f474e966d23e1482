use Rattle.std.proofs.Common.{◌≡◌, ◌∙◌, ◌++◌, ap, length}
use Rattle.std.specs.List.{zip}
use Rattle.naga_bounds.specs.Restricted.{fronts}
use Rattle.naga_bounds.proofs.GroupsLemmas.{fronts-length}
use Rattle.naga_bounds.proofs.prepared.Prepared.apply.Goals as goal

pub push_groups-requires-clause-front : goal.push_groups-requires-clause-front
push_groups-requires-clause-front c =
    let front = fronts (zip c.args.self.plan c.args.function.now.expressions) in
    ap length c.push_fronts.ensures.entries
    ∙ ap (λ entries. length (entries ++ front)) c.requires.empty
    ∙ fronts-length c.args.self.plan c.args.function.now.expressions c.requires.all
