use Rattle.std.proofs.Common.{◌≡◌, length, rules}
use Rattle.naga_sets.proofs.ResizedLemmas.{resized-copies}
use Rattle.naga_sets.proofs.handle_vec.HandleVec.resize.Goals as goal

pub returns-clause-resized : goal.returns-clause-resized
returns-clause-resized g c =
    let long : length c.resize.new.self.items ≡ c.args.len = search (rules, c.in_ok-resize.ensures.len) in
    rw (← c.self.view_is) (resized-copies g.U.Clone.is_clone c.args.fill c.requires c.self.inside.inner.items c.resize.new.self.items c.args.len c.in_ok-resize.ensures.items long)
