use Rattle.std.proofs.Common.{◌-◌, [], ◌∷◌, refl, rules}
use Rattle.naga_look.proofs.OpenEndsLemmas.{AddsEnds-full, AddsEnds-pushed}
use Rattle.naga_look.proofs.ends.push_end.Goals as goal

pub returns-then-limit-eq0 : goal.returns-then-limit-eq0
returns-then-limit-eq0 c = AddsEnds-full c.args.before.now c.args.limit ([] ∷ []) c.args.paths.now.items (search rules)

pub returns : goal.returns
returns c =
    AddsEnds-pushed c.args.before.now c.args.limit (c.args.limit - 1) c.in_ok-path.path c.args.paths.now.items c.push.new.self.items
    (search rules) refl c.in_ok-path.ensures c.in_ok-push.ensures.items
