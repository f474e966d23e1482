use Rattle.std.proofs.Common.{◌∙◌, sym, ap, ◌≤◌, ◌<◌, length, subst, arith}
use Rattle.std.proofs.lemmas.List.{get_or_read}
use Rattle.std.specs.FinSet.{contains}
use Rattle.naga_sets.specs.HandleSet.{BoundedSet}
use Rattle.naga_compact.specs.Kept.{new_index}
use Rattle.naga_compact.proofs.RankLemmas.{ranked, rank-le}
use Rattle.naga_compact.proofs.renumbering.Renumbering.rank.Goals as goal

value : goal.returns-clause-value
value g c =
    let inside = c.self.inside in
    let count = c.self.invariant.0 in
    let within : c.min-position.result < length inside.ranks.items = omega (arith, count) in
    get_or_read inside.ranks.items c.min-position.result c.index.result.now within c.index.ensures 0
    ∙ ranked inside.kept inside.ranks.items c.args.index c.min-position.result c.self.invariant (λ h. omega (arith, count)) (λ h. omega (arith, count))
    ∙ ap (λ (s : BoundedSet). new_index s c.args.index) c.self.view_is

pub returns-clause-value : goal.returns-clause-value
returns-clause-value = value

pub returns-clause-bound : goal.returns-clause-bound
returns-clause-bound g c =
    subst (λ n. n ≤ c.args.index) (sym (value g c)) (rank-le (contains c.args.self.now.members) c.args.index)
