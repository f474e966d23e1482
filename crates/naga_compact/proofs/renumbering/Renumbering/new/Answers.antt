use Rattle.std.proofs.Common.{◌≡◌, ◌+◌, sym, ap, arith, rules, ◌∙◌}
use Rattle.std.proofs.lemmas.Grind.{common_steps}
use Rattle.std.specs.FinSet.{contains}
use Rattle.naga_compact.proofs.RankLemmas.{rank-zero, stand_more, length-more, small_below}
use Rattle.naga_compact.proofs.renumbering.Renumbering.new.Goals as goal

pub indices-init : goal.indices-init
indices-init g c = record {
  room = omega (arith, c.in_ok-ranks.ensures.capacity);
  count = search rules;
  in_table = λ n h. absurd (omega arith);
  following = sym (rank-zero (contains c.args.kept.members));
}

pub indices-preserved : goal.indices-preserved
indices-preserved g c = record {
  room = omega (arith, c.push_reserved.ensures.capacity, c.indices.invariant.room);
  count = length-more c.indices.ranks.items c.push_reserved.new.self.items c.indices.index c.indices.next c.indices.invariant.count c.push_reserved.ensures.items;
  in_table = stand_more (contains c.args.kept.members) c.indices.ranks.items c.push_reserved.new.self.items c.indices.index c.indices.next c.indices.invariant.count c.indices.invariant.in_table c.indices.invariant.following c.push_reserved.ensures.items;
  following = c.rank_after-next.ensures.value;
}

pub invariant_of-result : goal.invariant_of-result
invariant_of-result g c =
    let ends : c.index_range-bound.result.end ≡ c.args.kept.bound = grind (arith, common_steps) in
    let there : c.indices.index ≡ c.args.kept.bound = omega (arith, ends) in (
      length-more c.indices.ranks.items c.push_reserved-2.new.self.items c.indices.index c.indices.next c.indices.invariant.count c.push_reserved-2.ensures.items ∙ ap (λ n. n + 1) there,
      λ n h. stand_more (contains c.args.kept.members) c.indices.ranks.items c.push_reserved-2.new.self.items c.indices.index c.indices.next c.indices.invariant.count c.indices.invariant.in_table c.indices.invariant.following c.push_reserved-2.ensures.items n (omega (arith, there)),
      small_below c.iter.result c.args.kept.members c.args.kept.bound c.iter.ensures.members c.iter.ensures.below,
    )
