use Rattle.std.proofs.Common.{arith}
use Rattle.std.proofs.lemmas.List.Elements.{all_zip_more}
use Rattle.naga_arena.proofs.try_clone.clone_each.Goals as goal

pub loop-value-preserved : goal.loop-value-preserved
loop-value-preserved g c =
    let before = c.loop-value.invariant in
    record {
      len = omega (arith, c.push_reserved.ensures);
      room = omega (arith, c.push_reserved.ensures);
      clones = rw c.push_reserved.ensures.items (all_zip_more _ _ _ _ _ _ c.loop-value-test.true c.value-item.is before.clones c.in_ok-clone.ensures);
    }
