use Rattle.std.proofs.Common.{◌≡◌, ◌≤◌, ◌<◌, ◌+◌, ◌++◌, ◌∷◌, [], length, get_or, refl, ap, ◌∙◌, arith, length-append}
use Rattle.naga_arena.specs.Span.{undefined}
use Rattle.naga_arena.proofs.IsUniqueCloneOfLemmas.{Cloned-all, Cloned-more}
use Rattle.naga_arena.proofs.arena.unique_arena.UniqueArenaTryClone.clone.Goals as goal
use Rattle.naga_arena.proofs.arena.unique_arena.UniqueArenaTryClone.clone.Goals.{then-branch+in_ok-push, else-branch}

pub each-init : goal.each-init
each-init g c = record {
  aligned = rw (c.in_ok-set.ensures.empty, c.in_ok-span_info.ensures.items) refl;
  fits = rw c.in_ok-set.ensures.empty (omega arith);
  cloned = ([], tt, rw c.in_ok-set.ensures.empty refl);
}

pub each-preserved : goal.each-preserved
each-preserved g c =
    let before = c.each.invariant in
    let walked : length c.as_slice-value-items.result.now ≡ length c.self.inside.set.keys = ap length c.as_slice-value-items.ensures.keys in
    let within : c.each.i < length c.self.inside.set.keys = omega arith in
    let source = rw c.as_slice-value-items.ensures.keys at c.value-item.is in
    elim c.if-branch.branch [
      | then-branch+in_ok-push w ↦
          let more : length c.insert.new.self.keys ≡ length c.each.set.keys + 1 = rw w.if-branch.true at c.in_ok-insert.ensures.len in
          let pushed : c.if-branch.span_info.items ≡ c.each.span_info.items ++ w.index.result.now ∷ [] = ap (λ v. v.items) w.span_info-is ∙ w.in_ok-push.ensures.items in
          record {
            aligned = omega (arith, ap length pushed, length-append c.each.span_info.items (w.index.result.now ∷ []));
            fits = omega arith;
            cloned = Cloned-more _ _ _ _ c.each.i _ _ _ _ _ _ w.index.result.now _ _ c.self.invariant.0 within before.aligned source c.in_ok-clone.ensures w.index.ensures c.in_ok-insert.ensures.keys c.in_ok-insert.ensures.added (rw w.if-branch.true pushed) before.cloned;
          }
      | else-branch w ↦
          let same : length c.insert.new.self.keys ≡ length c.each.set.keys + 0 = rw w.if-branch.false at c.in_ok-insert.ensures.len in
          let stays = ap (λ v. v.items) w.span_info-is in
          let span = get_or c.self.inside.span_info.items c.each.i undefined in
          record {
            aligned = omega (arith, ap (λ v. length v.items) w.span_info-is);
            fits = omega arith;
            cloned = Cloned-more _ _ _ _ c.each.i _ _ _ _ _ _ span undefined _ c.self.invariant.0 within before.aligned source c.in_ok-clone.ensures refl c.in_ok-insert.ensures.keys c.in_ok-insert.ensures.added (rw w.if-branch.false stays) before.cloned;
          }
    ]

pub returns : goal.returns
returns g c =
    let walked : length c.as_slice-value-items.result.now ≡ length c.self.inside.set.keys = ap length c.as_slice-value-items.ensures.keys in
    let past : length c.self.inside.set.keys ≤ c.each.i = omega arith in
    rw (← c.self.view_is) (Cloned-all _ _ _ _ c.each.i _ _ c.self.invariant.0 past c.each.invariant.cloned)
