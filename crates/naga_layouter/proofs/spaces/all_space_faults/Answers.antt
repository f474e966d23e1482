use Rattle.std.proofs.Common.{◌≡◌, ◌+◌, ◌∙◌, List, [], ◌∷◌, ◌++◌, Some, drop, length, length-append, ap, sym, arith}
use Rattle.std.specs.List.{slice_get}
use Rattle.naga_arena.specs.Arena.{values}
use Rattle.naga_layouter.specs.Spaces.{all_space_faults, space_faults}
use Rattle.naga_layouter.specs.declared.spaces.SpaceFaults.{SpaceFaults}
use Rattle.naga_layouter.proofs.FaultLemmas.{space-faults-made, space-faults-more}
use Rattle.naga_layouter.proofs.spaces.all_space_faults.Goals as goal

pub each-preserved : goal.each-preserved
each-preserved c =
    let types = c.args.types.now in
    let known = c.each.known.items in
    let i = c.each.index in
    let type = c.index.result.now in
    let here : slice_get (values types) i ≡ Some type = rw c.at-ty.ensures at c.index.ensures in
    let made : SpaceFaults = record { shared = c.shared_fault.result; uniform = c.uniform_fault.result } in
    let is : made ≡ space_faults types known type.inner =
    space-faults-made types known c.as_slice.result.now c.as_slice-in-each.result.now type.inner c.at-ty.result i
    c.shared_fault.result c.uniform_fault.result c.as_slice.ensures.value c.as_slice-in-each.ensures.value c.at-ty.ensures
    c.each.invariant.reached c.shared_fault.ensures c.uniform_fault.ensures in
    let pushed : c.push_reserved.new.self.items ≡ known ++ made ∷ [] = c.push_reserved.ensures.items in
    record {
      reached = omega (arith, ap length pushed, length-append known (made ∷ []), c.each.invariant.reached);
      room = omega (arith, c.push_reserved.ensures.capacity, c.each.invariant.room);
      left = ap (λ (so-far : List SpaceFaults). all_space_faults types so-far (drop (i + 1) (values types))) pushed
          ∙ ap (λ (faults : SpaceFaults). all_space_faults types (known ++ faults ∷ []) (drop (i + 1) (values types))) is
          ∙ sym (space-faults-more types known i type here)
          ∙ c.each.invariant.left;
    }
