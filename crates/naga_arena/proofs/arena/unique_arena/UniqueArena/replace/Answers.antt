use Rattle.std.proofs.Common.{◌≡◌, length, ap, sym, ◌∙◌, arith}
use Rattle.std.proofs.Math.ListN.{length-set}
use Rattle.naga_arena.proofs.WithValueLemmas.{replaced_values, with_value-zip}
use Rattle.naga_arena.proofs.ZipLemmas.{values-zip}
use Rattle.naga_arena.proofs.arena.unique_arena.UniqueArena.replace.Goals as goal

pub invariant_of-self-2 : goal.invariant_of-self-2
invariant_of-self-2 g c =
    let left = replaced_values g.T.PartialEq.eq _ _ _ _ _ _ _ _ _ c.self.view_is c.self.invariant.0 c.requires.new_not_in c.in_ok-insert.ensures.keys c.requires.old_in c.index.ensures.value c.swap_remove_index.ensures.key c.swap_remove_index.ensures.keys in
    let long : length c.swap_remove_index.new.self.keys ≡ length c.self.inside.set.keys = ap length left ∙ length-set _ _ _ in
    (omega arith, omega arith)

pub returns-clause-replaced : goal.returns-clause-replaced
returns-clause-replaced g c =
    let left = replaced_values g.T.PartialEq.eq _ _ _ _ _ _ _ _ _ c.self.view_is c.self.invariant.0 c.requires.new_not_in c.in_ok-insert.ensures.keys c.requires.old_in c.index.ensures.value c.swap_remove_index.ensures.key c.swap_remove_index.ensures.keys in
    rw (← c.self.view_is, left) (sym (with_value-zip _ _ _ _ c.self.invariant.0))

pub returns-clause-distinct : goal.returns-clause-distinct
returns-clause-distinct g c =
    let left = replaced_values g.T.PartialEq.eq _ _ _ _ _ _ _ _ _ c.self.view_is c.self.invariant.0 c.requires.new_not_in c.in_ok-insert.ensures.keys c.requires.old_in c.index.ensures.value c.swap_remove_index.ensures.key c.swap_remove_index.ensures.keys in
    let long : length c.swap_remove_index.new.self.keys ≡ length c.self.inside.set.keys = ap length left ∙ length-set _ _ _ in
    let aligned : length c.self.inside.span_info.items ≡ length c.swap_remove_index.new.self.keys = omega arith in
    rw (values-zip c.swap_remove_index.new.self.keys c.self.inside.span_info.items aligned) c.swap_remove_index.ensures.unique
