use Rattle.std.proofs.Common.{◌≡◌, length, ap, sym, ◌∙◌, rules}
use Rattle.naga_arena.specs.Arena.{values, spans}
use Rattle.naga_arena.proofs.ZipLemmas.{spans-zip, values-zip}
use Rattle.naga_arena.proofs.arena.ArenaTryClone.clone.Goals as goal

pub returns : goal.returns
returns g c =
    let old_values : values c.args.self.now ≡ c.self.inside.data.items = ap values (sym c.self.view_is) ∙ values-zip _ _ c.self.invariant.0 in
    let old_spans : spans c.args.self.now ≡ c.self.inside.span_info.items = ap spans (sym c.self.view_is) ∙ spans-zip _ _ c.self.invariant.0 in
    let copied : c.in_ok-span_info.span_info.items ≡ c.self.inside.span_info.items = c.in_ok-span_info.ensures.items ∙ c.as_slice-2.ensures.value in
    let aligned : length c.in_ok-span_info.span_info.items ≡ length c.in_ok-data.data.items = search (rules, copied) in
    let new_values = values-zip c.in_ok-data.data.items c.in_ok-span_info.span_info.items aligned in (
      rw (old_values, new_values) (rw c.as_slice.ensures.value at c.in_ok-data.ensures.clones),
      spans-zip _ _ aligned ∙ copied ∙ sym old_spans,
    )
