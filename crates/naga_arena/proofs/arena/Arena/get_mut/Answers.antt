use Rattle.std.proofs.Common.{◌≡◌, ◌<◌, length, rules, ap, sym, ◌∙◌, refl, arith}
use Rattle.naga_arena.specs.Arena.{values}
use Rattle.naga_arena.proofs.ValueAtLemmas.{slice_get-here}
use Rattle.naga_arena.proofs.WithValueLemmas.{with_value-zip}
use Rattle.naga_arena.proofs.ZipLemmas.{length-zip_equal, values-zip}
use Rattle.naga_arena.proofs.arena.Arena.get_mut.Goals as goal

pub index_mut-requires : goal.index_mut-requires
index_mut-requires g c =
    let long : length c.args.self.now ≡ length c.self.inside.data.items = ap length (sym c.self.view_is) ∙ length-zip_equal _ _ c.self.invariant.0 in
    rw (c.index.ensures.value) (search (rules, long))

pub returns : goal.returns
returns g c =
    let same : values c.args.self.now ≡ c.self.inside.data.items = ap values (sym c.self.view_is) ∙ values-zip _ _ c.self.invariant.0 in
    let long : length c.args.self.now ≡ length c.self.inside.data.items = ap length (sym c.self.view_is) ∙ length-zip_equal _ _ c.self.invariant.0 in
    let within : c.args.handle < length c.self.inside.data.items = omega arith in (
      (refl, λ w. rw (← c.self.view_is, c.index.ensures.value) (sym (with_value-zip _ _ _ w c.self.invariant.0))),
      record { writes_back = tt; value = rw same (slice_get-here _ _ _ within (rw c.index.ensures.value at c.index_mut.ensures.value)) },
    )
