use Rattle.std.proofs.Common.{◌∙◌, ap, subst, length, arith}
use Rattle.std.specs.List.{IsDistinct}
use Rattle.std.specs.Map.{keys_of}
use Rattle.indexmap.specs.IndexMap.{spare}
use Rattle.naga_compact.proofs.RenameKeysLemmas.{rename_keys-absent, rename_keys-appended, rename_keys-removed}
use Rattle.naga_compact.proofs.renumbering.keys.rename_keys.Goals as goal
use Rattle.naga_compact.proofs.renumbering.keys.rename_keys.Goals.{in-Some-new_key, in_default}

pub append_entry-requires-clause-absent : goal.append_entry-requires-clause-absent
append_entry-requires-clause-absent g c =
    let unique : IsDistinct g.K.PartialEq.eq (keys_of c.args.map.now.entries) = subst (λ m. IsDistinct g.K.PartialEq.eq (keys_of m.entries)) c.replace-old.ensures.value c.into_iter-key-iterator.ensures.into_iter_gives.4 in
    rename_keys-absent g.K.PartialEq.eq g.met.R.RenameKey.decides (g.R.RenameKey.keeps_key c.args.renumbering.now) (g.R.RenameKey.renamed_key c.args.renumbering.now) c.new_key.ensures.injective c.args.map.now.entries c.entries.map.entries c.entries.key-iterator c.in-Some.key c.in-Some-new_key.key c.in-Some.value c.next.new.self unique c.entries.invariant.done c.in-Some.ensures.steps c.in-Some-new_key.ensures.value

pub entries-preserved : goal.entries-preserved
entries-preserved g c = elim c.match-new_key.branch [
  | in-Some-new_key w ↦ record {
    done = rename_keys-appended (g.R.RenameKey.keeps_key c.args.renumbering.now) (g.R.RenameKey.renamed_key c.args.renumbering.now) c.args.map.now.entries c.entries.map.entries c.match-new_key.map.entries c.entries.key-iterator c.in-Some.key w.in-Some-new_key.key c.in-Some.value c.next.new.self c.entries.invariant.done c.in-Some.ensures.steps w.in-Some-new_key.ensures.value (ap (λ m. m.entries) w.map-is ∙ w.append_entry.ensures.entries);
    spare = omega (arith, ap length c.in-Some.ensures.steps, ap spare w.map-is, w.append_entry.ensures.spare, c.entries.invariant.spare);
  }
  | in_default w ↦ record {
    done = rename_keys-removed (g.R.RenameKey.keeps_key c.args.renumbering.now) (g.R.RenameKey.renamed_key c.args.renumbering.now) c.args.map.now.entries c.entries.map.entries c.match-new_key.map.entries c.entries.key-iterator c.in-Some.key c.in-Some.value c.next.new.self c.entries.invariant.done c.in-Some.ensures.steps w.in_default.ensures.value (ap (λ m. m.entries) w.map-is);
    spare = omega (arith, ap length c.in-Some.ensures.steps, ap spare w.map-is, c.entries.invariant.spare);
  }
]
