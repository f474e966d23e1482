-- The layouts so far, and those of the types that are left, are all the layouts.
use Rattle.std.proofs.Common.{◌≡◌, ◌≤◌, ◌++◌, List, length, drop}
use Rattle.std.specs.Prelude.{vec_capacity}
use Rattle.naga_arena.specs.Arena.{values}
use Rattle.naga_layouter.specs.Layout.{laying}
use Rattle.naga_layouter.specs.declared.layouter.TypeLayout.{TypeLayout as Laid}
use Rattle.naga_layouter.proofs.layouter.lay.Given as goal

abbrev pub invariant-each : goal.invariant-each
invariant-each l = record {
  kept : (found : List Laid) × (l.known.items ≡ l.fn.known.items ++ found);
  reached : length l.known.items ≡ l.index;
  room : length l.gctx.types.now ≤ vec_capacity l.known;
  laid : laying l.gctx l.known.items (drop l.index (values l.gctx.types.now))
      ≡ laying l.gctx l.fn.known.items (drop (length l.fn.known.items) (values l.gctx.types.now));
}
