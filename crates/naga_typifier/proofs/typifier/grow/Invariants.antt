-- The types so far, and those of the expressions that are left, are all the types.
use Rattle.std.proofs.Common.{◌≡◌, ◌++◌, List, length, drop}
use Rattle.naga_arena.specs.Arena.{values}
use Rattle.naga_typifier.specs.Context.{context_of}
use Rattle.naga_typifier.specs.Typing.{typing}
use Rattle.naga_typifier.specs.declared.resolution.TypeResolution.{TypeResolution as Resolved}
use Rattle.naga_typifier.proofs.typifier.grow.Given as goal

abbrev pub invariant-each : goal.invariant-each
invariant-each l = record {
  kept : (found : List Resolved) × (l.known ≡ l.fn.known ++ found);
  reached : length l.known ≡ l.index;
  typed : typing (context_of l.ctx) l.known (drop l.index (values l.expressions))
      ≡ typing (context_of l.ctx) l.fn.known (drop (length l.fn.known) (values l.expressions));
}
