-- The texts so far, and those of the expressions that are left, are all the texts.
use Rattle.std.proofs.Common.{◌≡◌, length, drop}
use Rattle.naga_arena.specs.Arena.{values}
use Rattle.naga_wgsl.specs.ExpressionTexts.{expression_text, expression_texts}
use Rattle.naga_wgsl.specs.TypeTexts.{texts_after}
use Rattle.naga_wgsl.proofs.expression_texts.ExpressionTexts.new.Given as goal

abbrev pub invariant-each : goal.invariant-each
invariant-each l = record {
  reached : length l.texts.items ≡ l.index;
  found : texts_after (expression_text l.scope l.shapes l.names) l.texts.items (drop l.index (values l.expressions))
      ≡ expression_texts l.scope l.shapes l.names (values l.expressions);
}
