-- The texts so far, and those of the types that are left, are all the texts.
use Rattle.std.proofs.Common.{◌≡◌, length, drop}
use Rattle.naga_arena.specs.Arena.{values}
use Rattle.naga_wgsl.specs.TypeTexts.{texts_after, texts_of, type_text}
use Rattle.naga_wgsl.proofs.type_texts.TypeTexts.new.Given as goal

abbrev pub invariant-each : goal.invariant-each
invariant-each l = record {
  reached : length l.texts.items ≡ l.index;
  found : texts_after (type_text l.layouts l.names) l.texts.items (drop l.index (values l.types)) ≡ texts_of l.layouts l.names (values l.types);
}
