-- The lines of the members before the next one have been appended.
use Rattle.std.proofs.Common.{drop}
use Rattle.naga_wgsl.specs.Operations.{items_text}
use Rattle.naga_wgsl.specs.Structures.{member_line}
use Rattle.naga_wgsl.proofs.ItemsLemmas.{Begins}
use Rattle.naga_wgsl.proofs.structure.write_lines.Given as goal

abbrev pub invariant-each : goal.invariant-each
invariant-each l =
    Begins (items_text (member_line l.known.types.now l.known.layouts.now l.known.texts.now l.names l.handle l.span l.members) 0 l.members)
    l.initial.text l.text
    (items_text (member_line l.known.types.now l.known.layouts.now l.known.texts.now l.names l.handle l.span l.members) l.index (drop l.index l.members))
