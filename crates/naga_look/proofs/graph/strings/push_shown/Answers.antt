use Rattle.std.proofs.Common.{◌≡◌, ◌∙◌, ◌++◌, ap}
use Rattle.std.specs.Str.Iter.{chars_rest}
use Rattle.naga_look.specs.Graph.Strings.{dot_escaped}
use Rattle.naga_look.proofs.StringsLemmas.{dot_escaped-next, dot_escaped-over}
use Rattle.naga_look.proofs.graph.strings.push_shown.Goals as goal

pub loop-character-preserved : goal.loop-character-preserved
loop-character-preserved c =
    dot_escaped-next c.in-Some.character (chars_rest c.next.new.self) (chars_rest c.loop-character.character-iterator) c.loop-character.text c.push_character.new.text _
    c.in-Some.ensures.steps.0 c.in_ok-push_character.ensures c.loop-character.invariant

pub returns : goal.returns
returns c =
    dot_escaped-over (chars_rest c.loop-character.character-iterator) c.loop-character.text _ c.in-None.ensures.steps.0.0 c.loop-character.invariant
