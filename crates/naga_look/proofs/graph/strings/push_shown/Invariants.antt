use Rattle.std.proofs.Common.{◌≡◌, ◌++◌}
use Rattle.std.specs.Str.Iter.{chars_rest}
use Rattle.naga_look.specs.Graph.Strings.{dot_escaped}
use Rattle.naga_look.proofs.graph.strings.push_shown.Given as goal

-- the characters that are left are still to be written
abbrev pub invariant-loop-character : goal.invariant-loop-character
invariant-loop-character l =
    l.text ++ dot_escaped (chars_rest l.character-iterator) ≡ l.initial.text ++ dot_escaped l.shown
