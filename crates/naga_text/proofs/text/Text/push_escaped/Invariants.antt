use Rattle.std.proofs.Common.{◌≡◌, ◌++◌}
use Rattle.std.specs.Prelude.{flat_map}
use Rattle.naga_text.specs.Escapes.{escaped_character}
use Rattle.naga_text.proofs.text.Text.push_escaped.Given as goal

abbrev pub invariant-loop-c : goal.invariant-loop-c
invariant-loop-c l = l.self ≡ l.initial.self ++ flat_map escaped_character l.yielded
