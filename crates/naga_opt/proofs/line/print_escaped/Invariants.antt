use Rattle.std.proofs.Common.{◌≡◌}
use Rattle.std.specs.Io.KnownBytes.{Appends}
use Rattle.std.specs.Prelude.{flat_map}
use Rattle.naga_streams.specs.Counted.{failed_calls, stream_of}
use Rattle.naga_text.specs.Escapes.{escaped_character}
use Rattle.naga_opt.proofs.line.print_escaped.Given as goal

-- the characters so far were written, and no call failed
abbrev pub invariant-characters : goal.invariant-characters
invariant-characters g l =
    (failed_calls l.errors ≡ failed_calls l.initial.errors)
    × Appends (g.W.Write.contents (stream_of l.initial.errors)) (g.W.Write.contents (stream_of l.errors)) (flat_map escaped_character l.yielded)
