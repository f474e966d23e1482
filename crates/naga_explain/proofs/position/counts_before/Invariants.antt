use Rattle.std.proofs.Common.{◌≡◌, take, ◌≤◌}
use Rattle.std.specs.Fmt.{is_char_start}
use Rattle.std.specs.List.{count_by}
use Rattle.naga_explain.specs.Position.{is_newline, since_newline}
use Rattle.naga_explain.proofs.position.counts_before.Given as goal

-- the counts are those of the bytes so far
abbrev pub invariant-bytes : goal.invariant-bytes
invariant-bytes l =
    (l.newlines ≡ count_by is_newline (take l.index l.bytes))
    × (l.characters ≡ count_by is_char_start (since_newline (take l.index l.bytes)))
    × (l.newlines ≤ l.index)
    × (l.characters ≤ l.index)
