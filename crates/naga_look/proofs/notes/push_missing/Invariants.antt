use Rattle.std.proofs.Common.{◌≡◌, ◌++◌, take}
use Rattle.naga_look.specs.Notes.{missing_lines}
use Rattle.naga_look.proofs.notes.push_missing.Given as goal

-- the notes on the blocks before the position were appended
abbrev pub invariant-paths : goal.invariant-paths
invariant-paths l = l.text ≡ l.initial.text ++ missing_lines l.head (take l.position l.paths)
