use Rattle.std.proofs.Common.{◌≡◌, ◌++◌, take}
use Rattle.naga_look.specs.Notes.{access_lines}
use Rattle.naga_look.proofs.notes.push_accesses.Given as goal

-- the notes on the accesses before the position were appended
abbrev pub invariant-accesses : goal.invariant-accesses
invariant-accesses l = l.text ≡ l.initial.text ++ access_lines l.head (take l.position l.accesses)
