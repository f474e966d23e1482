use Rattle.std.proofs.Common.{◌≡◌, ◌++◌, take}
use Rattle.std.specs.Prelude.{flat_map, string_bytes}
use Rattle.naga_opt.specs.Messages.{named_line}
use Rattle.naga_opt.proofs.said.joined.Given as goal

-- the lines before this one were appended
abbrev pub invariant-lines : goal.invariant-lines
invariant-lines l = string_bytes l.named ≡ string_bytes l.initial.named ++ flat_map (λ line. named_line line.now) (take l.line-index l.lines)
