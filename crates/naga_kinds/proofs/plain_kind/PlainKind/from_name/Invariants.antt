use Rattle.std.proofs.Common.{◌≡◌, drop}
use Rattle.naga_kinds.specs.Names.{named}
use Rattle.naga_kinds.proofs.plain_kind.PlainKind.from_name.Given as goal

abbrev pub invariant-loop-kind : goal.invariant-loop-kind
invariant-loop-kind g l = named g.Self.PlainKind.name_of (drop l.kind-index l.kind-items) l.name ≡ named g.Self.PlainKind.name_of g.Self.PlainKind.in_order l.name
