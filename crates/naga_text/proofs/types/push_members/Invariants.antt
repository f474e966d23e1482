use Rattle.std.proofs.Common.{◌≡◌, ◌++◌, drop}
use Rattle.std.specs.Prelude.{flat_map}
use Rattle.naga_text.specs.Types.{member_text}
use Rattle.naga_text.proofs.types.push_members.Given as goal

-- the members that are left are still to be written
abbrev pub invariant-loop-member : goal.invariant-loop-member
invariant-loop-member l =
    l.text ++ flat_map member_text (drop l.member-index l.members) ≡ l.initial.text ++ flat_map member_text l.members
