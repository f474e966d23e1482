use Rattle.std.proofs.Common.{◌≡◌, ◌∷◌, ◌+◌, drop, arith}
use Rattle.std.proofs.lemmas.Grind.{common_steps}
use Rattle.naga_text.specs.Types.{member_text}
use Rattle.naga_text.proofs.PiecesLemmas.{flat_map-next}
use Rattle.naga_text.proofs.types.push_members.Goals as goal

pub loop-member-preserved : goal.loop-member-preserved
loop-member-preserved c =
    let first : drop c.loop-member.member-index c.args.members.now ≡ c.member-item.result ∷ drop (c.loop-member.member-index + 1) c.args.members.now = grind (arith, common_steps) in
    flat_map-next member_text c.member-item.result (drop (c.loop-member.member-index + 1) c.args.members.now) (drop c.loop-member.member-index c.args.members.now) c.loop-member.text c.push_member.new.text _
    first c.in_ok-push_member.ensures c.loop-member.invariant
