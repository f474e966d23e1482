use Rattle.std.proofs.Common.{ap, codes, sym}
use Rattle.naga_wgsl.specs.Structures.{member_text}
use Rattle.naga_wgsl.proofs.AttemptsLemmas.{attempts-between, attempts-between-stopped}
use Rattle.naga_wgsl.proofs.structure.write_line.Goals as goal

pub returns-in_ok-push-in-Ok : goal.returns-in_ok-push-in-Ok
returns-in_ok-push-in-Ok c =
    attempts-between (codes "    ") (codes ",\n") _ _ c.args.text.now c.push.new.self c.write_member.new.text _ c.in-Ok.field-0 _
    (ap (member_text c.args.known.now.types.now c.args.known.now.layouts.now c.args.known.now.texts.now c.args.names.now c.args.handle c.args.span
    c.args.index c.args.member.now) (sym c.member_after-next.ensures))
    c.in_ok-push.ensures c.in-Ok.ensures c.in_ok-push-in-Ok.ensures

pub returns-in-Err : goal.returns-in-Err
returns-in-Err c =
    attempts-between-stopped (codes "    ") (codes ",\n") _ _ c.args.text.now c.write_member.new.text c.push.new.self c.write_member.new.text c.in-Err.error
    (ap (member_text c.args.known.now.types.now c.args.known.now.layouts.now c.args.known.now.texts.now c.args.names.now c.args.handle c.args.span
    c.args.index c.args.member.now) (sym c.member_after-next.ensures))
    c.in-Err.ensures
