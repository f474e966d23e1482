use Rattle.std.proofs.Common.{◌∙◌, ap}
use Rattle.std.specs.Prelude.{◌++◌}
use Rattle.naga_look.specs.Layouts.{member_text}
use Rattle.naga_look.proofs.layouts.layout_message.Goals as goal

pub returns : goal.returns
returns c =
    (c.as_str.result.now, c.in_ok-push.ensures ∙ ap (λ t. t ++ c.as_str.result.now) (c.in_ok-push_member.ensures ∙ ap (λ t. t ++ member_text c.args.fault.now.member) c.new-message.ensures))
