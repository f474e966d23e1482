use Rattle.std.proofs.Common.{◌≡◌, ◌∙◌, sym, rules, length}
use Rattle.json.specs.Value.{value_view}
use Rattle.naga_json_values.proofs.ObjectsLemmas.{only_member-other}
use Rattle.naga_json_values.proofs.objects.only_member.Goals as goal

pub returns-else-len-eq1 : goal.returns-else-len-eq1
returns-else-len-eq1 c =
    let sized : c.len.result ≡ length c.args.members.now.items = search rules in
    sym (only_member-other value_view c.args.members.now.items (λ e. c.if-len-eq1.false (sized ∙ e)))
