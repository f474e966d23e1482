use Rattle.std.proofs.Common.{List, ℕ, subst, ◌∙◌}
use Rattle.std.specs.Prelude.{OnOk, Some}
use Rattle.naga_typing.specs.Joined.{Adds}
use Rattle.naga_look.specs.Findings.{AreFindingsInside, inside_entry_point}
use Rattle.naga_look.proofs.finding.list.push_entry_point.Goals as goal

pub returns : goal.returns
returns c =
    let inside = inside_entry_point (c.args.position, c.args.entry_point.now) in
    subst (λ (name : List ℕ). OnOk c.push_body.result
    (Adds (AreFindingsInside c.args.module.now c.args.limit) (record inside { name = Some name }) c.args.found.now.items c.push_body.new.found.items))
    (c.in_ok-text_of.ensures ∙ c.as_str.ensures.value) c.push_body.ensures
