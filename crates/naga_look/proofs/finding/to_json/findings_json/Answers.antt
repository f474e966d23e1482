use Rattle.std.proofs.Common.{◌≡◌, ◌∙◌, ◌++◌}
use Rattle.std.specs.Prelude.{string_bytes}
use Rattle.json.specs.Print.{print}
use Rattle.naga_json_write.proofs.TextLemmas.{print_json}
use Rattle.naga_look.specs.FindingsJson.{findings_json}
use Rattle.naga_look.proofs.finding.to_json.findings_json.Goals as goal

pub returns : goal.returns
returns c =
    let bytes : string_bytes c.in-Ok.text ≡ c.write.new.out.before ++ print c.write.new.out.tokens = cc (c.in-Ok.ensures.ok, c.into_inner.ensures.items) in
    let nothing = c.in_ok-write.ensures.before ∙ c.new-out.ensures.before ∙ c.new.ensures.items in
    print_json _ _ _ _ (findings_json c.args.found.now.items) bytes nothing c.in_ok-write.ensures.tokens c.new-out.ensures.tokens
