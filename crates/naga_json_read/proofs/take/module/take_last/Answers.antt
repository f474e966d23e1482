use Rattle.std.proofs.Common.{◌≡◌, rules, subst, []}
use Rattle.naga_json.specs.Module.{module_form, module_value}
use Rattle.naga_json_tokens.specs.Takes.{Takes}
use Rattle.naga_json_read.proofs.take.module.take_last.Goals as goal

pub returns-clause-taken : goal.returns-clause-taken
returns-clause-taken c =
    let nothing : c.take_fields.new.reader ≡ [] = search rules in
    subst (λ new. Takes module_form.decode (module_value c.in_ok-module.module) c.args.reader.now new) nothing c.in_ok-module.ensures.taken
