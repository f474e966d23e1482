use Rattle.json.specs.Value.{value_view}
use Rattle.naga_json.specs.Text.{document}
use Rattle.naga_json_read.proofs.ModuleLemmas.{reads_module-refused}
use Rattle.naga_json_read.proofs.read.module.module_of_text.Goals as goal

pub returns : goal.returns
returns c = rw c.in_ok-value.ensures.parsed c.in_ok-module.ensures.meaning

pub returns-in_err-module : goal.returns-in_err-module
returns-in_err-module c =
    reads_module-refused c.from_residual-in_err-module.result c.in_err-module.field-0.0 (value_view c.in_ok-value.value) (document c.args.text.now) c.from_residual-in_err-module.ensures.1 c.in_ok-value.ensures.parsed c.in_err-module.ensures.meaning
