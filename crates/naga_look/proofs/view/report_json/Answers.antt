use Rattle.std.proofs.Common.{◌≡◌, ◌∙◌, ap}
use Rattle.std.specs.Prelude.{◌++◌, codes}
use Rattle.naga_look.specs.Findings.{fault_count}
use Rattle.naga_look.proofs.FaultCountLemmas.{fault_count-passes}
use Rattle.naga_look.proofs.view.report_json.Goals as goal

pub returns : goal.returns
returns c =
    let found = c.in_ok-found.found.items in
    let count : c.fault_count.result ≡ fault_count found = c.fault_count.ensures ∙ ap fault_count c.as_slice.ensures.value in (
      found,
      c.in_ok-found.ensures,
      c.in_ok-push_str.ensures.bytes ∙ ap (λ text. text ++ codes "\n") c.in_ok-text.ensures,
      count,
      fault_count-passes c.args.module.now c.args.extent found c.in_ok-found.ensures c.fault_count.result count,
    )
