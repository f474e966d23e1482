use Rattle.std.proofs.Common.{◌≡◌, ◌≢◌, rules, refl, subst, sym, Some}
use Rattle.json.specs.Value.{value_view}
use Rattle.naga_json.specs.Module.{module_form}
use Rattle.naga_json.specs.Numbers.{◌>>=◌}
use Rattle.naga_json.specs.Text.{document}
use Rattle.naga_json_values.specs.declared.cause.Cause.TheVariants.{Memory}
use Rattle.naga_explain.proofs.ExplainsLemmas.{refused-distinct}
use Rattle.naga_explain.proofs.explanation.explain_handle.Goals as goal

pub returns : goal.returns
returns c =
    let text = document c.args.text.now in
    let j = value_view c.in-Some.value in
    let other : c.in-Err.cause ≢ Memory = search rules in
    let parsed : Some j ≡ text = search rules in (
      refl,
      λ value is.
          let read = subst (λ o. Some value ≡ (o >>= module_form.decode)) (sym parsed) is in
          refused-distinct c.in-Err.cause (module_form.decode j) other c.in-Err.ensures.meaning value read,
    )
