use Rattle.naga_json.specs.Objects.{choose}
use Rattle.naga_json_tokens.specs.TakesVariants.{holder_by}
use Rattle.naga_json_tokens.proofs.TakesHolderLemmas.{takes_holder}
use Rattle.naga_json_tokens.proofs.variants.take_holder.Goals as goal

pub returns : goal.returns
returns g c =
    let name = c.in_ok-name.name.now in
    let found = g.T.Variants.value_of c.in_ok-found.found in
    let decode = holder_by g.T.Variants.rows in
    takes_holder name (λ j. choose (g.T.Variants.rows j) name) found decode found _ _ _ _ _
    c.in_ok-take_begin.ensures c.in_ok-name.ensures c.in_ok-found.ensures c.in_ok-take_end.ensures (λ j is. is)
