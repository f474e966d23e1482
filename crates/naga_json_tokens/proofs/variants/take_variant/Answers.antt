use Rattle.std.proofs.Common.{rules}
use Rattle.naga_json.specs.Objects.{choose}
use Rattle.naga_json_tokens.specs.TakesVariants.{variant_by}
use Rattle.naga_json_tokens.proofs.TakesHolderLemmas.{takes_holder}
use Rattle.naga_json_tokens.proofs.TakesMapLemmas.{takes_named_as}
use Rattle.naga_json_tokens.proofs.variants.take_variant.Goals as goal

pub returns-in-String : goal.returns-in-String
returns-in-String g c =
    let decode = variant_by g.T.Variants.names g.T.Variants.rows in
    takes_named_as g.T.Variants.value_of c.in-String.name.now decode c.named.result c.args.reader.now c.next.new.self (search rules) c.named.ensures

pub returns-in_ok-take_end-in-BeginObject : goal.returns-in_ok-take_end-in-BeginObject
returns-in_ok-take_end-in-BeginObject g c =
    let name = c.in_ok-name-in-BeginObject in
    let found = c.in_ok-found-in-BeginObject in
    let decode = variant_by g.T.Variants.names g.T.Variants.rows in
    takes_holder name.name.now (λ j. choose (g.T.Variants.rows j) name.name.now) (g.T.Variants.value_of found.found) decode (g.T.Variants.value_of found.found) c.args.reader.now c.next.new.self _ _ c.take_end.new.reader
    (search rules) name.ensures found.ensures c.in_ok-take_end-in-BeginObject.ensures (λ j is. is)
