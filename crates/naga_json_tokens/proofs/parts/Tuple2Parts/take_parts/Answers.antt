use Rattle.std.proofs.Common.{◌≡◌, ap, map, ◌∷◌}
use Rattle.naga_json_tokens.proofs.TakesPartsLemmas.{takes_more_parts}
use Rattle.naga_json_tokens.proofs.parts.Tuple2Parts.take_parts.Goals as goal

pub returns : goal.returns
returns g c =
    let name = c.in_ok-name.name.now.now in
    let others = map (λ name. name.now) c.in_ok-name.others.now in
    let is : map (λ name. name.now) c.args.names.now ≡ name ∷ others = ap (map (λ name. name.now)) c.in_ok-name.ensures.cases.0 in
    takes_more_parts _ _ g.T.Parts.members _ _ name others _ _ _ _ _ is c.in_ok-first.ensures c.in_ok-rest.ensures
