use Rattle.std.proofs.Common.{◌≡◌, ◌∙◌, ◌++◌, ap}
use Rattle.std.specs.Prelude.{flat_map}
use Rattle.std.specs.List.{enumerate_from}
use Rattle.naga_arena.specs.Arena.{values}
use Rattle.naga_text.proofs.PiecesLemmas.{OnOk-after}
use Rattle.naga_look.specs.Graph.{expression_text}
use Rattle.naga_look.proofs.graph.push_cluster.Goals as goal

pub returns : goal.returns
returns c =
    let entry = expression_text c.args.«module».now c.args.function.now c.args.place in
    let listed : c.push_expressions.new.text ≡ c.push_cluster_head.new.text ++ flat_map entry (enumerate_from 0 (values c.args.function.now.expressions)) =
    c.in_ok-push_expressions.ensures ∙ ap (λ entries. c.push_cluster_head.new.text ++ flat_map entry entries) c.iter.ensures.rest
    in
    OnOk-after c.push.result c.args.text.now c.push_cluster_head.new.text c.push.new.self _ _ c.in_ok-push_cluster_head.ensures
    (OnOk-after c.push.result c.push_cluster_head.new.text c.push_expressions.new.text c.push.new.self _ _ listed
    (OnOk-after c.push.result c.push_expressions.new.text c.push_flow.new.text c.push.new.self _ _ c.in_ok-push_flow.ensures c.push.ensures))
