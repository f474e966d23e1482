use Rattle.std.proofs.Common.{codes}
use Rattle.naga_text.proofs.PiecesLemmas.{OnOk-after}
use Rattle.naga_look.proofs.graph.cluster.push_cluster_head.Goals as goal

pub returns : goal.returns
returns c =
    OnOk-after c.push-3.result c.args.text.now c.push.new.self c.push-3.new.self (codes "    subgraph cluster_") _ c.in_ok-push.ensures
    (OnOk-after c.push-3.result c.push.new.self c.push_cluster_name.new.text c.push-3.new.self _ _ c.in_ok-push_cluster_name.ensures
    (OnOk-after c.push-3.result c.push_cluster_name.new.text c.push-2.new.self c.push-3.new.self (codes " {\n        ") _ c.in_ok-push-2.ensures
    (OnOk-after c.push-3.result c.push-2.new.self c.push_label.new.text c.push-3.new.self _ _ c.in_ok-push_label.ensures c.push-3.ensures)))
