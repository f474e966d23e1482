use Rattle.std.proofs.Common.{◌≡◌, ◌∙◌, ◌++◌, ap, codes}
use Rattle.std.specs.Prelude.{flat_map, option_copied}
use Rattle.std.specs.List.{enumerate_from}
use Rattle.naga_arena.specs.Arena.{values}
use Rattle.naga_text.proofs.PiecesLemmas.{OnOk-after}
use Rattle.naga_look.specs.Graph.{entry_point_text, function_text}
use Rattle.naga_look.proofs.graph.push_module.Goals as goal

pub returns : goal.returns
returns c =
    let one = function_text c.args.«module».now (option_copied c.args.old) in
    let functions : c.push_functions.new.text ≡ c.push.new.self ++ flat_map one (enumerate_from 0 (values c.args.«module».now.functions)) =
    c.in_ok-push_functions.ensures ∙ ap (λ entries. c.push.new.self ++ flat_map one entries) c.iter.ensures.rest
    in
    let entry = entry_point_text c.args.«module».now (option_copied c.args.old) in
    let entry_points : c.push_entry_points.new.text ≡ c.push_functions.new.text ++ flat_map entry (enumerate_from 0 c.args.«module».now.entry_points.items) =
    c.in_ok-push_entry_points.ensures ∙ ap (λ list. c.push_functions.new.text ++ flat_map entry (enumerate_from 0 list)) c.deref.ensures.value
    in
    OnOk-after c.push-2.result c.args.text.now c.push.new.self c.push-2.new.self (codes "digraph module {\n    ranksep=0.3\n    nodesep=0.15\n    node [shape=box, height=0.3, margin=\"0.1,0.02\"]\n") _ c.in_ok-push.ensures
    (OnOk-after c.push-2.result c.push.new.self c.push_functions.new.text c.push-2.new.self _ _ functions
    (OnOk-after c.push-2.result c.push_functions.new.text c.push_entry_points.new.text c.push-2.new.self _ _ entry_points c.push-2.ensures))
