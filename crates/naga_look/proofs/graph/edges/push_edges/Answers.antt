use Rattle.std.proofs.Common.{◌≡◌, ◌∙◌, ◌++◌, ap}
use Rattle.naga_valid.specs.Expressions.{references_of_expression}
use Rattle.naga_text.proofs.PiecesLemmas.{flat_map-next, flat_map-over}
use Rattle.naga_look.specs.Graph.{optional_edge}
use Rattle.naga_look.proofs.EdgesLemmas.{edges-each, reference_edge}
use Rattle.naga_look.proofs.graph.edges.push_edges.Goals as goal

pub loop-reference-preserved : goal.loop-reference-preserved
loop-reference-preserved c =
    let appended : c.push_optional_edge.new.text ≡ c.loop-reference.text ++ reference_edge c.args.place c.args.from c.in-Some.reference =
    c.in_ok-push_optional_edge.ensures ∙ ap (λ to. c.loop-reference.text ++ optional_edge c.args.place c.args.from to) c.operand_of.ensures
    in
    flat_map-next (reference_edge c.args.place c.args.from) c.in-Some.reference c.next.new.self c.loop-reference.reference-iterator c.loop-reference.text c.push_optional_edge.new.text _ c.in-Some.ensures.steps appended c.loop-reference.invariant

pub returns : goal.returns
returns c =
    flat_map-over (reference_edge c.args.place c.args.from) c.loop-reference.reference-iterator c.loop-reference.text _ c.in-None.ensures.steps.0 c.loop-reference.invariant
    ∙ ap (λ text. c.args.text.now ++ text) (edges-each c.args.place c.args.from (references_of_expression c.args.expression.now))
