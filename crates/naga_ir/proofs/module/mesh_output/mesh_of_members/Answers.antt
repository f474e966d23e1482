use Rattle.std.proofs.Common.{◌∙◌, ap}
use Rattle.std.specs.Prelude.{unwrap_or}
use Rattle.std.specs.Option.{option_or}
use Rattle.std.proofs.lemmas.List.{take_all}
use Rattle.naga_ir.proofs.MeshOfMembersLemmas.{WereGiven-none, mesh_of_members-none, IsTurn-more, HasTypesFor-at}
use Rattle.naga_ir.specs.MeshOutput.{mesh_of_members}
use Rattle.naga_ir.proofs.module.mesh_output.mesh_of_members.Goals as goal

pub loop-member-preserved : goal.loop-member-preserved
loop-member-preserved c =
    let types = c.args.types.now in
    let topology = c.unwrap_or-topology.ensures ∙ ap (λ found. unwrap_or found c.loop-member.topology) c.topology_given.ensures in
    let vertices = c.unwrap_or-vertices.ensures ∙ ap (λ found. unwrap_or found c.loop-member.vertices) c.vertices_given.ensures in
    let primitives = c.unwrap_or-primitives.ensures ∙ ap (λ found. unwrap_or found c.loop-member.primitives) c.primitives_given.ensures.value in
    let error = c.or-error.ensures ∙ ap (option_or c.loop-member.error) c.error_of.ensures in
    IsTurn-more types c.args.members.now c.loop-member.member-index c.member-item.result c.loop-member.given (record {
      topology = c.loop-member.topology;
      vertices = c.loop-member.vertices;
      primitives = c.loop-member.primitives;
      error = c.loop-member.error;
    }) c.output_of-output.result c.with-given.result (record {
      topology = c.unwrap_or-topology.result;
      vertices = c.unwrap_or-vertices.result;
      primitives = c.unwrap_or-primitives.result;
      error = c.or-error.result;
    }) (record {
      output_is = c.output_of-output.ensures;
      topology = topology;
      vertices = vertices;
      primitives = primitives;
      error = error;
      later_is = c.with-given.ensures;
    }) c.loop-member-test.true c.member-item.is c.loop-member.invariant.0 c.loop-member.invariant.1

pub primitives_given-requires-clause-types : goal.primitives_given-requires-clause-types
primitives_given-requires-clause-types c =
    HasTypesFor-at c.args.types.now c.args.members.now c.loop-member.member-index c.member-item.result c.output_of-output.result c.requires c.loop-member-test.true c.member-item.is c.output_of-output.ensures

pub vertices_given-requires-clause-types : goal.vertices_given-requires-clause-types
vertices_given-requires-clause-types c =
    HasTypesFor-at c.args.types.now c.args.members.now c.loop-member.member-index c.member-item.result c.output_of-output.result c.requires c.loop-member-test.true c.member-item.is c.output_of-output.ensures

pub error_of-requires : goal.error_of-requires
error_of-requires c =
    HasTypesFor-at c.args.types.now c.args.members.now c.loop-member.member-index c.member-item.result c.output_of-output.result c.requires c.loop-member-test.true c.member-item.is c.output_of-output.ensures

pub loop-member-init : goal.loop-member-init
loop-member-init c =
    (mesh_of_members-none c.args.types.now _ _ c.no_elements-vertices.ensures c.no_elements-primitives.ensures, WereGiven-none)

pub returns : goal.returns
returns c =
    c.loop-member.invariant.0 ∙ ap (mesh_of_members c.args.types.now) (take_all c.loop-member.member-index c.args.members.now c.loop-member-test.false)

pub topology_given-requires-clause-types : goal.topology_given-requires-clause-types
topology_given-requires-clause-types c =
    HasTypesFor-at c.args.types.now c.args.members.now c.loop-member.member-index c.member-item.result c.output_of-output.result c.requires c.loop-member-test.true c.member-item.is c.output_of-output.ensures
