use Rattle.std.proofs.Common.{◌≡◌, ◌≤◌, Some, ap, arith, get_or, length}
use Rattle.std.proofs.lemmas.List.{length-map}
use Rattle.std.specs.Prelude.{slice_get}
use Rattle.naga_ir.specs.declared.module.EntryPoint as entry_point
use Rattle.naga_flow.specs.Bodies.{BodyPasses, functions_of_entries}
use Rattle.naga_flow.proofs.BodiesLemmas.{All-take_all, All-take_next, slice_get-map}
use Rattle.naga_flow.proofs.bodies.check_entry_points.Goals as goal

pub returns-in-Err : goal.returns-in-Err
returns-in-Err c =
    let entries = c.args.entry_points.now in
    let entry = get_or entries c.entry_points.position c.index-entry_points-position.result in record {
      whole = entry.function;
      at = slice_get-map (λ (entry : entry_point.EntryPoint). entry.function) entries c.entry_points.position entry c.entry_points-test.true
          (ap (get_or entries c.entry_points.position) c.index-entry_points-position.is);
      fault = c.in-Err.ensures.fault;
      earlier = c.entry_points.invariant;
    }

pub entry_points-preserved : goal.entry_points-preserved
entry_points-preserved c =
    let entries = c.args.entry_points.now in
    let entry = get_or entries c.entry_points.position c.index-entry_points-position.result in
    let at : slice_get (functions_of_entries entries) c.entry_points.position ≡ Some entry.function =
    slice_get-map (λ (entry : entry_point.EntryPoint). entry.function) entries c.entry_points.position entry c.entry_points-test.true
    (ap (get_or entries c.entry_points.position) c.index-entry_points-position.is) in
    All-take_next BodyPasses (functions_of_entries entries) c.entry_points.position entry.function at c.entry_points.invariant c.in_default.ensures.passes

pub returns : goal.returns
returns c =
    let entries = c.args.entry_points.now in
    let len : length (functions_of_entries entries) ≡ length entries = length-map entries _ in
    let past : length (functions_of_entries entries) ≤ c.entry_points.position = omega (arith, len, c.entry_points-test.false) in
    All-take_all BodyPasses (functions_of_entries entries) c.entry_points.position past c.entry_points.invariant
