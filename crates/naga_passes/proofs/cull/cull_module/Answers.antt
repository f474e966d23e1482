use Rattle.naga_proc.proofs.Bodies.ChangesBodiesLemmas.{ChangesBodies-from}
use Rattle.naga_passes.specs.Culling.{Culled}
use Rattle.naga_passes.proofs.CullsBodiesLemmas.{HandlesAreValid-culled}
use Rattle.naga_passes.proofs.cull.cull_module.Goals as goal

pub returns-clause-culled : goal.returns-clause-culled
returns-clause-culled c =
    ChangesBodies-from Culled c.args.module.now c.cull_functions.new.functions c.deref_mut.result.now c.cull_entry_points.new.entry_points c.cull_functions.ensures c.deref_mut.ensures.value c.cull_entry_points.ensures

pub returns-clause-valid : goal.returns-clause-valid
returns-clause-valid c =
    HandlesAreValid-culled c.args.module.now _
    (ChangesBodies-from Culled c.args.module.now c.cull_functions.new.functions c.deref_mut.result.now c.cull_entry_points.new.entry_points c.cull_functions.ensures c.deref_mut.ensures.value c.cull_entry_points.ensures)
