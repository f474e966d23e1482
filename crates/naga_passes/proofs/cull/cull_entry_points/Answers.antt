use Rattle.std.proofs.Common.{refl, sym, subst, get_or, arith}
use Rattle.naga_ir.specs.declared.module.EntryPoint.{EntryPoint}
use Rattle.naga_compact.proofs.AllZipLemmas.{ReplacedTo-end, ReplacedTo-length, ReplacedTo-next}
use Rattle.naga_proc.specs.Bodies.{ChangesEntryBody}
use Rattle.naga_passes.specs.Culling.{Culled}
use Rattle.naga_passes.proofs.cull.cull_entry_points.Goals as goal

pub entry_points-preserved : goal.entry_points-preserved
entry_points-preserved c =
    let long = ReplacedTo-length (ChangesEntryBody Culled) c.entry_points.entry_point-index c.args.entry_points.now c.entry_points.entry_points c.entry_points.invariant in
    let held : EntryPoint = get_or c.entry_points.entry_points c.entry_points.entry_point-index c.entry_point-item.result in
    let written : EntryPoint = record held { function = c.cull_function.new.function } in
    ReplacedTo-next (ChangesEntryBody Culled) c.entry_points.entry_point-index c.args.entry_points.now c.entry_points.entry_points c.entry_point-item.result written c.entry_points.invariant (omega arith) c.entry_point-item.is
    (subst (λ (entry : EntryPoint). ChangesEntryBody Culled entry written) (sym c.entry_point-item.is) (refl, c.cull_function.ensures))

pub returns : goal.returns
returns c =
    let long = ReplacedTo-length (ChangesEntryBody Culled) c.entry_points.entry_point-index c.args.entry_points.now c.entry_points.entry_points c.entry_points.invariant in
    ReplacedTo-end (ChangesEntryBody Culled) c.entry_points.entry_point-index c.args.entry_points.now c.entry_points.entry_points (omega arith) c.entry_points.invariant
