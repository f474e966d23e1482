-- A valid module whose bodies are culled is valid.
use Rattle.std.proofs.Common.{subst}
use Rattle.std.specs.List.{Contains}
use Rattle.naga_ir.specs.declared.module.Module as the_module
use Rattle.naga_valid.specs.Statements.{references_of_tree}
use Rattle.naga_valid.specs.Valid.{HandlesAreValid}
use Rattle.naga_proc.proofs.Bodies.AddsNoHandlesLemmas.{AddsNoHandles, HandlesAreValid-changed}
use Rattle.naga_passes.specs.Culling.{Culled, CullsBodies}
use Rattle.naga_passes.proofs.ReferencesOfTreeLemmas.{Contains-culled}

Culled-AddsNoHandles : AddsNoHandles Culled
Culled-AddsNoHandles b c is handle inside = Contains-culled b handle (subst (λ block. Contains (references_of_tree block) handle) is inside)

pub HandlesAreValid-culled : (old new : the_module.Module) → CullsBodies old new → HandlesAreValid old → HandlesAreValid new
HandlesAreValid-culled = HandlesAreValid-changed Culled Culled-AddsNoHandles
