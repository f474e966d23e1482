-- Modules whose functions compute after passes what they computed before.
use Rattle.std.proofs.Common.{sym, subst, List, [], ◌∷◌}
use Rattle.std.proofs.lemmas.List.Elements.{All-head, All-tail}
use Rattle.std.specs.List.{All}
use Rattle.naga_ir.specs.declared.module.Function as function
use Rattle.naga_ir.specs.declared.module.Module as the_module
use Rattle.naga_valid.specs.Valid.{HandlesAreValid}
use Rattle.naga_compact.specs.declared.module.renumbering.ModuleRenumbering.{ModuleRenumbering}
use Rattle.naga_proc.specs.Closing.{ClosedBy}
use Rattle.naga_meaning.specs.Modules.{KeepsMeaning, KeepsMeanings}
use Rattle.naga_meaning.proofs.KeepsMeaningsLemmas.{KeepsMeanings-of}
use Rattle.naga_passes.specs.After.{After}
use Rattle.naga_passes.specs.Culling.{Culled}
use Rattle.naga_passes.specs.Meanings.{ComputesAfter, FunctionsComputeAfter, RestrictsNothing, renumberings_of}
use Rattle.naga_passes.specs.declared.pass.Pass.{Pass}
use Rattle.naga_passes.specs.declared.pass.Pass.TheVariants.{Cull, Close, Compact, Restrict}
use Rattle.naga_passes.proofs.AfterLemmas.{HandlesAreValid-transformed}
use Rattle.naga_passes.proofs.ComputesAfterLemmas.{ComputesAfter-closed, ComputesAfter-compacted, ComputesAfter-culled, ComputesAfter-none}
use Rattle.naga_passes.proofs.FunctionsBecomeLemmas.{FunctionsBecome-changed, FunctionsBecome-compacted, FunctionsBecome-themselves}

module _ (Thing Value State : Type 0) where
  abbrev Computes : List Pass → List ModuleRenumbering → (old new : function.Function) → Type 0
  Computes = ComputesAfter Thing Value State

  -- all functions compute after passes what they computed before
  pub FunctionsComputeAfter-passes : (passes : List Pass) (old new : the_module.Module) → All RestrictsNothing passes → HandlesAreValid old → (after : After passes old new) →
      FunctionsComputeAfter Thing Value State passes (renumberings_of passes old new after) old new
  FunctionsComputeAfter-passes [] old new none valid after =
      subst (FunctionsComputeAfter Thing Value State [] [] old) (sym after) (FunctionsBecome-themselves (Computes [] []) (ComputesAfter-none Thing Value State) old)
  FunctionsComputeAfter-passes (Cull ∷ others) old new none valid after =
      let renumberings : List ModuleRenumbering = renumberings_of others after.0 new after.2 in
      FunctionsBecome-changed (Computes others renumberings) (Computes (Cull ∷ others) renumberings) renumberings old after.0 new
      (FunctionsComputeAfter-passes others after.0 new (All-tail RestrictsNothing Cull others none) (HandlesAreValid-transformed Cull old after.0 after.1 valid) after.2)
      Culled (λ f g h changes computes. ComputesAfter-culled Thing Value State others renumberings f g h computes changes) after.1
  FunctionsComputeAfter-passes (Close rule ∷ others) old new none valid after =
      let renumberings : List ModuleRenumbering = renumberings_of others after.0 new after.2 in
      FunctionsBecome-changed (Computes others renumberings) (Computes (Close rule ∷ others) renumberings) renumberings old after.0 new
      (FunctionsComputeAfter-passes others after.0 new (All-tail RestrictsNothing (Close rule) others none) (HandlesAreValid-transformed (Close rule) old after.0 after.1 valid) after.2)
      (ClosedBy rule) (λ f g h changes computes. ComputesAfter-closed Thing Value State others renumberings f g h computes rule changes) after.1
  FunctionsComputeAfter-passes (Compact keep_unused ∷ others) old new none valid after =
      let renumberings : List ModuleRenumbering = renumberings_of others after.0 new after.2 in
      let kept : ModuleRenumbering = after.1.0 in
      let meanings : KeepsMeanings Thing Value State old kept after.0 = KeepsMeanings-of old keep_unused kept after.0 valid after.1.1 in
      FunctionsBecome-compacted (Computes others renumberings) (Computes (Compact keep_unused ∷ others) (kept ∷ renumberings)) renumberings old after.0 new
      (FunctionsComputeAfter-passes others after.0 new (All-tail RestrictsNothing (Compact keep_unused) others none) (HandlesAreValid-transformed (Compact keep_unused) old after.0 after.1 valid) after.2)
      (KeepsMeaning Thing Value State kept) (λ f g h keeps computes. ComputesAfter-compacted Thing Value State others renumberings f g h computes keep_unused kept keeps)
      keep_unused kept after.1.1 meanings.functions meanings.entry_points
  FunctionsComputeAfter-passes (Restrict ∷ others) old new none valid after = absurd (All-head RestrictsNothing Restrict others none)
