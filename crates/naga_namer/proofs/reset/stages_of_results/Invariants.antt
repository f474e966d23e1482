-- The stages are those of the entry points before the index.
use Rattle.std.proofs.Common.{take}
use Rattle.std.proofs.Common.{ℕ, ◌≡◌}
use Rattle.std.specs.Prelude.{nat_eq}
use Rattle.std.specs.HashMap.{get}
use Rattle.naga_namer.specs.Declarations.{stage_of_result}
use Rattle.naga_namer.proofs.reset.stages_of_results.Given as goal

abbrev pub invariant-each : goal.invariant-each
invariant-each l = (ty : ℕ) → get nat_eq l.stages ty ≡ stage_of_result (take l.index l.entries) ty
