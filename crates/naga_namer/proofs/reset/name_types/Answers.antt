use Rattle.std.proofs.Common.{◌≡◌, ◌∙◌, ℕ, List, Option, ap, subst}
use Rattle.naga_namer.specs.Namers.{naming}
use Rattle.naga_namer.specs.ModuleNames.{AddsNames}
use Rattle.std.specs.Prelude.{nat_eq}
use Rattle.std.specs.HashMap.{get}
use Rattle.naga_kinds.specs.declared.entry_point.ShaderStage.{ShaderStage}
use Rattle.naga_arena.specs.Arena.{values}
use Rattle.naga_namer.specs.Declarations.{declarations_of_types, stage_of_result}
use Rattle.naga_ir.specs.declared.module.EntryPoint.{EntryPoint}
use Rattle.naga_namer.proofs.reset.name_types.Goals as goal

pub returns : goal.returns
returns c =
    let whole = c.args.«module».now in
    let stages = c.in_ok-stages.stages in
    let P : (ℕ → Option ShaderStage) → Type 0 = λ stage_of. AddsNames (naming c.args.namer.now) c.args.entries.now.items
    (declarations_of_types stage_of (values whole.types)) (naming c.name_each_type.new.namer) c.name_each_type.new.entries.items in
    let same : get nat_eq stages ≡ stage_of_result whole.entry_points.items = λ i ty. (c.in_ok-stages.ensures ty ∙ ap (λ (items : List EntryPoint). stage_of_result items ty) c.as_slice.ensures.value) i in
    subst P same c.in_ok-name_each_type.ensures
