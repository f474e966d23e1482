use Rattle.std.proofs.Common.{◌∙◌, ap, refl, map}
use Rattle.naga_arena.specs.Arena.{values}
use Rattle.naga_ir.specs.declared.module.Constant.{Constant}
use Rattle.naga_ir.specs.declared.module.GlobalVariable.{GlobalVariable}
use Rattle.naga_ir.specs.declared.module.Module.{Module}
use Rattle.naga_ir.specs.declared.module.Override.{Override}
use Rattle.naga_ir.specs.declared.types.«Type».{«Type» as NamedType}
use Rattle.naga_compact.specs.Kept.{kept_elements}
use Rattle.naga_compact.specs.Renaming.Declarations.{rename_constant, rename_global_variable, rename_override}
use Rattle.naga_compact.specs.Renaming.Renumbering.{renaming_of}
use Rattle.naga_compact.specs.derived.Renaming.{rename_type}
use Rattle.naga_compact.proofs.NamesLemmas.{comments-of, names-mapped, names-of_entry_points, names-of_functions}
use Rattle.naga_compact.proofs.laws.modules.compacting_keeps_names_and_comments.Goals as goal

pub returns-clause-types : goal.returns-clause-types
returns-clause-types c = λ old new keep_unused kept h.
    let name : NamedType → _ = (λ (ty : NamedType). ty.name) in
    ap (λ arena. map name (values arena)) h.removed.types
    ∙ names-mapped name (rename_type (renaming_of kept)) (λ ty. refl) (kept_elements kept.types h.middle.types)
    ∙ ap (λ (whole : Module). map name (values (kept_elements kept.types whole.types))) h.functions.outside

pub returns-clause-constants : goal.returns-clause-constants
returns-clause-constants c = λ old new keep_unused kept h.
    let name : Constant → _ = (λ (declared : Constant). declared.name) in
    ap (λ arena. map name (values arena)) h.removed.constants
    ∙ names-mapped name (rename_constant (renaming_of kept)) (λ declared. refl) (kept_elements kept.constants h.middle.constants)
    ∙ ap (λ (whole : Module). map name (values (kept_elements kept.constants whole.constants))) h.functions.outside

pub returns-clause-overrides : goal.returns-clause-overrides
returns-clause-overrides c = λ old new keep_unused kept h.
    let name : Override → _ = (λ (declared : Override). declared.name) in
    ap (λ arena. map name (values arena)) h.removed.overrides
    ∙ names-mapped name (rename_override (renaming_of kept)) (λ declared. refl) (kept_elements kept.overrides h.middle.overrides)
    ∙ ap (λ (whole : Module). map name (values (kept_elements kept.overrides whole.overrides))) h.functions.outside

pub returns-clause-variables : goal.returns-clause-variables
returns-clause-variables c = λ old new keep_unused kept h.
    let name : GlobalVariable → _ = (λ (declared : GlobalVariable). declared.name) in
    ap (λ arena. map name (values arena)) h.removed.global_variables
    ∙ names-mapped name (rename_global_variable (renaming_of kept)) (λ declared. refl) (kept_elements kept.global_variables h.middle.global_variables)
    ∙ ap (λ (whole : Module). map name (values (kept_elements kept.global_variables whole.global_variables))) h.functions.outside

pub returns-clause-functions : goal.returns-clause-functions
returns-clause-functions c = names-of_functions

pub returns-clause-entry_points : goal.returns-clause-entry_points
returns-clause-entry_points c = names-of_entry_points

pub returns-clause-comments : goal.returns-clause-comments
returns-clause-comments c = comments-of
