-- An execution that was in bounds has the same outcome after the accesses of its function were clamped.
use Rattle.std.proofs.Common.{◌∙◌, refl}
use Rattle.naga_ir.specs.View.{tree_of}
use Rattle.naga_valid.specs.Limits.{IsWithin}
use Rattle.naga_valid.specs.Places.{lengths, limits_inside}
use Rattle.naga_valid.specs.declared.place.Part.TheVariants as part
use Rattle.naga_compact.specs.Renaming.Declarations.{rename_local_variable}
use Rattle.naga_compact.specs.Renaming.Functions.{map_values}
use Rattle.naga_meaning.specs.Functions.{code_of, initials, parts}
use Rattle.naga_meaning.specs.Values.{entered, outcome}
use Rattle.naga_bounds.specs.Laws.{IsSizeIn}
use Rattle.naga_bounds.specs.Modules.{typed_in}
use Rattle.naga_bounds.specs.Reach.{at_use}
use Rattle.naga_bounds.specs.Restricted.{moving}
use Rattle.naga_bounds.specs.RestrictedLaws.{RestrictingKeepsOutcomes}
use Rattle.naga_bounds.specs.RestrictedModules.{counts_in}
use Rattle.naga_bounds.proofs.KeepsOutcomesLemmas.{outcomes-kept, started}
use Rattle.naga_bounds.proofs.KeepsTypesLemmas.{contents-kept}

pub outcomes-of-clamped : {Thing Value State : Type 0} → RestrictingKeepsOutcomes Thing Value State
outcomes-of-clamped whole old new functions within inside typed clamped initial look by number unsigned_number respects clamps has short turns a b same stays =
    let keeps = contents-kept whole old new inside.precede typed clamped in
    let code = typed_in whole old in
    let is_within = IsWithin (limits_inside (record (lengths whole) { functions = functions }) old) in
    let code' = typed_in whole new in
    let after = code_of look (at_use code') code'.arena in
    let before = code_of look (at_use code) code.arena in
    let variables = map_values (rename_local_variable (moving clamped.changes)) old.local_variables in
    (λ i. outcome (parts look) by after turns (clamped.changed_to.body i) (entered by after (initials (clamped.changed_to.local_variables i)) b))
    ∙ outcomes-kept look by number unsigned_number (counts_in whole) code code' clamped.changes clamped.planned inside.precede clamped.changed_to.expressions refl keeps
    (IsSizeIn code) (λ base handle is. (base, is)) respects clamps has short is_within (λ handle h. h) (λ first past h. h) turns (tree_of old.body) (within part.Body)
    (entered by before (initials old.local_variables) a) (entered by after (initials variables) b)
    (started look by number unsigned_number (counts_in whole) code code' clamped.changes clamped.planned inside.precede clamped.changed_to.expressions refl keeps
    (IsSizeIn code) (λ base handle is. (base, is)) respects clamps has short is_within (λ handle h. h) (λ first past h. h) old.local_variables inside.variables initial a b same)
    stays
