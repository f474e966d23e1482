use Rattle.std.proofs.Common.{map, subst}
use Rattle.std.proofs.lemmas.List.Elements.{All-append, Contains-append_left, Contains-append_right}
use Rattle.indexmap.specs.IndexMap.{values}
use Rattle.naga_valid.specs.Faults.{ChecksList, IsFaultOf}
use Rattle.naga_valid.specs.Limits.{AreWithin, IsWithin}
use Rattle.naga_valid.specs.Places.{lengths, references_of_fixed_types}
use Rattle.naga_valid.specs.declared.reference.Reference.TheVariants as reference
use Rattle.naga_valid.specs.declared.place.Place.TheVariants as place
use Rattle.naga_valid.proofs.FaultLemmas.{Checks-last, IsOutside-at}
use Rattle.naga_valid.proofs.handles.declarations.check_special_types.Goals as goal

pub returns-in-Err : goal.returns-in-Err
returns-in-Err c =
    let fixed = references_of_fixed_types c.args.module.now.special_types in
    let listed = map reference.«Type» (values c.args.module.now.special_types.predeclared_types) in
    let found : IsFaultOf (lengths c.args.module.now) fixed place.SpecialTypes c.in-Err.fault =
    subst (λ limits. IsFaultOf limits fixed place.SpecialTypes c.in-Err.fault) c.requires
    c.in-Err.ensures
    in
    IsOutside-at c.args.module.now c.in-Err.fault place.SpecialTypes (found.0, Contains-append_left fixed listed c.in-Err.fault.reference found.1, found.2)

pub returns : goal.returns
returns c =
    let fixed = references_of_fixed_types c.args.module.now.special_types in
    let listed = map reference.«Type» (values c.args.module.now.special_types.predeclared_types) in
    let first : AreWithin (lengths c.args.module.now) fixed =
    subst (λ limits. AreWithin limits fixed) c.requires c.in_default.ensures
    in
    Checks-last c.args.module.now _ c.check_values.result place.SpecialTypes listed (subst (λ limits. ChecksList limits listed place.SpecialTypes c.check_values.result) c.requires c.check_values.ensures)
    (λ second. All-append (IsWithin (lengths c.args.module.now)) fixed listed first second)
    (λ handle inside. Contains-append_right fixed listed handle inside)
