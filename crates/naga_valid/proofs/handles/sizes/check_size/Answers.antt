use Rattle.std.proofs.Common.{◌≡◌, ◌∙◌, Some, sym}
use Rattle.naga_valid.specs.Valid.{init_of_reference, size_of_type}
use Rattle.naga_valid.specs.declared.reference.Reference.TheVariants as reference
use Rattle.naga_valid.proofs.SizePrecedesLemmas.{SizePrecedes-checked}
use Rattle.naga_valid.proofs.handles.sizes.check_size.Goals as goal

pub returns-in-Some-init_of_reference-clause-precedes : goal.returns-in-Some-init_of_reference-clause-precedes
returns-in-Some-init_of_reference-clause-precedes c =
    let has : size_of_type c.args.module.now c.args.ty ≡ Some c.in-Some.size = sym c.size_of_type.ensures ∙ c.in-Some.is in
    let is : init_of_reference c.args.module.now (reference.Override c.in-Some.size) ≡ Some c.in-Some-init_of_reference.init = sym c.init_of_reference.ensures ∙ c.in-Some-init_of_reference.is in
    SizePrecedes-checked c.args.module.now c.args.ty c.in-Some.size has c.in-Some-init_of_reference.init c.check_init.result is
    c.in_default-type_from.ensures c.check_init.ensures.past c.check_init.ensures.tested
