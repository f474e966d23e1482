use Rattle.naga_ir.specs.View.{tree_of}
use Rattle.naga_valid.specs.Faults.{IsPartWithin}
use Rattle.naga_valid.specs.Statements.{references_of_tree}
use Rattle.naga_valid.specs.declared.place.Part.TheVariants as part
use Rattle.naga_valid.proofs.FaultLemmas.{ChecksFunction-last}
use Rattle.naga_valid.proofs.handles.function.check_body.Goals as goal

pub returns : goal.returns
returns c =
    ChecksFunction-last c.args.limits.now c.args.function.now c.args.owner.now (IsPartWithin c.args.limits.now c.args.function.now part.Body) c.fault_at.result part.Body c.part.result c.part.ensures
    (c.fault_at.ensures c.args.limits.now (references_of_tree (tree_of c.args.function.now.body)) c.first_outside_in_block-found.ensures) (λ within. within)
