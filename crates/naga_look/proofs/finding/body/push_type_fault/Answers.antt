use Rattle.std.proofs.Common.{subst, sym}
use Rattle.std.specs.Prelude.{OnOk}
use Rattle.naga_typing.specs.Joined.{Adds}
use Rattle.naga_look.specs.Findings.{IsTypeFault, inside_of}
use Rattle.naga_look.proofs.finding.body.push_type_fault.Goals as goal

pub returns-in-Value : goal.returns-in-Value
returns-in-Value c =
    subst (λ fault. OnOk c.push_value_fault.result (Adds (IsTypeFault (inside_of c.args.body.now)) fault c.args.found.now.items c.push_value_fault.new.found.items))
    (sym c.in-Value.is) c.push_value_fault.ensures

pub returns-in-Mismatch : goal.returns-in-Mismatch
returns-in-Mismatch c =
    subst (λ fault. OnOk c.push_unmet.result (Adds (IsTypeFault (inside_of c.args.body.now)) fault c.args.found.now.items c.push_unmet.new.found.items))
    (sym c.in-Mismatch.is) c.push_unmet.ensures
