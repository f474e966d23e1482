use Rattle.naga_look.proofs.EmitsLemmas.{EmitsAccesses-fails, EmitsAccesses-passes}
use Rattle.naga_look.proofs.emits.emits_accesses.Goals as goal

pub returns-in-Ok : goal.returns-in-Ok
returns-in-Ok c =
    EmitsAccesses-passes c.args.function.now c.in_ok-at_use.at_use c.add_all.new.self c.in_ok-at_use.ensures c.add_all.ensures c.in-Ok.ensures

pub returns-in-Err-Misuse : goal.returns-in-Err-Misuse
returns-in-Err-Misuse c =
    EmitsAccesses-fails c.args.function.now c.in_ok-at_use.at_use c.add_all.new.self c.in_ok-at_use.ensures c.add_all.ensures
    c.in-Err-Misuse.field-0 c.in-Err-Misuse.field-0-0 c.in-Err-Misuse.field-0-is c.in-Err-Misuse.ensures
