use Rattle.naga_typing.proofs.DeclarationFaultsLemmas.{AreInitialFaults-stages}
use Rattle.naga_typing.proofs.declarations.faults_of_initials.Goals as goal

pub returns : goal.returns
returns c =
    AreInitialFaults-stages c.args.typed.now c.new-faults.result.items c.push_faults.new.faults.items c.push_faults-2.new.faults.items
    c.push_faults-3.new.faults.items c.new-faults.ensures.items
    c.in_ok-push_faults.ensures c.in_ok-push_faults-2.ensures c.in_ok-push_faults-3.ensures
