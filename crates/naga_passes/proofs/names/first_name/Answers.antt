use Rattle.std.proofs.Common.{arith}
use Rattle.naga_passes.proofs.NamesLemmas.{names_in-first, names_in-one}
use Rattle.naga_passes.proofs.names.first_name.Goals as goal

pub returns-in-Some-clause-names : goal.returns-in-Some-clause-names
returns-in-Some-clause-names c =
    let cut = c.in-Some.ensures.byte (omega arith) (λ text found is. is) in
    names_in-first c.args.list.now c.in-Some.name.now c.trim.result.now c.in-Some.others.now c.trim.ensures.trim cut.0 cut.1 cut.2

pub returns-in-None-clause-names : goal.returns-in-None-clause-names
returns-in-None-clause-names c =
    names_in-one c.args.list.now c.trim-in-None.result.now c.trim-in-None.ensures.trim (c.in-None.ensures.byte (omega arith) (λ text found is. is))
