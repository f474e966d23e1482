use Rattle.std.proofs.Common.{subst}
use Rattle.std.proofs.lemmas.Result.{MatchResult-weaker}
use Rattle.naga_valid.specs.Faults.{ChecksFunction, IsPartWithin}
use Rattle.naga_valid.specs.declared.place.Part.{Part}
use Rattle.naga_valid.proofs.FaultLemmas.{IsPartWithin-all}
use Rattle.naga_valid.proofs.handles.function.check_function.Goals as goal

pub returns : goal.returns
returns c =
    subst (λ limits. ChecksFunction limits c.args.function.now c.args.owner.now ((inner : Part) → IsPartWithin limits c.args.function.now inner) c.check_statements.result) c.in_function-limits.ensures
    (MatchResult-weaker c.check_statements.result c.check_statements.ensures
    (λ _ others. IsPartWithin-all c.in_function-limits.result c.args.function.now c.in_default.ensures c.in_default-check_local_variables.ensures c.in_default-check_expressions.ensures others)
    (λ fault found. found))
