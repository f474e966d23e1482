use Rattle.std.proofs.Common.{rules}
use Rattle.naga_json_write.specs.declared.write_error.WriteError.TheVariants.{MemberComments, NotFinite, PredeclaredTypes}
use Rattle.naga_json_write.proofs.FiniteLemmas.{module_is_finite}
use Rattle.naga_json_write.proofs.ModuleLemmas.{equal_reason}
use Rattle.naga_json_write.proofs.write.module.check_module.Goals as goal

pub returns-in_err-check_predeclared_types-clause-reason : goal.returns-in_err-check_predeclared_types-clause-reason
returns-in_err-check_predeclared_types-clause-reason c =
    let some = c.in_err-check_predeclared_types.ensures.some in
    search (rules, equal_reason c.args.«module».now _ PredeclaredTypes some.0 some.1)

pub returns-in_err-check_member_comments-clause-reason : goal.returns-in_err-check_member_comments-clause-reason
returns-in_err-check_member_comments-clause-reason c =
    let some = c.in_err-check_member_comments.ensures.some in
    search (rules, equal_reason c.args.«module».now _ MemberComments some.0 some.1)

pub returns-in_err-check_literals-clause-reason : goal.returns-in_err-check_literals-clause-reason
returns-in_err-check_literals-clause-reason c =
    let whole = c.args.«module».now in
    let some = c.in_err-check_literals.ensures.not_finite in
    search (rules, equal_reason whole _ NotFinite some.0 (λ j writes. some.1 (module_is_finite whole j writes)))
