use Rattle.naga_json_write.specs.WriteError.{error_of_value}
use Rattle.naga_json_write.proofs.ModuleLemmas.{failed, reason_of_value}
use Rattle.naga_json_write.proofs.write.module.write_parts.Goals as goal

pub returns-in_err-write_fields-clause-reason : goal.returns-in_err-write_fields-clause-reason
returns-in_err-write_fields-clause-reason c =
    let whole = c.args.«module».now in
    let error = c.in_err-write_fields.field-0.0 in
    failed whole _ (error_of_value error) c.from_residual-in_err-write_fields.ensures.1
    (reason_of_value whole error c.in_ok-check_module.ensures.writable c.in_err-write_fields.ensures.refused)

pub returns-clause-written : goal.returns-clause-written
returns-clause-written c =
    let nothing = c.in_ok-check_module.ensures.writable in
    let written = c.in_ok-write_fields.ensures.written in (
      written.0,
      record {
        no_predeclared_types = nothing.no_predeclared_types;
        no_member_comments = nothing.no_member_comments;
        writes = written.1;
      },
      written.2,
    )
