use Rattle.std.proofs.Common.{subst}
use Rattle.json.specs.Value.{value_view}
use Rattle.naga_json.specs.EntryPoint.{entry_point_fields, entry_point_form, entry_point_value}
use Rattle.naga_json_values.specs.Reads.{Reads}
use Rattle.naga_json_values.proofs.ReadsLemmas.{reads-none}
use Rattle.naga_json_read.proofs.PartsLemmas.{entry_point_parts, form_none}
use Rattle.naga_json_read.proofs.read.entry_point.EntryPointFromJson.from_json.Goals as goal

pub returns-in_err-object : goal.returns-in_err-object
returns-in_err-object c =
    reads-none entry_point_value c.from_residual.result c.in_err-object.field-0.0 (entry_point_form.decode (value_view c.args.value.now)) c.from_residual.ensures.1 (
    λ other. form_none entry_point_fields _ (value_view c.args.value.now) c.in_err-object.ensures
    )

pub returns : goal.returns
returns c =
    subst (λ meaning. Reads entry_point_value c.read_fields.result meaning) (entry_point_parts (value_view c.args.value.now) (value_view c.in_ok-object.object.now) c.in_ok-object.ensures) c.read_fields.ensures
