use Rattle.std.proofs.Common.{◌∙◌, subst, codes}
use Rattle.json.specs.Value.{value_view}
use Rattle.naga_json.specs.Objects.{required_at}
use Rattle.naga_json_types.specs.Arenas.{types_in}
use Rattle.naga_json_read.specs.Module.{RefusesModule, rest_in}
use Rattle.naga_json_read.proofs.ModuleLemmas.{reads_parts-refused, refuses-rest, refuses-types, types_and_rest, whole-module}
use Rattle.naga_json_read.proofs.read.module.read_module_value.Goals as goal

pub returns-in_err-types : goal.returns-in_err-types
returns-in_err-types c =
    let object = value_view c.in_ok-value.value.now in record {
      meaning = reads_parts-refused c.from_residual-in_err-types.result c.in_err-types.field-0.0 _ c.from_residual-in_err-types.ensures.1 (
          subst (λ meaning. RefusesModule c.in_err-types.field-0.0 meaning) (whole-module (value_view c.args.value.now) object c.in_ok-value.ensures)
          (refuses-types c.in_err-types.field-0.0 (required_at types_in (codes "types") object) (rest_in object) c.in_err-types.ensures)
          );
    }

pub returns-in_err-declarations : goal.returns-in_err-declarations
returns-in_err-declarations c =
    let object = value_view c.in_ok-value.value.now in record {
      meaning = reads_parts-refused c.from_residual-in_err-declarations.result c.in_err-declarations.field-0.0 _ c.from_residual-in_err-declarations.ensures.1 (
          subst (λ meaning. RefusesModule c.in_err-declarations.field-0.0 meaning) (whole-module (value_view c.args.value.now) object c.in_ok-value.ensures)
          (refuses-rest c.in_err-declarations.field-0.0 (required_at types_in (codes "types") object) (rest_in object) c.in_err-declarations.ensures)
          );
    }

pub returns : goal.returns
returns c =
    let object = value_view c.in_ok-value.value.now in record {
      meaning =
          (types_and_rest (required_at types_in (codes "types") object) (rest_in object) _ _ c.in_ok-types.ensures.0 c.in_ok-declarations.ensures ∙ whole-module (value_view c.args.value.now) object c.in_ok-value.ensures, c.in_ok-types.ensures.1);
    }
