-- Functions are read as they are written.
use Rattle.std.proofs.Common.{refl, arith}
use Rattle.naga_json.specs.Form.{LawfulForm}
use Rattle.naga_json.specs.Function.{function_fields, function_form, names_codec}
use Rattle.naga_json.specs.Lawful.{Lawful}
use Rattle.naga_json.proofs.ArenasLemmas.{lawful-arena}
use Rattle.naga_json.proofs.BlockLemmas.{lawful-block}
use Rattle.naga_json.proofs.CodecLemmas.{lawful-handle, lawful-text}
use Rattle.naga_json.proofs.derived.ExpressionLemmas.{lawful-expression}
use Rattle.naga_json.proofs.FieldsLemmas.{contains, distinct, lawful-field, lawful-no_fields, lawful-optional_field}
use Rattle.naga_json.proofs.FormFieldsLemmas.{LawfulFormFields, lawful-form_field, lawful-plain_field, lawful-plain_fields, lawful-plain_optional_field, lawful-struct_form}
use Rattle.naga_json.proofs.FormLemmas.{lawful-arena_form}
use Rattle.naga_json.proofs.ListsLemmas.{lawful-list}
use Rattle.naga_json.proofs.MapsLemmas.{lawful-map}
use Rattle.naga_json.proofs.derived.ModuleLemmas.{lawful-function_argument, lawful-function_result, lawful-local_variable}

pub lawful-names : Lawful names_codec
lawful-names = lawful-map _ (omega arith) _ lawful-text

lawful-function_fields : LawfulFormFields function_fields
lawful-function_fields = search (lawful-form_field, lawful-plain_field, lawful-plain_fields, lawful-plain_optional_field, lawful-field, lawful-no_fields, lawful-optional_field, lawful-handle, lawful-text, lawful-list, lawful-function_argument, lawful-function_result, lawful-local_variable, lawful-arena, lawful-block, lawful-arena_form, lawful-expression, lawful-names) depth 24

pub lawful-function : LawfulForm function_form
unfolding distinct contains
lawful-function = lawful-struct_form function_fields lawful-function_fields _ _ (λ value. refl) (λ parts. refl) refl
