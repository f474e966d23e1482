-- Modules are read as they are written.
use Rattle.std.proofs.Common.{refl}
use Rattle.naga_json.specs.Form.{LawfulForm}
use Rattle.naga_json.specs.Module.{module_fields, module_form}
use Rattle.naga_json.proofs.ArenasLemmas.{lawful-arena}
use Rattle.naga_json.proofs.CodecLemmas.{lawful-handle}
use Rattle.naga_json.proofs.derived.ModuleLemmas.{lawful-constant, lawful-global_variable, lawful-override}
use Rattle.naga_json.proofs.DiagnosticFilterLemmas.{lawful-node}
use Rattle.naga_json.proofs.DocCommentsLemmas.{lawful-doc_comments}
use Rattle.naga_json.proofs.EntryPointLemmas.{lawful-entry_point}
use Rattle.naga_json.proofs.derived.ExpressionLemmas.{lawful-expression}
use Rattle.naga_json.proofs.FieldsLemmas.{contains, distinct, lawful-field, lawful-no_fields, lawful-optional_field}
use Rattle.naga_json.proofs.FormFieldsLemmas.{LawfulFormFields, lawful-form_field, lawful-plain_field, lawful-plain_fields, lawful-struct_form}
use Rattle.naga_json.proofs.FormLemmas.{lawful-arena_form, lawful-list_form}
use Rattle.naga_json.proofs.FunctionLemmas.{lawful-function}
use Rattle.naga_json.proofs.SpecialTypesLemmas.{lawful-special_types}
use Rattle.naga_json.proofs.TypesLemmas.{lawful-type}

lawful-module_fields : LawfulFormFields module_fields
lawful-module_fields = search (lawful-form_field, lawful-plain_field, lawful-plain_fields, lawful-field, lawful-no_fields, lawful-optional_field, lawful-arena, lawful-type, lawful-special_types, lawful-constant, lawful-global_variable, lawful-override, lawful-node, lawful-handle, lawful-doc_comments, lawful-arena_form, lawful-list_form, lawful-expression, lawful-function, lawful-entry_point) depth 30

pub lawful-module : LawfulForm module_form
unfolding distinct contains
lawful-module = lawful-struct_form module_fields lawful-module_fields _ _ (λ value. refl) (λ parts. refl) refl
