-- Modules.
--
-- A module is seen as one record of values without spare capacity. Spans are not written, so what is read is the module
-- with undefined spans.
use Rattle.std.specs.Prelude.{⊤, ℕ, List, codes, map, Option, option_map}
use Rattle.naga_arena.specs.declared.span.Span.{Span}
use Rattle.naga_ir.specs.Types.{Inner, type_of}
use Rattle.naga_ir.specs.declared.module.Module as the_module
use Rattle.naga_json.specs.Text.{document}
use Rattle.naga_json.specs.Numbers.{◌>>=◌}
use Rattle.naga_json.specs.Arenas.{arena_value, arena_codec}
use Rattle.naga_json.specs.Declarations.{ConstantValue, constant_value, OverrideValue, override_value, GlobalVariableValue, global_variable_value}
use Rattle.naga_json.specs.DiagnosticFilter.{NodeValue, node_value, node_codec}
use Rattle.naga_json.specs.DocComments.{DocCommentsValue, comments_value, doc_comments_codec}
use Rattle.naga_json.specs.EntryPoint.{EntryPointValue, entry_point_value, entry_point_form}
use Rattle.naga_json.specs.Expression.{ExpressionValue, value_of}
use Rattle.naga_json.specs.Function.{FunctionValue, function_value, function_form}
use Rattle.naga_json.specs.SpecialTypes.{SpecialTypesValue, special_types_value, special_types_codec}
use Rattle.naga_json.specs.Codec.{handle_codec}
use Rattle.naga_json.specs.derived.Module.{constant_codec, global_variable_codec, override_codec}
use Rattle.naga_json.specs.derived.Expression.{expression_form}
use Rattle.naga_json.specs.Fields.{field, no_fields, optional_field}
use Rattle.naga_json.specs.Form.{Form, arena_form, list_form}
use Rattle.naga_json.specs.FormFields.{FormFields, form_field, plain_field, plain_fields, struct_form}
use Rattle.naga_json.specs.Types.{type_codec}

-- a module without the spare capacities of its lists and names
pub record ModuleValue : Type 0 where
  pub types : List ((Option (List ℕ) × Inner) × Span)
  pub special_types : SpecialTypesValue
  pub constants : List (ConstantValue × Span)
  pub overrides : List (OverrideValue × Span)
  pub global_variables : List (GlobalVariableValue × Span)
  pub global_expressions : List (ExpressionValue × Span)
  pub functions : List (FunctionValue × Span)
  pub entry_points : List EntryPointValue
  pub diagnostic_filters : List (NodeValue × Span)
  pub diagnostic_filter_leaf : Option ℕ
  pub doc_comments : Option DocCommentsValue

-- the value of a module
abbrev pub module_value : the_module.Module → ModuleValue
module_value whole = record {
  types = arena_value type_of whole.types;
  special_types = special_types_value whole.special_types;
  constants = arena_value constant_value whole.constants;
  overrides = arena_value override_value whole.overrides;
  global_variables = arena_value global_variable_value whole.global_variables;
  global_expressions = arena_value value_of whole.global_expressions;
  functions = arena_value function_value whole.functions;
  entry_points = map entry_point_value whole.entry_points.items;
  diagnostic_filters = arena_value node_value whole.diagnostic_filters;
  diagnostic_filter_leaf = whole.diagnostic_filter_leaf;
  doc_comments = option_map (λ comments. comments_value comments.value) whole.doc_comments;
}

-- the fields of a module
abbrev pub module_fields : FormFields (List ((Option (List ℕ) × Inner) × Span) × (SpecialTypesValue × (List (ConstantValue × Span) × (List (OverrideValue × Span) × (List (GlobalVariableValue × Span) × (List (ExpressionValue × Span) × (List (FunctionValue × Span) × (List EntryPointValue × (List (NodeValue × Span) × (Option ℕ × (Option DocCommentsValue × ⊤)))))))))))
module_fields =
    plain_field (codes "types") (arena_codec type_codec) (
    plain_field (codes "special_types") special_types_codec (
    plain_field (codes "constants") (arena_codec constant_codec) (
    plain_field (codes "overrides") (arena_codec override_codec) (
    plain_field (codes "global_variables") (arena_codec global_variable_codec) (
    form_field (codes "global_expressions") (arena_form expression_form) (
    form_field (codes "functions") (arena_form function_form) (
    form_field (codes "entry_points") (list_form entry_point_form) (
    plain_fields (
    field (codes "diagnostic_filters") (arena_codec node_codec) (
    optional_field (codes "diagnostic_filter_leaf") handle_codec (
    optional_field (codes "doc_comments") doc_comments_codec no_fields)))))))))))

-- a module
abbrev pub module_form : Form ModuleValue
module_form =
    struct_form module_fields
    (λ parts. record {
      types = parts.0;
      special_types = parts.1.0;
      constants = parts.1.1.0;
      overrides = parts.1.1.1.0;
      global_variables = parts.1.1.1.1.0;
      global_expressions = parts.1.1.1.1.1.0;
      functions = parts.1.1.1.1.1.1.0;
      entry_points = parts.1.1.1.1.1.1.1.0;
      diagnostic_filters = parts.1.1.1.1.1.1.1.1.0;
      diagnostic_filter_leaf = parts.1.1.1.1.1.1.1.1.1.0;
      doc_comments = parts.1.1.1.1.1.1.1.1.1.1.0;
    })
    (λ value. (value.types, (value.special_types, (value.constants, (value.overrides, (value.global_variables, (value.global_expressions, (value.functions, (value.entry_points, (value.diagnostic_filters, (value.diagnostic_filter_leaf, (value.doc_comments, tt))))))))))))

-- the module that a text represents; its types may be equal, and its handles may be invalid
abbrev pub module_in_text : List ℕ → Option ModuleValue
module_in_text text = document text >>= module_form.decode
