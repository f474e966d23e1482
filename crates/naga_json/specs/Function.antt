-- Functions and their parts.
use Rattle.std.specs.Prelude.{⊤, ℕ, List, codes, map, string_bytes, Option, option_map}
use Rattle.naga_arena.specs.declared.span.Span.{Span}
use Rattle.naga_arena.specs.Limits.{max_len}
use Rattle.naga_ir.specs.declared.module.FunctionResult.{FunctionResult}
use Rattle.naga_ir.specs.declared.module.Function.{Function}
use Rattle.naga_json.specs.Arenas.{arena_value, arena_codec}
use Rattle.naga_json.specs.Expression.{ExpressionValue, value_of}
use Rattle.naga_json.specs.Maps.{map_value, map_codec}
use Rattle.naga_json.specs.StatementValue.{BlockValue, value_of_block}
use Rattle.naga_json.specs.Block.{block_codec}
use Rattle.naga_json.specs.Codec.{Codec, handle_codec, text_codec}
use Rattle.naga_json.specs.derived.Expression.{expression_form}
use Rattle.naga_json.specs.Fields.{field, no_fields, optional_field}
use Rattle.naga_json.specs.Form.{Form, arena_form}
use Rattle.naga_json.specs.FormFields.{FormFields, form_field, plain_field, plain_fields, plain_optional_field, struct_form}
use Rattle.naga_json.specs.Lists.{list_codec}
use Rattle.naga_json.specs.Declarations.{FunctionArgumentValue, LocalVariableValue, function_argument_value, local_variable_value}
use Rattle.naga_json.specs.derived.Module.{function_argument_codec, function_result_codec, local_variable_codec}

-- a function without the spare capacities of its lists and names
pub record FunctionValue : Type 0 where
  pub name : Option (List ℕ)
  pub arguments : List FunctionArgumentValue
  pub result : Option FunctionResult
  pub local_variables : List (LocalVariableValue × Span)
  pub expressions : List (ExpressionValue × Span)
  pub named_expressions : List (ℕ × List ℕ)
  pub body : BlockValue
  pub diagnostic_filter_leaf : Option ℕ

-- the value of a function
abbrev pub function_value : Function → FunctionValue
function_value function = record {
  name = option_map string_bytes function.name;
  arguments = map function_argument_value function.arguments.items;
  result = function.result;
  local_variables = arena_value local_variable_value function.local_variables;
  expressions = arena_value value_of function.expressions;
  named_expressions = map_value string_bytes function.named_expressions;
  body = value_of_block function.body;
  diagnostic_filter_leaf = function.diagnostic_filter_leaf;
}

-- the names of expressions
abbrev pub names_codec : Codec (List (ℕ × List ℕ))
names_codec = map_codec max_len text_codec

-- the fields of a function
abbrev pub function_fields : FormFields (Option (List ℕ) × (List FunctionArgumentValue × (Option FunctionResult × (List (LocalVariableValue × Span) × (List (ExpressionValue × Span) × (List (ℕ × List ℕ) × (BlockValue × (Option ℕ × ⊤))))))))
function_fields =
    plain_optional_field (codes "name") text_codec (
    plain_field (codes "arguments") (list_codec function_argument_codec) (
    plain_optional_field (codes "result") function_result_codec (
    plain_field (codes "local_variables") (arena_codec local_variable_codec) (
    form_field (codes "expressions") (arena_form expression_form) (
    plain_fields (
    field (codes "named_expressions") names_codec (
    field (codes "body") block_codec (
    optional_field (codes "diagnostic_filter_leaf") handle_codec no_fields))))))))

-- a function
abbrev pub function_form : Form FunctionValue
function_form =
    struct_form function_fields
    (λ parts. record {
      name = parts.0;
      arguments = parts.1.0;
      result = parts.1.1.0;
      local_variables = parts.1.1.1.0;
      expressions = parts.1.1.1.1.0;
      named_expressions = parts.1.1.1.1.1.0;
      body = parts.1.1.1.1.1.1.0;
      diagnostic_filter_leaf = parts.1.1.1.1.1.1.1.0;
    })
    (λ value. (value.name, (value.arguments, (value.result, (value.local_variables, (value.expressions, (value.named_expressions, (value.body, (value.diagnostic_filter_leaf, tt)))))))))
