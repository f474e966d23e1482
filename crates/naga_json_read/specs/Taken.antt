-- The parts of a module that are taken from tokens, field by field.
use Rattle.std.specs.Prelude.{◌≡◌, List, ◌∷◌, codes, map, option_map, string_bytes}
use Rattle.json.specs.Find.{as_str}
use Rattle.json.specs.Token.{Token}
use Rattle.naga_json.specs.Arenas.{arena_in, arena_value}
use Rattle.naga_json.specs.Block.{block_codec}
use Rattle.naga_json.specs.Codec.{handle_codec, option_codec, word_codec}
use Rattle.naga_json.specs.Declarations.{constant_value, function_argument_value, global_variable_value, local_variable_value, override_value}
use Rattle.naga_json.specs.DiagnosticFilter.{node_value, node_codec}
use Rattle.naga_json.specs.DocComments.{comments_value, doc_comments_codec}
use Rattle.naga_json.specs.EntryPoint.{entry_point_form, entry_point_value}
use Rattle.naga_json.specs.Expression.{value_of}
use Rattle.naga_json.specs.Function.{function_form, function_value, names_codec}
use Rattle.naga_json.specs.Lists.{array_codec, each_in}
use Rattle.naga_json.specs.Maps.{map_value}
use Rattle.naga_json.specs.Objects.{nullable_in}
use Rattle.naga_json.specs.SpecialTypes.{special_types_value, special_types_codec}
use Rattle.naga_json.specs.StatementValue.{value_of_block}
use Rattle.naga_json.specs.derived.EntryPoint.{early_depth_test_codec}
use Rattle.naga_json.specs.derived.Expression.{expression_form}
use Rattle.naga_json.specs.derived.Kinds.{shader_stage_codec}
use Rattle.naga_json.specs.derived.Module.{constant_codec, function_argument_codec, function_result_codec, global_variable_codec, local_variable_codec, mesh_stage_info_codec, override_codec}
use Rattle.naga_json_tokens.specs.Takes.{TakesField}
use Rattle.naga_json_read.specs.declared.parts.Content.{Content}
use Rattle.naga_json_read.specs.declared.parts.Declarations.{Declarations}
use Rattle.naga_json_read.specs.declared.parts.Definitions.{Definitions}
use Rattle.naga_json_read.specs.declared.parts.Invocation.{Invocation}
use Rattle.naga_json_read.specs.declared.parts.Signature.{Signature}
use Rattle.naga_json_read.specs.declared.parts.Work.{Work}

-- The tokens `old` are those of the members that say how an entry point is invoked, in order, and then the tokens `new`.
pub record TakesInvocation (invocation : Invocation) (old new : List Token) : Type 0 where
  pub after_name : List Token
  pub after_stage : List Token
  pub after_test : List Token
  pub after_size : List Token
  pub name : TakesField (codes "name") as_str (string_bytes invocation.name) old after_name
  pub stage : TakesField (codes "stage") shader_stage_codec.decode invocation.stage after_name after_stage
  pub early_depth_test : TakesField (codes "early_depth_test") (nullable_in early_depth_test_codec.decode) invocation.early_depth_test after_stage after_test
  pub workgroup_size : TakesField (codes "workgroup_size") (array_codec 3 word_codec).decode invocation.workgroup_size after_test after_size
  pub workgroup_size_overrides : TakesField (codes "workgroup_size_overrides") (nullable_in (array_codec 3 (option_codec handle_codec)).decode) invocation.workgroup_size_overrides after_size new

-- The tokens `old` are those of the other members of an entry point, in order, of its end, and then the tokens `new`.
pub record TakesWork (work : Work) (old new : List Token) : Type 0 where
  pub after_function : List Token
  pub after_info : List Token
  pub after_payload : List Token
  pub after_incoming : List Token
  pub function : TakesField (codes "function") function_form.decode (function_value work.function) old after_function
  pub mesh_info : TakesField (codes "mesh_info") (nullable_in mesh_stage_info_codec.decode) work.mesh_info after_function after_info
  pub task_payload : TakesField (codes "task_payload") (nullable_in handle_codec.decode) work.task_payload after_info after_payload
  pub incoming_ray_payload : TakesField (codes "incoming_ray_payload") (nullable_in handle_codec.decode) work.incoming_ray_payload after_payload after_incoming
  pub ended : after_incoming ≡ Token.end_object ∷ new

-- The tokens `old` are those of the members of a signature, in order, and then the tokens `new`.
pub record TakesSignature (signature : Signature) (old new : List Token) : Type 0 where
  pub after_name : List Token
  pub after_arguments : List Token
  pub name : TakesField (codes "name") (nullable_in as_str) (option_map string_bytes signature.name) old after_name
  pub arguments : TakesField (codes "arguments") (each_in function_argument_codec.decode) (map function_argument_value signature.arguments.items) after_name after_arguments
  pub result : TakesField (codes "result") (nullable_in function_result_codec.decode) signature.result after_arguments new

-- The tokens `old` are those of the other members of a function, in order, of its end, and then the tokens `new`.
pub record TakesContent (content : Content) (old new : List Token) : Type 0 where
  pub after_variables : List Token
  pub after_expressions : List Token
  pub after_names : List Token
  pub after_body : List Token
  pub after_leaf : List Token
  pub local_variables : TakesField (codes "local_variables") (arena_in local_variable_codec.decode) (arena_value local_variable_value content.local_variables) old after_variables
  pub expressions : TakesField (codes "expressions") (arena_in expression_form.decode) (arena_value value_of content.expressions) after_variables after_expressions
  pub named_expressions : TakesField (codes "named_expressions") names_codec.decode (map_value string_bytes content.named_expressions) after_expressions after_names
  pub body : TakesField (codes "body") block_codec.decode (value_of_block content.body) after_names after_body
  pub diagnostic_filter_leaf : TakesField (codes "diagnostic_filter_leaf") (nullable_in handle_codec.decode) content.diagnostic_filter_leaf after_body after_leaf
  pub ended : after_leaf ≡ Token.end_object ∷ new

-- The tokens `old` are those of the members of a module between its types and its functions, in order, and then the
-- tokens `new`.
pub record TakesDeclarations (declarations : Declarations) (old new : List Token) : Type 0 where
  pub after_types : List Token
  pub after_constants : List Token
  pub after_overrides : List Token
  pub after_variables : List Token
  pub special_types : TakesField (codes "special_types") special_types_codec.decode (special_types_value declarations.special_types) old after_types
  pub constants : TakesField (codes "constants") (arena_in constant_codec.decode) (arena_value constant_value declarations.constants) after_types after_constants
  pub overrides : TakesField (codes "overrides") (arena_in override_codec.decode) (arena_value override_value declarations.overrides) after_constants after_overrides
  pub global_variables : TakesField (codes "global_variables") (arena_in global_variable_codec.decode) (arena_value global_variable_value declarations.global_variables) after_overrides after_variables
  pub global_expressions : TakesField (codes "global_expressions") (arena_in expression_form.decode) (arena_value value_of declarations.global_expressions) after_variables new

-- The tokens `old` are those of the members of a module from its functions on, in order, of its end, and then the tokens
-- `new`.
pub record TakesDefinitions (definitions : Definitions) (old new : List Token) : Type 0 where
  pub after_functions : List Token
  pub after_entry_points : List Token
  pub after_filters : List Token
  pub after_leaf : List Token
  pub after_comments : List Token
  pub functions : TakesField (codes "functions") (arena_in function_form.decode) (arena_value function_value definitions.functions) old after_functions
  pub entry_points : TakesField (codes "entry_points") (each_in entry_point_form.decode) (map entry_point_value definitions.entry_points.items) after_functions after_entry_points
  pub diagnostic_filters : TakesField (codes "diagnostic_filters") (arena_in node_codec.decode) (arena_value node_value definitions.diagnostic_filters) after_entry_points after_filters
  pub diagnostic_filter_leaf : TakesField (codes "diagnostic_filter_leaf") (nullable_in handle_codec.decode) definitions.diagnostic_filter_leaf after_filters after_leaf
  pub doc_comments : TakesField (codes "doc_comments") (nullable_in doc_comments_codec.decode) (option_map (λ comments. comments_value comments.value) definitions.doc_comments) after_leaf after_comments
  pub ended : after_comments ≡ Token.end_object ∷ new
