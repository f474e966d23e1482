-- What the fields of the parts of a module represent, one field after another.
use Rattle.std.specs.Prelude.{ℕ, List, Option, Some, codes, map, option_map, string_bytes}
use Rattle.json.specs.Json.{Json}
use Rattle.json.specs.Find.{as_str}
use Rattle.naga_arena.specs.declared.span.Span.{Span}
use Rattle.naga_ir.specs.declared.module.FunctionResult.{FunctionResult}
use Rattle.naga_ir.specs.declared.module.MeshStageInfo.{MeshStageInfo}
use Rattle.naga_json.specs.Arenas.{arena_in, arena_value}
use Rattle.naga_json.specs.Block.{block_codec}
use Rattle.naga_json.specs.Codec.{handle_codec, option_codec, word_codec}
use Rattle.naga_json.specs.Declarations.{ConstantValue, constant_value, FunctionArgumentValue, function_argument_value, GlobalVariableValue, global_variable_value, LocalVariableValue, local_variable_value, OverrideValue, override_value}
use Rattle.naga_json.specs.DiagnosticFilter.{NodeValue, node_value, node_codec}
use Rattle.naga_json.specs.DocComments.{DocCommentsValue, comments_value, doc_comments_codec, handle_comments_codec, lines_codec, lines_of, position_comments_codec}
use Rattle.naga_json.specs.EntryPoint.{EntryPointValue, entry_point_form, entry_point_value}
use Rattle.naga_json.specs.Expression.{ExpressionValue, value_of}
use Rattle.naga_json.specs.Function.{FunctionValue, function_form, function_value, names_codec}
use Rattle.naga_json.specs.Lists.{array_codec, each_in}
use Rattle.naga_json.specs.Maps.{empty_map_codec, map_value}
use Rattle.naga_json.specs.Numbers.{◌>>=◌}
use Rattle.naga_json.specs.Objects.{required_at, optional_at}
use Rattle.naga_json.specs.SpecialTypes.{SpecialTypesValue, special_types_value, special_types_codec}
use Rattle.naga_json.specs.StatementValue.{BlockValue, value_of_block}
use Rattle.naga_json.specs.derived.EntryPoint.{early_depth_test_codec}
use Rattle.naga_json.specs.derived.Expression.{expression_form}
use Rattle.naga_json.specs.derived.Kinds.{shader_stage_codec}
use Rattle.naga_json.specs.derived.Module.{constant_codec, function_argument_codec, function_result_codec, global_variable_codec, local_variable_codec, mesh_stage_info_codec, override_codec}
use Rattle.naga_kinds.specs.declared.entry_point.EarlyDepthTest.{EarlyDepthTest}
use Rattle.naga_kinds.specs.declared.entry_point.ShaderStage.{ShaderStage}
use Rattle.naga_json_read.specs.declared.parts.Content.{Content}
use Rattle.naga_json_read.specs.declared.parts.Declarations.{Declarations}
use Rattle.naga_json_read.specs.declared.parts.Definitions.{Definitions}
use Rattle.naga_json_read.specs.declared.parts.FirstComments.{FirstComments}
use Rattle.naga_json_read.specs.declared.parts.Invocation.{Invocation}
use Rattle.naga_json_read.specs.declared.parts.LastComments.{LastComments}
use Rattle.naga_json_read.specs.declared.parts.Signature.{Signature}
use Rattle.naga_json_read.specs.declared.parts.Work.{Work}

-- how an entry point is invoked
pub record InvocationValue : Type 0 where
  pub name : List ℕ
  pub stage : ShaderStage
  pub early_depth_test : Option EarlyDepthTest
  pub workgroup_size : List ℕ
  pub workgroup_size_overrides : Option (List (Option ℕ))

-- the value of what says how an entry point is invoked
abbrev pub invocation_value : Invocation → InvocationValue
invocation_value invocation = record {
  name = string_bytes invocation.name;
  stage = invocation.stage;
  early_depth_test = invocation.early_depth_test;
  workgroup_size = invocation.workgroup_size;
  workgroup_size_overrides = invocation.workgroup_size_overrides;
}

-- what the fields of an entry point represent that say how it is invoked
unfoldable pub invocation_in : Json → Option InvocationValue
invocation_in value = do
  name ← required_at as_str (codes "name") value
  stage ← required_at shader_stage_codec.decode (codes "stage") value
  depth_test ← optional_at early_depth_test_codec.decode (codes "early_depth_test") value
  size ← required_at (array_codec 3 word_codec).decode (codes "workgroup_size") value
  overrides ← optional_at (array_codec 3 (option_codec handle_codec)).decode (codes "workgroup_size_overrides") value
  Some (record { name = name; stage = stage; early_depth_test = depth_test; workgroup_size = size; workgroup_size_overrides = overrides })

-- what an entry point runs, and what it receives
pub record WorkValue : Type 0 where
  pub function : FunctionValue
  pub mesh_info : Option MeshStageInfo
  pub task_payload : Option ℕ
  pub incoming_ray_payload : Option ℕ

-- the value of what an entry point runs
abbrev pub work_value : Work → WorkValue
work_value work = record {
  function = function_value work.function;
  mesh_info = work.mesh_info;
  task_payload = work.task_payload;
  incoming_ray_payload = work.incoming_ray_payload;
}

-- what the fields of an entry point represent that say what it runs
unfoldable pub work_in : Json → Option WorkValue
work_in value = do
  function ← required_at function_form.decode (codes "function") value
  mesh ← optional_at mesh_stage_info_codec.decode (codes "mesh_info") value
  payload ← optional_at handle_codec.decode (codes "task_payload") value
  incoming ← optional_at handle_codec.decode (codes "incoming_ray_payload") value
  Some (record { function = function; mesh_info = mesh; task_payload = payload; incoming_ray_payload = incoming })

-- the entry point with these parts
abbrev pub entry_point_of : InvocationValue → WorkValue → EntryPointValue
entry_point_of invocation work = record {
  name = invocation.name;
  stage = invocation.stage;
  early_depth_test = invocation.early_depth_test;
  workgroup_size = invocation.workgroup_size;
  workgroup_size_overrides = invocation.workgroup_size_overrides;
  function = work.function;
  mesh_info = work.mesh_info;
  task_payload = work.task_payload;
  incoming_ray_payload = work.incoming_ray_payload;
}

-- the entry point with these parts, if there are both
abbrev pub whole_entry_point : Option InvocationValue → Option WorkValue → Option EntryPointValue
whole_entry_point invocation work = invocation >>= λ a. work >>= λ b. Some (entry_point_of a b)

-- what the fields of an entry point represent
unfoldable pub entry_point_in : Json → Option EntryPointValue
entry_point_in value = whole_entry_point (invocation_in value) (work_in value)

-- what the callers of a function need
pub record SignatureValue : Type 0 where
  pub name : Option (List ℕ)
  pub arguments : List FunctionArgumentValue
  pub result : Option FunctionResult

-- the value of a signature
abbrev pub signature_value : Signature → SignatureValue
signature_value signature = record {
  name = option_map string_bytes signature.name;
  arguments = map function_argument_value signature.arguments.items;
  result = signature.result;
}

-- what the fields of the signature of a function represent
unfoldable pub signature_in : Json → Option SignatureValue
signature_in value = do
  name ← optional_at as_str (codes "name") value
  arguments ← required_at (each_in function_argument_codec.decode) (codes "arguments") value
  result ← optional_at function_result_codec.decode (codes "result") value
  Some (record { name = name; arguments = arguments; result = result })

-- all of a function but its signature
pub record ContentValue : Type 0 where
  pub local_variables : List (LocalVariableValue × Span)
  pub expressions : List (ExpressionValue × Span)
  pub named_expressions : List (ℕ × List ℕ)
  pub body : BlockValue
  pub diagnostic_filter_leaf : Option ℕ

-- the value of all of a function but its signature
abbrev pub content_value : Content → ContentValue
content_value content = record {
  local_variables = arena_value local_variable_value content.local_variables;
  expressions = arena_value value_of content.expressions;
  named_expressions = map_value string_bytes content.named_expressions;
  body = value_of_block content.body;
  diagnostic_filter_leaf = content.diagnostic_filter_leaf;
}

-- what the fields of a function after its signature represent
unfoldable pub content_in : Json → Option ContentValue
content_in value = do
  variables ← required_at (arena_in local_variable_codec.decode) (codes "local_variables") value
  expressions ← required_at (arena_in expression_form.decode) (codes "expressions") value
  names ← required_at names_codec.decode (codes "named_expressions") value
  body ← required_at block_codec.decode (codes "body") value
  leaf ← optional_at handle_codec.decode (codes "diagnostic_filter_leaf") value
  Some (record { local_variables = variables; expressions = expressions; named_expressions = names; body = body; diagnostic_filter_leaf = leaf })

-- the function with these parts
abbrev pub function_of : SignatureValue → ContentValue → FunctionValue
function_of signature content = record {
  name = signature.name;
  arguments = signature.arguments;
  result = signature.result;
  local_variables = content.local_variables;
  expressions = content.expressions;
  named_expressions = content.named_expressions;
  body = content.body;
  diagnostic_filter_leaf = content.diagnostic_filter_leaf;
}

-- the function with these parts, if there are both
abbrev pub whole_function : Option SignatureValue → Option ContentValue → Option FunctionValue
whole_function signature content = signature >>= λ a. content >>= λ b. Some (function_of a b)

-- what the fields of a function represent
unfoldable pub function_in : Json → Option FunctionValue
function_in value = whole_function (signature_in value) (content_in value)

-- the doc comments before those of functions
pub record FirstCommentsValue : Type 0 where
  pub types : List (ℕ × List (List ℕ))
  pub struct_members : List ((ℕ × ℕ) × List (List ℕ))
  pub entry_points : List (ℕ × List (List ℕ))

-- the value of the doc comments before those of functions
abbrev pub first_comments_value : FirstComments → FirstCommentsValue
first_comments_value comments = record {
  types = map_value lines_of comments.types;
  struct_members = map_value lines_of comments.struct_members;
  entry_points = map_value lines_of comments.entry_points;
}

-- what the fields of doc comments before those of functions represent
unfoldable pub first_comments_in : Json → Option FirstCommentsValue
first_comments_in value = do
  types ← required_at handle_comments_codec.decode (codes "types") value
  members ← required_at empty_map_codec.decode (codes "struct_members") value
  entry_points ← required_at position_comments_codec.decode (codes "entry_points") value
  Some (record { types = types; struct_members = members; entry_points = entry_points })

-- the doc comments from those of functions on
pub record LastCommentsValue : Type 0 where
  pub functions : List (ℕ × List (List ℕ))
  pub constants : List (ℕ × List (List ℕ))
  pub global_variables : List (ℕ × List (List ℕ))
  pub «module» : List (List ℕ)

-- the value of the doc comments from those of functions on
abbrev pub last_comments_value : LastComments → LastCommentsValue
last_comments_value comments = record {
  functions = map_value lines_of comments.functions;
  constants = map_value lines_of comments.constants;
  global_variables = map_value lines_of comments.global_variables;
  «module» = lines_of comments.«module»;
}

-- what the fields of doc comments from those of functions on represent
unfoldable pub last_comments_in : Json → Option LastCommentsValue
last_comments_in value = do
  functions ← required_at handle_comments_codec.decode (codes "functions") value
  constants ← required_at handle_comments_codec.decode (codes "constants") value
  variables ← required_at handle_comments_codec.decode (codes "global_variables") value
  lines ← required_at lines_codec.decode (codes "module") value
  Some (record { functions = functions; constants = constants; global_variables = variables; «module» = lines })

-- the doc comments with these parts
abbrev pub comments_of : FirstCommentsValue → LastCommentsValue → DocCommentsValue
comments_of first last = record {
  types = first.types;
  struct_members = first.struct_members;
  entry_points = first.entry_points;
  functions = last.functions;
  constants = last.constants;
  global_variables = last.global_variables;
  «module» = last.«module»;
}

-- the doc comments with these parts, if there are both
abbrev pub whole_comments : Option FirstCommentsValue → Option LastCommentsValue → Option DocCommentsValue
whole_comments first last = first >>= λ a. last >>= λ b. Some (comments_of a b)

-- what the fields of doc comments represent
unfoldable pub comments_in : Json → Option DocCommentsValue
comments_in value = whole_comments (first_comments_in value) (last_comments_in value)

-- what a module declares between its types and its functions
pub record DeclarationsValue : Type 0 where
  pub special_types : SpecialTypesValue
  pub constants : List (ConstantValue × Span)
  pub overrides : List (OverrideValue × Span)
  pub global_variables : List (GlobalVariableValue × Span)
  pub global_expressions : List (ExpressionValue × Span)

-- the value of what a module declares between its types and its functions
abbrev pub declarations_value : Declarations → DeclarationsValue
declarations_value declarations = record {
  special_types = special_types_value declarations.special_types;
  constants = arena_value constant_value declarations.constants;
  overrides = arena_value override_value declarations.overrides;
  global_variables = arena_value global_variable_value declarations.global_variables;
  global_expressions = arena_value value_of declarations.global_expressions;
}

-- what the fields of a module between its types and its functions represent
unfoldable pub declarations_in : Json → Option DeclarationsValue
declarations_in value = do
  special_types ← required_at special_types_codec.decode (codes "special_types") value
  constants ← required_at (arena_in constant_codec.decode) (codes "constants") value
  overrides ← required_at (arena_in override_codec.decode) (codes "overrides") value
  global_variables ← required_at (arena_in global_variable_codec.decode) (codes "global_variables") value
  global_expressions ← required_at (arena_in expression_form.decode) (codes "global_expressions") value
  Some (record { special_types = special_types; constants = constants; overrides = overrides; global_variables = global_variables; global_expressions = global_expressions })

-- what a module has from its functions on
pub record DefinitionsValue : Type 0 where
  pub functions : List (FunctionValue × Span)
  pub entry_points : List EntryPointValue
  pub diagnostic_filters : List (NodeValue × Span)
  pub diagnostic_filter_leaf : Option ℕ
  pub doc_comments : Option DocCommentsValue

-- the value of what a module has from its functions on
abbrev pub definitions_value : Definitions → DefinitionsValue
definitions_value definitions = record {
  functions = arena_value function_value definitions.functions;
  entry_points = map entry_point_value definitions.entry_points.items;
  diagnostic_filters = arena_value node_value definitions.diagnostic_filters;
  diagnostic_filter_leaf = definitions.diagnostic_filter_leaf;
  doc_comments = option_map (λ comments. comments_value comments.value) definitions.doc_comments;
}

-- what the fields of a module from its functions on represent
unfoldable pub definitions_in : Json → Option DefinitionsValue
definitions_in value = do
  functions ← required_at (arena_in function_form.decode) (codes "functions") value
  entry_points ← required_at (each_in entry_point_form.decode) (codes "entry_points") value
  filters ← required_at (arena_in node_codec.decode) (codes "diagnostic_filters") value
  leaf ← optional_at handle_codec.decode (codes "diagnostic_filter_leaf") value
  comments ← optional_at doc_comments_codec.decode (codes "doc_comments") value
  Some (record { functions = functions; entry_points = entry_points; diagnostic_filters = filters; diagnostic_filter_leaf = leaf; doc_comments = comments })
