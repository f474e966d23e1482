-- A struct is what its fields represent, where it is an object with these fields alone.
use Rattle.std.proofs.Common.{◌≡◌, ◌∙◌, sym, refl, ℕ, List, Option, Some, None, codes}
use Rattle.json.specs.Find.{as_str}
use Rattle.json.specs.Json.{Json}
use Rattle.naga_arena.specs.declared.span.Span.{Span}
use Rattle.naga_ir.specs.declared.module.FunctionResult.{FunctionResult}
use Rattle.naga_ir.specs.declared.module.MeshStageInfo.{MeshStageInfo}
use Rattle.naga_kinds.specs.declared.entry_point.EarlyDepthTest.{EarlyDepthTest}
use Rattle.naga_kinds.specs.declared.entry_point.ShaderStage.{ShaderStage}
use Rattle.naga_json.specs.Declarations.{FunctionArgumentValue, LocalVariableValue}
use Rattle.naga_json.specs.Codec.{handle_codec, option_codec, word_codec}
use Rattle.naga_json.specs.DocComments.{doc_comments_codec, doc_comments_fields, handle_comments_codec, lines_codec, position_comments_codec}
use Rattle.naga_json.specs.EntryPoint.{entry_point_fields, entry_point_form}
use Rattle.naga_json.specs.Expression.{ExpressionValue}
use Rattle.naga_json.specs.Fields.{Fields, struct_in}
use Rattle.naga_json.specs.FormFields.{FormFields, form_struct_in}
use Rattle.naga_json.specs.Function.{FunctionValue, function_fields, function_form}
use Rattle.naga_json.specs.Numbers.{◌>>=◌}
use Rattle.naga_json.specs.Lists.{array_codec}
use Rattle.naga_json.specs.Maps.{empty_map_codec}
use Rattle.naga_json.specs.Objects.{fields_in, optional_at, required_at}
use Rattle.naga_json.specs.StatementValue.{BlockValue}
use Rattle.naga_json.specs.derived.EntryPoint.{early_depth_test_codec}
use Rattle.naga_json.specs.derived.Kinds.{shader_stage_codec}
use Rattle.naga_json.specs.derived.Module.{mesh_stage_info_codec}
use Rattle.naga_json_read.specs.Parts.{comments_in, content_in, entry_point_in, first_comments_in, function_in, invocation_in, last_comments_in, signature_in, whole_comments, whole_entry_point, whole_function, work_in}
use Rattle.naga_json.proofs.BindLemmas.{at_some}

-- there is no struct without the object
pub form_none : {T V : Type 0} (fields : FormFields T) (make : T → V) (j : Json) → None ≡ fields_in fields.names j → None ≡ form_struct_in fields make j
unfolding form_struct_in
form_none fields make j none = rw (sym none) refl

-- the same of fields that are written in one way
pub struct_none : {T V : Type 0} (fields : Fields T) (make : T → V) (j : Json) → None ≡ fields_in fields.names j → None ≡ struct_in fields make j
unfolding struct_in
struct_none fields make j none = rw (sym none) refl

-- the fields of a function are read one after another, or the signature and then the others
function-flat : (name : Option (Option (List ℕ))) (arguments : Option (List FunctionArgumentValue)) (result : Option (Option FunctionResult)) (variables : Option (List (LocalVariableValue × Span))) (expressions : Option (List (ExpressionValue × Span))) (names : Option (List (ℕ × List ℕ))) (body : Option BlockValue) (leaf : Option (Option ℕ)) →
    whole_function
    (name >>= λ a. arguments >>= λ b. result >>= λ c. Some (record { name = a; arguments = b; result = c }))
    (variables >>= λ d. expressions >>= λ e. names >>= λ f. body >>= λ g. leaf >>= λ h. Some (record { local_variables = d; expressions = e; named_expressions = f; body = g; diagnostic_filter_leaf = h }))
    ≡ (name >>= λ a. arguments >>= λ b. result >>= λ c. variables >>= λ d. expressions >>= λ e. names >>= λ f. body >>= λ g. leaf >>= λ h. Some (record { name = a; arguments = b; result = c; local_variables = d; expressions = e; named_expressions = f; body = g; diagnostic_filter_leaf = h }))
function-flat None arguments result variables expressions names body leaf = refl
function-flat (Some a) None result variables expressions names body leaf = refl
function-flat (Some a) (Some b) None variables expressions names body leaf = refl
function-flat (Some a) (Some b) (Some c) None expressions names body leaf = refl
function-flat (Some a) (Some b) (Some c) (Some d) None names body leaf = refl
function-flat (Some a) (Some b) (Some c) (Some d) (Some e) None body leaf = refl
function-flat (Some a) (Some b) (Some c) (Some d) (Some e) (Some f) None leaf = refl
function-flat (Some a) (Some b) (Some c) (Some d) (Some e) (Some f) (Some g) None = refl
function-flat (Some a) (Some b) (Some c) (Some d) (Some e) (Some f) (Some g) (Some h) = refl

-- the parts of a function are those in its fields
pub function_parts : (j value : Json) → Some value ≡ fields_in function_fields.names j → function_in value ≡ function_form.decode j
unfolding form_struct_in function_in signature_in content_in
function_parts j value found = function-flat _ _ _ _ _ _ _ _ ∙ sym (at_some _ value _ (sym found))

-- the same of an entry point
entry_point-flat : (name : Option (List ℕ)) (stage : Option ShaderStage) (depth_test : Option (Option EarlyDepthTest)) (size : Option (List ℕ)) (overrides : Option (Option (List (Option ℕ)))) (function : Option FunctionValue) (mesh : Option (Option MeshStageInfo)) (payload : Option (Option ℕ)) (incoming : Option (Option ℕ)) →
    whole_entry_point
    (name >>= λ a. stage >>= λ b. depth_test >>= λ c. size >>= λ d. overrides >>= λ e. Some (record { name = a; stage = b; early_depth_test = c; workgroup_size = d; workgroup_size_overrides = e }))
    (function >>= λ f. mesh >>= λ g. payload >>= λ h. incoming >>= λ i. Some (record { function = f; mesh_info = g; task_payload = h; incoming_ray_payload = i }))
    ≡ (name >>= λ a. stage >>= λ b. depth_test >>= λ c. size >>= λ d. overrides >>= λ e. function >>= λ f. mesh >>= λ g. payload >>= λ h. incoming >>= λ i. Some (record { name = a; stage = b; early_depth_test = c; workgroup_size = d; workgroup_size_overrides = e; function = f; mesh_info = g; task_payload = h; incoming_ray_payload = i }))
entry_point-flat None stage depth_test size overrides function mesh payload incoming = refl
entry_point-flat (Some a) None depth_test size overrides function mesh payload incoming = refl
entry_point-flat (Some a) (Some b) None size overrides function mesh payload incoming = refl
entry_point-flat (Some a) (Some b) (Some c) None overrides function mesh payload incoming = refl
entry_point-flat (Some a) (Some b) (Some c) (Some d) None function mesh payload incoming = refl
entry_point-flat (Some a) (Some b) (Some c) (Some d) (Some e) None mesh payload incoming = refl
entry_point-flat (Some a) (Some b) (Some c) (Some d) (Some e) (Some f) None payload incoming = refl
entry_point-flat (Some a) (Some b) (Some c) (Some d) (Some e) (Some f) (Some g) None incoming = refl
entry_point-flat (Some a) (Some b) (Some c) (Some d) (Some e) (Some f) (Some g) (Some h) None = refl
entry_point-flat (Some a) (Some b) (Some c) (Some d) (Some e) (Some f) (Some g) (Some h) (Some i) = refl

pub entry_point_parts : (j value : Json) → Some value ≡ fields_in entry_point_fields.names j → entry_point_in value ≡ entry_point_form.decode j
unfolding form_struct_in entry_point_in invocation_in work_in
entry_point_parts j value found =
    entry_point-flat
    (required_at as_str (codes "name") value)
    (required_at shader_stage_codec.decode (codes "stage") value)
    (optional_at early_depth_test_codec.decode (codes "early_depth_test") value)
    (required_at (array_codec 3 word_codec).decode (codes "workgroup_size") value)
    (optional_at (array_codec 3 (option_codec handle_codec)).decode (codes "workgroup_size_overrides") value)
    (required_at function_form.decode (codes "function") value)
    (optional_at mesh_stage_info_codec.decode (codes "mesh_info") value)
    (optional_at handle_codec.decode (codes "task_payload") value)
    (optional_at handle_codec.decode (codes "incoming_ray_payload") value)
    ∙ sym (at_some _ value _ (sym found))

-- the same of doc comments
comments-flat : (types : Option (List (ℕ × List (List ℕ)))) (members : Option (List ((ℕ × ℕ) × List (List ℕ)))) (entry_points : Option (List (ℕ × List (List ℕ)))) (functions : Option (List (ℕ × List (List ℕ)))) (constants : Option (List (ℕ × List (List ℕ)))) (variables : Option (List (ℕ × List (List ℕ)))) (lines : Option (List (List ℕ))) →
    whole_comments
    (types >>= λ a. members >>= λ b. entry_points >>= λ c. Some (record { types = a; struct_members = b; entry_points = c }))
    (functions >>= λ d. constants >>= λ e. variables >>= λ f. lines >>= λ g. Some (record { functions = d; constants = e; global_variables = f; «module» = g }))
    ≡ (types >>= λ a. members >>= λ b. entry_points >>= λ c. functions >>= λ d. constants >>= λ e. variables >>= λ f. lines >>= λ g. Some (record { types = a; struct_members = b; entry_points = c; functions = d; constants = e; global_variables = f; «module» = g }))
comments-flat None members entry_points functions constants variables lines = refl
comments-flat (Some a) None entry_points functions constants variables lines = refl
comments-flat (Some a) (Some b) None functions constants variables lines = refl
comments-flat (Some a) (Some b) (Some c) None constants variables lines = refl
comments-flat (Some a) (Some b) (Some c) (Some d) None variables lines = refl
comments-flat (Some a) (Some b) (Some c) (Some d) (Some e) None lines = refl
comments-flat (Some a) (Some b) (Some c) (Some d) (Some e) (Some f) None = refl
comments-flat (Some a) (Some b) (Some c) (Some d) (Some e) (Some f) (Some g) = refl

pub comments_parts : (j value : Json) → Some value ≡ fields_in doc_comments_fields.names j → comments_in value ≡ doc_comments_codec.decode j
unfolding struct_in comments_in first_comments_in last_comments_in
comments_parts j value found =
    comments-flat
    (required_at handle_comments_codec.decode (codes "types") value)
    (required_at empty_map_codec.decode (codes "struct_members") value)
    (required_at position_comments_codec.decode (codes "entry_points") value)
    (required_at handle_comments_codec.decode (codes "functions") value)
    (required_at handle_comments_codec.decode (codes "constants") value)
    (required_at handle_comments_codec.decode (codes "global_variables") value)
    (required_at lines_codec.decode (codes "module") value)
    ∙ sym (at_some _ value _ (sym found))
