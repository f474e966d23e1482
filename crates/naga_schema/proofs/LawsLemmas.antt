-- The laws of types, for the public laws that cite them.
use Rattle.std.proofs.Common.{◌≡◌, ℕ, is_some}
use Rattle.json.specs.Json.{Json}
use Rattle.naga_json.specs.Block.{block_within}
use Rattle.naga_json.specs.declared.nesting.TheConstants.{MAX_NESTING}
use Rattle.naga_json.specs.derived.Module.{constant_codec, override_codec, global_variable_codec}
use Rattle.naga_json.specs.DiagnosticFilter.{node_codec}
use Rattle.naga_json.specs.DocComments.{doc_comments_codec}
use Rattle.naga_json.specs.EntryPoint.{entry_point_form}
use Rattle.naga_json.specs.derived.Expression.{expression_form}
use Rattle.naga_json.specs.Function.{function_form}
use Rattle.naga_json.specs.Module.{module_form}
use Rattle.naga_json.specs.SpecialTypes.{special_types_codec}
use Rattle.naga_json.specs.Types.{type_codec}
use Rattle.naga_schema.specs.Fault.{accepts}
use Rattle.naga_schema.specs.declared.derived.type_name.TypeName.TheVariants as type
use Rattle.naga_schema.proofs.derived_lemmas.ExpressionAgree.{agrees-Expression}
use Rattle.naga_schema.proofs.derived_lemmas.ModuleAgree.{agrees-Constant, agrees-GlobalVariable, agrees-Override}
use Rattle.naga_schema.proofs.ModuleAgree.{agrees-DiagnosticFilterNode, agrees-DocComments, agrees-EntryPoint, agrees-Function, agrees-Module, agrees-NagaType, agrees-SpecialTypes}
use Rattle.naga_schema.proofs.BlockAgree.{agrees-Block}

pub module-read : (j : Json) → accepts j MAX_NESTING type.Module ≡ is_some (module_form.decode j)
module-read = agrees-Module.same

pub function-read : (j : Json) → accepts j MAX_NESTING type.Function ≡ is_some (function_form.decode j)
function-read = agrees-Function.same

pub entry_point-read : (j : Json) → accepts j MAX_NESTING type.EntryPoint ≡ is_some (entry_point_form.decode j)
entry_point-read = agrees-EntryPoint.same

pub block-read : (j : Json) (depth : ℕ) → accepts j depth type.Block ≡ is_some ((block_within depth).decode j)
block-read j depth = (agrees-Block depth).same j

pub type-read : (j : Json) (depth : ℕ) → accepts j depth type.NagaType ≡ is_some (type_codec.decode j)
type-read j depth = (agrees-NagaType depth).same j

pub expression-read : (j : Json) (depth : ℕ) → accepts j depth type.Expression ≡ is_some (expression_form.decode j)
expression-read j depth = (agrees-Expression depth).same j

pub special_types-read : (j : Json) (depth : ℕ) → accepts j depth type.SpecialTypes ≡ is_some (special_types_codec.decode j)
special_types-read j depth = (agrees-SpecialTypes depth).same j

pub constant-read : (j : Json) (depth : ℕ) → accepts j depth type.Constant ≡ is_some (constant_codec.decode j)
constant-read j depth = (agrees-Constant depth).same j

pub override-read : (j : Json) (depth : ℕ) → accepts j depth type.Override ≡ is_some (override_codec.decode j)
override-read j depth = (agrees-Override depth).same j

pub global_variable-read : (j : Json) (depth : ℕ) → accepts j depth type.GlobalVariable ≡ is_some (global_variable_codec.decode j)
global_variable-read j depth = (agrees-GlobalVariable depth).same j

pub node-read : (j : Json) (depth : ℕ) → accepts j depth type.DiagnosticFilterNode ≡ is_some (node_codec.decode j)
node-read j depth = (agrees-DiagnosticFilterNode depth).same j

pub doc_comments-read : (j : Json) (depth : ℕ) → accepts j depth type.DocComments ≡ is_some (doc_comments_codec.decode j)
doc_comments-read j depth = (agrees-DocComments depth).same j

pub ruleset module_law = (module-read)

pub ruleset function_laws = (function-read, entry_point-read)

pub ruleset block_law = (block-read)

pub ruleset declaration_laws = (type-read, expression-read, special_types-read, constant-read, override-read, global_variable-read, node-read, doc_comments-read)
