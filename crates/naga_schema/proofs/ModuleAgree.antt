-- Modules, and what they consist of. Their schemas accept the JSONs that their codecs read.
use Rattle.naga_json.specs.Arenas.{arena_codec}
use Rattle.naga_json.specs.Block.{block_codec}
use Rattle.naga_json.specs.declared.nesting.TheConstants.{MAX_NESTING}
use Rattle.naga_json.specs.Codec.{handle_codec, option_codec, text_codec, word_codec}
use Rattle.naga_json.specs.derived.Module.{constant_codec, global_variable_codec, override_codec}
use Rattle.naga_json.specs.DiagnosticFilter.{filter_codec, filter_fields, node_codec, node_fields, rule_codec, rule_rows, standard_variant, unknown_variant, user_variant}
use Rattle.naga_json.specs.DocComments.{doc_comments_codec, doc_comments_fields, handle_comments_codec, lines_codec, position_comments_codec}
use Rattle.naga_json.specs.derived.EntryPoint.{early_depth_test_codec}
use Rattle.naga_json.specs.EntryPoint.{entry_point_fields, entry_point_form}
use Rattle.naga_json.specs.derived.Module.{mesh_stage_info_codec}
use Rattle.naga_json.specs.derived.Expression.{expression_form}
use Rattle.naga_json.specs.Fields.{no_fields, struct_in}
use Rattle.naga_json.specs.Form.{arena_form, list_form}
use Rattle.naga_json.specs.derived.Module.{function_argument_codec, function_result_codec, local_variable_codec}
use Rattle.naga_json.specs.Function.{function_fields, function_form, names_codec}
use Rattle.naga_json.specs.derived.Kinds.{severity_codec, shader_stage_codec}
use Rattle.naga_json.specs.Lists.{array_codec, list_codec, pair_codec}
use Rattle.naga_json.specs.Maps.{empty_map_codec}
use Rattle.naga_json.specs.Module.{module_fields, module_form}
use Rattle.naga_json.specs.SpecialTypes.{special_types_codec, special_types_fields}
use Rattle.naga_json.specs.Types.{type_codec, type_fields}
use Rattle.naga_json.specs.derived.Types.{type_inner_codec}
use Rattle.naga_json.specs.Variants.{held_in}
use Rattle.naga_schema.proofs.AgreesLemmas.{Agrees, agrees-arena, agrees-array, agrees-as, agrees-data_enum, agrees-field, agrees-form_field, agrees-form_struct, agrees-list, agrees-map, agrees-no_rows, agrees-none, agrees-optional_field, agrees-pair, agrees-plain_field, agrees-plain_fields, agrees-plain_optional_field, agrees-row, agrees-struct}
use Rattle.naga_schema.proofs.LeavesAgree.{agrees-handle, agrees-optional_handle, agrees-text, agrees-word}
use Rattle.naga_schema.proofs.derived_lemmas.KindLeavesAgree.{agrees-severity, agrees-shader_stage, agrees-standard_filterable_triggering_rule}
use Rattle.naga_schema.proofs.BlockAgree.{agrees-Block}
use Rattle.naga_schema.proofs.derived_lemmas.ExpressionAgree.{agrees-Expression}
use Rattle.naga_schema.proofs.derived_lemmas.KindsAgree.{agrees-EarlyDepthTest}
use Rattle.naga_schema.proofs.derived_lemmas.ModuleAgree.{agrees-Constant, agrees-FunctionArgument, agrees-FunctionResult, agrees-GlobalVariable, agrees-LocalVariable, agrees-MeshStageInfo, agrees-Override}
use Rattle.naga_schema.proofs.derived_lemmas.TypesAgree.{agrees-TypeInner}
use Rattle.naga_schema.specs.derived.Types.{shape_of}
use Rattle.std.proofs.Common.{List, [], refl, ℕ}
use Rattle.naga_schema.specs.declared.derived.type_name.TypeName.TheVariants as type

pub agrees-NagaType : (depth : ℕ) → Agrees depth type.NagaType type_codec.decode
unfolding shape_of
agrees-NagaType depth =
    agrees-struct depth type.NagaType _ type_fields _ refl refl
    (agrees-optional_field depth _ _ text_codec _ _ (agrees-text depth)
    (agrees-field depth _ _ type_inner_codec _ _ (agrees-TypeInner depth)
    (agrees-none depth)))

pub agrees-EmptyMap : {A : Type 0} (depth : ℕ) → Agrees depth type.EmptyMap (empty_map_codec {A = A}).decode
unfolding shape_of struct_in
agrees-EmptyMap {A} depth = agrees-struct depth type.EmptyMap _ no_fields (λ parts. let none : List A = [] in none) refl refl (agrees-none depth)

pub agrees-SpecialTypes : (depth : ℕ) → Agrees depth type.SpecialTypes special_types_codec.decode
unfolding shape_of
agrees-SpecialTypes depth = agrees-struct depth type.SpecialTypes _ special_types_fields _ refl refl (agrees-optional_field depth _ _ handle_codec _ _ (agrees-handle depth) (agrees-optional_field depth _ _ handle_codec _ _ (agrees-handle depth) (agrees-optional_field depth _ _ handle_codec _ _ (agrees-handle depth) (agrees-optional_field depth _ _ handle_codec _ _ (agrees-handle depth) (agrees-optional_field depth _ _ handle_codec _ _ (agrees-handle depth) (agrees-field depth _ _ empty_map_codec _ _ (agrees-EmptyMap depth) (agrees-none depth)))))))

pub agrees-Lines : (depth : ℕ) → Agrees depth type.Lines lines_codec.decode
unfolding shape_of
agrees-Lines depth = agrees-list depth type.Lines _ text_codec.decode refl (agrees-text depth)

pub agrees-HandleComments : (depth : ℕ) → Agrees depth type.HandleComments handle_comments_codec.decode
unfolding shape_of
agrees-HandleComments depth = agrees-map depth type.HandleComments _ 0xffff_fffe lines_codec.decode refl (agrees-Lines depth)

pub agrees-PositionComments : (depth : ℕ) → Agrees depth type.PositionComments position_comments_codec.decode
unfolding shape_of
agrees-PositionComments depth = agrees-map depth type.PositionComments _ 0xffff_ffff_ffff_ffff lines_codec.decode refl (agrees-Lines depth)

pub agrees-DocComments : (depth : ℕ) → Agrees depth type.DocComments doc_comments_codec.decode
unfolding shape_of
agrees-DocComments depth = agrees-struct depth type.DocComments _ doc_comments_fields _ refl refl (agrees-field depth _ _ handle_comments_codec _ _ (agrees-HandleComments depth) (agrees-field depth _ _ empty_map_codec _ _ (agrees-EmptyMap depth) (agrees-field depth _ _ position_comments_codec _ _ (agrees-PositionComments depth) (agrees-field depth _ _ handle_comments_codec _ _ (agrees-HandleComments depth) (agrees-field depth _ _ handle_comments_codec _ _ (agrees-HandleComments depth) (agrees-field depth _ _ handle_comments_codec _ _ (agrees-HandleComments depth) (agrees-field depth _ _ lines_codec _ _ (agrees-Lines depth) (agrees-none depth))))))))

pub agrees-FunctionArguments : (depth : ℕ) → Agrees depth type.FunctionArguments (list_codec function_argument_codec).decode
unfolding shape_of
agrees-FunctionArguments depth = agrees-list depth type.FunctionArguments _ function_argument_codec.decode refl (agrees-FunctionArgument depth)

pub agrees-LocalVariables : (depth : ℕ) → Agrees depth type.LocalVariables (arena_codec local_variable_codec).decode
unfolding shape_of
agrees-LocalVariables depth = agrees-arena depth type.LocalVariables _ local_variable_codec.decode refl (agrees-LocalVariable depth)

pub agrees-Expressions : (depth : ℕ) → Agrees depth type.Expressions (arena_form expression_form).decode
unfolding shape_of
agrees-Expressions depth = agrees-arena depth type.Expressions _ expression_form.decode refl (agrees-Expression depth)

pub agrees-NamedExpressions : (depth : ℕ) → Agrees depth type.NamedExpressions names_codec.decode
unfolding shape_of
agrees-NamedExpressions depth = agrees-map depth type.NamedExpressions _ 0xffff_fffe text_codec.decode refl (agrees-text depth)

pub agrees-Function : Agrees MAX_NESTING type.Function function_form.decode
unfolding shape_of
agrees-Function = agrees-form_struct MAX_NESTING type.Function _ function_fields _ refl refl (agrees-plain_optional_field MAX_NESTING _ _ text_codec _ _ (agrees-text MAX_NESTING) (agrees-plain_field MAX_NESTING _ _ (list_codec function_argument_codec) _ _ (agrees-FunctionArguments MAX_NESTING) (agrees-plain_optional_field MAX_NESTING _ _ function_result_codec _ _ (agrees-FunctionResult MAX_NESTING) (agrees-plain_field MAX_NESTING _ _ (arena_codec local_variable_codec) _ _ (agrees-LocalVariables MAX_NESTING) (agrees-form_field MAX_NESTING _ _ (arena_form expression_form) _ _ (agrees-Expressions MAX_NESTING) (agrees-plain_fields MAX_NESTING _ _ (agrees-field MAX_NESTING _ _ names_codec _ _ (agrees-NamedExpressions MAX_NESTING) (agrees-field MAX_NESTING _ _ block_codec _ _ (agrees-Block MAX_NESTING) (agrees-optional_field MAX_NESTING _ _ handle_codec _ _ (agrees-handle MAX_NESTING) (agrees-none MAX_NESTING))))))))))

pub agrees-WorkgroupSize : (depth : ℕ) → Agrees depth type.WorkgroupSize (array_codec 3 word_codec).decode
unfolding shape_of
agrees-WorkgroupSize depth = agrees-array depth type.WorkgroupSize _ 3 word_codec.decode refl (agrees-word depth)

pub agrees-WorkgroupSizeOverrides : (depth : ℕ) → Agrees depth type.WorkgroupSizeOverrides (array_codec 3 (option_codec handle_codec)).decode
unfolding shape_of
agrees-WorkgroupSizeOverrides depth = agrees-array depth type.WorkgroupSizeOverrides _ 3 (option_codec handle_codec).decode refl (agrees-optional_handle depth)

pub agrees-EntryPoint : Agrees MAX_NESTING type.EntryPoint entry_point_form.decode
unfolding shape_of
agrees-EntryPoint = agrees-form_struct MAX_NESTING type.EntryPoint _ entry_point_fields _ refl refl (agrees-plain_field MAX_NESTING _ _ text_codec _ _ (agrees-text MAX_NESTING) (agrees-plain_field MAX_NESTING _ _ shader_stage_codec _ _ (agrees-shader_stage MAX_NESTING) (agrees-plain_optional_field MAX_NESTING _ _ early_depth_test_codec _ _ (agrees-EarlyDepthTest MAX_NESTING) (agrees-plain_field MAX_NESTING _ _ (array_codec 3 word_codec) _ _ (agrees-WorkgroupSize MAX_NESTING) (agrees-plain_optional_field MAX_NESTING _ _ (array_codec 3 (option_codec handle_codec)) _ _ (agrees-WorkgroupSizeOverrides MAX_NESTING) (agrees-form_field MAX_NESTING _ _ function_form _ _ agrees-Function (agrees-plain_fields MAX_NESTING _ _ (agrees-optional_field MAX_NESTING _ _ mesh_stage_info_codec _ _ (agrees-MeshStageInfo MAX_NESTING) (agrees-optional_field MAX_NESTING _ _ handle_codec _ _ (agrees-handle MAX_NESTING) (agrees-optional_field MAX_NESTING _ _ handle_codec _ _ (agrees-handle MAX_NESTING) (agrees-none MAX_NESTING)))))))))))

pub agrees-RuleNames : (depth : ℕ) → Agrees depth type.RuleNames (pair_codec text_codec).decode
unfolding shape_of
agrees-RuleNames depth = agrees-pair depth type.RuleNames _ text_codec.decode refl (agrees-text depth)

pub agrees-TriggeringRule : (depth : ℕ) → Agrees depth type.TriggeringRule rule_codec.decode
unfolding shape_of
agrees-TriggeringRule depth =
    agrees-data_enum depth type.TriggeringRule _ rule_rows refl
    (agrees-row depth _ _ (held_in standard_variant) _ _ (agrees-as depth _ _ _ (agrees-standard_filterable_triggering_rule depth))
    (agrees-row depth _ _ (held_in unknown_variant) _ _ (agrees-as depth _ _ _ (agrees-text depth))
    (agrees-row depth _ _ (held_in user_variant) _ _ (agrees-as depth _ _ _ (agrees-RuleNames depth))
    (agrees-no_rows depth))))

pub agrees-DiagnosticFilter : (depth : ℕ) → Agrees depth type.DiagnosticFilter filter_codec.decode
unfolding shape_of
agrees-DiagnosticFilter depth = agrees-struct depth type.DiagnosticFilter _ filter_fields _ refl refl (agrees-field depth _ _ severity_codec _ _ (agrees-severity depth) (agrees-field depth _ _ rule_codec _ _ (agrees-TriggeringRule depth) (agrees-none depth)))

pub agrees-DiagnosticFilterNode : (depth : ℕ) → Agrees depth type.DiagnosticFilterNode node_codec.decode
unfolding shape_of
agrees-DiagnosticFilterNode depth = agrees-struct depth type.DiagnosticFilterNode _ node_fields _ refl refl (agrees-field depth _ _ filter_codec _ _ (agrees-DiagnosticFilter depth) (agrees-optional_field depth _ _ handle_codec _ _ (agrees-handle depth) (agrees-none depth)))

pub agrees-Types : (depth : ℕ) → Agrees depth type.Types (arena_codec type_codec).decode
unfolding shape_of
agrees-Types depth = agrees-arena depth type.Types _ type_codec.decode refl (agrees-NagaType depth)

pub agrees-Constants : (depth : ℕ) → Agrees depth type.Constants (arena_codec constant_codec).decode
unfolding shape_of
agrees-Constants depth = agrees-arena depth type.Constants _ constant_codec.decode refl (agrees-Constant depth)

pub agrees-Overrides : (depth : ℕ) → Agrees depth type.Overrides (arena_codec override_codec).decode
unfolding shape_of
agrees-Overrides depth = agrees-arena depth type.Overrides _ override_codec.decode refl (agrees-Override depth)

pub agrees-GlobalVariables : (depth : ℕ) → Agrees depth type.GlobalVariables (arena_codec global_variable_codec).decode
unfolding shape_of
agrees-GlobalVariables depth = agrees-arena depth type.GlobalVariables _ global_variable_codec.decode refl (agrees-GlobalVariable depth)

pub agrees-Functions : Agrees MAX_NESTING type.Functions (arena_form function_form).decode
unfolding shape_of
agrees-Functions = agrees-arena MAX_NESTING type.Functions _ function_form.decode refl agrees-Function

pub agrees-DiagnosticFilters : (depth : ℕ) → Agrees depth type.DiagnosticFilters (arena_codec node_codec).decode
unfolding shape_of
agrees-DiagnosticFilters depth = agrees-arena depth type.DiagnosticFilters _ node_codec.decode refl (agrees-DiagnosticFilterNode depth)

pub agrees-EntryPoints : Agrees MAX_NESTING type.EntryPoints (list_form entry_point_form).decode
unfolding shape_of
agrees-EntryPoints = agrees-list MAX_NESTING type.EntryPoints _ entry_point_form.decode refl agrees-EntryPoint

pub agrees-Module : Agrees MAX_NESTING type.Module module_form.decode
unfolding shape_of
agrees-Module = agrees-form_struct MAX_NESTING type.Module _ module_fields _ refl refl (agrees-plain_field MAX_NESTING _ _ (arena_codec type_codec) _ _ (agrees-Types MAX_NESTING) (agrees-plain_field MAX_NESTING _ _ special_types_codec _ _ (agrees-SpecialTypes MAX_NESTING) (agrees-plain_field MAX_NESTING _ _ (arena_codec constant_codec) _ _ (agrees-Constants MAX_NESTING) (agrees-plain_field MAX_NESTING _ _ (arena_codec override_codec) _ _ (agrees-Overrides MAX_NESTING) (agrees-plain_field MAX_NESTING _ _ (arena_codec global_variable_codec) _ _ (agrees-GlobalVariables MAX_NESTING) (agrees-form_field MAX_NESTING _ _ (arena_form expression_form) _ _ (agrees-Expressions MAX_NESTING) (agrees-form_field MAX_NESTING _ _ (arena_form function_form) _ _ agrees-Functions (agrees-form_field MAX_NESTING _ _ (list_form entry_point_form) _ _ agrees-EntryPoints (agrees-plain_fields MAX_NESTING _ _ (agrees-field MAX_NESTING _ _ (arena_codec node_codec) _ _ (agrees-DiagnosticFilters MAX_NESTING) (agrees-optional_field MAX_NESTING _ _ handle_codec _ _ (agrees-handle MAX_NESTING) (agrees-optional_field MAX_NESTING _ _ doc_comments_codec _ _ (agrees-DocComments MAX_NESTING) (agrees-none MAX_NESTING)))))))))))))
