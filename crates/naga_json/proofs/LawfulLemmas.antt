-- The laws of types, for the public laws that cite them.
use Rattle.naga_json.proofs.derived.AddressSpaceLemmas.{lawful-address_space}
use Rattle.naga_json.proofs.derived.BuiltinLemmas.{lawful-built_in}
use Rattle.naga_json.proofs.derived.BindingLemmas.{lawful-binding, lawful-resource_binding}
use Rattle.naga_json.proofs.BlockLemmas.{lawful-statement, lawful-block}
use Rattle.naga_json.proofs.derived.ModuleLemmas.{lawful-constant, lawful-override, lawful-global_variable}
use Rattle.naga_json.proofs.DiagnosticFilterLemmas.{lawful-rule, lawful-filter, lawful-node}
use Rattle.naga_json.proofs.DocCommentsLemmas.{lawful-doc_comments}
use Rattle.naga_json.proofs.derived.EntryPointLemmas.{lawful-early_depth_test}
use Rattle.naga_json.proofs.derived.ModuleLemmas.{lawful-mesh_stage_info}
use Rattle.naga_json.proofs.EntryPointLemmas.{lawful-entry_point}
use Rattle.naga_json.proofs.derived.ExpressionLemmas.{lawful-sample_level, lawful-image_query, lawful-cooperative_data, lawful-expression}
use Rattle.naga_json.proofs.FlagSetsLemmas.{lawful-storage_access, lawful-memory_decorations, lawful-barrier}
use Rattle.naga_json.proofs.derived.ModuleLemmas.{lawful-function_argument, lawful-function_result, lawful-local_variable}
use Rattle.naga_json.proofs.FunctionLemmas.{lawful-names, lawful-function}
use Rattle.naga_json.proofs.derived.ImageLemmas.{lawful-image_class}
use Rattle.naga_json.proofs.derived.LiteralLemmas.{lawful-literal}
use Rattle.naga_json.proofs.ModuleLemmas.{lawful-module}
use Rattle.naga_json.proofs.derived.ScalarLemmas.{lawful-scalar}
use Rattle.naga_json.proofs.SpecialTypesLemmas.{lawful-special_types}
use Rattle.naga_json.proofs.derived.ExpressionLemmas.{lawful-atomic_function, lawful-gather_mode}
use Rattle.naga_json.proofs.derived.StatementLemmas.{lawful-ray_query_function, lawful-ray_pipeline_function}
use Rattle.naga_json.proofs.RangeLemmas.{lawful-range}
use Rattle.naga_json.proofs.derived.SwitchLemmas.{lawful-switch_value}
use Rattle.naga_json.proofs.derived.TypesLemmas.{lawful-array_size, lawful-struct_member, lawful-type_inner}
use Rattle.naga_json.proofs.TypesLemmas.{lawful-type}

pub ruleset parts_of_types = (lawful-scalar, lawful-storage_access, lawful-memory_decorations, lawful-barrier, lawful-address_space, lawful-image_class, lawful-built_in, lawful-binding, lawful-resource_binding)

pub ruleset types = (lawful-array_size, lawful-struct_member, lawful-type_inner, lawful-type)

pub ruleset diagnostic_filters = (lawful-rule, lawful-filter, lawful-node)

pub ruleset cases_and_tests = (lawful-switch_value, lawful-early_depth_test)

pub ruleset expressions = (lawful-literal, lawful-sample_level, lawful-image_query, lawful-cooperative_data, lawful-expression)

pub ruleset statements = (lawful-atomic_function, lawful-gather_mode, lawful-ray_query_function, lawful-ray_pipeline_function, lawful-range)

pub ruleset blocks = (lawful-statement, lawful-block)

pub ruleset declarations = (lawful-constant, lawful-override, lawful-global_variable, lawful-special_types, lawful-doc_comments)

pub ruleset functions = (lawful-function_argument, lawful-function_result, lawful-local_variable, lawful-names, lawful-function, lawful-mesh_stage_info, lawful-entry_point)

pub ruleset modules = (lawful-module)
