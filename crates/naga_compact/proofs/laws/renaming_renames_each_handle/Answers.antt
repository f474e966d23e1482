use Rattle.std.proofs.Common.{refl}
use Rattle.naga_compact.proofs.RenamedBodyReferencesLemmas.{references_of_tree-renamed}
use Rattle.naga_compact.proofs.derived_lemmas.RenamedVariantsLemmas.{references_of_expression-renamed, references_of_statement-renamed}
use Rattle.naga_compact.proofs.RenamedPartsLemmas.{references_in_part-renamed, references_of_entry_point-renamed, references_of_global_variable-renamed, references_of_local_variable-renamed, references_of_override-renamed, references_of_special_types-renamed, references_of_type-renamed}
use Rattle.naga_compact.proofs.laws.renaming_renames_each_handle.Goals as goal

pub returns-clause-types : goal.returns-clause-types
returns-clause-types c = references_of_type-renamed

pub returns-clause-special_types : goal.returns-clause-special_types
returns-clause-special_types c = references_of_special_types-renamed

pub returns-clause-constants : goal.returns-clause-constants
returns-clause-constants c = λ r constant. refl

pub returns-clause-overrides : goal.returns-clause-overrides
returns-clause-overrides c = references_of_override-renamed

pub returns-clause-global_variables : goal.returns-clause-global_variables
returns-clause-global_variables c = references_of_global_variable-renamed

pub returns-clause-local_variables : goal.returns-clause-local_variables
returns-clause-local_variables c = references_of_local_variable-renamed

pub returns-clause-expressions : goal.returns-clause-expressions
returns-clause-expressions c = references_of_expression-renamed

pub returns-clause-statements : goal.returns-clause-statements
returns-clause-statements c = references_of_statement-renamed

pub returns-clause-blocks : goal.returns-clause-blocks
returns-clause-blocks c = references_of_tree-renamed

pub returns-clause-functions : goal.returns-clause-functions
returns-clause-functions c = λ r old new same. references_in_part-renamed r same old new

pub returns-clause-entry_points : goal.returns-clause-entry_points
returns-clause-entry_points c = references_of_entry_point-renamed
