-- Modules that are read as they were written, and their parts.
use Rattle.std.specs.Prelude.{[], ℕ, ◌≤◌, List, All, length, option_map}
use Rattle.naga_arena.specs.Arena.{values}
use Rattle.naga_arena.specs.Limits.{max_len}
use Rattle.naga_arena.specs.declared.span.Span.{Span}
use Rattle.naga_ir.specs.View.{cases_of}
use Rattle.naga_ir.specs.declared.block.Block.{Block}
use Rattle.naga_ir.specs.declared.module.EntryPoint.{EntryPoint}
use Rattle.naga_ir.specs.declared.module.Function.{Function}
use Rattle.naga_ir.specs.declared.module.Module as the_module
use Rattle.naga_ir.specs.declared.statement.Statement.{Statement}
use Rattle.naga_ir.specs.declared.statement.SwitchCase.{SwitchCase}
use Rattle.naga_json.specs.Block.{block_codec, block_within, cases_codec, statement_codec}
use Rattle.naga_json.specs.DocComments.{DocCommentsValue}
use Rattle.naga_json.specs.EntryPoint.{entry_point_form, entry_point_value}
use Rattle.naga_json.specs.Function.{function_form, function_value}
use Rattle.naga_json.specs.Module.{ModuleValue, module_form, module_value}
use Rattle.naga_json.specs.SpecialTypes.{SpecialTypesValue}
use Rattle.naga_json.specs.StatementValue.{cases_value, plain_value, value_of_block, value_of_statement}
use Rattle.naga_json.specs.Unspanned.{unspanned_block, unspanned_cases, unspanned_entry_point, unspanned_function, unspanned_module, unspanned_statement}

-- the arena is not longer than one can be, and the condition holds for each of its values
abbrev pub ValuesFit : {A : Type 0} → (A → Type 0) → List (A × Span) → Type 0
ValuesFit Fits arena = (length arena ≤ max_len) × All Fits (values arena)

-- a block that is read as it was written, with at most this number of blocks nested in one another
abbrev pub BlockFits : ℕ → Block → Type 0
BlockFits depth block = (block_within depth).Fits (unspanned_block (value_of_block block))

-- a statement that contains no block, does not jump, and is read as it was written
abbrev pub PlainFits : Statement → Type 0
PlainFits statement = (statement_codec block_codec).Fits (plain_value statement)

-- a statement whose blocks are read as they were written
abbrev pub StatementFits : ℕ → Statement → Type 0
StatementFits depth statement =
    (statement_codec (block_within depth)).Fits (unspanned_statement (value_of_statement statement))

-- cases whose bodies are read as they were written
abbrev pub CasesFit : ℕ → List SwitchCase → Type 0
CasesFit depth cases = (cases_codec (block_within depth)).Fits (unspanned_cases (cases_value (cases_of cases)))

-- a function that is read as it was written
abbrev pub FunctionFits : Function → Type 0
FunctionFits function = function_form.Fits (unspanned_function (function_value function))

-- an entry point that is read as it was written
abbrev pub EntryPointFits : EntryPoint → Type 0
EntryPointFits entry = entry_point_form.Fits (unspanned_entry_point (entry_point_value entry))

-- special types without the types of the results of built-in functions, which have no JSON
abbrev pub written_special_types : SpecialTypesValue → SpecialTypesValue
written_special_types special = record special { predeclared_types = [] }

-- doc comments without those on members of structures, which have no JSON
abbrev pub written_comments : DocCommentsValue → DocCommentsValue
written_comments comments = record comments { struct_members = [] }

-- what of a module is written
abbrev pub written_module : ModuleValue → ModuleValue
written_module whole = record (unspanned_module whole) {
  special_types = written_special_types whole.special_types;
  doc_comments = option_map written_comments whole.doc_comments;
}

-- What of the module is written fits: numbers are in the ranges of their types, no map has a key twice, blocks are
-- nested at most 127 deep, and each range of expressions starts no later than it ends.
abbrev pub ModuleFits : the_module.Module → Type 0
ModuleFits whole = module_form.Fits (written_module (module_value whole))
