-- Modules and their parts with undefined spans, which is how they are read.
use Rattle.std.specs.Prelude.{map}
use Rattle.naga_arena.specs.Span.{undefined}
use Rattle.naga_json.specs.Arenas.{unspanned}
use Rattle.naga_json.specs.EntryPoint.{EntryPointValue}
use Rattle.naga_json.specs.Function.{FunctionValue}
use Rattle.naga_json.specs.Module.{ModuleValue}
use Rattle.naga_json.specs.StatementValue.{BlockValue, empty, push, StatementValue, plain, call, nested, branch, switch, loop, jump, CasesValue, no_cases, case}

abbrev mutual
  -- a block with undefined spans
  pub unspanned_block : BlockValue → BlockValue
  unspanned_block empty = empty
  unspanned_block (push front last span) = push (unspanned_block front) (unspanned_statement last) undefined

  -- a statement with undefined spans in its blocks
  pub unspanned_statement : StatementValue → StatementValue
  unspanned_statement (plain what) = plain what
  unspanned_statement (call function arguments result) = call function arguments result
  unspanned_statement (nested inner) = nested (unspanned_block inner)
  unspanned_statement (branch condition accept reject) =
      branch condition (unspanned_block accept) (unspanned_block reject)
  unspanned_statement (switch selector cases) = switch selector (unspanned_cases cases)
  unspanned_statement (loop body continuing break_if) =
      loop (unspanned_block body) (unspanned_block continuing) break_if
  unspanned_statement (jump to) = jump to

  -- cases with undefined spans in their bodies
  pub unspanned_cases : CasesValue → CasesValue
  unspanned_cases no_cases = no_cases
  unspanned_cases (case value body falls_through others) =
      case value (unspanned_block body) falls_through (unspanned_cases others)

-- a function with undefined spans
abbrev pub unspanned_function : FunctionValue → FunctionValue
unspanned_function function = record function {
  local_variables = unspanned function.local_variables;
  expressions = unspanned function.expressions;
  body = unspanned_block function.body;
}

-- an entry point with undefined spans
abbrev pub unspanned_entry_point : EntryPointValue → EntryPointValue
unspanned_entry_point entry = record entry { function = unspanned_function entry.function }

-- a module with undefined spans
abbrev pub unspanned_module : ModuleValue → ModuleValue
unspanned_module whole = record whole {
  types = unspanned whole.types;
  constants = unspanned whole.constants;
  overrides = unspanned whole.overrides;
  global_variables = unspanned whole.global_variables;
  global_expressions = unspanned whole.global_expressions;
  functions = map (λ entry. (unspanned_function entry.0, undefined)) whole.functions;
  entry_points = map unspanned_entry_point whole.entry_points;
  diagnostic_filters = unspanned whole.diagnostic_filters;
}
