-- Spans are not written.
use Rattle.std.proofs.Common.{◌≡◌, ◌≤◌, ap, List, [], ◌∷◌, map, Some, refl}
use Rattle.std.specs.List.{AllZip}
use Rattle.json.specs.Json.{Json}
use Rattle.json.specs.Print.{print}
use Rattle.json.specs.Tree.{depth, json_tokens}
use Rattle.naga_arena.specs.Arena.{values}
use Rattle.naga_arena.specs.Span.{undefined}
use Rattle.naga_arena.specs.declared.span.Span.{Span}
use Rattle.naga_json.specs.Arenas.{unspanned}
use Rattle.naga_json.specs.Block.{cases_json, statement_json, statements_json}
use Rattle.naga_json.specs.EntryPoint.{EntryPointValue, entry_point_form}
use Rattle.naga_json.specs.Function.{FunctionValue, function_form}
use Rattle.naga_json.specs.Module.{ModuleValue, module_form, module_in_text}
use Rattle.naga_json.specs.StatementValue.{BlockValue, empty, push, StatementValue, plain, call, nested, branch, switch, loop, jump, CasesValue, no_cases, case}
use Rattle.naga_json.specs.Unspanned.{unspanned_block, unspanned_statement, unspanned_cases, unspanned_function, unspanned_entry_point, unspanned_module}
use Rattle.naga_json.specs.declared.nesting.TheConstants.{MAX_NESTING}
use Rattle.naga_json.proofs.TextLemmas.{document-print}
use Rattle.naga_json.proofs.ModuleLemmas.{lawful-module}

values-unspanned : {A : Type 0} (arena : List (A × Span)) → values (unspanned arena) ≡ values arena
values-unspanned [] = refl
values-unspanned (entry ∷ arena) = ap (λ rest. entry.0 ∷ rest) (values-unspanned arena)

mutual
  pub statements_json-unspanned : (block : BlockValue) → statements_json (unspanned_block block) ≡ statements_json block
  statements_json-unspanned empty = refl
  statements_json-unspanned (push front last span) = rw (statements_json-unspanned front, statement_json-unspanned last) refl

  statement_json-unspanned : (statement : StatementValue) → statement_json (unspanned_statement statement) ≡ statement_json statement
  statement_json-unspanned (plain what) = refl
  statement_json-unspanned (call function arguments result) = refl
  statement_json-unspanned (nested inner) = rw (statements_json-unspanned inner) refl
  statement_json-unspanned (branch condition accept reject) = rw (statements_json-unspanned accept, statements_json-unspanned reject) refl
  statement_json-unspanned (switch selector cases) = rw (cases_json-unspanned cases) refl
  statement_json-unspanned (loop body continuing break_if) = rw (statements_json-unspanned body, statements_json-unspanned continuing) refl
  statement_json-unspanned (jump to) = refl

  cases_json-unspanned : (cases : CasesValue) → cases_json (unspanned_cases cases) ≡ cases_json cases
  cases_json-unspanned no_cases = refl
  cases_json-unspanned (case value body falls_through others) = rw (statements_json-unspanned body, cases_json-unspanned others) refl

Writes-unspanned_function : (function : FunctionValue) (j : Json) → function_form.Writes function j → function_form.Writes (unspanned_function function) j
Writes-unspanned_function function j (held, writes, is) =
    (held, rw (values-unspanned function.expressions) writes, rw (values-unspanned function.local_variables, statements_json-unspanned function.body) is)

Writes-unspanned_entry_point : (entry : EntryPointValue) (j : Json) → entry_point_form.Writes entry j → entry_point_form.Writes (unspanned_entry_point entry) j
Writes-unspanned_entry_point entry j (held, writes, is) = (held, Writes-unspanned_function entry.function held writes, is)

functions-unspanned : (functions : List (FunctionValue × Span)) (js : List Json) → AllZip function_form.Writes (values functions) js
    → AllZip function_form.Writes (values (map (λ entry. (unspanned_function entry.0, undefined)) functions)) js
functions-unspanned [] [] are = tt
functions-unspanned [] (j ∷ js) are = elim are [ ]
functions-unspanned (entry ∷ functions) [] are = elim are [ ]
functions-unspanned (entry ∷ functions) (j ∷ js) (is, are) = (Writes-unspanned_function entry.0 j is, functions-unspanned functions js are)

entry_points-unspanned : (entries : List EntryPointValue) (js : List Json) → AllZip entry_point_form.Writes entries js → AllZip entry_point_form.Writes (map unspanned_entry_point entries) js
entry_points-unspanned [] [] are = tt
entry_points-unspanned [] (j ∷ js) are = elim are [ ]
entry_points-unspanned (entry ∷ entries) [] are = elim are [ ]
entry_points-unspanned (entry ∷ entries) (j ∷ js) (is, are) = (Writes-unspanned_entry_point entry j is, entry_points-unspanned entries js are)

-- a JSON that is written for a module is written for it with undefined spans
pub Writes-unspanned_module : (whole : ModuleValue) (j : Json) → module_form.Writes whole j → module_form.Writes (unspanned_module whole) j
Writes-unspanned_module whole j (expressions, are_expressions, (functions, (functions_js, are_functions, is_functions), (entries, (entries_js, are_entries, is_entries), is))) = (
  expressions,
  rw (values-unspanned whole.global_expressions) are_expressions,
  (
    functions,
    (functions_js, functions-unspanned whole.functions functions_js are_functions, is_functions),
    (
      entries,
      (entries_js, entry_points-unspanned whole.entry_points entries_js are_entries, is_entries),
      rw (values-unspanned whole.types, values-unspanned whole.constants, values-unspanned whole.overrides, values-unspanned whole.global_variables, values-unspanned whole.diagnostic_filters) is,
    ),
  ),
)

-- the text of a JSON that is written for a module is read as the module with undefined spans
pub module_text : (whole : ModuleValue) (j : Json) → module_form.Fits (unspanned_module whole) → module_form.Writes whole j → depth j ≤ MAX_NESTING
    → module_in_text (print (json_tokens j)) ≡ Some (unspanned_module whole)
module_text whole j fits writes shallow =
    let read = lawful-module.reads (unspanned_module whole) j fits (Writes-unspanned_module whole j writes) in
    rw (document-print j read.numbers shallow) read.reads
