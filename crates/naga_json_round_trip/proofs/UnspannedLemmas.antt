-- What fits a table is written whole: it has no spans, and nothing that has no JSON.
use Rattle.std.proofs.Common.{◌≡◌, ℕ, zero, suc, List, [], ◌∷◌, All, IfSome, map, Option, Some, None, option_map, refl, ap, sym}
use Rattle.std.proofs.lemmas.List.Elements.{All-head, All-tail}
use Rattle.std.specs.declared.alloc.Global.{Global}
use Rattle.std.specs.declared.boxed.Box.{Box}
use Rattle.indexmap.specs.IndexMap.{IsEmpty}
use Rattle.json.specs.Json.{Json}
use Rattle.naga_arena.specs.Span.{undefined}
use Rattle.naga_arena.specs.declared.span.Span.{Span}
use Rattle.naga_ir.specs.declared.module.DocComments.{DocComments}
use Rattle.naga_ir.specs.declared.module.Module as the_module
use Rattle.naga_ir.specs.declared.module.SpecialTypes.{SpecialTypes}
use Rattle.naga_json.specs.Arenas.{unspanned}
use Rattle.naga_json.specs.Block.{block_within, BlockFits, case_codec, statement_codec}
use Rattle.naga_json.specs.declared.nesting.TheConstants.{MAX_NESTING}
use Rattle.naga_json.specs.Codec.{Codec}
use Rattle.naga_json.specs.DocComments.{DocCommentsValue, comments_value, doc_comments_codec, lines_of}
use Rattle.naga_json.specs.EntryPoint.{EntryPointValue, entry_point_form}
use Rattle.naga_json.specs.Function.{FunctionValue, function_form}
use Rattle.naga_json.specs.Module.{ModuleValue, module_form, module_value}
use Rattle.naga_json.specs.Recursion.{within_depth}
use Rattle.naga_json.specs.SpecialTypes.{SpecialTypesValue, special_types_codec, special_types_value}
use Rattle.naga_json.specs.StatementValue.{BlockValue, empty, push, StatementValue, plain, call, nested, branch, switch, loop, jump, CasesValue, no_cases, case, CaseValue, cases_of}
use Rattle.naga_json.specs.Unspanned.{unspanned_block, unspanned_statement, unspanned_cases, unspanned_function, unspanned_entry_point, unspanned_module}
use Rattle.naga_json_write.specs.Module.{HasNoMemberComments, IsModuleJson}
use Rattle.naga_json_round_trip.specs.Module.{written_comments, written_module, written_special_types}

-- ---- blocks

module _ (inner : Codec BlockValue) (same : (block : BlockValue) → inner.Fits block → unspanned_block block ≡ block) where
  same_cases : (cases : CasesValue) → All (case_codec inner).Fits (cases_of cases) → unspanned_cases cases ≡ cases
  same_cases no_cases fit = refl
  same_cases (case value body falls_through others) fit =
      let one : CaseValue = (value, body, falls_through) in
      let rest = cases_of others in
      rw (same body (All-head (case_codec inner).Fits one rest fit).1.0, same_cases others (All-tail (case_codec inner).Fits one rest fit)) refl

  same_statement : (statement : StatementValue) → (statement_codec inner).Fits statement → unspanned_statement statement ≡ statement
  same_statement (plain what) fits = refl
  same_statement (call function arguments result) fits = refl
  same_statement (nested block) fits = rw (same block fits) refl
  same_statement (branch condition accept reject) fits = rw (same accept fits.1.0, same reject fits.1.1.0) refl
  same_statement (switch selector cases) fits = rw (same_cases cases fits.1.0) refl
  same_statement (loop body continuing break_if) fits = rw (same body fits.0, same continuing fits.1.0) refl
  same_statement (jump to) fits = refl

  same_outer : (block : BlockValue) → BlockFits (statement_codec inner).Fits block → unspanned_block block ≡ block
  same_outer empty fits = refl
  same_outer (push front last span) fits = rw (same_outer front fits.0, same_statement last fits.1, fits.2) refl

same_block : (depth : ℕ) (block : BlockValue) → (block_within depth).Fits block → unspanned_block block ≡ block
unfolding within_depth
same_block zero block fits = absurd fits
same_block (suc depth) block fits = same_outer (block_within depth) (same_block depth) block fits

-- ---- functions and entry points

same_function : (function : FunctionValue) → function_form.Fits function → unspanned_function function ≡ function
same_function function fits = rw (fits.1.1.1.0.spans, fits.1.1.1.1.0.spans, same_block MAX_NESTING function.body fits.1.1.1.1.1.1.0) refl

same_functions : (functions : List (FunctionValue × Span)) → All (λ entry. function_form.Fits entry.0) functions → map (λ entry. (unspanned_function entry.0, undefined)) functions ≡ unspanned functions
same_functions [] fit = refl
same_functions (entry ∷ functions) fit =
    let one = λ (entry : FunctionValue × Span). function_form.Fits entry.0 in
    rw (same_function entry.0 (All-head one entry functions fit), same_functions functions (All-tail one entry functions fit)) refl

same_entry_point : (entry : EntryPointValue) → entry_point_form.Fits entry → unspanned_entry_point entry ≡ entry
same_entry_point entry fits = rw (same_function entry.function fits.1.1.1.1.1.0) refl

same_entry_points : (entries : List EntryPointValue) → All entry_point_form.Fits entries → map unspanned_entry_point entries ≡ entries
same_entry_points [] fit = refl
same_entry_points (entry ∷ entries) fit = rw (same_entry_point entry (All-head entry_point_form.Fits entry entries fit), same_entry_points entries (All-tail entry_point_form.Fits entry entries fit)) refl

-- ---- modules

same_special_types : (special : SpecialTypesValue) → special_types_codec.Fits special → written_special_types special ≡ special
same_special_types special fits = ap (λ types. record special { predeclared_types = types }) (sym fits.1.1.1.1.1.0)

same_comments : (o : Option DocCommentsValue) → IfSome o doc_comments_codec.Fits → option_map written_comments o ≡ o
same_comments None fits = refl
same_comments (Some comments) fits = ap (λ members. Some (record comments { struct_members = members })) (sym fits.1.0)

-- a module that fits is written whole
pub same_module : (whole : ModuleValue) → module_form.Fits whole → written_module whole ≡ whole
same_module whole fits =
    let functions = fits.1.1.1.1.1.1.0 in
    rw (
      fits.0.spans,
      same_special_types whole.special_types fits.1.0,
      fits.1.1.0.spans,
      fits.1.1.1.0.spans,
      fits.1.1.1.1.0.spans,
      fits.1.1.1.1.1.0.spans,
      same_functions whole.functions functions.each,
      functions.spans,
      same_entry_points whole.entry_points fits.1.1.1.1.1.1.1.0,
      fits.1.1.1.1.1.1.1.1.0.spans,
      same_comments whole.doc_comments fits.1.1.1.1.1.1.1.1.1.1.0,
    ) refl

no_predeclared_types : (special : SpecialTypes) → IsEmpty special.predeclared_types → written_special_types (special_types_value special) ≡ special_types_value special
no_predeclared_types special none = ap (λ types. record (special_types_value special) { predeclared_types = types }) (sym none)

no_member_comments : (o : Option (Box DocComments Global)) → HasNoMemberComments o
    → option_map written_comments (option_map (λ comments. comments_value comments.value) o) ≡ option_map (λ comments. comments_value comments.value) o
no_member_comments None none = refl
no_member_comments (Some comments) none =
    ap (λ members. Some (record (comments_value comments.value) { struct_members = map (λ entry. (entry.0, lines_of entry.1)) members })) (sym none)

-- a module that has a JSON is written whole, but for its spans
pub written-unspanned : (whole : the_module.Module) (j : Json) → IsModuleJson whole j → written_module (module_value whole) ≡ unspanned_module (module_value whole)
written-unspanned whole j is = rw (no_predeclared_types whole.special_types is.no_predeclared_types, no_member_comments whole.doc_comments is.no_member_comments) refl
