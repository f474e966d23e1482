-- Functions of the same values, which differ only in spans and in spare capacity, mean the same.
use Rattle.std.proofs.Common.{◌≡◌, ◌∙◌, ap, refl, ℕ, Bool, List, length, arith}
use Rattle.std.proofs.lemmas.Slice.Zip.{AllZip-long}
use Rattle.naga_arena.specs.Span.{undefined}
use Rattle.naga_arena.specs.declared.span.Span.{Span}
use Rattle.naga_ir.specs.View.{tree_of}
use Rattle.naga_ir.specs.declared.module.EntryPoint as entry_point
use Rattle.naga_ir.specs.declared.module.Function as function
use Rattle.naga_ir.specs.declared.module.LocalVariable.{LocalVariable}
use Rattle.naga_ir.specs.declared.module.Module as the_module
use Rattle.naga_valid.specs.declared.reference.Reference.{Reference}
use Rattle.naga_compact.specs.declared.module.renumbering.ModuleRenumbering.{ModuleRenumbering}
use Rattle.naga_json.specs.EntryPoint.{EntryPointValue, entry_point_value}
use Rattle.naga_json.specs.Expression.{value_of}
use Rattle.naga_json.specs.Function.{FunctionValue, function_value}
use Rattle.naga_json.specs.Declarations.{LocalVariableValue, local_variable_value}
use Rattle.naga_json.specs.Module.{ModuleValue, module_value}
use Rattle.naga_json.specs.Unspanned.{unspanned_entry_point, unspanned_function, unspanned_module}
use Rattle.naga_proc.proofs.Bodies.AllZipLemmas.{AllZip-then}
use Rattle.naga_meaning.specs.Functions.{Meanings, code_of, initials, meaning, parts}
use Rattle.naga_meaning.specs.Readings.{read_by}
use Rattle.naga_meaning.specs.Values.{World, entered, machine, outcome, outcome_of}
use Rattle.naga_meaning.proofs.AlikeLemmas.{does-alike}
use Rattle.naga_meaning.proofs.KeepsMeaningsLemmas.{related_to}
use Rattle.naga_passes.specs.Meanings.{ComputesAfter, ComputesAfterOf, FunctionsBecome, index_after, kept_functions}
use Rattle.naga_passes.specs.declared.pass.Pass.{Pass}
use Rattle.naga_passes.proofs.BlockValueLemmas.{Alike-values}
use Rattle.naga_passes.proofs.ExpressionValueLemmas.{chains_in-same, code_of-same, constant_chains_in-same}
use Rattle.naga_passes.proofs.HaveSameValuesLemmas.{AllZip-values, HaveSameValues, HaveSameValues-unspanned, map-same}

-- ---- functions

-- the second function is the first with undefined spans, up to spare capacity
abbrev pub IsUnspanned : (new read : function.Function) → Type 0
IsUnspanned new read = function_value read ≡ unspanned_function (function_value new)

module _ (new read : function.Function) (is : IsUnspanned new read) where
  pub same_expressions : HaveSameValues value_of new.expressions read.expressions
  same_expressions = HaveSameValues-unspanned value_of new.expressions read.expressions (ap (λ (f : FunctionValue). f.expressions) is)

  same_variables : HaveSameValues local_variable_value new.local_variables read.local_variables
  same_variables = HaveSameValues-unspanned local_variable_value new.local_variables read.local_variables (ap (λ (f : FunctionValue). f.local_variables) is)

  same_initials : initials read.local_variables ≡ initials new.local_variables
  same_initials = map-same local_variable_value (λ (variable : LocalVariable). variable.init) (λ x y same. ap (λ (v : LocalVariableValue). v.init) same) new.local_variables read.local_variables same_variables

  pub meaning-unspanned : {Thing Value State : Type 0} (look : Reference → Thing) (by : Meanings Thing Value State) (at_use : ℕ → Bool) (turns : ℕ) (start : World Value State) →
      meaning look by turns (read_by at_use read) start ≡ meaning look by turns (read_by at_use new) start
  meaning-unspanned look by at_use turns start =
      let codes = code_of-same new.expressions read.expressions same_expressions look at_use in
      let code = code_of look at_use new.expressions in
      (λ i. outcome (parts look) by (codes i) turns (tree_of read.body) (entered by (codes i) (same_initials i) start))
      ∙ ap (outcome_of by code)
      (does-alike (machine (parts look) by code)
      (Alike-values (machine (parts look) by code) (λ function c d result items turns state. rw items refl) (tree_of new.body) (tree_of read.body) (ap (λ (f : FunctionValue). f.body) is))
      turns (entered by code (initials new.local_variables) start))

module _ (Thing Value State : Type 0) (passes : List Pass) (renumberings : List ModuleRenumbering) where
  abbrev pub ComputesAfter-unspanned : (old new read : function.Function) → IsUnspanned new read → ComputesAfter Thing Value State passes renumberings old new → ComputesAfter Thing Value State passes renumberings old read
  ComputesAfter-unspanned old new read is after = record {
    expressions = after.expressions;
    same = λ at_use at_use' alike look by turns a b same. meaning-unspanned new read is look by at_use' turns b ∙ after.same at_use at_use' alike look by turns a b same;
    chains = λ x so. chains_in-same new.expressions read.expressions (same_expressions new read is) (index_after after.expressions x) ∙ after.chains x so;
    constant_chains = λ chosen chosen' alike x so.
        constant_chains_in-same new.expressions read.expressions (same_expressions new read is) chosen' (index_after after.expressions x) ∙ after.constant_chains chosen chosen' alike x so;
  }

module _ {Thing : Type 0} (Value State : Type 0) (look look' : Reference → Thing) (passes : List Pass) (renumberings : List ModuleRenumbering) where
  pub ComputesAfterOf-unspanned : (old new read : function.Function) → IsUnspanned new read →
      ComputesAfterOf Value State look look' passes renumberings old new → ComputesAfterOf Value State look look' passes renumberings old read
  ComputesAfterOf-unspanned old new read is after = record {
    computes = ComputesAfter-unspanned Thing Value State passes renumberings old new read is after.computes;
    same = λ at_use at_use' alike by turns a b same. meaning-unspanned new read is look' by at_use' turns b ∙ after.same at_use at_use' alike by turns a b same;
  }

-- ---- modules

module _ (Related : function.Function → function.Function → Type 0) (unspanned : (old new read : function.Function) → IsUnspanned new read → Related old new → Related old read) where
  pub FunctionsBecome-unspanned : (renumberings : List ModuleRenumbering) (old new read : the_module.Module) → module_value read ≡ unspanned_module (module_value new) →
      FunctionsBecome Related renumberings old new → FunctionsBecome Related renumberings old read
  FunctionsBecome-unspanned renumberings old new read same after =
      let of : function.Function × Span → FunctionValue × Span = λ entry. (function_value entry.0, entry.1) in
      let changed : FunctionValue × Span → FunctionValue × Span = λ entry. (unspanned_function entry.0, undefined) in
      let functions = AllZip-values of changed new.functions read.functions (ap (λ (m : ModuleValue). m.functions) same) in
      let entry_points = AllZip-values entry_point_value unspanned_entry_point new.entry_points.items read.entry_points.items (ap (λ (m : ModuleValue). m.entry_points) same) in
      let long : length read.functions ≡ length new.functions = AllZip-long (λ x y. of y ≡ changed (of x)) new.functions read.functions functions in
      record {
        functions = λ handle before found so.
            let between = after.functions handle before found so in
            let last = related_to (λ x y. of y ≡ changed (of x)) new.functions read.functions functions (index_after (kept_functions renumberings) handle) between.0 between.1 in
            (last.0, last.1, unspanned before.0 between.0.0 last.0.0 (ap (λ (p : FunctionValue × Span). p.0) last.2) between.2);
        no_others = λ index within. after.no_others index (omega arith);
        entry_points = AllZip-then (λ (before between : entry_point.EntryPoint). Related before.function between.function)
            (λ between last. entry_point_value last ≡ unspanned_entry_point (entry_point_value between))
            (λ (before last : entry_point.EntryPoint). Related before.function last.function)
            (λ before between last computes same. unspanned before.function between.function last.function (ap (λ (e : EntryPointValue). e.function) same) computes)
            old.entry_points.items new.entry_points.items read.entry_points.items after.entry_points entry_points;
      }
