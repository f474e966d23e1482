-- The functions of a module that passes the checks compute values of the types of their expressions.
use Rattle.std.proofs.Common.{◌≡◌, inl, inr, ℕ, Bool, Option}
use Rattle.std.proofs.lemmas.List.Elements.{All-map}
use Rattle.naga_arena.specs.Arena.{values}
use Rattle.naga_arena.specs.declared.span.Span.{Span}
use Rattle.naga_ir.specs.declared.module.EntryPoint as entry_point
use Rattle.naga_ir.specs.declared.module.Function as function
use Rattle.naga_ir.specs.declared.module.Module as the_module
use Rattle.naga_valid.specs.Valid.{HandlesAreValid}
use Rattle.naga_valid.specs.declared.reference.Reference.{Reference}
use Rattle.naga_flow.specs.Bodies.{functions_of, functions_of_entries}
use Rattle.naga_compact.specs.Operands.{OperandsPrecede}
use Rattle.naga_compact.proofs.OperandsPrecedeLemmas.{OperandsPrecede-entry_points, OperandsPrecede-functions}
use Rattle.naga_meaning.specs.Calls.{called}
use Rattle.naga_meaning.specs.Readings.{Reading}
use Rattle.naga_typing.specs.CheckedValues.{CheckedValuesHaveTypes, FindsFunctions, MeetsRequirements, PassesUses}
use Rattle.naga_typing.specs.Forms.{Form}
use Rattle.naga_typing.specs.TypedCalls.{FindsChecked, IsFunctionOf}
use Rattle.naga_typing.specs.TypedExecutions.{IsChecked}
use Rattle.naga_typing.specs.TypedModules.{FunctionIsTyped, ModuleIsTyped}
use Rattle.naga_typing.proofs.CalledRespectsTypesLemmas.{called-respects}
use Rattle.naga_typing.proofs.CompactedIsTypedLemmas.{All-at}
use Rattle.naga_typing.proofs.ExecutionHasTypesLemmas.{execution-types}

module _ (whole : the_module.Module) (valid : HandlesAreValid whole) (typed : ModuleIsTyped whole) where
  function-typed : (inside : function.Function) → IsFunctionOf whole inside → FunctionIsTyped whole inside
  function-typed inside (inl (called, at)) =
      All-at (FunctionIsTyped whole) (functions_of whole) called inside typed.functions at
  function-typed inside (inr (position, at)) =
      All-at (FunctionIsTyped whole) (functions_of_entries whole.entry_points.items) position inside typed.entry_points at

  abbrev Precedes : function.Function → Type 0
  Precedes inside = OperandsPrecede inside.expressions

  pub function-precedes : (inside : function.Function) → IsFunctionOf whole inside → Precedes inside
  function-precedes inside (inl (called, at)) =
      All-at Precedes (functions_of whole) called inside
      (All-map Precedes (λ (entry : function.Function × Span). entry.0) whole.functions (OperandsPrecede-functions whole valid)) at
  function-precedes inside (inr (position, at)) =
      All-at Precedes (functions_of_entries whole.entry_points.items) position inside
      (All-map Precedes (λ (entry : entry_point.EntryPoint). entry.function) whole.entry_points.items
      (OperandsPrecede-entry_points whole valid)) at

  pub function-checked : (inside : function.Function) → IsFunctionOf whole inside → (chosen : ℕ → Bool) → PassesUses chosen inside →
      IsChecked whole (MeetsRequirements whole inside) chosen inside
  function-checked inside is chosen passes = record {
    typed = (function-typed inside is).typed;
    accepted = λ handle expression at.
        All-at (MeetsRequirements whole inside) (values inside.expressions) handle expression (function-typed inside is).operands at;
    precede = function-precedes inside is;
    passes = passes;
  }

  functions-found : {Thing : Type 0} (look : Reference → Thing) (find : Thing → Option Reading) → FindsFunctions look find whole →
      FindsChecked look find whole (MeetsRequirements whole)
  functions-found look find finds called reading found =
      let it = finds called reading found in
      (it.0, it.1, it.2, it.3, function-checked it.0 (inl (called, it.2)) it.1 it.4)

pub checked-types : {Thing Value State : Type 0} (has_type : Value → Form → Type 0) (Invariant : function.Function → State → Type 0) →
    CheckedValuesHaveTypes Thing Value State has_type Invariant
checked-types has_type Invariant whole valid typed look find finds by respects calls calls_respect inside is chosen passes turns depth start holds =
    execution-types look (called look find calls by turns depth) has_type whole inside (MeetsRequirements whole inside) chosen
    (function-checked whole valid typed inside is chosen passes) (Invariant inside)
    (called-respects has_type (MeetsRequirements whole) Invariant whole look find (functions-found whole valid typed look find finds) by
    respects calls calls_respect turns depth inside is) turns start holds
