-- Modules of which only bodies change, and that stay typed.
use Rattle.std.proofs.Common.{◌≡◌, ℕ, zero, suc, List, [], ◌∷◌, Option, None, Some, ap, inl, inr, refl, subst, sym}
use Rattle.std.specs.List.{AllZip}
use Rattle.std.specs.Option.{option_map}
use Rattle.std.specs.Prelude.{⊤, All, map, slice_get}
use Rattle.std.proofs.lemmas.List.Elements.{All-cons, All-head, All-nil, All-tail}
use Rattle.indexmap.specs.IndexMap.{get}
use Rattle.naga_arena.specs.Arena.{value_at, values}
use Rattle.naga_arena.specs.declared.span.Span.{Span}
use Rattle.naga_kinds.specs.contracts.scalar.PredeclaredTypePartialEq.TheImpl as predeclared_eq
use Rattle.naga_ir.specs.Tree.{Tree}
use Rattle.naga_ir.specs.View.{tree_of}
use Rattle.naga_ir.specs.declared.block.Block.{Block}
use Rattle.naga_ir.specs.declared.module.EntryPoint as entry_point
use Rattle.naga_ir.specs.declared.module.Function as function
use Rattle.naga_ir.specs.declared.module.FunctionArgument as argument
use Rattle.naga_ir.specs.declared.module.FunctionResult as outcome
use Rattle.naga_ir.specs.declared.module.LocalVariable as local
use Rattle.naga_ir.specs.declared.module.Module as the_module
use Rattle.naga_flow.specs.Bodies.{functions_of, functions_of_entries}
use Rattle.naga_compact.specs.Culling.{culled}
use Rattle.naga_proc.specs.Bodies.{ChangesBodies, ChangesBody, ChangesEntryBody, ClosesBodies}
use Rattle.naga_proc.specs.Closing.{ClosedBy, closed}
use Rattle.naga_proc.specs.declared.terminator.rule.Rule.{Rule}
use Rattle.naga_proc.proofs.Closing.ClosedByLemmas.{ClosedBy-is}
use Rattle.naga_typifier.specs.Context.{Context, context_in, inner_at}
use Rattle.naga_typifier.specs.Typing.{typing}
use Rattle.naga_typifier.specs.declared.resolution.TypeResolution.{TypeResolution}
use Rattle.naga_typing.specs.Closed.{ClosesWithoutResult, HasNoResult}
use Rattle.naga_typing.specs.Expressions.{ExpressionFits}
use Rattle.naga_typing.specs.Faults.{ExpressionsAreTyped, FitsBy}
use Rattle.naga_typing.specs.Initials.{constants_of, locals_of, overrides_of, variables_of}
use Rattle.naga_typing.specs.Requirements.{Signature}
use Rattle.naga_typing.specs.Statements.{BodyIsTyped}
use Rattle.naga_typing.specs.TypedFunctions.{signature_in}
use Rattle.naga_typing.specs.TypedModules.{DeclarationsAreTyped, FunctionIsTyped, ModuleIsTyped, global_context, global_signature, typing_in}
use Rattle.naga_typing.proofs.BodyIsTypedLemmas.{BodyIsTyped-closed, BodyIsTyped-culled}
use Rattle.naga_typing.proofs.ContextLemmas.{context_in-same, result_of, results-related}

-- a function with another body that uses its values at their types
pub FunctionIsTyped-body : (whole : the_module.Module) (inside : function.Function) (body : Block)
    → ((ctx : Context) (known : ℕ → Option TypeResolution) → BodyIsTyped ctx known (signature_in whole inside) (tree_of inside.body)
    → BodyIsTyped ctx known (signature_in whole inside) (tree_of body))
    → FunctionIsTyped whole inside → FunctionIsTyped whole (record inside { body = body })
FunctionIsTyped-body whole inside body keeps typed = record {
  typed = (typed.typed.0, keeps (context_in whole inside) (slice_get (typing_in whole inside).0) typed.typed.1);
  operands = typed.operands;
  variables = typed.variables;
}

-- ---- a module with other bodies

-- the types of the arguments of a function
abbrev pub arguments_of : Option function.Function → Option (List ℕ)
arguments_of = option_map (λ (called : function.Function). map (λ (a : argument.FunctionArgument). a.ty) called.arguments.items)

-- functions that are related one by one have the same arguments, if related ones have
pub arguments-related : (R : (before after : function.Function × Span) → Type 0) → ((before after : function.Function × Span) → R before after → after.0.arguments ≡ before.0.arguments) →
    (old new : List (function.Function × Span)) → AllZip R old new → (handle : ℕ) → arguments_of (value_at new handle) ≡ arguments_of (value_at old handle)
arguments-related R same [] [] all handle = refl
arguments-related R same [] (after ∷ new) all handle = absurd all
arguments-related R same (before ∷ old) [] all handle = absurd all
arguments-related R same (before ∷ old) (after ∷ new) all zero = λ i. Some (map (λ (a : argument.FunctionArgument). a.ty) (same before after all.0 i).items)
arguments-related R same (before ∷ old) (after ∷ new) all (suc handle) = arguments-related R same old new all.1 handle

-- that a function is typed, by its context and signature
abbrev FunctionBy : (inside : function.Function) → Context → Signature → Type 0
FunctionBy inside by of =
    (((typing by [] (values inside.expressions)).1 ≡ None) × BodyIsTyped by (slice_get (typing by [] (values inside.expressions)).0) of (tree_of inside.body))
    × (All (ExpressionFits (FitsBy by of (typing by [] (values inside.expressions)).0)) (values inside.expressions)
    × All (FitsBy by of (typing by [] (values inside.expressions)).0) (locals_of inside))

-- a typed function in another module, with the same context and signature
FunctionIsTyped-there : (old new : the_module.Module) (inside : function.Function) → context_in new inside ≡ context_in old inside → signature_in new inside ≡ signature_in old inside
    → FunctionIsTyped old inside → FunctionIsTyped new inside
FunctionIsTyped-there old new inside contexts signatures typed =
    let parts = subst (λ by. FunctionBy inside by (signature_in new inside)) (sym contexts)
    (subst (FunctionBy inside (context_in old inside)) (sym signatures) (typed.typed, (typed.operands, typed.variables))) in
    record { typed = parts.0; operands = parts.1.0; variables = parts.1.1 }

-- the types of global expressions, by the context
abbrev types_by : Context → the_module.Module → List TypeResolution
types_by by whole = (typing by [] (values whole.global_expressions)).0

-- that the declarations of a module are typed, by the context and the signature
abbrev DeclarationsBy : Context → Signature → the_module.Module → Type 0
DeclarationsBy by of whole =
    ExpressionsAreTyped by of (values whole.global_expressions) × (All (FitsBy by of (types_by by whole)) (constants_of whole)
    × (All (FitsBy by of (types_by by whole)) (overrides_of whole) × All (FitsBy by of (types_by by whole)) (variables_of whole)))

-- a module of which only functions change, and these take and return the same
module _ (old new : the_module.Module) (outside : new ≡ record old { functions = new.functions; entry_points = new.entry_points })
    (results : (handle : ℕ) → result_of (value_at new.functions handle) ≡ result_of (value_at old.functions handle))
    (parameters : (handle : ℕ) → arguments_of (value_at new.functions handle) ≡ arguments_of (value_at old.functions handle)) where
  context-same : (inside : function.Function) → context_in new inside ≡ context_in old inside
  context-same inside = context_in-same old new inside inside outside results (λ handle. refl) refl

  signature-same : (inside : function.Function) → signature_in new inside ≡ signature_in old inside
  signature-same inside = λ i. record {
    parameters = λ handle. parameters handle i;
    result = option_map (λ result. result.ty) inside.result;
    ray_desc = (outside i).special_types.ray_desc;
  }

  pub FunctionIsTyped-outside : (inside : function.Function) → FunctionIsTyped old inside → FunctionIsTyped new inside
  FunctionIsTyped-outside inside = FunctionIsTyped-there old new inside (context-same inside) (signature-same inside)

  global-same : global_context new ≡ global_context old
  global-same = λ i. record {
    types = inner_at (outside i).types;
    constants = λ handle. option_map (λ constant. constant.ty) (value_at (outside i).constants handle);
    overrides = λ handle. option_map (λ override. override.ty) (value_at (outside i).overrides handle);
    globals = λ handle. option_map (λ variable. (variable.space, variable.ty)) (value_at (outside i).global_variables handle);
    locals = λ handle. option_map (λ (variable : local.LocalVariable). variable.ty) (value_at [] handle);
    arguments = λ index. option_map (λ (a : argument.FunctionArgument). a.ty) (slice_get [] index);
    results = λ handle. results handle i;
    ray_intersection = (outside i).special_types.ray_intersection;
    ray_vertex_return = (outside i).special_types.ray_vertex_return;
    predeclared = get predeclared_eq.ghosts.eq (outside i).special_types.predeclared_types;
  }

  global_signature-same : global_signature new ≡ global_signature old
  global_signature-same = λ i. record {
    parameters = λ handle. parameters handle i;
    result = None;
    ray_desc = (outside i).special_types.ray_desc;
  }

  pub DeclarationsAreTyped-same : DeclarationsAreTyped old → DeclarationsAreTyped new
  DeclarationsAreTyped-same typed =
      let there = subst (λ by. DeclarationsBy by (global_signature new) new) (sym global-same)
      (subst (λ of. DeclarationsBy (global_context old) of new) (sym global_signature-same)
      (subst (DeclarationsBy (global_context old) (global_signature old)) (sym outside)
      (typed.expressions, (typed.constants, (typed.overrides, typed.variables))))) in
      record { expressions = there.0; constants = there.1.0; overrides = there.1.1.0; variables = there.1.1.1 }

module _ (Related : Tree → Tree → Type 0) (old new : the_module.Module) (changes : ChangesBodies Related old new) where
  abbrev EntryChanges : (before after : function.Function × Span) → Type 0
  EntryChanges before after = ChangesBody Related before.0 after.0 × (after.1 ≡ before.1)

  results : (handle : ℕ) → result_of (value_at new.functions handle) ≡ result_of (value_at old.functions handle)
  results = results-related EntryChanges (λ x y both. ap (λ (f : function.Function). f.result) both.0.0) old.functions new.functions changes.functions

  parameters : (handle : ℕ) → arguments_of (value_at new.functions handle) ≡ arguments_of (value_at old.functions handle)
  parameters = arguments-related EntryChanges (λ x y both. ap (λ (f : function.Function). f.arguments) both.0.0) old.functions new.functions changes.functions

  typed-there : (inside : function.Function) → FunctionIsTyped old inside → FunctionIsTyped new inside
  typed-there = FunctionIsTyped-outside old new changes.outside results parameters

  module _ (Q : function.Function → Type 0) (keeps : (before : function.Function) (body : Block) → Q before → Related (tree_of before.body) (tree_of body) → FunctionIsTyped old before → FunctionIsTyped old (record before { body = body })) where
    function-same : (before after : function.Function) → Q before → ChangesBody Related before after → FunctionIsTyped old before → FunctionIsTyped new after
    function-same before after q is typed =
        typed-there after
        (subst (FunctionIsTyped old) (sym is.0) (keeps before after.body q is.1 typed))

    functions-same : (xs ys : List (function.Function × Span)) → AllZip EntryChanges xs ys → All Q (values xs) → All (FunctionIsTyped old) (values xs) → All (FunctionIsTyped new) (values ys)
    functions-same [] [] all q typed = All-nil (FunctionIsTyped new)
    functions-same [] (y ∷ ys) all q typed = absurd all
    functions-same (x ∷ xs) [] all q typed = absurd all
    functions-same (x ∷ xs) (y ∷ ys) all q typed =
        All-cons (FunctionIsTyped new) y.0 (values ys) (function-same x.0 y.0 (All-head Q x.0 (values xs) q) all.0.0 (All-head (FunctionIsTyped old) x.0 (values xs) typed))
        (functions-same xs ys all.1 (All-tail Q x.0 (values xs) q) (All-tail (FunctionIsTyped old) x.0 (values xs) typed))

    entries-same : (xs ys : List entry_point.EntryPoint) → AllZip (ChangesEntryBody Related) xs ys → All Q (functions_of_entries xs) → All (FunctionIsTyped old) (functions_of_entries xs)
        → All (FunctionIsTyped new) (functions_of_entries ys)
    entries-same [] [] all q typed = All-nil (FunctionIsTyped new)
    entries-same [] (y ∷ ys) all q typed = absurd all
    entries-same (x ∷ xs) [] all q typed = absurd all
    entries-same (x ∷ xs) (y ∷ ys) all q typed =
        All-cons (FunctionIsTyped new) y.function (functions_of_entries ys)
        (function-same x.function y.function (All-head Q x.function (functions_of_entries xs) q) all.0.1 (All-head (FunctionIsTyped old) x.function (functions_of_entries xs) typed))
        (entries-same xs ys all.1 (All-tail Q x.function (functions_of_entries xs) q) (All-tail (FunctionIsTyped old) x.function (functions_of_entries xs) typed))

    pub ModuleIsTyped-changed : All Q (functions_of old) × All Q (functions_of_entries old.entry_points.items) → ModuleIsTyped old → ModuleIsTyped new
    ModuleIsTyped-changed q typed = record {
      declarations = DeclarationsAreTyped-same old new changes.outside results parameters typed.declarations;
      functions = functions-same old.functions new.functions changes.functions q.0 typed.functions;
      entry_points = entries-same old.entry_points.items new.entry_points.items changes.entry_points q.1 typed.entry_points;
    }

-- ---- culling and closing

All-any : {X : Type 0} (xs : List X) → All (λ (x : X). ⊤) xs
All-any {X} [] = All-nil (λ (x : X). ⊤)
All-any {X} (x ∷ xs) = All-cons (λ (y : X). ⊤) x xs tt (All-any xs)

pub ModuleIsTyped-culled : (old new : the_module.Module) → ChangesBodies (λ before after. after ≡ culled before) old new → ModuleIsTyped old → ModuleIsTyped new
ModuleIsTyped-culled old new changes typed =
    ModuleIsTyped-changed (λ before after. after ≡ culled before) old new changes (λ inside. ⊤)
    (λ before body q is h. FunctionIsTyped-body old before body (λ ctx known t. subst (BodyIsTyped ctx known (signature_in old before)) (sym is) (BodyIsTyped-culled ctx known (signature_in old before) (tree_of before.body) t)) h)
    (All-any (functions_of old), All-any (functions_of_entries old.entry_points.items)) typed

pub ModuleIsTyped-closed : (rule : Rule) (old new : the_module.Module) → ClosesBodies rule old new → ClosesWithoutResult rule old → ModuleIsTyped old → ModuleIsTyped new
ModuleIsTyped-closed rule old new changes without typed =
    ModuleIsTyped-changed (ClosedBy rule) old new changes (HasNoResult rule)
    (λ before body q is h. FunctionIsTyped-body old before body (λ ctx known t. subst (BodyIsTyped ctx known (signature_in old before)) (sym ((ClosedBy-is rule (tree_of before.body) (tree_of body)).0 is)) (stays before q ctx known t)) h)
    without typed
  where
    stays : (before : function.Function) → HasNoResult rule before → (ctx : Context) (known : ℕ → Option TypeResolution) → BodyIsTyped ctx known (signature_in old before) (tree_of before.body)
        → BodyIsTyped ctx known (signature_in old before) (closed rule (tree_of before.body))
    stays before (inl nothing) ctx known t = BodyIsTyped-closed ctx known (signature_in old before) (ap (option_map (λ (result : outcome.FunctionResult). result.ty)) nothing) rule (tree_of before.body) t
    stays before (inr same) ctx known t = subst (BodyIsTyped ctx known (signature_in old before)) (sym same) t
