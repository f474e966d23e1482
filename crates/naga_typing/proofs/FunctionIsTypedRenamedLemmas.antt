-- A function with renamed handles is typed if it was, where what it uses has its type at its new handle.
use Rattle.std.proofs.Common.{◌≡◌, ◌∙◌, ◌⊎◌, sym, ap, subst, refl, inl, inr, ℕ, List, [], ◌∷◌, map, Option, None, Some}
use Rattle.std.proofs.lemmas.List.Elements.{All-cons, All-contains_itself, All-head, All-nil, All-tail, Contains-append_right}
use Rattle.std.specs.List.{Contains}
use Rattle.std.specs.Prelude.{All, IfSome, slice_get}
use Rattle.naga_arena.specs.Arena.{values}
use Rattle.naga_arena.specs.declared.span.Span.{Span}
use Rattle.naga_ir.specs.View.{tree_of}
use Rattle.naga_ir.specs.declared.expression.Expression.{Expression}
use Rattle.naga_ir.specs.declared.module.Function.{Function}
use Rattle.naga_ir.specs.declared.module.LocalVariable.{LocalVariable}
use Rattle.naga_ir.specs.declared.module.Module.{Module}
use Rattle.naga_valid.specs.Expressions.{references_of_expression}
use Rattle.naga_valid.specs.Operands.{expression_of, operands_of}
use Rattle.naga_valid.specs.Statements.{references_of_tree}
use Rattle.naga_valid.specs.declared.reference.Reference.{Reference}
use Rattle.naga_valid.specs.declared.reference.Reference.TheVariants as reference
use Rattle.naga_compact.specs.Functions.{initial_values}
use Rattle.naga_compact.specs.Operands.{used_by}
use Rattle.naga_compact.specs.Renaming.{Renaming, unchanged}
use Rattle.naga_compact.specs.Renaming.Blocks.{rename_tree}
use Rattle.naga_compact.specs.Renaming.Declarations.{rename_local_variable}
use Rattle.naga_compact.specs.Renaming.Functions.{map_values}
use Rattle.naga_compact.specs.derived.Renaming.{rename_expression}
use Rattle.naga_compact.proofs.FilterMapLemmas.{Contains-filter_map}
use Rattle.naga_typifier.specs.Context.{Context, context_in}
use Rattle.naga_typifier.specs.Typing.{typing}
use Rattle.naga_typifier.specs.declared.resolution.TypeResolution.{TypeResolution}
use Rattle.naga_typifier.specs.declared.resolve_error.ResolveError.{ResolveError}
use Rattle.naga_typing.specs.Expressions.{ExpressionFits}
use Rattle.naga_typing.specs.Faults.{FitsBy}
use Rattle.naga_typing.specs.Initials.{locals_of, of_local_variable}
use Rattle.naga_typing.specs.Requirements.{Signature}
use Rattle.naga_typing.specs.Statements.{BodyIsTyped}
use Rattle.naga_typing.specs.TypedFunctions.{signature_in}
use Rattle.naga_typing.specs.TypedModules.{FunctionIsTyped, typing_in}
use Rattle.naga_typing.specs.declared.requirement.Requirement.{Requirement}
use Rattle.naga_typing.proofs.BodyIsTypedRenamedLemmas.{BodyIsTyped-renamed, ExpressionFits-renamed, initial-renamed}
use Rattle.naga_typing.proofs.UnchangedTypesLemmas.{HasRenamed-same, NameIsRenamed-same, RenamesContext-same, RenamesSignature-same, TypesAreKept-any, all_kept}

pub if_present : {X : Type 0} (P : X → Type 0) (found : Option X) → ((x : X) → found ≡ Some x → P x) → IfSome found P
if_present P None holds = tt
if_present P (Some x) holds = holds x refl

-- `left` are the types of the new expressions, by the old context and signature
module _ (whole : Module) (old new : Function) (f : ℕ → ℕ) (ranges : ℕ × ℕ → ℕ × ℕ) (typed : FunctionIsTyped whole old) (left : List TypeResolution) where
  abbrev r : Renaming
  r = record unchanged { expressions = f; ranges = ranges }

  abbrev ctx : Context
  ctx = context_in whole old

  abbrev sig : Signature
  sig = signature_in whole old

  abbrev found : List TypeResolution
  found = (typing_in whole old).0

  -- the expression has the same type at its new handle
  abbrev pub IsSame : ℕ → Type 0
  IsSame handle = slice_get left (f handle) ≡ slice_get found handle

  abbrev Before : Option Requirement → Type 0
  Before = FitsBy ctx sig found

  abbrev After : Option Requirement → Type 0
  After = FitsBy ctx sig left

  pub ExpressionFits-same : (expression : Expression) → ((handle : ℕ) → Contains (operands_of expression) handle → IsSame handle)
      → ExpressionFits Before expression → ExpressionFits After (rename_expression r expression)
  ExpressionFits-same expression same fits =
      ExpressionFits-renamed r all_kept ctx ctx (RenamesContext-same f ranges ctx) (TypesAreKept-any ctx) sig sig (RenamesSignature-same f ranges sig) (slice_get found) (slice_get left) expression
      (NameIsRenamed-same f ranges sig ctx (slice_get found) (slice_get left) (references_of_expression expression)
      (λ handle inside. same handle (Contains-filter_map expression_of (references_of_expression expression) (reference.Expression handle) handle inside refl))) fits

  body-same : ((handle : ℕ) → Contains (used_by (tree_of old.body)) handle → IsSame handle) → BodyIsTyped ctx (slice_get left) sig (rename_tree r (tree_of old.body))
  body-same same =
      BodyIsTyped-renamed r all_kept ctx ctx (RenamesContext-same f ranges ctx) (TypesAreKept-any ctx) sig sig (RenamesSignature-same f ranges sig) (slice_get found) (slice_get left) (tree_of old.body)
      (NameIsRenamed-same f ranges sig ctx (slice_get found) (slice_get left) (references_of_tree (tree_of old.body))
      (λ handle inside. same handle (Contains-filter_map expression_of (references_of_tree (tree_of old.body)) (reference.Expression handle) handle inside refl))) typed.typed.1

  variables-of : (variables : List (LocalVariable × Span)) → ((entry : LocalVariable × Span) → Contains variables entry → (handle : ℕ) → entry.0.init ≡ Some handle → IsSame handle)
      → All Before (map of_local_variable (values variables)) → All After (map of_local_variable (values (map_values (rename_local_variable r) variables)))
  variables-of [] same fit = All-nil After
  variables-of (entry ∷ variables) same fit =
      All-cons After (of_local_variable (rename_local_variable r entry.0)) (map of_local_variable (values (map_values (rename_local_variable r) variables)))
      (initial-renamed r all_kept ctx ctx (RenamesContext-same f ranges ctx) (TypesAreKept-any ctx) sig sig (RenamesSignature-same f ranges sig) (slice_get found) (slice_get left) entry.0.ty refl entry.0.init
      (if_present _ entry.0.init (λ handle at. HasRenamed-same f ranges (slice_get found) (slice_get left) handle
      (same entry (All-head (Contains (entry ∷ variables)) entry variables (All-contains_itself (entry ∷ variables))) handle at)))
      (All-head Before (of_local_variable entry.0) (map of_local_variable (values variables)) fit))
      (variables-of variables (λ other inside. same other (Contains-append_right (entry ∷ []) variables other inside))
      (All-tail Before (of_local_variable entry.0) (map of_local_variable (values variables)) fit))

  variables-same : ((handle : ℕ) → Contains (initial_values old.local_variables) handle → IsSame handle) → All After (map of_local_variable (values (map_values (rename_local_variable r) old.local_variables)))
  variables-same same =
      variables-of old.local_variables
      (λ entry inside handle at. same handle (Contains-filter_map (λ (variable : LocalVariable × Span). variable.0.init) old.local_variables entry handle inside at))
      typed.variables

  -- that the new function is typed, by its context, its signature, and the types of its expressions
  abbrev By : Context → Signature → List TypeResolution → Type 0
  By by of types =
      BodyIsTyped by (slice_get types) of (tree_of new.body)
      × (All (ExpressionFits (FitsBy by of types)) (values new.expressions) × All (FitsBy by of types) (locals_of new))

  -- The body and the initial values are renamed, and what they use has the same type at its new handle.
  pub FunctionIsTyped-renamed : (whole' : Module) → context_in whole' new ≡ ctx → signature_in whole' new ≡ sig
      → typing ctx [] (values new.expressions) ≡ (left, None)
      → tree_of new.body ≡ rename_tree r (tree_of old.body) → new.local_variables ≡ map_values (rename_local_variable r) old.local_variables
      → ((handle : ℕ) → (Contains (initial_values old.local_variables) handle ⊎ Contains (used_by (tree_of old.body)) handle) → IsSame handle)
      → All (ExpressionFits After) (values new.expressions) → FunctionIsTyped whole' new
  FunctionIsTyped-renamed whole' contexts signatures are bodies variables same operands =
      record { typed = (ap (λ (pair : List TypeResolution × Option ResolveError). pair.1) is_new, there.0); operands = there.1.0; variables = there.1.1 }
    where
      is_new : typing (context_in whole' new) [] (values new.expressions) ≡ (left, None)
      is_new = ap (λ (by : Context). typing by [] (values new.expressions)) contexts ∙ are

      here : By ctx sig left
      here = (
        subst (BodyIsTyped ctx (slice_get left) sig) (sym bodies) (body-same (λ handle inside. same handle (inr inside))),
        (operands, subst (λ (arena : List (LocalVariable × Span)). All After (map of_local_variable (values arena))) (sym variables) (variables-same (λ handle inside. same handle (inl inside)))),
      )

      there : By (context_in whole' new) (signature_in whole' new) (typing_in whole' new).0
      there =
          subst (λ (by : Context). By by (signature_in whole' new) (typing_in whole' new).0) (sym contexts)
          (subst (λ (of : Signature). By ctx of (typing_in whole' new).0) (sym signatures)
          (subst (By ctx sig) (sym (ap (λ (pair : List TypeResolution × Option ResolveError). pair.0) is_new)) here))
