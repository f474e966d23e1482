-- Renamed expressions, bodies and initial values are typed where the old ones are.
use Rattle.std.proofs.Common.{sym, subst, ℕ, List, [], ◌∷◌, map, Bool, Option, None, Some}
use Rattle.std.proofs.lemmas.List.Elements.{All-cons, All-head, All-nil, All-tail, recursion_from_All}
use Rattle.std.specs.List.{AllByRecursion}
use Rattle.std.specs.Prelude.{All, IfSome, option_map}
use Rattle.naga_arena.specs.declared.span.Span.{Span}
use Rattle.naga_ir.specs.Tree.{Node, Tree}
use Rattle.naga_ir.specs.declared.expression.Expression.{Expression}
use Rattle.naga_valid.specs.Expressions.{references_of_expression}
use Rattle.naga_valid.specs.Statements.{references_of_tree}
use Rattle.naga_valid.specs.declared.reference.Reference.{Reference}
use Rattle.naga_compact.specs.Renaming.{Renaming}
use Rattle.naga_compact.specs.Renaming.Blocks.{rename_tree}
use Rattle.naga_compact.specs.derived.Renaming.{rename_expression}
use Rattle.naga_typifier.specs.Context.{Context}
use Rattle.naga_typifier.specs.declared.resolution.TypeResolution.{TypeResolution}
use Rattle.naga_typing.specs.Expressions.{ExpressionFits, required_by_expression}
use Rattle.naga_typing.specs.Renamed.{HasRenamed, RenamesContext, TypeIsKept, TypesAreKept}
use Rattle.naga_typing.specs.RenamedRequirements.{NameIsRenamed, RenamesSignature, SlotNames, rename_slot}
use Rattle.naga_typing.specs.Requirements.{Fits, Signature}
use Rattle.naga_typing.specs.Statements.{BodyIsTyped, EntryFits, of_type, of_type_if, required_by, statements}
use Rattle.naga_typing.specs.declared.requirement.Requirement.{Requirement}
use Rattle.naga_typing.specs.declared.requirement.Source.TheVariants as source
use Rattle.naga_typing.proofs.FitsRenamedLemmas.{Fits-renamed}
use Rattle.naga_typing.proofs.RequiredNamesLemmas.{EntryNames, required_by_expression-names, statements-names}
use Rattle.naga_typing.proofs.RequiredRenamedLemmas.{rename_entry, required_by-renamed, required_by_expression-renamed, statements-renamed}

module _ (r : Renaming) (kept : ℕ → Bool) (ctx new : Context) (is : RenamesContext r kept ctx new) (all : TypesAreKept kept ctx)
    (signature signature' : Signature) (renamed : RenamesSignature r kept signature signature') (known after : ℕ → Option TypeResolution) where
  abbrev Named : Reference → Type 0
  Named = NameIsRenamed r kept signature signature' ctx new known after

  abbrev Before : Option Requirement → Type 0
  Before = Fits ctx known signature

  abbrev After : Option Requirement → Type 0
  After = Fits new after signature'

  slots-renamed : (slots : List (Option Requirement)) → AllByRecursion (SlotNames Named) slots → All Before slots → All After (map (rename_slot r) slots)
  slots-renamed [] names h = All-nil After
  slots-renamed (slot ∷ slots) names h =
      All-cons After (rename_slot r slot) (map (rename_slot r) slots)
      (Fits-renamed r kept ctx new is all signature signature' renamed known after slot names.0 (All-head Before slot slots h))
      (slots-renamed slots names.1 (All-tail Before slot slots h))

  pub ExpressionFits-renamed : (expression : Expression) → All Named (references_of_expression expression) → ExpressionFits Before expression → ExpressionFits After (rename_expression r expression)
  ExpressionFits-renamed expression names h =
      subst (All After) (sym (required_by_expression-renamed r expression))
      (slots-renamed (required_by_expression expression) (required_by_expression-names Named expression (recursion_from_All Named (references_of_expression expression) names)) h)

  entries-renamed : (entries : List (Node × Span)) → AllByRecursion (EntryNames Named) entries → All (EntryFits Before) entries → All (EntryFits After) (map (rename_entry r) entries)
  entries-renamed [] names h = All-nil (EntryFits After)
  entries-renamed (entry ∷ entries) names h =
      All-cons (EntryFits After) (rename_entry r entry) (map (rename_entry r) entries)
      (subst (All After) (sym (required_by-renamed r entry.0)) (slots-renamed (required_by entry.0) names.0 (All-head (EntryFits Before) entry entries h)))
      (entries-renamed entries names.1 (All-tail (EntryFits Before) entry entries h))

  pub BodyIsTyped-renamed : (tree : Tree) → All Named (references_of_tree tree) → BodyIsTyped ctx known signature tree → BodyIsTyped new after signature' (rename_tree r tree)
  BodyIsTyped-renamed tree names h =
      subst (All (EntryFits After)) (sym (statements-renamed r tree)) (entries-renamed (statements tree) (statements-names Named tree (recursion_from_All Named (references_of_tree tree) names)) h)

  -- an initial value that may be absent has the type declared
  pub initial-renamed : (ty : ℕ) → TypeIsKept kept ty → (init : Option ℕ) → IfSome init (HasRenamed r kept known after) → Before (of_type_if (source.Declared ty) init)
      → After (of_type_if (source.Declared (r.types ty)) (option_map r.expressions init))
  initial-renamed ty so None has h = tt
  initial-renamed ty so (Some init) has h =
      Fits-renamed r kept ctx new is all signature signature' renamed known after (of_type (source.Declared ty) init) (has, so) h
