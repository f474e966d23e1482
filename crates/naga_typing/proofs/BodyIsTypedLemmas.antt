-- Culling and closing keep that a body uses its values at their types.
use Rattle.std.proofs.Common.{◌≡◌, ◌∷◌, ℕ, Bool, true, false, [], ◌++◌, Option, Some, None, if◌then◌else◌, refl, ap, subst, sym}
use Rattle.std.specs.Prelude.{All}
use Rattle.std.proofs.lemmas.List.Elements.{All-append, All-cons, All-nil}
use Rattle.naga_arena.specs.declared.span.Span.{Span}
use Rattle.naga_arena.specs.Span.{undefined}
use Rattle.naga_ir.specs.Tree.{Tree, empty, push, Node, plain, nested, branch, switch, loop, jump, return, Cases, no_cases, case}
use Rattle.naga_runs.specs.Diverges.{diverges}
use Rattle.naga_compact.specs.Culling.{culled, culled_cases, culled_node}
use Rattle.naga_proc.specs.Closing.{closed, closed_cases, closed_inside, follows, returned_if}
use Rattle.naga_proc.specs.declared.terminator.rule.Rule.{Rule}
use Rattle.naga_flow.proofs.AllLemmas.{All-both}
use Rattle.naga_typifier.specs.Context.{Context}
use Rattle.naga_typifier.specs.declared.resolution.TypeResolution.{TypeResolution}
use Rattle.naga_typing.specs.Requirements.{Fits, Signature}
use Rattle.naga_typing.specs.Statements.{BodyIsTyped, EntryFits, integer, of_cases, selects, statements, statements_inside, statements_of_cases}
use Rattle.naga_typing.specs.declared.requirement.Requirement.{Requirement}
use Rattle.naga_typing.specs.declared.requirement.Requirement.TheVariants as requirement
use Rattle.naga_typing.proofs.StatementsLemmas.{each-before, each-here, each-inside, each-pushed}

culled_cases-values : (selector : ℕ) (cases : Cases) → of_cases selector (culled_cases cases) ≡ of_cases selector cases
culled_cases-values selector no_cases = refl
culled_cases-values selector (case value body falls_through others) = ap (λ rest. selects selector value ∷ rest) (culled_cases-values selector others)

closed_cases-values : (rule : Rule) (selector : ℕ) (cases : Cases) → of_cases selector (closed_cases rule cases) ≡ of_cases selector cases
closed_cases-values rule selector no_cases = refl
closed_cases-values rule selector (case value body true others) = ap (λ rest. selects selector value ∷ rest) (closed_cases-values rule selector others)
closed_cases-values rule selector (case value body false others) = ap (λ rest. selects selector value ∷ rest) (closed_cases-values rule selector others)

module _ (fits : Option Requirement → Type 0) where
  abbrev P : Node × Span → Type 0
  P = EntryFits fits

  abbrev Each : Tree → Type 0
  Each tree = All P (statements tree)

  reached : (stops : Bool) (front : Tree) (last : Node) (span : Span) → Each front → P (last, span) → All P (statements_inside last) → Each (if stops then front else push front last span)
  reached true front last span before at inside = before
  reached false front last span before at inside = each-pushed P front last span before at inside

  both : (first second : Tree) → Each first → Each second → All P (statements first ++ statements second)
  both first second h k = All-append P (statements first) (statements second) h k

  either : (first second : Tree) → All P (statements first ++ statements second) → Each first × Each second
  either first second h = All-both P (statements first) (statements second) h

  culled-here : (at : Node) (span : Span) → P (at, span) → P (culled_node at, span)
  culled-here (plain what) span h = h
  culled-here (nested inner) span h = h
  culled-here (branch condition accept reject) span h = h
  culled-here (switch selector cases) span h = subst (λ values. All fits (integer selector ∷ values)) (sym (culled_cases-values selector cases)) h
  culled-here (loop body continuing break_if) span h = h
  culled-here (jump to) span h = h

  mutual
    pub each-culled : (tree : Tree) → Each tree → Each (culled tree)
    each-culled empty h = h
    each-culled (push front last span) h =
        reached (diverges (culled front)) (culled front) (culled_node last) span (each-culled front (each-before P front last span h))
        (culled-here last span (each-here P front last span h)) (inside-culled last (each-inside P front last span h))

    inside-culled : (at : Node) → All P (statements_inside at) → All P (statements_inside (culled_node at))
    inside-culled (plain what) h = h
    inside-culled (nested inner) h = each-culled inner h
    inside-culled (branch condition accept reject) h =
        let parts = either accept reject h in both (culled accept) (culled reject) (each-culled accept parts.0) (each-culled reject parts.1)
    inside-culled (switch selector cases) h = cases-culled cases h
    inside-culled (loop body continuing break_if) h =
        let parts = either body continuing h in both (culled body) (culled continuing) (each-culled body parts.0) (each-culled continuing parts.1)
    inside-culled (jump to) h = h

    cases-culled : (cases : Cases) → All P (statements_of_cases cases) → All P (statements_of_cases (culled_cases cases))
    cases-culled no_cases h = h
    cases-culled (case value body falls_through others) h =
        let parts = All-both P (statements body) (statements_of_cases others) h in
        All-append P (statements (culled body)) (statements_of_cases (culled_cases others)) (each-culled body parts.0) (cases-culled others parts.1)

  closed-here : (rule : Rule) (at : Node) (span : Span) → P (at, span) → P (closed_inside rule at, span)
  closed-here rule (plain what) span h = h
  closed-here rule (nested inner) span h = h
  closed-here rule (branch condition accept reject) span h = h
  closed-here rule (switch selector cases) span h = subst (λ values. All fits (integer selector ∷ values)) (sym (closed_cases-values rule selector cases)) h
  closed-here rule (loop body continuing break_if) span h = h
  closed-here rule (jump to) span h = h

  module _ (nothing : fits (Some requirement.NoResult)) where
    returned-each : (gets : Bool) (block : Tree) → Each block → Each (returned_if gets block)
    returned-each true block h = each-pushed P block (jump (return None)) undefined h (All-cons fits (Some requirement.NoResult) [] nothing (All-nil fits)) (All-nil P)
    returned-each false block h = h

    mutual
      pub each-closed : (rule : Rule) (tree : Tree) → Each tree → Each (closed rule tree)
      each-closed rule empty h = returned-each true empty (All-nil P)
      each-closed rule (push front last span) h =
          returned-each (follows rule last) (push front (closed_inside rule last) span) (each-pushed P front (closed_inside rule last) span (each-before P front last span h)
          (closed-here rule last span (each-here P front last span h)) (inside-closed rule last (each-inside P front last span h)))

      inside-closed : (rule : Rule) (at : Node) → All P (statements_inside at) → All P (statements_inside (closed_inside rule at))
      inside-closed rule (plain what) h = h
      inside-closed rule (nested inner) h = each-closed rule inner h
      inside-closed rule (branch condition accept reject) h =
          let parts = either accept reject h in both (closed rule accept) (closed rule reject) (each-closed rule accept parts.0) (each-closed rule reject parts.1)
      inside-closed rule (switch selector cases) h = cases-closed rule cases h
      inside-closed rule (loop body continuing break_if) h = h
      inside-closed rule (jump to) h = h

      cases-closed : (rule : Rule) (cases : Cases) → All P (statements_of_cases cases) → All P (statements_of_cases (closed_cases rule cases))
      cases-closed rule no_cases h = h
      cases-closed rule (case value body true others) h =
          let parts = All-both P (statements body) (statements_of_cases others) h in
          All-append P (statements body) (statements_of_cases (closed_cases rule others)) parts.0 (cases-closed rule others parts.1)
      cases-closed rule (case value body false others) h =
          let parts = All-both P (statements body) (statements_of_cases others) h in
          All-append P (statements (closed rule body)) (statements_of_cases (closed_cases rule others)) (each-closed rule body parts.0) (cases-closed rule others parts.1)

module _ (ctx : Context) (known : ℕ → Option TypeResolution) (signature : Signature) where
  pub BodyIsTyped-culled : (tree : Tree) → BodyIsTyped ctx known signature tree → BodyIsTyped ctx known signature (culled tree)
  BodyIsTyped-culled tree typed = each-culled (Fits ctx known signature) tree typed

  pub BodyIsTyped-closed : signature.result ≡ None → (rule : Rule) (tree : Tree) → BodyIsTyped ctx known signature tree → BodyIsTyped ctx known signature (closed rule tree)
  BodyIsTyped-closed nothing rule tree typed = each-closed (Fits ctx known signature) nothing rule tree typed
