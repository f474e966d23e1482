-- The functions that lack an `Emit`, and their lines: lemmas on specs/Emits.antt.
use Rattle.std.proofs.Common.{◌≡◌, ◌∙◌, ◌≤◌, inr, refl, sym, ap, subst, ℕ, suc, List, [], ◌++◌, true, length, append_assoc, arith}
use Rattle.std.proofs.lemmas.Bool.{cond_both}
use Rattle.std.proofs.lemmas.Bool.Decides.{nat_tests}
use Rattle.std.proofs.lemmas.List.{length-map}
use Rattle.std.proofs.lemmas.Option.{slice_get_past}
use Rattle.std.specs.FinSet.{contains}
use Rattle.std.specs.Prelude.{◌↔◌, IsTrue, OnOk, Result, Ok, Err, None, false, codes, nat_lt, option_and_then}
use Rattle.naga_arena.specs.Arena.{value_at, values}
use Rattle.naga_arena.specs.declared.span.Span.{Span}
use Rattle.naga_flow.specs.Misuses.{BlockMisuse, IfMisuse}
use Rattle.naga_flow.specs.Readings.{chosen_base, constant_base_of, emitted_in, expressions_by, reaches_ready}
use Rattle.naga_flow.specs.Places.{ready_in}
use Rattle.naga_flow.specs.Scopes.{BlockPasses}
use Rattle.naga_flow.specs.declared.invalid_use.InvalidUse.{InvalidUse}
use Rattle.naga_flow.specs.declared.invalid_use.InvalidUse.TheVariants as invalid
use Rattle.naga_flow.specs.declared.invalid_use.Misuse.{Misuse}
use Rattle.naga_ir.specs.View.{tree_of}
use Rattle.naga_ir.specs.declared.expression.Expression.{Expression}
use Rattle.naga_ir.specs.declared.module.Function.{Function}
use Rattle.naga_sets.specs.HandleSet.{BoundedSet, all_below, none_below, numbers_below}
use Rattle.naga_sets.proofs.NumbersBelowLemmas.{contains-numbers_below}
use Rattle.naga_text.specs.Readable.{IsLine, IsPlain}
use Rattle.naga_text.proofs.SpellsLemmas.{Spells-after}
use Rattle.naga_typing.specs.Joined.{Adds}
use Rattle.naga_look.specs.Emits.{EmitsAccesses, LacksEmit}
use Rattle.naga_look.specs.Report.{Headed, IsEmitLine, emit_text}

-- ---- what is chosen

-- an expression that is not in the arena has no base, so it does not matter whether it is chosen
chosen_base-within : (arena : List (Expression × Span)) (handle : ℕ)
    → chosen_base (λ h. nat_lt h (length arena)) arena handle ≡ chosen_base (λ h. true) arena handle
chosen_base-within arena handle =
    cond_both (nat_lt handle (length arena)) (option_and_then constant_base_of (value_at arena handle)) None
    (λ base. base ≡ option_and_then constant_base_of (value_at arena handle)) (λ e. refl)
    (λ e. (
    let past : length arena ≤ handle = grind (arith, nat_tests, e) in
    let missing : value_at arena handle ≡ None = slice_get_past (values arena) handle (omega (arith, length-map arena (λ p. p.0), past)) in
    ap (option_and_then constant_base_of) (sym missing)
    ))

-- all expressions of an arena are chosen exactly if all numbers are
pub emitted_in-all : (arena : List (Expression × Span)) → emitted_in (contains (numbers_below (length arena))) arena ≡ emitted_in (λ h. true) arena
emitted_in-all arena =
    let base : chosen_base (contains (numbers_below (length arena))) arena ≡ chosen_base (λ h. true) arena =
    (λ i handle. ((λ j. chosen_base (λ h. contains-numbers_below (length arena) h j) arena handle) ∙ chosen_base-within arena handle) i) in
    λ i. expressions_by (λ handle. reaches_ready (λ x. ready_in (value_at arena x)) (base i) (suc handle) handle) arena

-- a set of all expressions of the function was chosen
module _ (whole : Function) (none chosen : BoundedSet) (cleared : none ≡ none_below (length whole.expressions)) (filled : chosen ≡ all_below none.bound) where
  same : emitted_in (contains chosen.members) whole.expressions ≡ emitted_in (λ h. true) whole.expressions
  same = ap (λ (s : BoundedSet). emitted_in (contains s.members) whole.expressions) (filled ∙ ap (λ (s : BoundedSet). all_below s.bound) cleared)
      ∙ emitted_in-all whole.expressions

  pub EmitsAccesses-passes : BlockPasses (emitted_in (contains chosen.members) whole.expressions) [] [] (tree_of whole.body)
      → IsTrue true ↔ EmitsAccesses whole
  EmitsAccesses-passes passes = (λ t. subst (λ e. BlockPasses e [] [] (tree_of whole.body)) same passes, λ emits. refl)

  pub EmitsAccesses-fails : (error : InvalidUse) (misuse : Misuse) → error ≡ invalid.Misuse misuse
      → IfMisuse error (λ misuse. BlockMisuse (emitted_in (contains chosen.members) whole.expressions) 0 [] [] (tree_of whole.body) misuse
      × ¬ BlockPasses (emitted_in (contains chosen.members) whole.expressions) [] [] (tree_of whole.body))
      → IsTrue false ↔ EmitsAccesses whole
  EmitsAccesses-fails error misuse is found =
      let expressions = emitted_in (contains chosen.members) whole.expressions in
      let body = tree_of whole.body in
      let fails = subst (λ e. IfMisuse e (λ misuse. BlockMisuse expressions 0 [] [] body misuse × ¬ BlockPasses expressions [] [] body)) is found in (
        λ t. cc,
        λ emits. absurd (fails.1 (subst (λ e. BlockPasses e [] [] body) (sym same) emits)),
      )

-- ---- the line of a function

-- the line that names it, if it lacks one
pub AddsEmitLine-pushed : {T E : Type 0} (r : Result T E) (headed : Headed) (old new : List ℕ)
    → IsPlain headed.head → LacksEmit headed.whole → OnOk r (new ≡ old ++ emit_text headed.head) → OnOk r (Adds IsEmitLine headed old new)
AddsEmitLine-pushed (Err error) headed old new plain lacks pushed = tt
AddsEmitLine-pushed (Ok value) headed old new plain lacks pushed =
    let first = codes "an access without its own Emit: " in
    let line : IsLine (emit_text headed.head) = (first ++ headed.head, Spells-after first refl plain, sym (append_assoc first headed.head (codes "\n"))) in
    (emit_text headed.head, inr (lacks, line, refl), pushed)
