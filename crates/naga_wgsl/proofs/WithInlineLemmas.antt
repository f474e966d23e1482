-- What a text computes, and which names it has.
use Rattle.std.proofs.Common.{◌≡◌, ◌∙◌, refl, ℕ, Bool, false, List, []}
use Rattle.std.specs.Prelude.{All}
use Rattle.naga_arena.specs.Arena.{value_at}
use Rattle.naga_arena.specs.declared.span.Span.{Span}
use Rattle.naga_ir.specs.Tree.{Tree}
use Rattle.naga_ir.specs.declared.expression.Expression.{Expression}
use Rattle.naga_valid.specs.declared.reference.Reference.{Reference}
use Rattle.naga_flow.specs.Uses.{UsesKnown, expressions_in, operands_found}
use Rattle.naga_compact.specs.Operands.{OperandsPrecede}
use Rattle.naga_meaning.specs.Functions.{Meanings, code_of, parts}
use Rattle.naga_meaning.specs.InScope.{EvaluatesNew}
use Rattle.naga_wgsl.specs.Inlining.{MayInline, named_in, skipping, with_inline}
use Rattle.naga_meaning.specs.Values.{World, outcome}
use Rattle.naga_meaning.proofs.EachLemmas.{operands-before}
use Rattle.naga_wgsl.proofs.MayInlineLemmas.{outcome-inlined}
use Rattle.naga_wgsl.proofs.NamedInLemmas.{uses-named}
use Rattle.naga_wgsl.proofs.NamedInLemmas as scopes
use Rattle.naga_meaning.proofs.ReadsOperandsLemmas.{ReadsOperands}
use Rattle.naga_wgsl.proofs.SkippingLemmas.{outcome-skipped}

module _ {Thing Value State : Type 0} (look : Reference → Thing) (by : Meanings Thing Value State) (at_use inline : ℕ → Bool) (arena : List (Expression × Span))
    (precede : OperandsPrecede arena) (reads : ℕ → List ℕ) (read : ReadsOperands (code_of look at_use arena) (record (expressions_in arena) { reads = reads }))
    (may : MayInline by (expressions_in arena) inline (code_of look at_use arena)) where
  abbrev written : ℕ → Bool
  written = with_inline at_use inline

  pub outcome-written : (body : Tree) → EvaluatesNew body → UsesKnown (record (expressions_in arena) { reads = reads }) [] body → (turns : ℕ) (a b : World Value State) → b.state ≡ a.state →
      outcome (skipping written (parts look)) by (code_of look written arena) turns body b ≡ outcome (parts look) by (code_of look at_use arena) turns body a
  outcome-written body fresh uses turns a b same =
      outcome-skipped (parts look) by (code_of look written arena) (λ x is. operands-before arena precede x) written (λ x is. is) turns body b b (refl, λ x is. refl)
      ∙ outcome-inlined look by at_use inline arena precede reads read may body fresh uses turns a b same

  pub names-known : (body : Tree) → UsesKnown (record (expressions_in arena) { reads = reads }) [] body → UsesKnown (named_in written arena) [] body
  names-known body uses = uses-named (code_of look at_use arena) (record (expressions_in arena) { reads = reads }) inline may.emitted (λ x. operands-before arena precede x) (λ x. refl) read body uses

pub names-bound : (written : ℕ → Bool) (arena : List (Expression × Span)) → OperandsPrecede arena → (x : ℕ) → All (λ y. written y ≡ false) ((named_in written arena).reads x)
names-bound written arena precede x = scopes.named-bound written (λ y. operands_found (value_at arena y)) (λ y. operands-before arena precede y) x
