-- What is written out is an access chain or inline.
use Rattle.std.proofs.Common.{◌≡◌, ◌∙◌, sym, refl, inl, inr, ℕ, Bool, true, false, List}
use Rattle.std.specs.FinSet.{contains}
use Rattle.std.specs.Prelude.{◌||◌, ◌&&◌, not}
use Rattle.naga_arena.specs.Arena.{value_at}
use Rattle.naga_arena.specs.declared.span.Span.{Span}
use Rattle.naga_ir.specs.declared.expression.Expression.{Expression}
use Rattle.naga_ir.specs.declared.module.Function.{Function}
use Rattle.naga_sets.specs.HandleSet.{BoundedSet}
use Rattle.naga_meaning.specs.Readings.{chains_in}
use Rattle.naga_wgsl.specs.Inlining.{with_inline}
use Rattle.naga_wgsl.specs.Pure.{may_be_inline}
use Rattle.naga_wgsl.specs.WrittenOut.{AreWrittenOut, IsWrittenOut}

-- what is written out and no chain
abbrev pub inline_part : List (Expression × Span) → (written : ℕ → Bool) → ℕ → Bool
inline_part arena written x = written x && not (chains_in arena x)

module _ (function : Function) (written : BoundedSet) (are : AreWrittenOut function written) where
  pub part-chosen : (x : ℕ) → inline_part function.expressions (contains written.members) x ≡ true → may_be_inline (value_at function.expressions x) ≡ true
  part-chosen x h = go (contains written.members x) refl (chains_in function.expressions x) refl h
    where
      by : IsWrittenOut function (contains written.members) x → chains_in function.expressions x ≡ false → may_be_inline (value_at function.expressions x) ≡ true
      by (inl chain) not_chain = absurd (let e : true ≡ false = sym chain ∙ not_chain in cc)
      by (inr inline) not_chain = inline.may

      go : (w : Bool) → contains written.members x ≡ w → (c : Bool) → chains_in function.expressions x ≡ c → (w && not c) ≡ true → may_be_inline (value_at function.expressions x) ≡ true
      go true is false not_chain so = by ((are.each x).0 is) not_chain
      go true is true not_chain so = absurd (let e : false ≡ true = so in cc)
      go false is c not_chain so = absurd (let e : false ≡ true = so in cc)

  pub with_inline-part : with_inline (chains_in function.expressions) (inline_part function.expressions (contains written.members)) ≡ contains written.members
  with_inline-part = λ i x. each x i
    where
      split : (c w : Bool) → (c ≡ true → w ≡ true) → (c || (w && not c)) ≡ w
      split true w h = sym (h refl)
      split false true h = refl
      split false false h = refl

      each : (x : ℕ) → (chains_in function.expressions x || (contains written.members x && not (chains_in function.expressions x))) ≡ contains written.members x
      each x = split (chains_in function.expressions x) (contains written.members x) (λ chain. (are.each x).1 (inl chain))
