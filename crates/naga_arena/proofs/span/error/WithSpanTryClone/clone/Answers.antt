use Rattle.std.proofs.Common.{◌≡◌, ◌∙◌, List, [], ◌∷◌, String, string_bytes, refl, ap}
use Rattle.std.specs.List.{AllZip}
use Rattle.naga_arena.specs.WithSpan.{contexts}
use Rattle.naga_arena.specs.declared.span.Span.{Span}
use Rattle.naga_arena.proofs.span.error.WithSpanTryClone.clone.Goals as goal

-- clones of spans and texts have equal contexts
contexts-clones : {Z : Type 0} → (told clones : List (Span × String Z)) → AllZip (λ x y. (y.0 ≡ x.0) × (string_bytes y.1 ≡ string_bytes x.1)) told clones → contexts clones ≡ contexts told
contexts-clones [] [] same = refl
contexts-clones [] (y ∷ ys) same = absurd same
contexts-clones (x ∷ xs) [] same = absurd same
contexts-clones (x ∷ xs) (y ∷ ys) same = λ i. (same.0.0 i, same.0.1 i) ∷ contexts-clones xs ys same.1 i

pub invariant_of-result : goal.invariant_of-result
invariant_of-result g c =
    rw (contexts-clones c.self.inside.spans.items c.in_ok-spans.spans.items c.in_ok-spans.ensures.cases.0) c.self.invariant

pub returns : goal.returns
returns g c = (
  rw (← c.self.view_is) c.in_ok-inner.ensures,
  contexts-clones c.self.inside.spans.items c.in_ok-spans.spans.items c.in_ok-spans.ensures.cases.0 ∙ ap (λ e. e.spans) c.self.view_is,
)
