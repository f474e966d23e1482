-- What holds of all values of a list with their positions.
use Rattle.std.proofs.Common.{◌≡◌, ℕ, ◌+◌, ◌<◌, ◌≤◌, List, [], ◌∷◌, ◌++◌, Some, sym, ap, subst, ◌∙◌, length, take, get_or, arith, zero-add}
use Rattle.std.specs.Prelude.{All, slice_get}
use Rattle.std.specs.List.{enumerate_from}
use Rattle.std.proofs.lemmas.List.{length-take-le, take_all, take_more}
use Rattle.std.proofs.lemmas.List.Elements.{All-push}
use Rattle.std.proofs.lemmas.List.FromFn.{get_or-enumerate_from, length-enumerate_from}
use Rattle.std.proofs.lemmas.Option.{get_or_from_slice_get, slice_get_within}
use Rattle.naga_arena.proofs.EnumerateFromLemmas.{enumerate_from-push}

module _ {X : Type 0} (P : ℕ × X → Type 0) (xs : List X) where
  pub All-enumerate_from_at : (i : ℕ) (x : X) → slice_get xs i ≡ Some x → All P (enumerate_from 0 xs) → P (i, x)
  All-enumerate_from_at i x found all =
      let within = slice_get_within xs i x found in
      let inside = subst (λ n. i < n) (sym (length-enumerate_from 0 xs)) within in
      let place = ap (λ n. (n, get_or xs i x)) (zero-add i) in
      let value = ap (λ y. (i, y)) (get_or_from_slice_get xs i x x found) in
      subst P (get_or-enumerate_from 0 xs i (i, x) within ∙ (place ∙ value)) (all i (i, x) inside)

  pub All-enumerate_from_more : (i : ℕ) (x : X) → i < length xs → x ≡ get_or xs i x → All P (enumerate_from 0 (take i xs)) → P (i, x) → All P (enumerate_from 0 (take (i + 1) xs))
  All-enumerate_from_more i x within is before here =
      let i_within : i ≤ length xs = omega arith in
      let place = ap (λ n. (n, get_or xs i x)) (zero-add (length (take i xs)) ∙ length-take-le i xs i_within) in
      let value = ap (λ y. (i, y)) (sym is) in
      let entry = ap (λ e. enumerate_from 0 (take i xs) ++ e ∷ []) (place ∙ value) in
      let more = ap (enumerate_from 0) (take_more xs i x within) ∙ (enumerate_from-push 0 (take i xs) (get_or xs i x) ∙ entry) in
      subst (All P) (sym more) (All-push P (enumerate_from 0 (take i xs)) (i, x) before here)

  pub All-enumerate_from_all : (i : ℕ) → length xs ≤ i → All P (enumerate_from 0 (take i xs)) → All P (enumerate_from 0 xs)
  All-enumerate_from_all i past before = rw (take_all i xs past) at before
