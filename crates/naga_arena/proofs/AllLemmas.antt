-- A property of all values before a position.
use Rattle.std.proofs.Common.{◌≡◌, ℕ, ◌+◌, ◌<◌, ◌≤◌, List, length, get_or, take, subst}
use Rattle.std.specs.Prelude.{All}
use Rattle.std.proofs.lemmas.List.{take_more, take_all}
use Rattle.std.proofs.lemmas.List.Elements.{All-push}

module _ {T : Type 0} (P : T → Type 0) (xs : List T) where
  pub All-take_more : (i : ℕ) (x : T) → i < length xs → x ≡ get_or xs i x → All P (take i xs) → P x → All P (take (i + 1) xs)
  All-take_more i x within is before here =
      rw (take_more xs i x within) (All-push P (take i xs) (get_or xs i x) before (subst P is here))

  pub All-take_all : (i : ℕ) → length xs ≤ i → All P (take i xs) → All P xs
  All-take_all i past before = rw (take_all i xs past) at before
