-- What a list contains of which some elements are mapped, and the others are left out.
use Rattle.std.proofs.Common.{◌≡◌, ◌∙◌, sym, ap, subst, refl, zero, suc, List, [], ◌∷◌, Option, Some, None, arith}
use Rattle.std.specs.List.{Contains, cons_option, filter_map}

module _ {X Y : Type 0} (g : X → Option Y) where
  Contains-later : (first : Option Y) (rest : List Y) (y : Y) → Contains rest y → Contains (cons_option first rest) y
  Contains-later None rest y inside = inside
  Contains-later (Some x) rest y (k, inside, is) = (suc k, omega arith, is)

  pub Contains-filter_map : (xs : List X) (x : X) (y : Y) → Contains xs x → g x ≡ Some y → Contains (filter_map g xs) y
  Contains-filter_map [] x y (k, inside, is) some = absurd (omega arith)
  Contains-filter_map (z ∷ xs) x y (zero, inside, is) some =
      subst (λ o. Contains (cons_option o (filter_map g xs)) y) (sym (ap g is ∙ some)) (zero, omega arith, refl)
  Contains-filter_map (z ∷ xs) x y (suc k, inside, is) some =
      Contains-later (g z) (filter_map g xs) y (Contains-filter_map xs x y (k, omega arith, is) some)
