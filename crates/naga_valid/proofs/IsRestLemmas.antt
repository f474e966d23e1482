-- Walking a list from its front: what is left of it.
use Rattle.std.proofs.Common.{◌≡◌, sym, subst, refl, rules, arith, suc, List, [], ◌∷◌}
use Rattle.std.specs.Prelude.{All}
use Rattle.std.specs.List.{Contains}
use Rattle.std.proofs.lemmas.List.Elements.{All-cons, All-nil}

-- the elements before `rest` satisfy `P`
pub record IsRest {X : Type 0} (P : X → Type 0) (rest whole : List X) : Type 0 where
  pub all : All P rest → All P whole
  pub contained : (x : X) → Contains rest x → Contains whole x

module _ {X : Type 0} (P : X → Type 0) where
  pub IsRest-itself : (rest whole : List X) → rest ≡ whole → IsRest P rest whole
  IsRest-itself rest whole is = record { all = subst (All P) is; contained = λ x. subst (λ xs. Contains xs x) is }

  module _ (xs rest whole : List X) (x : X) (is : xs ≡ x ∷ rest) (so : IsRest P xs whole) where
    pub IsRest-next : P x → IsRest P rest whole
    IsRest-next here = record {
      all = λ later. so.all (subst (All P) (sym is) (All-cons P x rest here later));
      contained = λ y later. so.contained y (subst (λ ys. Contains ys y) (sym is) (suc later.0, omega (arith, later.1), later.2));
    }

    pub IsRest-first : Contains whole x
    IsRest-first = so.contained x (subst (λ ys. Contains ys x) (sym is) (0, search rules, refl))

  pub IsRest-end : (xs whole : List X) → xs ≡ [] → IsRest P xs whole → All P whole
  IsRest-end xs whole is so = so.all (subst (All P) (sym is) (All-nil P))
