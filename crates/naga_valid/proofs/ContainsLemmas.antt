-- The elements of mapped lists.
use Rattle.std.proofs.Common.{◌∙◌, ap, sym, subst, List, map, ◌<◌}
use Rattle.std.specs.List.{Contains}
use Rattle.std.proofs.lemmas.List.{get_or-map, length-map}

pub Contains-map : {X Y : Type 0} (f : X → Y) (xs : List X) (x : X) → Contains xs x → Contains (map f xs) (f x)
Contains-map f xs x inside = (
  inside.0,
  subst (λ n. inside.0 < n) (sym (length-map xs f)) inside.1,
  get_or-map f xs inside.0 x (f x) inside.1 ∙ ap f inside.2,
)
