-- Handles of short lists that are within limits.
use Rattle.std.proofs.Common.{subst, ℕ, List, [], ◌∷◌, Option, Some, None}
use Rattle.std.specs.Prelude.{IfSome, option_to_list}
use Rattle.std.specs.Option.{ForSome, option_map}
use Rattle.std.proofs.lemmas.List.Elements.{All-head, All-tail}
use Rattle.naga_valid.specs.Limits.{AreWithin, IsWithin}
use Rattle.naga_valid.specs.declared.limits.Limits.{Limits}
use Rattle.naga_valid.specs.declared.reference.Reference.{Reference}

module _ (limits : Limits) where
  pub IsWithin-first : (first : Reference) (rest : List Reference) → AreWithin limits (first ∷ rest) → IsWithin limits first
  IsWithin-first first rest all = All-head (IsWithin limits) first rest all

  pub IsWithin-rest : (first : Reference) (rest : List Reference) → AreWithin limits (first ∷ rest) → AreWithin limits rest
  IsWithin-rest first rest all = All-tail (IsWithin limits) first rest all

  pub IsWithin-second : (first second : Reference) (rest : List Reference) → AreWithin limits (first ∷ second ∷ rest) → IsWithin limits second
  IsWithin-second first second rest all = IsWithin-first second rest (IsWithin-rest first (second ∷ rest) all)

  -- a handle that may be present
  pub IsWithin-optional : (kind : ℕ → Reference) (handle : Option ℕ) → AreWithin limits (option_to_list (option_map kind handle)) → IfSome handle (λ found. IsWithin limits (kind found))
  IsWithin-optional kind None all = tt
  IsWithin-optional kind (Some handle) all = IsWithin-first (kind handle) [] all

  pub IsWithin-found : (kind : ℕ → Reference) (handle : Option ℕ) → AreWithin limits (option_to_list (option_map kind handle)) → ForSome handle (λ found. IsWithin limits (kind found))
  IsWithin-found kind handle all = λ found is.
      IsWithin-first (kind found) [] (subst (λ o. AreWithin limits (option_to_list (option_map kind o))) is all)
