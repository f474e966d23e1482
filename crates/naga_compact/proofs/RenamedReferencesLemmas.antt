-- The handles of lists, renamed, refer to what the lists refer to, renamed.
use Rattle.std.proofs.Common.{◌≡◌, ◌∙◌, sym, ap, refl, ℕ, List, [], ◌∷◌, ◌++◌, map, Option, Some, None}
use Rattle.std.proofs.lemmas.List.{map-append}
use Rattle.std.specs.Option.{option_map}
use Rattle.std.specs.Prelude.{option_to_list}
use Rattle.naga_valid.specs.Reference.{operands, present}
use Rattle.naga_valid.specs.declared.reference.Reference.{Reference}
use Rattle.naga_valid.specs.declared.reference.Reference.TheVariants as reference
use Rattle.naga_compact.specs.Renaming.{Renaming, rename_reference}

pub operands-renamed : (r : Renaming) (handles : List ℕ) → operands (map r.expressions handles) ≡ map (rename_reference r) (operands handles)
operands-renamed r [] = refl
operands-renamed r (handle ∷ handles) = ap (λ rest. reference.Expression (r.expressions handle) ∷ rest) (operands-renamed r handles)

pub present-renamed : (r : Renaming) (handles : List (Option ℕ)) → present (map (option_map r.expressions) handles) ≡ map (rename_reference r) (present handles)
present-renamed r [] = refl
present-renamed r (None ∷ handles) = present-renamed r handles
present-renamed r (Some handle ∷ handles) = ap (λ rest. reference.Expression (r.expressions handle) ∷ rest) (present-renamed r handles)

pub optional-renamed : (r : Renaming) (to : ℕ → Reference) (f : ℕ → ℕ) → ((h : ℕ) → rename_reference r (to h) ≡ to (f h)) → (handle : Option ℕ) → option_to_list (option_map to (option_map f handle)) ≡ map (rename_reference r) (option_to_list (option_map to handle))
optional-renamed r to f is None = refl
optional-renamed r to f is (Some handle) = ap (λ n. n ∷ []) (sym (is handle))

-- two lists, one after the other
pub appended : (n : Reference → Reference) (xs ys : List Reference) {xs' ys' : List Reference} → xs' ≡ map n xs → ys' ≡ map n ys → (xs' ++ ys') ≡ map n (xs ++ ys)
appended n xs ys h k = (λ i. h i ++ k i) ∙ sym (map-append n xs ys)
