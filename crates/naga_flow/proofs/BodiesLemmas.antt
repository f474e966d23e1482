-- Going over a list of functions, and that a body with a fault does not pass.
use Rattle.std.proofs.Common.{◌≡◌, ◌∙◌, ◌<◌, ◌≤◌, ◌+◌, ℕ, zero, suc, false, true, List, [], ◌∷◌, ◌++◌, Err, Some, ap, arith, get_or, length, map, refl, subst, sym, take}
use Rattle.std.proofs.lemmas.List.{take_all, take_more}
use Rattle.std.proofs.lemmas.List.Elements.{All-push}
use Rattle.std.proofs.lemmas.Option.{get_or_from_slice_get, slice_get_within}
use Rattle.std.specs.Prelude.{◌≢◌, All, slice_get}
use Rattle.naga_ir.specs.View.{tree_of}
use Rattle.naga_ir.specs.declared.module.Function.{Function}
use Rattle.naga_flow.specs.Bodies.{BodyPasses, HasFault}
use Rattle.naga_flow.specs.Structured.{jumps_are_structured, of_function}
use Rattle.naga_flow.specs.Uses.{expressions_in}
use Rattle.naga_flow.specs.declared.bodies.InvalidBody.{InvalidBody}
use Rattle.naga_flow.specs.declared.bodies.InvalidBody.TheVariants as invalid
use Rattle.naga_flow.proofs.JumpsLemmas.{Walks-not_structured}
use Rattle.naga_flow.proofs.MisusesLemmas.{BlockMisuse-refused}

module _ {X : Type 0} (P : X → Type 0) (xs : List X) (i : ℕ) where
  -- one more element
  pub All-take_next : (x : X) → slice_get xs i ≡ Some x → All P (take i xs) → P x → All P (take (i + 1) xs)
  All-take_next x at before here =
      let one_more : take (i + 1) xs ≡ take i xs ++ x ∷ [] =
      take_more xs i x (slice_get_within xs i x at) ∙ ap (λ y. take i xs ++ y ∷ []) (get_or_from_slice_get xs i x x at) in
      subst (All P) (sym one_more) (All-push P (take i xs) x before here)

  pub All-take_all : length xs ≤ i → All P (take i xs) → All P xs
  All-take_all past before = subst (All P) (take_all i xs past) before

-- what is read from an element of a list
pub slice_get-map : {X Y : Type 0} (f : X → Y) (xs : List X) (i : ℕ) (x : X) → i < length xs → x ≡ get_or xs i x → slice_get (map f xs) i ≡ Some (f x)
slice_get-map f [] i x within is = absurd (omega (arith, within))
slice_get-map f (y ∷ ys) zero x within is = ap (λ z. Some (f z)) (sym is)
slice_get-map f (y ∷ ys) (suc i) x within is = slice_get-map f ys i x (omega (arith, within)) is

-- a body with a fault does not pass
pub HasFault-refused : (whole : Function) (fault : InvalidBody) → HasFault whole fault → fault ≢ invalid.Memory → ¬ BodyPasses whole
HasFault-refused whole invalid.Memory h other passes = other refl
HasFault-refused whole (invalid.Jump misplaced) h other passes =
    let not_structured : jumps_are_structured (tree_of whole.body) ≡ false =
    Walks-not_structured of_function of_function (tree_of whole.body) 0 (Err misplaced) refl h misplaced refl
    in
    let e : true ≡ false = sym passes.0 ∙ not_structured in cc
HasFault-refused whole (invalid.Use misuse) h other passes =
    BlockMisuse-refused (expressions_in whole.expressions) misuse 0 [] [] (tree_of whole.body) h.1 passes.1.0 passes.1.1
