-- Lists whose elements are related one by one.
use Rattle.std.proofs.Common.{◌≡◌, subst, ℕ, zero, suc, List, [], ◌∷◌, length, get_or, arith, sym}
use Rattle.std.specs.List.{All, AllZip}
use Rattle.std.proofs.lemmas.List.Elements.{AllZip-get_or, length_all_zip}
use Rattle.naga_compact.proofs.AllZipLemmas.{ReplacedTo}

module _ {X : Type 0} (R : X → X → Type 0) where
  -- a relation that follows from another one
  pub AllZip-weaker : (S : X → X → Type 0) → ((x y : X) → R x y → S x y) → (xs ys : List X) → AllZip R xs ys → AllZip S xs ys
  AllZip-weaker S weaker [] [] zip = tt
  AllZip-weaker S weaker [] (y ∷ ys) zip = absurd zip
  AllZip-weaker S weaker (x ∷ xs) [] zip = absurd zip
  AllZip-weaker S weaker (x ∷ xs) (y ∷ ys) zip = (weaker x y zip.0, AllZip-weaker S weaker xs ys zip.1)

  -- one relation after another
  pub AllZip-then : (S T : X → X → Type 0) → ((x y z : X) → R x y → S y z → T x z) → (xs ys zs : List X) → AllZip R xs ys → AllZip S ys zs → AllZip T xs zs
  AllZip-then S T then [] [] [] first second = tt
  AllZip-then S T then [] [] (z ∷ zs) first second = absurd second
  AllZip-then S T then [] (y ∷ ys) zs first second = absurd first
  AllZip-then S T then (x ∷ xs) [] zs first second = absurd first
  AllZip-then S T then (x ∷ xs) (y ∷ ys) [] first second = absurd second
  AllZip-then S T then (x ∷ xs) (y ∷ ys) (z ∷ zs) first second =
      (then x y z first.0 second.0, AllZip-then S T then xs ys zs first.1 second.1)

  -- two lists that are related to a third one
  pub AllZip-parted : (S T : X → X → Type 0) → ((x y z : X) → R x y → S x z → T y z) → (xs ys zs : List X) → AllZip R xs ys → AllZip S xs zs → AllZip T ys zs
  AllZip-parted S T parted [] [] [] one other = tt
  AllZip-parted S T parted [] [] (z ∷ zs) one other = absurd other
  AllZip-parted S T parted [] (y ∷ ys) zs one other = absurd one
  AllZip-parted S T parted (x ∷ xs) [] zs one other = absurd one
  AllZip-parted S T parted (x ∷ xs) (y ∷ ys) [] one other = absurd other
  AllZip-parted S T parted (x ∷ xs) (y ∷ ys) (z ∷ zs) one other =
      (parted x y z one.0 other.0, AllZip-parted S T parted xs ys zs one.1 other.1)

  pub AllZip-itself : ((x : X) → R x x) → (xs : List X) → AllZip R xs xs
  AllZip-itself itself [] = tt
  AllZip-itself itself (x ∷ xs) = (itself x, AllZip-itself itself xs)

  -- what follows for each second element
  pub AllZip-All : (P : X → Type 0) → ((x y : X) → R x y → P y) → (xs ys : List X) → AllZip R xs ys → All P ys
  AllZip-All P follows xs ys zip k d within =
      let long : length xs ≡ length ys = length_all_zip R xs ys zip in
      follows (get_or xs k d) (get_or ys k d) (AllZip-get_or R xs ys k d d zip (omega arith))

  -- the elements from the index on are related to themselves
  pub ReplacedTo-rest : ((x : X) → R x x) → (k : ℕ) (old now : List X) → ReplacedTo R k old now → AllZip R old now
  ReplacedTo-rest itself zero old now so = subst (AllZip R old) (sym so) (AllZip-itself itself old)
  ReplacedTo-rest itself (suc k) [] now so = subst (AllZip R []) (sym so) tt
  ReplacedTo-rest itself (suc k) (x ∷ xs) [] so = absurd so
  ReplacedTo-rest itself (suc k) (x ∷ xs) (y ∷ ys) so = (so.0, ReplacedTo-rest itself k xs ys so.1)

  pub ReplacedTo-weaker : (S : X → X → Type 0) → ((x y : X) → R x y → S x y) → (k : ℕ) (old now : List X) → ReplacedTo R k old now → ReplacedTo S k old now
  ReplacedTo-weaker S weaker zero old now so = so
  ReplacedTo-weaker S weaker (suc k) [] now so = so
  ReplacedTo-weaker S weaker (suc k) (x ∷ xs) [] so = absurd so
  ReplacedTo-weaker S weaker (suc k) (x ∷ xs) (y ∷ ys) so = (weaker x y so.0, ReplacedTo-weaker S weaker k xs ys so.1)
