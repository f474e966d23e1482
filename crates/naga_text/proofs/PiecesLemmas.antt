-- Pieces that are appended to a text one after another.
use Rattle.std.proofs.Common.{◌≡◌, ◌∙◌, ◌<◌, ◌≤◌, ◌+◌, ℕ, List, [], ◌∷◌, ◌++◌, add-one, ap, sym, subst, drop, length, get_or, append_assoc, append-nil}
use Rattle.std.proofs.Math.Seq.{drop-cons}
use Rattle.std.proofs.lemmas.List.{drop_all}
use Rattle.std.specs.Prelude.{Result, Ok, Err, OnOk, flat_map}
use Rattle.std.specs.List.{enumerate_from}

regroup : (old a b c : List ℕ) → (old ++ (a ++ b)) ++ c ≡ old ++ (a ++ (b ++ c))
regroup old a b c = simp append_assoc

-- two pieces, and then a third
pub OnOk-pieces : {A E : Type 0} (r : Result A E) (old before new a b c : List ℕ) → before ≡ old ++ (a ++ b) → OnOk r (new ≡ before ++ c) → OnOk r (new ≡ old ++ (a ++ (b ++ c)))
OnOk-pieces (Ok x) old before new a b c first second = second ∙ ap (λ text. text ++ c) first ∙ regroup old a b c
OnOk-pieces (Err e) old before new a b c first second = tt

-- a piece before what is appended to it
pub OnOk-after : {A E : Type 0} (r : Result A E) (old before new a b : List ℕ) → before ≡ old ++ a → OnOk r (new ≡ before ++ b) → OnOk r (new ≡ old ++ (a ++ b))
OnOk-after (Ok x) old before new a b first second = second ∙ ap (λ text. text ++ b) first ∙ append_assoc old a b
OnOk-after (Err e) old before new a b first second = tt

-- what was appended is the text of a value if it is that of its variant
pub OnOk-variant : {A E X : Type 0} (f : X → List ℕ) (r : Result A E) (old new : List ℕ) (x variant : X) → x ≡ variant → OnOk r (new ≡ old ++ f variant) → OnOk r (new ≡ old ++ f x)
OnOk-variant f r old new x variant is h = subst (λ y. OnOk r (new ≡ old ++ f y)) (sym is) h

-- ---- pieces of a list

-- the texts of a list whose first element has been written
pub flat_map-next : {X : Type 0} (f : X → List ℕ) (x : X) (rest ahead : List X) (before after whole : List ℕ) → ahead ≡ x ∷ rest → after ≡ before ++ f x → before ++ flat_map f ahead ≡ whole → after ++ flat_map f rest ≡ whole
flat_map-next f x rest ahead before after whole are one_more so =
    ap (λ text. text ++ flat_map f rest) one_more
    ∙ append_assoc before (f x) (flat_map f rest)
    ∙ ap (λ xs. before ++ flat_map f xs) (sym are)
    ∙ so

-- nothing is left to be written
pub flat_map-over : {X : Type 0} (f : X → List ℕ) (ahead : List X) (new whole : List ℕ) → ahead ≡ [] → new ++ flat_map f ahead ≡ whole → new ≡ whole
flat_map-over f ahead new whole none so =
    sym (append-nil new) ∙ ap (λ xs. new ++ flat_map f xs) (sym none) ∙ so

-- ---- pieces of a list with positions

enumerate_from-next : {X : Type 0} (xs : List X) (i : ℕ) (x : X) → i < length xs → x ≡ get_or xs i x → enumerate_from i (drop i xs) ≡ (i, x) ∷ enumerate_from (i + 1) (drop (i + 1) xs)
enumerate_from-next xs i x within is =
    ap (enumerate_from i) (drop-cons xs i x within ∙ ap (λ n. get_or xs i x ∷ drop n xs) (sym (add-one i)) ∙ ap (λ y. y ∷ drop (i + 1) xs) (sym is))

-- the texts of the elements from a position on, of which the first one has been written
pub entries-next : {X : Type 0} (f : ℕ × X → List ℕ) (xs : List X) (i : ℕ) (x : X) (before after whole : List ℕ) → i < length xs → x ≡ get_or xs i x → after ≡ before ++ f (i, x) → before ++ flat_map f (enumerate_from i (drop i xs)) ≡ whole → after ++ flat_map f (enumerate_from (i + 1) (drop (i + 1) xs)) ≡ whole
entries-next f xs i x before after whole within is one_more so =
    flat_map-next f (i, x) (enumerate_from (i + 1) (drop (i + 1) xs)) (enumerate_from i (drop i xs)) before after whole (enumerate_from-next xs i x within is) one_more so

-- no element is left to be written
pub entries-over : {X : Type 0} (f : ℕ × X → List ℕ) (xs : List X) (i : ℕ) (new whole : List ℕ) → length xs ≤ i → new ++ flat_map f (enumerate_from i (drop i xs)) ≡ whole → new ≡ whole
entries-over f xs i new whole past so =
    sym (append-nil new) ∙ ap (λ ys. new ++ flat_map f (enumerate_from i ys)) (sym (drop_all i xs past)) ∙ so
