-- A test that some of the texts pass, to which references lead.
use Rattle.std.proofs.Common.{◌≡◌, ℕ, zero, suc, ◌<◌, ◌≤◌, List, [], ◌∷◌, Bool, true, false, ◌||◌, get_or, length, map, take, refl, ap, sym, ◌∙◌, arith}
use Rattle.std.specs.List.{list_any}
use Rattle.std.specs.Borrow.{Bor}
use Rattle.std.proofs.lemmas.List.{take_all}

or-true : (a : Bool) → true ≡ (a || true)
or-true true = refl
or-true false = refl

pub any-found : (p : List ℕ → Bool) (words : List (Bor (List ℕ))) (i : ℕ) (d : Bor (List ℕ)) → i < length words
    → p (get_or words i d).now ≡ true → true ≡ list_any p (map (λ word. word.now) words)
any-found p [] i d within found = absurd (omega arith)
any-found p (word ∷ words) zero d within found =
    ap (λ (b : Bool). b || list_any p (map (λ word. word.now) words)) (sym found)
any-found p (word ∷ words) (suc i) d within found =
    or-true (p word.now) ∙ ap (λ (b : Bool). p word.now || b) (any-found p words i d (omega arith) found)

over-refs : (p : List ℕ → Bool) (words : List (Bor (List ℕ))) → list_any (λ word. p word.now) words ≡ list_any p (map (λ word. word.now) words)
over-refs p [] = refl
over-refs p (word ∷ words) = ap (λ (b : Bool). p word.now || b) (over-refs p words)

pub any-none : (p : List ℕ → Bool) (words : List (Bor (List ℕ))) (i : ℕ) → length words ≤ i
    → list_any (λ word. p word.now) (take i words) ≡ false → false ≡ list_any p (map (λ word. word.now) words)
any-none p words i past none =
    sym none ∙ ap (list_any (λ (word : Bor (List ℕ)). p word.now)) (take_all i words past) ∙ over-refs p words
