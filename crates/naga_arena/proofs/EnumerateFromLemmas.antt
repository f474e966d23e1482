-- Elements with their handles, as the iterators over an arena yield them.
use Rattle.std.proofs.Common.{◌≡◌, ℕ, zero, suc, ◌+◌, ◌<◌, ◌≤◌, List, [], ◌∷◌, ◌++◌, drop, get_or, length, length-append, ap, arith, add-zero}
use Rattle.std.specs.List.{All, enumerate_from, zip}
use Rattle.std.proofs.lemmas.List.FromFn.{length-enumerate_from}
use Rattle.std.proofs.lemmas.List.{get_or-drop, length-drop}
use Rattle.naga_arena.proofs.ZipLemmas.{length-zip_drop, length-zip_longer, zip-push_longer}

pub enumerate_from-push : {X : Type 0} (first : ℕ) (xs : List X) (x : X) → enumerate_from first (xs ++ x ∷ []) ≡ enumerate_from first xs ++ (first + length xs, x) ∷ []
enumerate_from-push first [] x = rw add-zero
enumerate_from-push first (y ∷ ys) x =
    let shift : first + 1 + length ys ≡ first + suc (length ys) = omega arith in
    rw (enumerate_from-push (first + 1) ys x, shift)

-- the remaining entries are those before the last one, followed by the last one
pub enumerate_from-last : {A B : Type 0} (first : ℕ) (ks ls : List A) (vs : List B) (k : A) (d : B) → first + length ks ≤ length vs → ks ≡ ls ++ k ∷ [] → enumerate_from first (zip ks (drop first vs)) ≡ enumerate_from first (zip ls (drop first vs)) ++ (first + length ls, (k, get_or vs (first + length ls) d)) ∷ []
enumerate_from-last first ks ls vs k d enough last =
    let fewer : length ls < length (drop first vs) = omega (arith, length-drop first vs, length-append ls (k ∷ []), ap length last) in
    let left : length (zip ls (drop first vs)) ≡ length ls = length-zip_longer ls (drop first vs) (omega (arith, fewer)) in
    let pushed = enumerate_from-push first (zip ls (drop first vs)) (k, get_or vs (first + length ls) d) in
    rw (last, zip-push_longer ls (drop first vs) k d fewer, get_or-drop first vs (length ls) d) (rw left at pushed)

-- each handle is below the sum of the first handle and the length
All-enumerate_from : {X : Type 0} (first : ℕ) (xs : List X) → All (λ entry. entry.0 < first + length xs) (enumerate_from first xs)
All-enumerate_from first [] i d h = absurd (omega arith)
All-enumerate_from first (x ∷ xs) zero d h = omega arith
All-enumerate_from first (x ∷ xs) (suc i) d h =
    let later = All-enumerate_from (first + 1) xs i d (omega arith) in
    omega (arith, later)

-- therefore, if the handles start at 0, each is below the length
pub All-enumerate_from_zero : {X : Type 0} (len : ℕ) (xs : List X) (entries : List (ℕ × X)) → entries ≡ enumerate_from 0 xs → length xs ≡ len → All (λ entry. entry.0 < len) entries
All-enumerate_from_zero len xs entries e same =
    let from_zero : 0 + length xs ≡ len = omega (arith, same) in
    rw e (rw from_zero at (All-enumerate_from 0 xs))

pub ruleset enumerated = (length-enumerate_from, enumerate_from-push, All-enumerate_from_zero)

pub ruleset drained = (length-enumerate_from, length-zip_drop)
