-- Each text has a longest prefix that can be continued to a notation.
use Rattle.std.proofs.Common.{◌≡◌, ℕ, zero, suc, List, [], ◌≤◌, ◌<◌, length, take, refl, ◌∙◌, sym, subst, Option, Some, None, arith, leb, true, false, ◌⊎◌, inl, inr}
use Rattle.std.proofs.lemmas.Bool.Decides.{leb_tells}
use Rattle.naga_notation.proofs.BeginsLemmas.{Begins-read, read-Begins}
use Rattle.naga_notation.specs.Reading.{Reached, start, read}
use Rattle.naga_notation.specs.Refusal.{Begins, IsLongest}

-- the longest prefix of at most this length that can be continued to a notation
abbrev LongestTo : List ℕ → ℕ → Type 0
LongestTo text most = (len : ℕ) × (len ≤ most) × Begins (take len text) × ((k : ℕ) → k ≤ most → Begins (take k text) → k ≤ len)

LongestTo-by : (text : List ℕ) (most len k : ℕ) → read (take (suc most) text) ≡ None → ((k : ℕ) → k ≤ most → Begins (take k text) → k ≤ len) → k ≤ suc most → Begins (take k text) → ((leb k most ≡ true) × (k ≤ most)) ⊎ ((leb k most ≡ false) × (most < k)) → k ≤ len
LongestTo-by text most len k none longest within begins (inl before) = longest k before.1 begins
LongestTo-by text most len k none longest within begins (inr past) =
    let same : k ≡ suc most = omega (arith, within, past.1) in
    let front = read-Begins (take (suc most) text) (subst (λ n. Begins (take n text)) same begins) in
    let both : None ≡ Some front.0 = sym none ∙ front.1 in
    absurd cc

LongestTo-more : (text : List ℕ) (most : ℕ) (found : Option Reached) → read (take (suc most) text) ≡ found → LongestTo text most → LongestTo text (suc most)
LongestTo-more text most (Some r) e before = (suc most, omega arith, Begins-read (take (suc most) text) r e, λ k within _. within)
LongestTo-more text most None e (len, within, begins, longest) =
    (len, omega (arith, within), begins, λ k under begun. LongestTo-by text most len k e longest under begun (leb_tells k most))

LongestTo-some : (text : List ℕ) (most : ℕ) → LongestTo text most
LongestTo-some text zero = (0, omega arith, Begins-read [] start refl, λ k within _. within)
LongestTo-some text (suc most) = LongestTo-more text most (read (take (suc most) text)) refl (LongestTo-some text most)

-- each text has a longest prefix that can be continued to a notation
pub IsLongest-some : (text : List ℕ) → (len : ℕ) × IsLongest text len
IsLongest-some text =
    let found = LongestTo-some text (length text) in
    (found.0, record { within = found.1; begins = found.2; longest = found.3 })
