-- The texts that can be continued to a notation.
use Rattle.std.proofs.Common.{◌≡◌, ℕ, List, [], ◌∷◌, ◌++◌, ◌+◌, ◌≤◌, ◌<◌, length, take, drop, get_or, refl, ap, ◌∙◌, sym, subst, append_assoc, append-nil, Option, Some, None, arith, leb, true, false, ◌⊎◌, inl, inr}
use Rattle.std.proofs.lemmas.Bool.Decides.{leb_tells}
use Rattle.std.proofs.lemmas.List.{take_more, take_all, take-append-drop, take-take}
use Rattle.naga_ir.specs.Tree.{Tree}
use Rattle.naga_notation.proofs.IsSketchLemmas.{read_from-some, IsSketch-read}
use Rattle.naga_notation.proofs.ReadFromLemmas.{read_from-append, read-notation}
use Rattle.naga_notation.proofs.SketchLemmas.{drawn_state, Notation-ending}
use Rattle.naga_notation.specs.Outline.{Notation}
use Rattle.naga_notation.specs.Reading.{Reached, at_statement, start, read_byte, read_from, read}
use Rattle.naga_notation.specs.Reading.Unfinished.{ending}
use Rattle.naga_notation.specs.Refusal.{Begins}

-- a text that can be read to its end can be continued to a notation
pub Begins-read : (text : List ℕ) (r : Reached) → read text ≡ Some r → Begins text
Begins-read text r e =
    let known = IsSketch-read text r e in
    let ended = Notation-ending known.sketch in
    subst Begins known.leads (ending (drawn_state known.sketch), ended.0, ended.1)

-- a text that can be continued to a notation can be read to its end
pub read-Begins : (text : List ℕ) → Begins text → (r : Reached) × (read text ≡ Some r)
read-Begins text (rest, block, is) =
    read_from-some (read text) rest (at_statement [] block) (sym (read_from-append (Some start) text rest) ∙ read-notation (text ++ rest) block is)

Begins-front : (xs ys : List ℕ) → Begins (xs ++ ys) → Begins xs
Begins-front xs ys (rest, block, is) = (ys ++ rest, block, subst (λ t. Notation t block) (append_assoc xs ys rest) is)

Begins-shorter : (text : List ℕ) (i k : ℕ) → i ≤ k → Begins (take k text) → Begins (take i text)
Begins-shorter text i k h begins =
    let split : take k text ≡ take i text ++ drop i (take k text) =
    sym (take-append-drop i (take k text)) ∙ ap (λ t. t ++ drop i (take k text)) (take-take i k text h) in
    Begins-front (take i text) (drop i (take k text)) (subst Begins split begins)

Begins-stuck_by : (text : List ℕ) (i k : ℕ) → read (take (i + 1) text) ≡ None → Begins (take k text) → ((leb k i ≡ true) × (k ≤ i)) ⊎ ((leb k i ≡ false) × (i < k)) → k ≤ i
Begins-stuck_by text i k none begins (inl within) = within.1
Begins-stuck_by text i k none begins (inr past) =
    let front = read-Begins (take (i + 1) text) (Begins-shorter text (i + 1) k (omega (arith, past.1)) begins) in
    let both : None ≡ Some front.0 = sym none ∙ front.1 in
    absurd cc

-- if the byte at `i` may not follow, a prefix that can be continued to a notation has at most `i` bytes
pub Begins-stuck : (text : List ℕ) (i k : ℕ) → read (take (i + 1) text) ≡ None → Begins (take k text) → k ≤ i
Begins-stuck text i k none begins = Begins-stuck_by text i k none begins (leb_tells k i)

pub read_from-nil : (reached : Option Reached) → read_from reached [] ≡ reached
read_from-nil None = refl
read_from-nil (Some r) = refl

-- reading one more byte
pub read-more : (text : List ℕ) (i : ℕ) (r : Reached) → i < length text → read (take i text) ≡ Some r → read (take (i + 1) text) ≡ read_byte r (get_or text i 0)
read-more text i r within e =
    ap read (take_more text i 0 within)
    ∙ read_from-append (Some start) (take i text) (get_or text i 0 ∷ [])
    ∙ ap (λ reached. read_from reached (get_or text i 0 ∷ [])) e
    ∙ read_from-nil (read_byte r (get_or text i 0))

Notation-nil : (text : List ℕ) (block : Tree) → Notation text block → Notation (text ++ []) block
Notation-nil text block is = subst (λ t. Notation t block) (sym (append-nil text)) is

pub Begins-whole : (text : List ℕ) (block : Tree) → Notation text block → Begins (take (length text) text)
Begins-whole text block is = subst Begins (sym (take_all (length text) text (omega arith))) ([], block, Notation-nil text block is)

-- the prefix that has been read is the whole text
pub read-all : (text : List ℕ) (at : ℕ) (r : Reached) → length text ≤ at → read (take at text) ≡ Some r → read text ≡ Some r
read-all text at r h e = ap read (sym (take_all at text h)) ∙ e
