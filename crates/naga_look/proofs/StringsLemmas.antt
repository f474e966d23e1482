-- The bytes of the characters of a string that Graphviz reads as themselves.
use Rattle.std.proofs.Common.{◌≡◌, ◌≢◌, ◌<◌, ◌≤◌, ◌+◌, ◌/◌, ◌%◌, ◌∙◌, ℕ, Bool, true, false, ap, refl, subst, sym, List, [], ◌∷◌, ◌++◌, append_assoc, append-nil, arith, cond, eqb, length}
use Rattle.std.proofs.lemmas.Bool.{ne_eqb}
use Rattle.std.proofs.lemmas.Grind.{flat_map-append}
use Rattle.std.specs.Prelude.{Result, OnOk, codes}
use lib.Utf8.{encode}
use Rattle.naga_look.specs.Graph.Strings.{dot_byte, dot_escaped}

-- a byte that is not escaped
dot_byte-plain : (byte : ℕ) → byte ≢ 34 → byte ≢ 92 → byte ≢ 38 → dot_byte byte ≡ byte ∷ []
dot_byte-plain byte quote backslash ampersand =
    ap (λ is. cond is (codes "\\\"") (cond (eqb byte 92) (codes "\\\\") (cond (eqb byte 38) (codes "&amp;") (byte ∷ [])))) (ne_eqb byte 34 quote)
    ∙ ap (λ is. cond is (codes "\\\\") (cond (eqb byte 38) (codes "&amp;") (byte ∷ []))) (ne_eqb byte 92 backslash)
    ∙ ap (λ is. cond is (codes "&amp;") (byte ∷ [])) (ne_eqb byte 38 ampersand)

dot_byte-high : (byte : ℕ) → 128 ≤ byte → dot_byte byte ≡ byte ∷ []
dot_byte-high byte high =
    dot_byte-plain byte (λ is. omega (arith, is)) (λ is. omega (arith, is)) (λ is. omega (arith, is))

more : (byte : ℕ) (rest : List ℕ) → 128 ≤ byte → dot_escaped rest ≡ rest → dot_escaped (byte ∷ rest) ≡ byte ∷ rest
more byte rest high same =
    ap (λ xs. xs ++ dot_escaped rest) (dot_byte-high byte high) ∙ ap (λ xs. byte ∷ xs) same

-- a byte after the first one of a character
continuation : (bits : ℕ) (rest : List ℕ) → dot_escaped rest ≡ rest → dot_escaped ((128 + bits % 64) ∷ rest) ≡ (128 + bits % 64) ∷ rest
continuation bits rest same = more (128 + bits % 64) rest (omega arith) same

either : (is : Bool) (xs ys : List ℕ) → dot_escaped xs ≡ xs → dot_escaped ys ≡ ys → dot_escaped (cond is xs ys) ≡ cond is xs ys
either true xs ys first second = first
either false xs ys first second = second

-- a character that is not escaped
pub dot_escaped-encode : (character : ℕ) → character ≢ 34 → character ≢ 92 → character ≢ 38 → dot_escaped (encode character) ≡ encode character
unfolding encode
dot_escaped-encode c quote backslash ampersand =
    either _ _ _ (ap (λ xs. xs ++ []) (dot_byte-plain c quote backslash ampersand))
    (either _ _ _ (more (192 + c / 64) _ (omega arith) (continuation c [] refl))
    (either _ _ _ (more (224 + c / 4096) _ (omega arith) (continuation (c / 64) _ (continuation c [] refl)))
    (more (240 + c / 262144) _ (omega arith) (continuation (c / 4096) _ (continuation (c / 64) _ (continuation c [] refl))))))

-- the characters that are escaped
pub dot_escaped-quote : dot_escaped (encode 34) ≡ codes "\\\""
unfolding encode
dot_escaped-quote = refl

pub dot_escaped-backslash : dot_escaped (encode 92) ≡ codes "\\\\"
unfolding encode
dot_escaped-backslash = refl

pub dot_escaped-ampersand : dot_escaped (encode 38) ≡ codes "&amp;"
unfolding encode
dot_escaped-ampersand = refl

-- what was appended for a character
pub OnOk-character : {A E : Type 0} (r : Result A E) (character is : ℕ) (old new text : List ℕ) → character ≡ is → dot_escaped (encode is) ≡ text → OnOk r (new ≡ old ++ text) → OnOk r (new ≡ old ++ dot_escaped (encode character))
OnOk-character r character is old new text same shown appended =
    subst (λ xs. OnOk r (new ≡ old ++ xs)) (sym (ap (λ c. dot_escaped (encode c)) same ∙ shown)) appended

-- ---- the characters of a text, one after another

-- the string of a text whose first character has been written
pub dot_escaped-next : (character : ℕ) (rest ahead before after whole : List ℕ) → ahead ≡ encode character ++ rest → after ≡ before ++ dot_escaped (encode character) → before ++ dot_escaped ahead ≡ whole → after ++ dot_escaped rest ≡ whole
dot_escaped-next c rest ahead before after whole are one_more so =
    ap (λ text. text ++ dot_escaped rest) one_more
    ∙ append_assoc before (dot_escaped (encode c)) (dot_escaped rest)
    ∙ ap (λ xs. before ++ xs) (sym (flat_map-append dot_byte (encode c) rest))
    ∙ ap (λ xs. before ++ dot_escaped xs) (sym are)
    ∙ so

-- nothing is left to be written
pub dot_escaped-over : (ahead new whole : List ℕ) → length ahead ≡ 0 → new ++ dot_escaped ahead ≡ whole → new ≡ whole
dot_escaped-over [] new whole none so = sym (append-nil new) ∙ so
dot_escaped-over (byte ∷ rest) new whole none so = absurd (omega (arith, none))
