-- What its pieces spell, a text spells.
use Rattle.std.proofs.Common.{◌≡◌, ◌∙◌, ap, subst, refl, ℕ, List, [], ◌∷◌, ◌++◌, true, append-nil}
use Rattle.std.specs.Prelude.{◌==◌, ◌||◌, ◌&&◌, Bool, encode_utf8, flat_map}
use Rattle.std.specs.Char.{is_ascii}
use Rattle.std.specs.List.{list_all}
use Rattle.std.proofs.lemmas.Bool.{and_from, and_parts, ltb-true, or_right}
use Rattle.std.proofs.lemmas.List.Folds.{list_all-append}
use Rattle.std.proofs.lemmas.Str.{encode_ascii, encodes-append}
use Rattle.naga_text.specs.Escapes.{is_plain}
use Rattle.naga_text.specs.Readable.{IsPlain, IsReadable, Spells}

-- a text of ASCII characters that pass a test: of a text that is written out, `refl` shows it
abbrev pub IsAsciiPassing : (ℕ → Bool) → List ℕ → Type 0
IsAsciiPassing test text = list_all (λ c. is_ascii c && test c) text ≡ true

module _ {test : ℕ → Bool} where
  pub Spells-nil : Spells test []
  Spells-nil = record { characters = []; encoded = refl; pass = refl }

  -- two texts, one after the other
  pub Spells-append : {a b : List ℕ} → Spells test a → Spells test b → Spells test (a ++ b)
  Spells-append p q = record {
    characters = p.characters ++ q.characters;
    encoded = encodes-append p.characters q.characters ∙ (λ i. p.encoded i ++ q.encoded i);
    pass = list_all-append test p.characters q.characters ∙ and_from _ _ p.pass q.pass;
  }

  -- the texts of the elements of a list
  pub Spells-flat_map : {X : Type 0} (f : X → List ℕ) (xs : List X) → ((x : X) → Spells test (f x)) → Spells test (flat_map f xs)
  Spells-flat_map f [] each = Spells-nil
  Spells-flat_map f (x ∷ xs) each = Spells-append (each x) (Spells-flat_map f xs each)

  -- a character that passes
  pub Spells-character : (c : ℕ) → test c ≡ true → Spells test (encode_utf8 c)
  Spells-character c passes = record {
    characters = c ∷ [];
    encoded = append-nil (encode_utf8 c);
    pass = and_from (test c) true passes refl;
  }

  pub Spells-ascii : (text : List ℕ) → IsAsciiPassing test text → Spells test text
  Spells-ascii [] pass = Spells-nil
  Spells-ascii (c ∷ cs) pass =
      let parts = and_parts (is_ascii c && test c) (list_all (λ c. is_ascii c && test c) cs) pass in
      let one = and_parts (is_ascii c) (test c) parts.0 in
      let same = encode_ascii c (ltb-true c 128 one.0) in
      subst (Spells test) (ap (λ first. first ++ cs) same) (Spells-append (Spells-character c one.1) (Spells-ascii cs parts.1))

  -- a text behind one that is written out
  pub Spells-after : (head : List ℕ) → IsAsciiPassing test head → {rest : List ℕ} → Spells test rest → Spells test (head ++ rest)
  Spells-after head pass rest = Spells-append (Spells-ascii head pass) rest

readable-plain : (cs : List ℕ) → list_all is_plain cs ≡ true → list_all (λ c. (c == 10) || is_plain c) cs ≡ true
readable-plain [] pass = refl
readable-plain (c ∷ cs) pass =
    let parts = and_parts (is_plain c) (list_all is_plain cs) pass in
    and_from _ _ (or_right (c == 10) (is_plain c) parts.0) (readable-plain cs parts.1)

-- a text without newlines
pub IsReadable-plain : {text : List ℕ} → IsPlain text → IsReadable text
IsReadable-plain p = record { characters = p.characters; encoded = p.encoded; pass = readable-plain p.characters p.pass }
