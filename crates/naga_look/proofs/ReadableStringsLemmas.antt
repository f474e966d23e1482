-- A string that shows a plain text is plain.
use Rattle.std.proofs.Common.{◌≡◌, ◌∙◌, ap, refl, subst, sym, ℕ, Bool, true, false, List, [], ◌∷◌, ◌++◌, ⊎_elim}
use Rattle.std.specs.Prelude.{codes, encode_utf8, encode_utf8_all, flat_map}
use Rattle.std.specs.List.{list_all}
use Rattle.std.proofs.lemmas.Bool.{and_parts}
use Rattle.std.proofs.lemmas.Bool.Decides.{eqb_tells}
use Rattle.std.proofs.lemmas.Grind.{flat_map-append}
use Rattle.naga_text.specs.Escapes.{is_plain}
use Rattle.naga_text.specs.Readable.{IsPlain}
use Rattle.naga_text.proofs.SpellsLemmas.{Spells-append, Spells-ascii, Spells-character, Spells-nil}
use Rattle.naga_look.specs.Graph.Strings.{dot_byte, dot_escaped, label_attribute}
use Rattle.naga_look.proofs.StringsLemmas.{dot_escaped-ampersand, dot_escaped-backslash, dot_escaped-encode, dot_escaped-quote}

character-shown : (c is : ℕ) (text : List ℕ) → c ≡ is → dot_escaped (encode_utf8 is) ≡ text → IsPlain text → IsPlain (dot_escaped (encode_utf8 c))
character-shown c is text same written plain = subst IsPlain (sym (ap (λ n. dot_escaped (encode_utf8 n)) same ∙ written)) plain

dot_escaped-character : (c : ℕ) → is_plain c ≡ true → IsPlain (dot_escaped (encode_utf8 c))
dot_escaped-character c passes =
    ⊎_elim (λ quote. character-shown c 34 _ quote.1 dot_escaped-quote (Spells-ascii (codes "\\\"") refl))
    (λ no_quote. ⊎_elim (λ backslash. character-shown c 92 _ backslash.1 dot_escaped-backslash (Spells-ascii (codes "\\\\") refl))
    (λ no_backslash. ⊎_elim (λ ampersand. character-shown c 38 _ ampersand.1 dot_escaped-ampersand (Spells-ascii (codes "&amp;") refl))
    (λ no_ampersand. character-shown c c _ refl (dot_escaped-encode c no_quote.1 no_backslash.1 no_ampersand.1) (Spells-character c passes))
    (eqb_tells c 38)) (eqb_tells c 92)) (eqb_tells c 34)

dot_escaped-characters : (cs : List ℕ) → list_all is_plain cs ≡ true → IsPlain (dot_escaped (encode_utf8_all cs))
dot_escaped-characters [] pass = Spells-nil
dot_escaped-characters (c ∷ cs) pass =
    let parts = and_parts (is_plain c) (list_all is_plain cs) pass in
    subst IsPlain (sym (flat_map-append dot_byte (encode_utf8 c) (encode_utf8_all cs)))
    (Spells-append (dot_escaped-character c parts.0) (dot_escaped-characters cs parts.1))

-- escaping a plain text keeps it plain
pub dot_escaped-plain : {shown : List ℕ} → IsPlain shown → IsPlain (dot_escaped shown)
dot_escaped-plain plain = subst (λ text. IsPlain (dot_escaped text)) plain.encoded (dot_escaped-characters plain.characters plain.pass)

pub label_attribute-plain : {shown : List ℕ} → IsPlain shown → IsPlain (label_attribute shown)
label_attribute-plain plain = Spells-append (Spells-ascii (codes "label=\"") refl) (Spells-append (dot_escaped-plain plain) (Spells-ascii (codes "\"") refl))
