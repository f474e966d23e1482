-- Words and names contain only characters that show themselves.
use Rattle.std.proofs.Common.{refl, ℕ, List, Bool, true, false}
use Rattle.std.specs.Prelude.{codes, Option, Some, None}
use Rattle.std.specs.Option.{option_map}
use Rattle.naga_text.specs.Readable.{IsPlain}
use Rattle.naga_text.specs.Words.{flag, name_text, number, optional_name, optional_number, quoted, word}
use Rattle.naga_text.proofs.ReadableEscapesLemmas.{decimal-plain, escaped-plain}
use Rattle.naga_text.proofs.SpellsLemmas.{Spells-append, Spells-ascii, Spells-nil}

pub word-plain : {name : List ℕ} → IsPlain name → IsPlain (word name)
word-plain name = Spells-append (Spells-ascii (codes " ") refl) name

pub flag-plain : (is : Bool) {name : List ℕ} → IsPlain name → IsPlain (flag is name)
flag-plain true name = word-plain name
flag-plain false name = Spells-nil

pub number-plain : (n : ℕ) → IsPlain (number n)
number-plain n = word-plain (decimal-plain n)

pub optional_number-plain : (n : Option ℕ) → IsPlain (optional_number n)
optional_number-plain (Some n) = number-plain n
optional_number-plain None = Spells-nil

pub optional_name-plain : {X : Type 0} {what : List ℕ} → IsPlain what → (name_of : X → List ℕ) → ((x : X) → IsPlain (name_of x)) → (of : Option X) → IsPlain (optional_name what (option_map name_of of))
optional_name-plain what name_of each (Some x) = Spells-append (word-plain what) (word-plain (each x))
optional_name-plain what name_of each None = Spells-nil

pub quoted-plain : (name : List ℕ) → IsPlain (quoted name)
quoted-plain name = Spells-append (Spells-ascii (codes " \"") refl) (Spells-append (escaped-plain name) (Spells-ascii (codes "\"") refl))

pub name_text-plain : (name : Option (List ℕ)) → IsPlain (name_text name)
name_text-plain (Some name) = quoted-plain name
name_text-plain None = Spells-nil
