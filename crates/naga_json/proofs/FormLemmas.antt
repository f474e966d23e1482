-- The laws of forms: floats, lists and arenas.
use Rattle.std.proofs.Common.{◌≡◌, ◌∙◌, ◌≤◌, ◌<◌, ◌+◌, ◌*◌, ◌==◌, ℕ, suc, ap, List, [], ◌∷◌, length, drop, codes, Bool, cond, not, T, IsTrue, Option, Some, None, option_map, All, refl, arith}
use Rattle.std.proofs.lemmas.List.Elements.{All-cons, All-head, All-tail}
use Rattle.std.specs.List.{AllZip}
use Rattle.json.specs.Tree.{ItemsHaveNumbers}
use Rattle.naga_arena.specs.Arena.{values}
use Rattle.naga_arena.specs.Limits.{max_len}
use Rattle.naga_arena.specs.declared.span.Span.{Span}
use Rattle.naga_json.specs.Arenas.{ArenaFits, unspanned, without_span}
use Rattle.naga_json.specs.Lists.{each_of, item_count, items_of}
use Rattle.naga_json.proofs.ArenasLemmas.{gives-arena, item_count-items_of, short_items}
use Rattle.naga_json.proofs.ListsLemmas.{gives-each_in}
use Rattle.std.specs.Float.{Float, Format, float_is_finite, nan, inf, fin}
use Rattle.std.specs.Float.Ieee.{fits, is_nan, to_bits, top}
use Rattle.std.specs.Float.Numeral.{has_digits, minus, scan_numeral}
use Rattle.std.specs.Float.Parse.{begins_with, parse_float, read_float, read_unsigned, read_word, sign_len}
use Rattle.std.specs.Option.{option_and_then}
use Rattle.std.specs.Prelude.{from_bits, slice_index}
use Rattle.json.proofs.Printed.Floats.{IsNumber-plain}
use Rattle.json.specs.Json.{Json, object, member, no_members}
use Rattle.json.specs.Find.{as_number}
use Rattle.naga_json.specs.Form.{Form, FormVariant, IsList, list_form, arena_form, Held, holds_form, holding_form, form_row, LawfulForm, IsFloat, float_form}
use Rattle.naga_json.specs.Lawful.{IsRead, Gives}
use Rattle.naga_json.specs.Numbers.{◌>>=◌, finite_bits, float_in}
use Rattle.naga_json.proofs.GivesLemmas.{Gives-cond, Gives-map, then, then_any}
use lib.Ieee.Bits.{to_bits-lt, to_bits-of_bits}
use lib.Ieee.Fits.{inf-fits, nan-fits, round-fits}

-- ---- floats

-- the format has the float
abbrev Holds : Format → Float → Type 0
Holds format number = T (fits format number)

Gives-read_word : (format : Format) (negative : Bool) (text : List ℕ) → Gives (λ read. Holds format read.0) (read_word negative text)
Gives-read_word format negative text =
    let P : Float × ℕ → Type 0 = λ read. Holds format read.0 in
    Gives-cond P (begins_with text (codes "infinity")) _ _ (record { holds = inf-fits format negative })
    (Gives-cond P (begins_with text (codes "inf")) _ _ (record { holds = inf-fits format negative })
    (Gives-cond P (begins_with text (codes "nan")) _ _ (record { holds = nan-fits format }) (record { holds = tt })))

Gives-read_unsigned : (format : Format) (negative : Bool) (text : List ℕ) → Gives (λ read. Holds format read.0) (read_unsigned format negative text)
Gives-read_unsigned format negative text =
    let P : Float × ℕ → Type 0 = λ read. Holds format read.0 in
    Gives-cond P (has_digits (scan_numeral text)) _ _ (record { holds = round-fits format negative _ _ }) (Gives-read_word format negative text)

Gives-read_float : (format : Format) (text : List ℕ) → Gives (λ read. Holds format read.0) (read_float format text)
unfolding read_float
Gives-read_float format text =
    let P : Float × ℕ → Type 0 = λ read. Holds format read.0 in
    Gives-map P P (λ (read : Float × ℕ). (read.0, sign_len text + read.1)) (λ read holds. holds)
    (read_unsigned format (slice_index text 0 == minus) (drop (sign_len text) text))
    (Gives-read_unsigned format (slice_index text 0 == minus) (drop (sign_len text) text))

-- the float of a text that has been read to its end
Gives-whole : (format : Format) (len : ℕ) (o : Option (Float × ℕ)) → Gives (λ read. Holds format read.0) o
    → Gives (Holds format) (option_and_then (λ read. cond (read.1 == len) (Some read.0) None) o)
Gives-whole format len None given = record { holds = tt }
Gives-whole format len (Some read) given = Gives-cond (Holds format) (read.1 == len) (Some read.0) None (record { holds = given.holds }) (record { holds = tt })

Gives-parse_float : (format : Format) (text : List ℕ) → Gives (Holds format) (parse_float format text)
Gives-parse_float format text = Gives-whole format (length text) (read_float format text) (Gives-read_float format text)

Gives-finite_bits : (format : Format) (number : Float) → Holds format number → Gives (λ bits. bits < 2 * top format) (finite_bits format number)
Gives-finite_bits format number holds =
    let P : ℕ → Type 0 = λ bits. bits < 2 * top format in
    Gives-cond P (float_is_finite number) (Some (to_bits format number)) None (record { holds = to_bits-lt format number holds }) (record { holds = tt })

Gives-float : (format : Format) (j : Json) → Gives (λ bits. bits < 2 * top format) (float_in format j)
Gives-float format j =
    then (Holds format) (λ bits. bits < 2 * top format) (as_number j >>= parse_float format) (finite_bits format)
    (then_any (Holds format) (as_number j) (parse_float format) (Gives-parse_float format)) (Gives-finite_bits format)

-- a finite float is not a NaN
not_nan : (x : Float) → IsTrue (float_is_finite x) → T (not (is_nan x))
unfolding float_is_finite is_nan
not_nan nan finite = cc
not_nan (inf s) finite = tt
not_nan (fin s m e) finite = tt

pub IsRead-float : (format : Format) (bits : ℕ) (j : Json) → bits < 2 * top format → IsFloat format bits j → IsRead (float_in format) bits j
IsRead-float format bits j small (text, is, plain, finite, parses) =
    let back = to_bits-of_bits format bits small (not_nan (from_bits format bits) finite) in
    record { reads = rw (is, parses, finite, back) refl; numbers = rw is (IsNumber-plain text plain); present = rw is refl }

pub lawful-float : (format : Format) → LawfulForm (float_form format)
lawful-float format = record { reads = IsRead-float format; gives = Gives-float format }

-- ---- lists

module _ {A : Type 0} (form : Form A) (law : LawfulForm form) where
  each_of-items_of : (list : List A) (js : List Json) → All form.Fits list → AllZip form.Writes list js → each_of form.decode (items_of js) ≡ Some list
  each_of-items_of [] [] fit are = refl
  each_of-items_of [] (j ∷ js) fit are = elim are [ ]
  each_of-items_of (a ∷ list) [] fit are = elim are [ ]
  each_of-items_of (a ∷ list) (j ∷ js) fit (is, are) =
      rw ((law.reads a j (All-head form.Fits a list fit) is).reads, each_of-items_of list js (All-tail form.Fits a list fit) are) refl

  ItemsHaveNumbers-items_of : (list : List A) (js : List Json) → All form.Fits list → AllZip form.Writes list js → ItemsHaveNumbers (items_of js)
  ItemsHaveNumbers-items_of [] [] fit are = tt
  ItemsHaveNumbers-items_of [] (j ∷ js) fit are = elim are [ ]
  ItemsHaveNumbers-items_of (a ∷ list) [] fit are = elim are [ ]
  ItemsHaveNumbers-items_of (a ∷ list) (j ∷ js) fit (is, are) =
      ((law.reads a j (All-head form.Fits a list fit) is).numbers, ItemsHaveNumbers-items_of list js (All-tail form.Fits a list fit) are)

  length-AllZip : (list : List A) (js : List Json) → AllZip form.Writes list js → length js ≡ length list
  length-AllZip [] [] are = refl
  length-AllZip [] (j ∷ js) are = elim are [ ]
  length-AllZip (a ∷ list) [] are = elim are [ ]
  length-AllZip (a ∷ list) (j ∷ js) (is, are) = ap suc (length-AllZip list js are)

  IsRead-list : (list : List A) (j : Json) → All form.Fits list → IsList form.Writes list j → IsRead (list_form form).decode list j
  IsRead-list list j fit (js, are, is) = rw is (record { reads = each_of-items_of list js fit are; numbers = ItemsHaveNumbers-items_of list js fit are; present = refl })

  pub lawful-list_form : LawfulForm (list_form form)
  lawful-list_form = record { reads = IsRead-list; gives = gives-each_in form.Fits form.decode law.gives }

-- ---- arenas

module _ {A : Type 0} (form : Form A) (law : LawfulForm form) where
  each_of-values : (arena : List (A × Span)) (js : List Json) → All form.Fits (values arena) → AllZip form.Writes (values arena) js
      → each_of (without_span form.decode) (items_of js) ≡ Some (unspanned arena)
  each_of-values [] [] fit are = refl
  each_of-values [] (j ∷ js) fit are = elim are [ ]
  each_of-values (entry ∷ arena) [] fit are = elim are [ ]
  each_of-values (entry ∷ arena) (j ∷ js) fit (is, are) =
      rw ((law.reads entry.0 j (All-head form.Fits entry.0 (values arena) fit) is).reads, each_of-values arena js (All-tail form.Fits entry.0 (values arena) fit) are) refl

  All-values : (arena : List (A × Span)) → All (λ (entry : A × Span). form.Fits entry.0) arena → All form.Fits (values arena)
  All-values [] each = λ k d within. absurd (omega arith)
  All-values (entry ∷ arena) each =
      All-cons form.Fits entry.0 (values arena) (All-head (λ (e : A × Span). form.Fits e.0) entry arena each) (All-values arena (All-tail (λ (e : A × Span). form.Fits e.0) entry arena each))

  length-values : (arena : List (A × Span)) → length (values arena) ≡ length arena
  length-values [] = refl
  length-values (entry ∷ arena) = ap suc (length-values arena)

  IsRead-arena : (arena : List (A × Span)) (j : Json) → ArenaFits form.Fits arena → IsList form.Writes (values arena) j → IsRead (arena_form form).decode arena j
  IsRead-arena arena j fits (js, are, is) =
      let fit = All-values arena fits.each in
      let short : item_count (items_of js) ≤ max_len = omega (arith, fits.size, item_count-items_of js, length-AllZip form law (values arena) js are, length-values arena) in
      rw is (record {
        reads = rw (short_items (items_of js) short, each_of-values arena js fit are) (ap Some fits.spans);
        numbers = ItemsHaveNumbers-items_of form law (values arena) js fit are;
        present = refl;
      })

  pub lawful-arena_form : LawfulForm (arena_form form)
  lawful-arena_form = record { reads = IsRead-arena; gives = gives-arena form.Fits form.decode law.gives }

-- ---- variants

-- the value that a variant is
abbrev pub value_held : {V : Type 0} (variant : FormVariant V) → Held variant → V
value_held (holds_form name form make) value = make value

-- Each JSON that is written for what a variant holds is read as it, and what is read fits.
pub record LawfulFormVariant {V : Type 0} (variant : FormVariant V) : Type 1 where
  pub reads : (value : Held variant) (j : Json) → (holding_form variant value).fits → (holding_form variant value).Writes j → (whole : Json → Option V)
      → ((held : Json) → whole (object (member (form_row variant held).0 held no_members)) ≡ (form_row variant held).1)
      → IsRead whole (value_held variant value) j
  pub gives : (P : V → Type 0) → ((value : Held variant) → (holding_form variant value).fits → P (value_held variant value)) → (held : Json) → Gives P (form_row variant held).1

pub lawful-holds_form : {A V : Type 0} (name : List ℕ) (form : Form A) (make : A → V) → LawfulForm form → LawfulFormVariant (holds_form name form make)
lawful-holds_form name form make law = record {
  reads = λ value j fits (held, writes, is) whole rows.
      let read = law.reads value held fits writes in
      rw is (record { reads = rows held ∙ ap (option_map make) read.reads; numbers = (read.numbers, tt); present = refl });
  gives = λ P implies held. Gives-map form.Fits P make implies (form.decode held) (law.gives held);
}
