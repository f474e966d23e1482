-- A value that an arena does not have keeps its values distinct, and one that it has repeats a value.
use Rattle.std.proofs.Common.{◌≡◌, ◌≢◌, ◌∙◌, sym, ap, refl, subst, ℕ, ◌+◌, ◌<◌, ◌≤◌, Bool, true, false, List, [], ◌∷◌, ◌++◌, length, get_or, map, position, Option, Some, None, Result, Ok, Err, is_some, IfNone, arith, length-append, append_assoc, take}
use Rattle.std.specs.Prelude.{AllPairs}
use Rattle.std.specs.List.{position_or_len}
use Rattle.std.specs.Bool.{Decides}
use Rattle.std.specs.Result.{IsErrAnd}
use Rattle.std.proofs.lemmas.Bool.{false≢true}
use Rattle.std.proofs.lemmas.Bool.Decides.{nat_tests}
use Rattle.std.proofs.lemmas.List.{get_or-map, get_or_append_left, length-map, map-append, take_at}
use Rattle.std.proofs.lemmas.List.Quantifiers.{all_pairs_push, position-Some}
use Rattle.std.proofs.lemmas.List.Sums.{fails_before_first}
use Rattle.std.proofs.Math.Seq.{get_or-append_seam}
use Rattle.naga_arena.specs.Arena.{handle_of, values}
use Rattle.naga_arena.specs.declared.span.Span.{Span}
use Rattle.naga_ir.specs.Types.{Inner}
use Rattle.naga_json.specs.Numbers.{◌>>=◌}
use Rattle.naga_ir.specs.declared.types.«Type».{«Type» as NamedType}
use Rattle.naga_json_types.specs.Arenas.{AreDistinct, ReadsTypes, RefusesTypes}
use Rattle.naga_json_values.specs.declared.cause.Cause.{Cause}
use Rattle.naga_json_values.specs.declared.cause.Cause.TheVariants as cause
use Rattle.naga_json.specs.Arenas.{arena_value}

position-past : {T : Type 0} (test : T → Bool) (xs : List T) → position test xs ≡ None → length xs ≤ position_or_len test xs
position-past test xs none = grind (arith, nat_tests)

values-arena_value : {T A : Type 0} (view : T → A) (arena : List (T × Span)) → values (arena_value view arena) ≡ map view (values arena)
values-arena_value view [] = refl
values-arena_value view (entry ∷ rest) = ap (λ more. view entry.0 ∷ more) (values-arena_value view rest)

values-append : {A : Type 0} (xs ys : List (A × Span)) → values (xs ++ ys) ≡ values xs ++ values ys
values-append [] ys = refl
values-append (x ∷ xs) ys = ap (λ more. x.0 ∷ more) (values-append xs ys)

module _ {T A : Type 0} (eq : T → T → Bool) (view : T → A) (decides : (a b : T) → Decides (eq a b) (view a ≡ view b)) where
  not-same : (a b : T) → eq a b ≡ false → view b ≢ view a
  not-same a b e same = false≢true (sym e ∙ (decides a b).1 (sym same))

  push : (xs : List T) (y : T) → position (eq y) xs ≡ None → AllPairs (λ a b. a ≢ b) (map view xs) → AllPairs (λ a b. a ≢ b) (map view xs ++ view y ∷ [])
  push xs y none distinct =
      all_pairs_push (λ a b. a ≢ b) (map view xs) (view y) distinct (
      λ k d h.
      let within : k < length xs = omega (arith, length-map xs view, h) in
      let past = position-past (eq y) xs none in
      let other : eq y (get_or xs k y) ≡ false = fails_before_first (eq y) xs k y (omega (arith, past, within)) in
      subst (λ a. a ≢ view y) (sym (get_or-map view xs k y d within)) (not-same y (get_or xs k y) other)
      )

  repeats : (xs : List T) (y : T) (h : ℕ) (rest : List A) → position (eq y) xs ≡ Some h → ¬ AllPairs (λ a b. a ≢ b) (map view xs ++ view y ∷ rest)
  repeats xs y h rest found distinct =
      let at = position-Some (eq y) xs h y found in
      let seen = map view xs in
      let within : h < length seen = omega (arith, length-map xs view, at.0) in
      let longer : length seen < length (seen ++ view y ∷ rest) = omega (arith, length-append seen (view y ∷ rest)) in
      let here : get_or (seen ++ view y ∷ rest) h (view y) ≡ view (get_or xs h y) = get_or_append_left seen (view y ∷ rest) (view y) h within ∙ get_or-map view xs h y (view y) at.0 in
      let there : get_or (seen ++ view y ∷ rest) (length seen) (view y) ≡ view y = get_or-append_seam seen (view y) rest (view y) in
      let same : view y ≡ view (get_or xs h y) = (decides y (get_or xs h y)).0 at.1 in
      distinct h (length seen) (view y) within longer (here ∙ sym same ∙ sym there)

  -- an arena whose values are distinct, with one that it does not have
  pub AreDistinct-push : (arena : List (T × Span)) (y : T) (span : Span) → handle_of eq arena y ≡ None → AreDistinct (arena_value view arena) → AreDistinct (arena_value view (arena ++ (y, span) ∷ []))
  AreDistinct-push arena y span none distinct =
      let grown : values (arena_value view (arena ++ (y, span) ∷ [])) ≡ map view (values arena) ++ view y ∷ [] = values-arena_value view (arena ++ (y, span) ∷ []) ∙ ap (map view) (values-append arena ((y, span) ∷ [])) ∙ map-append view (values arena) (y ∷ []) in
      subst (λ xs. AllPairs (λ a b. a ≢ b) xs) (sym grown) (push (values arena) y none (subst (λ xs. AllPairs (λ a b. a ≢ b) xs) (values-arena_value view arena) distinct))

  -- an arena with a value that it has, and any other entries after it
  pub AreDistinct-repeated : (arena : List (T × Span)) (y : T) (h : ℕ) (span : Span) (rest : List (A × Span)) → handle_of eq arena y ≡ Some h → ¬ AreDistinct (arena_value view arena ++ (view y, span) ∷ rest)
  AreDistinct-repeated arena y h span rest found distinct =
      let whole : values (arena_value view arena ++ (view y, span) ∷ rest) ≡ map view (values arena) ++ view y ∷ values rest = values-append (arena_value view arena) ((view y, span) ∷ rest) ∙ ap (λ xs. xs ++ view y ∷ values rest) (values-arena_value view arena) in
      repeats (values arena) y h (values rest) found (subst (λ xs. AllPairs (λ a b. a ≢ b) xs) whole distinct)

-- there are no types
pub refuses_types-none : (reason : Cause) (meaning : Option (List ((Option (List ℕ) × Inner) × Span))) → (reason ≢ cause.Memory → None ≡ meaning) → RefusesTypes reason meaning
refuses_types-none (cause.RepeatedType position) meaning h = λ types is. let none : None ≡ meaning = h (λ e. absurd (cc)) in absurd (cc)
refuses_types-none cause.Memory meaning h = tt
refuses_types-none other meaning h = h (λ e. absurd (cc))

pub reads_types-none : (result : Result (List (NamedType × Span)) Cause) (reason : Cause) (meaning : Option (List ((Option (List ℕ) × Inner) × Span))) → IsErrAnd result (λ e. e ≡ reason) → (reason ≢ cause.Memory → None ≡ meaning) → ReadsTypes result meaning
reads_types-none (Ok x) reason meaning same h = absurd same
reads_types-none (Err e) reason meaning same h = refuses_types-none e meaning (λ other. h (λ m. other (same ∙ m)))

-- the values before the one at the seam, and those up to it
pub take-start : {A : Type 0} (start : List A) (next : A) (rest : List A) (count : ℕ) → count ≡ length start → take count (start ++ next ∷ rest) ≡ start
take-start start next rest count e = take_at start (next ∷ rest) count (sym e)

pub take-next : {A : Type 0} (start : List A) (next : A) (rest : List A) (count : ℕ) → count ≡ length start → take (count + 1) (start ++ next ∷ rest) ≡ start ++ next ∷ []
take-next start next rest count e =
    let size : length (start ++ next ∷ []) ≡ count + 1 = omega (arith, e, length-append start (next ∷ [])) in
    ap (take (count + 1)) (sym (append_assoc start (next ∷ []) rest)) ∙ take_at (start ++ next ∷ []) rest (count + 1) size

-- the rest of a list that begins with these values
pub rest_of : {A : Type 0} (whole : Option (List A)) (start : List A) (rest : Option (List A)) → whole ≡ (rest >>= λ r. Some (start ++ r)) → (all : List A) → Some all ≡ whole → (r : List A) × (all ≡ start ++ r)
rest_of whole start None e all is = absurd (let gone : Some all ≡ None = is ∙ e in cc)
rest_of whole start (Some r) e all is = (r, let same : Some all ≡ Some (start ++ r) = is ∙ e in cc)

pub found : (o : Option ℕ) → is_some o ≡ true → (h : ℕ) × (o ≡ Some h)
found (Some h) e = (h, refl)
found None e = absurd (false≢true e)

pub missing : (o : Option ℕ) → is_some o ≡ false → o ≡ None
missing (Some h) e = absurd (false≢true (sym e))
missing None e = refl

pub IfNone-at : {T : Type 0} (o : Option T) (P : Type 0) → o ≡ None → IfNone o P → P
IfNone-at (Some x) P e h = cc
IfNone-at None P e h = h
