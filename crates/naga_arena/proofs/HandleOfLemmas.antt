-- The handle that an insertion into a unique arena finds, and the pair that it adds.
use Rattle.std.proofs.Common.{◌≡◌, Bool, true, false, not, List, [], ◌∷◌, ◌++◌, length, position, None, Some, refl, ap, sym, ◌∙◌, arith}
use Rattle.std.specs.List.{list_any, position_or_len, zip}
use Rattle.std.proofs.lemmas.Bool.Decides.{nat_tests}
use Rattle.indexmap.specs.IndexSet.{insert_key}
use Rattle.naga_arena.specs.Arena.{handle_of, values}
use Rattle.naga_arena.specs.declared.span.Span.{Span}
use Rattle.naga_arena.proofs.PositionLemmas.{position-absent, position_or_len-absent, position_or_len-present}
use Rattle.naga_arena.proofs.ZipLemmas.{length-zip_equal, values-zip, zip-push}

-- a value was added if and only if it was not present
pub absent-if_added : (present added : Bool) → added ≡ not present → added ≡ true → present ≡ false
absent-if_added false added is was = refl
absent-if_added true added is was = cc

pub present-unless_added : (present added : Bool) → added ≡ not present → added ≡ false → present ≡ true
present-unless_added true added is was = refl
present-unless_added false added is was = cc

module _ {T : Type 0} (eq : T → T → Bool) (keys : List T) (spans : List Span) (arena : List (T × Span)) (value : T) (view : zip keys spans ≡ arena) (aligned : length spans ≡ length keys) where
  handle_of-position : handle_of eq arena value ≡ position (eq value) keys
  handle_of-position = ap (λ known. position (eq value) known) (ap values (sym view) ∙ values-zip keys spans aligned)

  -- a value that is not present has no handle
  pub handle_of-absent : list_any (eq value) keys ≡ false → handle_of eq arena value ≡ None
  handle_of-absent absent = handle_of-position ∙ position-absent (eq value) keys absent

  -- a value that is present has the handle of the first value that is equal to it
  pub handle_of-present : list_any (eq value) keys ≡ true → handle_of eq arena value ≡ Some (position_or_len (eq value) keys)
  handle_of-present present =
      let inside = position_or_len-present (eq value) keys present in
      let at : position (eq value) keys ≡ Some (position_or_len (eq value) keys) = grind (arith, nat_tests) in
      handle_of-position ∙ at

  -- the index of a new value is the length of the arena
  pub position_or_len-length : list_any (eq value) keys ≡ false → position_or_len (eq value) keys ≡ length arena
  position_or_len-length absent = position_or_len-absent (eq value) keys absent ∙ sym (length-zip_equal keys spans aligned) ∙ ap length view

  pub zip-inserted_absent : (new_keys : List T) (new_spans : List Span) (span : Span) → list_any (eq value) keys ≡ false → new_keys ≡ insert_key eq keys value → new_spans ≡ spans ++ span ∷ [] → zip new_keys new_spans ≡ arena ++ (value, span) ∷ []
  zip-inserted_absent new_keys new_spans span absent keys_are spans_are =
      let pushed : new_keys ≡ keys ++ value ∷ [] = rw absent at keys_are in
      rw (pushed, spans_are) (zip-push keys spans value span aligned) ∙ ap (λ pairs. pairs ++ (value, span) ∷ []) view

  -- inserting a value that is present changes nothing
  pub zip-inserted_present : (new_keys : List T) → list_any (eq value) keys ≡ true → new_keys ≡ insert_key eq keys value → zip new_keys spans ≡ arena
  zip-inserted_present new_keys present keys_are =
      let same : new_keys ≡ keys = rw present at keys_are in
      rw same view
