-- Which handles represent the same.
use Rattle.std.proofs.Common.{◌≡◌, ◌∙◌, sym, ap, refl, ℕ, zero, suc, List, [], ◌∷◌, map, Bool, true, false, Option, Some, None, true≢false}
use Rattle.std.proofs.lemmas.Option.{same_Some}
use Rattle.std.specs.declared.alloc.Global.{Global}
use Rattle.std.specs.declared.string.String.{String}
use Rattle.naga_arena.specs.Arena.{value_at}
use Rattle.naga_kinds.specs.declared.scalar.ScalarKind.{ScalarKind}
use Rattle.naga_kinds.specs.declared.scalar.ScalarKind.TheVariants as kind
use Rattle.naga_ir.specs.Types.{plain}
use Rattle.naga_ir.specs.declared.module.GlobalVariable.{GlobalVariable}
use Rattle.naga_ir.specs.declared.module.Module.{Module}
use Rattle.naga_ir.specs.declared.types.«Type».{«Type» as NamedType}
use Rattle.naga_ir.specs.declared.types.TypeInner.TheVariants as inner
use Rattle.naga_valid.specs.Declarations.{references_of_global_variable, references_of_inner, references_of_type}
use Rattle.naga_valid.specs.Places.{references_found}
use Rattle.naga_valid.specs.declared.reference.Reference.{Reference}
use Rattle.naga_valid.specs.declared.reference.Reference.TheVariants as reference
use Rattle.naga_meaning.specs.ThingExamples.{pointer_to, with_types, with_variables}
use Rattle.naga_meaning.specs.Things.{AllUnfolded, Declared, HasSameParts, Thing, Unfolded, all_unfolded, and_then, contents_form, declared_at, declared_of, deeper, element, handles_in, missing, no_more, of_global_variable, of_type, placed, thing_of, unfolded, variable_form}

module _ {Place : Type 0} (whole : Module) (place : Reference → Place) where
  -- elements of which the same is declared, with the same handles and the same place
  unfolded-equal : (a b : Reference) → declared_at whole a ≡ declared_at whole b → placed place a ≡ placed place b → handles_in whole a ≡ handles_in whole b → (depth : ℕ) → unfolded whole place depth a ≡ unfolded whole place depth b
  unfolded-equal a b declared places handles zero = refl
  unfolded-equal a b declared places handles (suc depth) = λ i. element (declared i) (places i) (all_unfolded (unfolded whole place depth) (handles i))

  pub equal-types : (a b : ℕ) (first second : NamedType) → value_at whole.types a ≡ Some first → value_at whole.types b ≡ Some second → first.inner ≡ second.inner →
      thing_of whole place (reference.«Type» a) ≡ thing_of whole place (reference.«Type» b)
  equal-types a b first second found found' same =
      let declared : declared_at whole (reference.«Type» a) ≡ declared_at whole (reference.«Type» b) =
      ap (declared_of (λ (type : NamedType). of_type (contents_form type.inner))) found ∙ ap (λ contents. of_type (contents_form contents)) same ∙ sym (ap (declared_of (λ (type : NamedType). of_type (contents_form type.inner))) found')
      in
      let handles : handles_in whole (reference.«Type» a) ≡ handles_in whole (reference.«Type» b) =
      ap (references_found references_of_type) found ∙ ap references_of_inner same ∙ sym (ap (references_found references_of_type) found')
      in
      λ i depth. unfolded-equal (reference.«Type» a) (reference.«Type» b) declared refl handles depth i

  pub equal-variables : (a b : ℕ) → value_at whole.global_variables a ≡ value_at whole.global_variables b → place (reference.GlobalVariable a) ≡ place (reference.GlobalVariable b) →
      thing_of whole place (reference.GlobalVariable a) ≡ thing_of whole place (reference.GlobalVariable b)
  equal-variables a b same at =
      λ i depth.
      unfolded-equal (reference.GlobalVariable a) (reference.GlobalVariable b)
      (ap (declared_of (λ (declared : GlobalVariable). of_global_variable (variable_form declared))) same) (ap Some at)
      (ap (references_found references_of_global_variable) same) depth i

  -- ---- parts

  declared_of_element : Unfolded Place → Declared
  declared_of_element (element declared at contents) = declared
  declared_of_element _ = missing

  place_of : Unfolded Place → Option Place
  place_of (element declared at contents) = at
  place_of _ = None

  contents_of : Unfolded Place → AllUnfolded Place
  contents_of (element declared at contents) = contents
  contents_of _ = no_more

  first_of : AllUnfolded Place → Unfolded Place
  first_of (and_then first others) = first
  first_of _ = deeper

  others_of : AllUnfolded Place → AllUnfolded Place
  others_of (and_then first others) = others
  others_of _ = no_more

  has_more : AllUnfolded Place → Bool
  has_more no_more = false
  has_more _ = true

  pub different-places : (a b : Reference) → thing_of whole place a ≡ thing_of whole place b → placed place a ≡ placed place b
  unfolding place_of
  different-places a b same = ap (λ thing. place_of (thing 1)) same

  different-declared : (a b : Reference) → thing_of whole place a ≡ thing_of whole place b → declared_at whole a ≡ declared_at whole b
  unfolding declared_of_element
  different-declared a b same = ap (λ thing. declared_of_element (thing 1)) same

  same-things : (xs ys : List Reference) → ((depth : ℕ) → all_unfolded (unfolded whole place depth) xs ≡ all_unfolded (unfolded whole place depth) ys) → map (thing_of whole place) xs ≡ map (thing_of whole place) ys
  unfolding first_of others_of has_more
  same-things [] [] same = refl
  same-things [] (y ∷ ys) same = absurd (true≢false (sym (ap has_more (same 0))))
  same-things (x ∷ xs) [] same = absurd (true≢false (ap has_more (same 0)))
  same-things (x ∷ xs) (y ∷ ys) same = λ i. (λ depth. first_of (same depth i)) ∷ same-things xs ys (λ depth. ap others_of (same depth)) i

  -- what the things are at this depth
  at_depth : (depth : ℕ) → List (Thing Place) → AllUnfolded Place
  at_depth depth [] = no_more
  at_depth depth (thing ∷ things) = and_then (thing depth) (at_depth depth things)

  at_depth-is : (depth : ℕ) (names : List Reference) → at_depth depth (map (thing_of whole place) names) ≡ all_unfolded (unfolded whole place depth) names
  unfolding at_depth
  at_depth-is depth [] = refl
  at_depth-is depth (name ∷ names) = ap (and_then (unfolded whole place depth name)) (at_depth-is depth names)

  pub HasSameParts-of : (a b : Reference) → thing_of whole place a ≡ thing_of whole place b → HasSameParts whole place a b
  unfolding contents_of
  HasSameParts-of a b same = record {
    declared = different-declared a b same;
    place = different-places a b same;
    contents = same-things (handles_in whole a) (handles_in whole b) (λ depth i. contents_of (same i (suc depth)));
  }

  pub HasSameParts-same : (a b : Reference) → HasSameParts whole place a b → thing_of whole place a ≡ thing_of whole place b
  HasSameParts-same a b parts = λ i depth. by_depth depth i
    where
      by_depth : (depth : ℕ) → unfolded whole place depth a ≡ unfolded whole place depth b
      by_depth zero = refl
      by_depth (suc depth) =
          let contents : all_unfolded (unfolded whole place depth) (handles_in whole a) ≡ all_unfolded (unfolded whole place depth) (handles_in whole b) =
          sym (at_depth-is depth (handles_in whole a)) ∙ ap (at_depth depth) parts.contents ∙ at_depth-is depth (handles_in whole b)
          in
          λ i. element (parts.declared i) (parts.place i) (contents i)

-- ---- examples

module _ {Place : Type 0} (whole : Module) (place : Reference → Place) (name other : Option (String Global)) where
  abbrev example : Module
  example = with_types whole name other

  pub example-equal : thing_of example place (reference.«Type» 0) ≡ thing_of example place (reference.«Type» 1)
  example-equal = equal-types example place 0 1 _ _ refl refl refl

  pub example-pointers : thing_of example place (reference.«Type» 3) ≡ thing_of example place (reference.«Type» 4)
  example-pointers = λ i depth. by_depth depth i
    where
      by_depth : (depth : ℕ) → unfolded example place depth (reference.«Type» 3) ≡ unfolded example place depth (reference.«Type» 4)
      by_depth zero = refl
      by_depth (suc depth) = ap (λ base. element (of_type (plain (pointer_to 0))) None (and_then base no_more)) (λ i. example-equal i depth)

  is_float : ScalarKind → Bool
  is_float kind.Float = true
  is_float _ = false

  points_to_float : Unfolded Place → Bool
  points_to_float (element declared at (and_then (element (of_type (plain (inner.Scalar scalar))) at' contents) others)) = is_float scalar.kind
  points_to_float _ = false

  pub example-different : ¬ (thing_of example place (reference.«Type» 3) ≡ thing_of example place (reference.«Type» 5))
  unfolding points_to_float is_float
  example-different same = true≢false (sym (ap (λ thing. points_to_float (thing 2)) same))

handle_of_variable : Reference → ℕ
handle_of_variable (reference.GlobalVariable handle) = handle
handle_of_variable _ = 0

is_zero : ℕ → Bool
is_zero zero = true
is_zero _ = false

pub example-variables : (whole : Module) (variable : GlobalVariable) →
    ¬ (thing_of (with_variables whole variable) (λ name. name) (reference.GlobalVariable 0) ≡ thing_of (with_variables whole variable) (λ name. name) (reference.GlobalVariable 1))
unfolding handle_of_variable is_zero
example-variables whole variable same =
    let places = same_Some (reference.GlobalVariable 0) (reference.GlobalVariable 1) (different-places (with_variables whole variable) (λ name. name) (reference.GlobalVariable 0) (reference.GlobalVariable 1) same) in
    true≢false (ap (λ name. is_zero (handle_of_variable name)) places)
