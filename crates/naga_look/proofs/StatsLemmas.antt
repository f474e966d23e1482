-- What passes did, one pass after another: lemmas on specs/Stats.antt.
use Rattle.std.proofs.Common.{◌≡◌, ◌∙◌, inl, inr, refl, sym, ap, subst, ℕ, ◌+◌, ◌≤◌, List, [], ◌∷◌, ◌++◌, length, take, Some, append_assoc, append-nil}
use Rattle.std.proofs.lemmas.List.{flat_map_more, take_all, take_more}
use Rattle.std.proofs.lemmas.Option.{get_or_from_slice_get, slice_get_within}
use Rattle.std.specs.Prelude.{◌⊎◌, IfErr, IsErrAnd, Result, Ok, Err, flat_map, slice_get}
use Rattle.naga_ir.specs.declared.module.Module as the_module
use Rattle.naga_passes.specs.After.{After, Leaves, Transforms}
use Rattle.naga_passes.specs.declared.pass.Pass.{Pass}
use Rattle.naga_passes.specs.declared.pass_error.PassFault.{PassFault}
use Rattle.naga_passes.specs.declared.pass_error.PassFault.TheVariants.{Memory}
use Rattle.naga_look.specs.Stats.{Accounts, StopsCounting, counted_in, noted_in}
use Rattle.naga_look.specs.declared.stats.Detail.{Detail}
use Rattle.naga_look.specs.declared.stats.PassCounts.{PassCounts}

one_more : (passes : List Pass) (position : ℕ) (pass : Pass) → slice_get passes position ≡ Some pass → take (position + 1) passes ≡ take position passes ++ pass ∷ []
one_more passes position pass found =
    take_more passes position pass (slice_get_within passes position pass found)
    ∙ ap (λ one. take position passes ++ one ∷ []) (get_or_from_slice_get passes position pass pass found)

-- ---- passes

Accounts-snoc : (detail : Detail) (first : List Pass) (pass : Pass) (old middle new : the_module.Module) (counts : List PassCounts) (notes : List ℕ)
    → Accounts detail first old middle counts notes → Transforms pass middle new
    → Accounts detail (first ++ pass ∷ []) old new (counts ++ counted_in detail pass middle new) (notes ++ noted_in detail pass middle)
Accounts-snoc detail [] pass old middle new counts notes none transforms = (
  new,
  subst (λ whole. Transforms pass whole new) none.0 transforms,
  [],
  (λ i. none.1 i ++ counted_in detail pass (none.0 i) new) ∙ sym (append-nil (counted_in detail pass old new)),
  [],
  (λ i. none.2 i ++ noted_in detail pass (none.0 i)) ∙ sym (append-nil (noted_in detail pass old)),
  (refl, refl, refl),
)
Accounts-snoc detail (front ∷ others) pass old middle new counts notes before transforms =
    let one : List PassCounts = counted_in detail pass middle new in
    let note : List ℕ = noted_in detail pass middle in (
      before.0,
      before.1,
      before.2 ++ one,
      ap (λ those. those ++ one) before.3 ∙ append_assoc (counted_in detail front old before.0) before.2 one,
      before.4 ++ note,
      ap (λ those. those ++ note) before.5 ∙ append_assoc (noted_in detail front old) before.4 note,
      Accounts-snoc detail others pass before.0 middle new before.2 before.4 before.6 transforms,
    )

-- one more pass ran
pub Accounts-next : (detail : Detail) (passes : List Pass) (position : ℕ) (pass : Pass) (old middle new : the_module.Module) (counts more : List PassCounts) (notes text : List ℕ)
    → slice_get passes position ≡ Some pass → Accounts detail (take position passes) old middle counts notes → Transforms pass middle new
    → more ≡ counts ++ counted_in detail pass middle new → text ≡ notes ++ noted_in detail pass middle
    → Accounts detail (take (position + 1) passes) old new more text
Accounts-next detail passes position pass old middle new counts more notes text found before transforms counted noted =
    let all = Accounts-snoc detail (take position passes) pass old middle new counts notes before transforms in
    let written : Accounts detail (take position passes ++ pass ∷ []) old new more text =
    subst (λ those. Accounts detail (take position passes ++ pass ∷ []) old new those text) (sym counted)
    (subst (λ those. Accounts detail (take position passes ++ pass ∷ []) old new (counts ++ counted_in detail pass middle new) those) (sym noted) all) in
    subst (λ done. Accounts detail done old new more text) (sym (one_more passes position pass found)) written

-- all passes ran
pub Accounts-all : (detail : Detail) (passes : List Pass) (position : ℕ) (old new : the_module.Module) (counts : List PassCounts) (notes : List ℕ)
    → length passes ≤ position → Accounts detail (take position passes) old new counts notes → Accounts detail passes old new counts notes
Accounts-all detail passes position old new counts notes past counted =
    subst (λ done. Accounts detail done old new counts notes) (take_all position passes past) counted

-- the passes of an account were run
pub Accounts-After : (detail : Detail) (passes : List Pass) (old new : the_module.Module) (counts : List PassCounts) (notes : List ℕ)
    → Accounts detail passes old new counts notes → After passes old new
Accounts-After detail [] old new counts notes counted = counted.0
Accounts-After detail (pass ∷ others) old new counts notes counted =
    (counted.0, counted.1, Accounts-After detail others counted.0 new counted.2 counted.4 counted.6)

-- an allocation failed before a pass changed anything
pub Leaves-unbegun : {T : Type 0} (pass : Pass) (old new : the_module.Module) (r : Result T PassFault) → IsErrAnd r (λ fault. fault ≡ Memory) → new ≡ old
    → IfErr r (λ fault. Leaves pass fault old new ⊎ ((fault ≡ Memory) × (new ≡ old)))
Leaves-unbegun pass old new (Ok value) is same = tt
Leaves-unbegun pass old new (Err fault) is same = inr (is, same)

-- a pass failed, or was not begun
pub StopsCounting-left : (detail : Detail) (passes : List Pass) (position : ℕ) (failed : Pass) (fault : PassFault) (old middle new : the_module.Module) (counts : List PassCounts) (notes : List ℕ)
    → slice_get passes position ≡ Some failed → Accounts detail (take position passes) old middle counts notes → Leaves failed fault middle new ⊎ ((fault ≡ Memory) × (new ≡ middle))
    → StopsCounting position fault passes old new
StopsCounting-left detail passes position failed fault old middle new counts notes found counted left =
    let before : After (take position passes) old middle = Accounts-After detail (take position passes) old middle counts notes counted in
    elim left [
      | inl leaves ↦ inl (record { failed = failed; found = found; middle = middle; before = before; left = leaves })
      | inr unbegun ↦ inr (unbegun.0, slice_get_within passes position failed found, subst (After (take position passes) old) (sym unbegun.1) before)
    ]

-- ---- texts that are appended one after another

module _ {X : Type 0} (f : X → List ℕ) where
  pub appended-none : (xs : List X) (old : List ℕ) → old ≡ old ++ flat_map f (take 0 xs)
  appended-none xs old = sym (append-nil old)

  pub appended-next : (xs : List X) (i : ℕ) (x : X) (old middle new : List ℕ)
      → slice_get xs i ≡ Some x → middle ≡ old ++ flat_map f (take i xs) → new ≡ middle ++ f x → new ≡ old ++ flat_map f (take (i + 1) xs)
  appended-next xs i x old middle new found before here =
      let more : take (i + 1) xs ≡ take i xs ++ x ∷ [] =
      take_more xs i x (slice_get_within xs i x found) ∙ ap (λ one. take i xs ++ one ∷ []) (get_or_from_slice_get xs i x x found) in
      here ∙ ap (λ text. text ++ f x) before ∙ flat_map_more f old (take i xs) x ∙ ap (λ those. old ++ flat_map f those) (sym more)

  pub appended-all : (xs : List X) (i : ℕ) (old new : List ℕ) → length xs ≤ i → new ≡ old ++ flat_map f (take i xs) → new ≡ old ++ flat_map f xs
  appended-all xs i old new past before = before ∙ ap (λ those. old ++ flat_map f those) (take_all i xs past)
