-- What is said of the layouts of a module: lemmas on specs/Layouts.antt.
use Rattle.std.proofs.Common.{◌≡◌, ◌∙◌, inl, inr, refl, sym, ap, List, [], ◌∷◌, ◌++◌, ℕ, Option, Some, None, append-nil, append_assoc}
use Rattle.std.specs.Prelude.{codes, OnOk, Result, Ok, Err}
use Rattle.naga_ir.specs.declared.module.Module as the_module
use Rattle.naga_text.specs.Escapes.{visible}
use Rattle.naga_text.specs.Words.{name_text, number, quoted}
use Rattle.naga_typing.specs.Joined.{Adds}
use Rattle.naga_valid.specs.ElementNames.{name_of_place}
use Rattle.naga_valid.specs.declared.place.Place.TheVariants as place
use Rattle.naga_look.specs.Findings.{AreLayoutFindings, layout_finding}
use Rattle.naga_look.specs.Layouts.{HasNoLayoutFault, IsLayoutNote, SaysOfLayouts, type_head}
use Rattle.naga_look.specs.Report.{fault_line}
use Rattle.naga_look.specs.declared.finding.Finding.{Finding}
use Rattle.naga_text.proofs.ReadableModuleLemmas.{declared_text-plain}
use Rattle.naga_look.proofs.ReportLemmas.{fault_line-line}

-- what the note of a type begins with
module _ (whole : the_module.Module) (ty : ℕ) where
  pub type_head-unnamed : (old first second : List ℕ) → first ≡ old ++ codes "note: type" → second ≡ first ++ number ty
      → None ≡ name_of_place whole (place.«Type» ty) → second ≡ old ++ type_head whole ty
  type_head-unnamed old first second before after none =
      after ∙ ap (λ t. t ++ number ty) before ∙ append_assoc old (codes "note: type") (number ty)
      ∙ ap (λ t. old ++ (codes "note: type" ++ t)) (sym (append-nil (number ty)))
      ∙ ap (λ (name : Option (List ℕ)). old ++ (codes "note: type" ++ (number ty ++ name_text name))) none

  head_named : (name old first second : List ℕ) → first ≡ old ++ codes "note: type" → second ≡ first ++ number ty
      → Some name ≡ name_of_place whole (place.«Type» ty) → second ++ quoted name ≡ old ++ type_head whole ty
  head_named name old first second before after some =
      ap (λ t. t ++ quoted name) (after ∙ ap (λ t. t ++ number ty) before)
      ∙ append_assoc (old ++ codes "note: type") (number ty) (quoted name)
      ∙ append_assoc old (codes "note: type") (number ty ++ quoted name)
      ∙ ap (λ (name : Option (List ℕ)). old ++ (codes "note: type" ++ (number ty ++ name_text name))) some

pub type_head-named : {T E : Type 0} (r : Result T E) (whole : the_module.Module) (ty : ℕ) (name old first second new : List ℕ)
    → first ≡ old ++ codes "note: type" → second ≡ first ++ number ty → Some name ≡ name_of_place whole (place.«Type» ty)
    → OnOk r (new ≡ second ++ quoted name) → OnOk r (new ≡ old ++ type_head whole ty)
type_head-named (Err error) whole ty name old first second new before after some pushed = tt
type_head-named (Ok value) whole ty name old first second new before after some pushed =
    pushed ∙ head_named whole ty name old first second before after some

-- no fault
pub AddsLayoutNote-none : (whole : the_module.Module) (old : List ℕ) → HasNoLayoutFault whole → Adds IsLayoutNote whole old old
AddsLayoutNote-none whole old none = ([], inl (none, refl), sym (append-nil old))

pub AddsLayoutFindings-none : (whole : the_module.Module) (old : List Finding) → HasNoLayoutFault whole → Adds AreLayoutFindings whole old old
AddsLayoutFindings-none whole old none = ([], inl (none, refl), sym (append-nil old))

-- the note of a fault
pub AddsLayoutNote-found : {T E : Type 0} (r : Result T E) (whole : the_module.Module) (ty : ℕ) (message old middle new : List ℕ)
    → SaysOfLayouts whole ty message → middle ≡ old ++ type_head whole ty
    → OnOk r (new ≡ middle ++ (codes ": " ++ (visible message ++ codes "\n"))) → OnOk r (Adds IsLayoutNote whole old new)
AddsLayoutNote-found (Err error) whole ty message old middle new says before after = tt
AddsLayoutNote-found (Ok value) whole ty message old middle new says before after =
    let head = type_head whole ty in
    let plain = declared_text-plain (codes "note: type") refl ty (name_of_place whole (place.«Type» ty)) in (
      fault_line head message,
      inr (ty, message, says, (fault_line-line head message plain, refl)),
      after ∙ ap (λ t. t ++ (codes ": " ++ (visible message ++ codes "\n"))) before
          ∙ append_assoc old head (codes ": " ++ (visible message ++ codes "\n")),
    )

-- a finding of these parts
pub AddsLayoutFindings-found : {T E : Type 0} (r : Result T E) (whole : the_module.Module) (ty : ℕ) (message : List ℕ) (old new : List Finding)
    → SaysOfLayouts whole ty message → OnOk r (new ≡ old ++ layout_finding whole ty message ∷ []) → OnOk r (Adds AreLayoutFindings whole old new)
AddsLayoutFindings-found (Err error) whole ty message old new says pushed = tt
AddsLayoutFindings-found (Ok value) whole ty message old new says pushed =
    (layout_finding whole ty message ∷ [], inr (ty, message, says, refl), pushed)
