-- What passes make of a module, one after another.
use Rattle.std.proofs.Common.{◌≡◌, ◌∙◌, sym, ap, subst, refl, ℕ, ◌+◌, ◌≤◌, List, ◌++◌, [], ◌∷◌, length, take, Some}
use Rattle.std.proofs.lemmas.List.{take_all, take_more}
use Rattle.std.proofs.lemmas.Option.{get_or_from_slice_get, slice_get_within}
use Rattle.std.specs.Prelude.{IfErr, IsErrAnd, Result, Ok, Err, slice_get}
use Rattle.naga_ir.specs.declared.module.Module as the_module
use Rattle.naga_valid.specs.Valid.{HandlesAreValid}
use Rattle.naga_compact.proofs.CompactsFunctionsLemmas.{HandlesAreValid-compacted_functions}
use Rattle.naga_compact.proofs.SizePrecedesLemmas.{HandlesAreValid-removed}
use Rattle.naga_proc.proofs.Bodies.AddsNoHandlesLemmas.{HandlesAreValid-closed}
use Rattle.naga_bounds.specs.RestrictedModules.{IsRestrictError}
use Rattle.naga_bounds.specs.declared.restrict_error.RestrictError.{RestrictError}
use Rattle.naga_passes.specs.After.{After, Leaves, Transforms}
use Rattle.naga_passes.specs.PassFault.{fault_of}
use Rattle.naga_passes.specs.declared.pass.Pass.{Pass}
use Rattle.naga_passes.specs.declared.pass.Pass.TheVariants.{Cull, Close, Compact, Restrict}
use Rattle.naga_passes.specs.declared.pass_error.PassFault.{PassFault}
use Rattle.naga_passes.specs.declared.pass_error.PassFault.TheVariants.{Memory}
use Rattle.naga_passes.proofs.CullsBodiesLemmas.{HandlesAreValid-culled}
use Rattle.naga_passes.proofs.RestrictsModuleLemmas.{HandlesAreValid-restricted}

-- ---- parts of the list

pub After-parts : (first last : List Pass) (old new : the_module.Module) → After (first ++ last) old new → (middle : the_module.Module) × After first old middle × After last middle new
After-parts [] last old new after = (old, refl, after)
After-parts (pass ∷ others) last old new after =
    let rest : (middle : the_module.Module) × After others after.0 middle × After last middle new = After-parts others last after.0 new after.2 in
    (rest.0, (after.0, after.1, rest.1), rest.2)

pub After-joined : (first last : List Pass) (old middle new : the_module.Module) → After first old middle → After last middle new → After (first ++ last) old new
After-joined [] last old middle new same after = subst (λ whole. After last whole new) same after
After-joined (pass ∷ others) last old middle new before after =
    (before.0, before.1, After-joined others last before.0 middle new before.2 after)

module _ (passes : List Pass) (position : ℕ) where
  -- one more pass
  pub After-next : (pass : Pass) (old middle new : the_module.Module) → slice_get passes position ≡ Some pass → After (take position passes) old middle → Transforms pass middle new → After (take (position + 1) passes) old new
  After-next pass old middle new found before transforms =
      let more : take (position + 1) passes ≡ take position passes ++ pass ∷ [] =
      take_more passes position pass (slice_get_within passes position pass found) ∙ ap (λ one. take position passes ++ one ∷ []) (get_or_from_slice_get passes position pass pass found) in
      subst (λ done. After done old new) (sym more) (After-joined (take position passes) (pass ∷ []) old middle new before (new, transforms, refl))

  pub After-all : (old new : the_module.Module) → length passes ≤ position → After (take position passes) old new → After passes old new
  After-all old new past after = subst (λ done. After done old new) (take_all position passes past) after

-- ---- errors that turn into others

module _ {T : Type 0} (pass : Pass) (old new : the_module.Module) (r : Result T PassFault) where
  abbrev LeavesIt : PassFault → Type 0
  LeavesIt fault = Leaves pass fault old new

  -- an allocation failed
  pub Leaves-memory : IsErrAnd r (λ fault. fault ≡ Memory) → Leaves pass Memory old new → IfErr r (λ fault. Leaves pass fault old new)
  Leaves-memory is left = by r is
    where
      by : (r : Result T PassFault) → IsErrAnd r (λ fault. fault ≡ Memory) → IfErr r (λ fault. Leaves pass fault old new)
      by (Ok value) is = tt
      by (Err fault) is = subst LeavesIt (sym is) left

  -- the accesses of a function cannot be clamped
  pub Leaves-restricted : (given : RestrictError) → pass ≡ Restrict → IsErrAnd r (λ fault. fault ≡ fault_of given) → IsRestrictError old new given → IfErr r (λ fault. Leaves pass fault old new)
  Leaves-restricted given is same stopped = by r same
    where
      by : (r : Result T PassFault) → IsErrAnd r (λ fault. fault ≡ fault_of given) → IfErr r (λ fault. Leaves pass fault old new)
      by (Ok value) same = tt
      by (Err fault) same = subst (λ (pass : Pass). Leaves pass fault old new) (sym is) (given, same, stopped)

-- ---- validity

pub HandlesAreValid-transformed : (pass : Pass) (old new : the_module.Module) → Transforms pass old new → HandlesAreValid old → HandlesAreValid new
HandlesAreValid-transformed Cull old new transforms valid = HandlesAreValid-culled old new transforms valid
HandlesAreValid-transformed (Close rule) old new transforms valid = HandlesAreValid-closed rule old new transforms valid
HandlesAreValid-transformed (Compact keep_unused) old new transforms valid =
    HandlesAreValid-removed transforms.1.middle new keep_unused transforms.0 transforms.1.used transforms.1.removed
    (HandlesAreValid-compacted_functions old transforms.1.middle transforms.1.functions valid)
HandlesAreValid-transformed Restrict old new transforms valid = HandlesAreValid-restricted old new transforms valid

pub After-HandlesAreValid : (passes : List Pass) (old new : the_module.Module) → After passes old new → HandlesAreValid old → HandlesAreValid new
After-HandlesAreValid [] old new after valid = subst HandlesAreValid (sym after) valid
After-HandlesAreValid (pass ∷ others) old new after valid =
    After-HandlesAreValid others after.0 new after.2 (HandlesAreValid-transformed pass old after.0 after.1 valid)
