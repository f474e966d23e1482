-- Functions that are found compute to callers what they computed before, and so calls keep what functions compute.
use Rattle.std.proofs.Common.{◌≡◌, ◌∙◌, sym, ap, subst, refl, ℕ, zero, suc, ◌<◌, true, List, [], ◌∷◌, length, Option, None, Some, arith}
use Rattle.std.specs.Prelude.{option_and_then, option_map, slice_get}
use Rattle.naga_arena.specs.declared.span.Span.{Span}
use Rattle.naga_ir.specs.declared.module.Function as function
use Rattle.naga_ir.specs.declared.module.Module as the_module
use Rattle.naga_valid.specs.declared.reference.Reference.{Reference}
use Rattle.naga_compact.specs.declared.module.renumbering.ModuleRenumbering.{ModuleRenumbering}
use Rattle.naga_meaning.specs.Calls.{Calls, MeanTheSameToCallers, blank, called}
use Rattle.naga_meaning.specs.Closing.{closed_outcome}
use Rattle.naga_meaning.specs.Functions.{Meanings, meaning}
use Rattle.naga_meaning.specs.Readings.{by_chains, chains_in}
use Rattle.naga_meaning.proofs.CalledLemmas.{meaning-called_closed}
use Rattle.naga_passes.specs.Meanings.{ComputesAfterOf, FindsKept, FunctionsComputeAfterOf, found_after, found_before, index_after, is_kept, kept_functions, reading_at}
use Rattle.naga_passes.specs.declared.pass.Pass.{Pass}
use Rattle.naga_passes.proofs.OutcomeAfterLemmas.{closed-after}

found-within : {X : Type 0} (xs : List X) (k : ℕ) → k < length xs → (x : X) × (slice_get xs k ≡ Some x)
found-within [] k within = absurd (omega arith)
found-within (x ∷ xs) zero within = (x, refl)
found-within (x ∷ xs) (suc k) within = found-within xs k (omega arith)

module _ {Thing : Type 0} (Value State : Type 0) (look look' : Reference → Thing) (passes : List Pass) (renumberings : List ModuleRenumbering) where
  -- callers see the same of a function after the passes
  callers-after : (old new : function.Function) → ComputesAfterOf Value State look look' passes renumberings old new → MeanTheSameToCallers Value State look look' (Some (by_chains old)) (Some (by_chains new))
  callers-after old new computes by turns start =
      ap closed_outcome (computes.same (chains_in old.expressions) (chains_in new.expressions) computes.computes.chains by turns (blank start) (blank start) (record { state = refl; values = λ x so. refl }))
      ∙ closed-after passes (meaning look by turns (by_chains old) (blank start))

  module _ (old new : the_module.Module) (become : FunctionsComputeAfterOf Value State look look' passes renumberings old new) (function_of : Thing → Option ℕ) (finds : FindsKept function_of renumberings old) where
    abbrev Found : Option ℕ → Type 0
    Found found =
        MeanTheSameToCallers Value State look look' (option_and_then (reading_at old) found) (option_and_then (λ handle. reading_at new (index_after (kept_functions renumberings) handle)) found)

    found-kept : (found : Option ℕ) → ((handle : ℕ) → found ≡ Some handle → (handle < length old.functions) × (is_kept (kept_functions renumberings) handle ≡ true)) → Found found
    found-kept None inside = tt
    found-kept (Some handle) inside =
        let kept = inside handle refl in
        let before = found-within old.functions handle kept.0 in
        let after = become.functions handle before.0 before.1 kept.1 in
        let one : reading_at old handle ≡ Some (by_chains before.0.0) = ap (option_map (λ (entry : function.Function × Span). by_chains entry.0)) before.1 in
        let other : reading_at new (index_after (kept_functions renumberings) handle) ≡ Some (by_chains after.0.0) = ap (option_map (λ (entry : function.Function × Span). by_chains entry.0)) after.1 in
        subst (λ reading. MeanTheSameToCallers Value State look look' reading (reading_at new (index_after (kept_functions renumberings) handle))) (sym one)
        (subst (MeanTheSameToCallers Value State look look' (Some (by_chains before.0.0))) (sym other) (callers-after before.0.0 after.0.0 after.2))

    pub calls-after : (calls : Calls Thing Value State) (by : Meanings Thing Value State) (turns : ℕ) (before after : function.Function) → ComputesAfterOf Value State look look' passes renumberings before after → (depth : ℕ) (start : State × Value) →
        closed_outcome (meaning look' (called look' (found_after function_of renumberings new) calls by turns depth) turns (by_chains after) (blank start))
        ≡ closed_outcome (meaning look (called look (found_before function_of old) calls by turns depth) turns (by_chains before) (blank start))
    calls-after calls by turns before after computes =
        meaning-called_closed look look' (found_before function_of old) (found_after function_of renumberings new) calls by turns (λ thing. found-kept (function_of thing) (finds thing))
        (by_chains before) (by_chains after) (callers-after before after computes)
