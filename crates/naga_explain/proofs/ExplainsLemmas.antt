-- What is to be said of a text: lemmas on specs/Explains.antt.
use Rattle.std.proofs.Common.{◌≡◌, ◌≢◌, ap, sym, subst, refl, ℕ, zero, suc, ◌+◌, ◌<◌, List, [], ◌∷◌, Option, Some, None, take, length, get_or, arith}
use Rattle.std.specs.Prelude.{AllPairs}
use Rattle.std.proofs.lemmas.List.{length-take, get_or-take}
use Rattle.naga_arena.specs.Arena.{values}
use Rattle.naga_arena.specs.declared.span.Span.{Span}
use Rattle.naga_json.specs.Module.{ModuleValue}
use Rattle.naga_json_types.specs.Arenas.{AreDistinct}
use Rattle.naga_json_read.specs.Module.{RefusesModule}
use Rattle.naga_json_values.specs.declared.cause.Cause.{Cause}
use Rattle.naga_json_values.specs.declared.cause.Cause.TheVariants as cause

all_pairs_take : {A : Type 0} (R : A → A → Type 0) (count : ℕ) (xs : List A) → AllPairs R xs → AllPairs R (take count xs)
all_pairs_take R count xs h =
    λ i j d less within.
    let size = length-take count xs in
    let inside : j < length xs = omega (arith, size) in
    let first : get_or (take count xs) i d ≡ get_or xs i d = get_or-take count xs i d (omega (arith, size)) in
    let second : get_or (take count xs) j d ≡ get_or xs j d = get_or-take count xs j d (omega (arith, size)) in
    rw (first, second) (h i j d less inside)

values-take : {A : Type 0} (count : ℕ) (arena : List (A × Span)) → values (take count arena) ≡ take count (values arena)
values-take zero arena = refl
values-take (suc count) [] = refl
values-take (suc count) (entry ∷ rest) = ap (λ more. entry.0 ∷ more) (values-take count rest)

-- the first values of an arena without a repeated one
AreDistinct-take : {A : Type 0} (count : ℕ) (arena : List (A × Span)) → AreDistinct arena → AreDistinct (take count arena)
AreDistinct-take count arena h = subst (λ xs. AllPairs (λ a b. a ≢ b) xs) (sym (values-take count arena)) (all_pairs_take (λ a b. a ≢ b) count (values arena) h)

-- a module that is not read has a type twice, if it is there
pub refused-distinct : (reason : Cause) (meaning : Option ModuleValue) → reason ≢ cause.Memory → RefusesModule reason meaning → (value : ModuleValue) → Some value ≡ meaning → ¬ AreDistinct value.types
refused-distinct (cause.RepeatedType position) meaning other h value is = λ distinct. (h value is).1 (AreDistinct-take (position + 1) value.types distinct)
refused-distinct cause.Memory meaning other h value is = absurd (other refl)
refused-distinct reason meaning other h value is = absurd (let none : None ≡ meaning = h in cc)
