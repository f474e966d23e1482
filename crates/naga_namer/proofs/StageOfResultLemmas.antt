-- The stages of the types that entry points return, one entry point at a time.
use Rattle.std.proofs.Common.{◌≡◌, ◌∙◌, ℕ, ◌+◌, List, [], ◌∷◌, ◌++◌, Option, None, Some, cond, fold, refl, ap, sym, take}
use Rattle.std.specs.List.{slice_get}
use Rattle.naga_kinds.specs.declared.entry_point.ShaderStage.{ShaderStage}
use Rattle.naga_ir.specs.declared.module.EntryPoint as entry_point
use Rattle.naga_namer.specs.Declarations.{each, returns_type, stage_after, stage_of_result}
use Rattle.naga_namer.proofs.EachLemmas.{each-turn}

fold-last : {A B : Type 0} (f : B → A → B) (start : B) (xs : List A) (x : A) → fold f start (xs ++ x ∷ []) ≡ f (fold f start xs) x
fold-last f start [] x = refl
fold-last f start (y ∷ ys) x = fold-last f (f start y) ys x

-- each item by itself
singles : {A : Type 0} (start : ℕ) (xs : List A) → each (λ i (x : A). x ∷ []) start xs ≡ xs
singles start [] = refl
singles {A} start (x ∷ xs) = ap (λ (rest : List A). x ∷ rest) (singles (start + 1) xs)

take-turn : {A : Type 0} (xs : List A) (i : ℕ) (x : A) → slice_get xs i ≡ Some x → take (i + 1) xs ≡ take i xs ++ x ∷ []
take-turn {A} xs i x found =
    sym (singles 0 (take (i + 1) xs)) ∙ each-turn (λ k (y : A). y ∷ []) xs i x found ∙ ap (λ (items : List A). items ++ x ∷ []) (singles 0 (take i xs))

-- the stages after one more entry point
pub stage-turn : (entries : List entry_point.EntryPoint) (i : ℕ) (entry : entry_point.EntryPoint) (before after : ℕ → Option ShaderStage)
    → slice_get entries i ≡ Some entry → ((ty : ℕ) → before ty ≡ stage_of_result (take i entries) ty)
    → ((ty : ℕ) → after ty ≡ stage_after before entry ty) → (ty : ℕ) → after ty ≡ stage_of_result (take (i + 1) entries) ty
stage-turn entries i entry before after found so-far then-after ty =
    then-after ty
    ∙ ap (λ (stage : Option ShaderStage). cond (returns_type ty entry.function.result) (Some entry.stage) stage) (so-far ty)
    ∙ ap (λ (stages : ℕ → Option ShaderStage). stages ty) (sym (fold-last stage_after (λ _. None) (take i entries) entry))
    ∙ ap (λ (items : List entry_point.EntryPoint). stage_of_result items ty) (sym (take-turn entries i entry found))
