-- Texts that are made one after another, each from those before it.
use Rattle.std.proofs.Common.{◌≡◌, ℕ, ◌+◌, List, [], ◌∷◌, ◌++◌, Some, Result, drop, length, ap, sym, ◌∙◌}
use Rattle.std.specs.List.{slice_get}
use Rattle.naga_layouter.proofs.LayingLemmas.{drop-found}
use Rattle.naga_wgsl.specs.TypeTexts.{texts_after}
use Rattle.naga_wgsl.specs.declared.write_error.Cause.{Cause}

abbrev Known : Type 0
Known = List (Result (List ℕ) Cause)

module _ {X : Type 0} (text_of : Known → ℕ → X → Result (List ℕ) Cause) (items : List X) where
  -- a text has been added
  pub texts-more : (known seen pushed all : Known) (i : ℕ) (item : X) (made : Result (List ℕ) Cause)
      → slice_get items i ≡ Some item → length known ≡ i → seen ≡ known → made ≡ text_of seen i item
      → pushed ≡ known ++ made ∷ [] → texts_after text_of known (drop i items) ≡ all
      → texts_after text_of pushed (drop (i + 1) items) ≡ all
  texts-more known seen pushed all i item made here reached same is more before =
      let now : made ≡ text_of known (length known) item =
      is ∙ ap (λ (s : Known). text_of s i item) same ∙ ap (λ (k : ℕ). text_of known k item) (sym reached) in
      ap (λ (p : Known). texts_after text_of p (drop (i + 1) items)) (more ∙ ap (λ m. known ++ m ∷ []) now)
      ∙ sym (ap (texts_after text_of known) (drop-found items i item here))
      ∙ before
