-- Borrows of a statement or a span of a block: a pair that is read from the block has its statement among the
-- statements and its span among the spans, and the other half of the pair is unchanged at the end of the borrow.
use Rattle.std.proofs.Common.{ℕ, ◌≡◌, ◌<◌, ◌∙◌, sym, ap, refl, length, map, get_or, List, Some, inl, ◌⊎◌}
use Rattle.std.specs.Prelude.{slice_get, option_map}
use Rattle.std.proofs.lemmas.List.{get_or-map}
use Rattle.std.proofs.lemmas.Option.{slice_get-map, slice_get_read}
use Rattle.naga_ir.specs.declared.statement.Statement.{Statement}
use Rattle.naga_arena.specs.declared.span.Span.{Span}

abbrev pub first_of : Statement × Span → Statement
first_of pair = pair.0

abbrev pub second_of : Statement × Span → Span
second_of pair = pair.1

pub slice_get-statements : (xs : List (Statement × Span)) (i : ℕ) (pair : Statement × Span) → i < length xs → pair ≡ get_or xs i pair → slice_get (map first_of xs) i ≡ Some pair.0
slice_get-statements xs i pair inside found =
    slice_get-map first_of xs i ∙ ap (option_map first_of) (slice_get_read xs (length xs) i pair refl inside found)

pub slice_get-spans : (xs : List (Statement × Span)) (i : ℕ) (pair : Statement × Span) → i < length xs → pair ≡ get_or xs i pair → slice_get (map second_of xs) i ≡ Some pair.1
slice_get-spans xs i pair inside found =
    slice_get-map second_of xs i ∙ ap (option_map second_of) (slice_get_read xs (length xs) i pair refl inside found)

pub get_or-statements : (xs : List (Statement × Span)) (i : ℕ) (pair : Statement × Span) (d : Statement) → i < length xs → pair ≡ get_or xs i pair → pair.0 ≡ get_or (map first_of xs) i d
get_or-statements xs i pair d inside found =
    ap first_of found ∙ sym (get_or-map first_of xs i pair d inside)

pub get_or-spans : (xs : List (Statement × Span)) (i : ℕ) (pair : Statement × Span) (d : Span) → i < length xs → pair ≡ get_or xs i pair → pair.1 ≡ get_or (map second_of xs) i d
get_or-spans xs i pair d inside found =
    ap second_of found ∙ sym (get_or-map second_of xs i pair d inside)

-- the end of a borrow is the same for equal descriptions of the other half of the pair
pub LendsIf-beside : {N P Z W : Type 0} (name : N) (F : P → Z → W) {p q : P} → p ≡ q → ◌≡◌ {A = (N × (Z → W)) ⊎ W} (inl (name, F p)) (inl (name, F q))
LendsIf-beside name F e = ap (λ p. inl (name, F p)) e
