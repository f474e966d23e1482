-- An error, and the spans of the source text that it concerns.
use Rattle.std.specs.Prelude.{◌≡◌, ℕ, List, [], ◌∷◌, ◌++◌, map, All, codes, String, string_bytes, IsTrue, Option, if◌then◌else◌, slice_get, option_map}
use Rattle.naga_arena.specs.Handle.{handle_text}
use Rattle.naga_arena.specs.Span.{undefined, is_defined}
use Rattle.naga_arena.specs.declared.span.Span.{Span}

-- a `WithSpan` in contracts: the inner error, and each span with its text
pub record Spanned (E : Type 0) : Type 0 where
  pub inner : E
  pub spans : List (Span × List ℕ)

module _ {Z : Type 0} where
  -- a span with the bytes of its text
  abbrev pub context : Span × String Z → Span × List ℕ
  context told = (told.0, string_bytes told.1)

  -- each span with the bytes of its text, in order
  abbrev pub contexts : List (Span × String Z) → List (Span × List ℕ)
  contexts = map context

-- every span of the list is defined
abbrev pub AllDefined : List (Span × List ℕ) → Type 0
AllDefined spans = All (λ told. IsTrue (is_defined told.0)) spans

-- the span of an element with a text of its kind and index, or `undefined` with an empty text if the span is undefined
abbrev pub element_context : List ℕ → Span → ℕ → Span × List ℕ
element_context kind span index =
    if is_defined span then (span, kind ++ codes " " ++ handle_text index) else (undefined, [])

module _ {E : Type 0} where
  -- the error without spans
  abbrev pub bare : E → Spanned E
  bare inner = record { inner = inner; spans = [] }

  -- the error with one more span and its text at the end, or unchanged if that span is undefined
  abbrev pub with_context : Spanned E → Span × List ℕ → Spanned E
  with_context error told =
      if is_defined told.0 then record { inner = error.inner; spans = error.spans ++ told ∷ [] } else error

  -- the first span of the error, or `None` if there is none
  abbrev pub first_span : Spanned E → Option Span
  first_span error = option_map (λ told. told.0) (slice_get error.spans 0)

  -- the error is one that may be returned, with the old spans appended to its own
  pub record Joins (gives : Spanned E → Type 0) (old : List (Span × List ℕ)) (error : Spanned E) : Type 0 where
    pub given : Spanned E
    pub gave : gives given
    pub inner : error.inner ≡ given.inner
    pub spans : error.spans ≡ given.spans ++ old

-- the error is converted from one that may be returned, with the old spans appended to the spans of that one
pub record ConvertsJoined {E F : Type 0} (gives : Spanned E → Type 0) (old : List (Span × List ℕ)) (converts : E → F → Type 0) (error : Spanned F) : Type 0 where
  pub joined : Spanned E
  pub joins : Joins gives old joined
  pub inner : converts joined.inner error.inner
  pub spans : error.spans ≡ joined.spans
