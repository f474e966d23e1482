-- What a use of each expression reads, where access chains are read.
use Rattle.std.specs.Prelude.{◌≡◌, ◌<◌, ◌≤◌, ℕ, List, [], ◌∷◌, true, false, Option, Some, None, length, slice_index_or, if◌then◌else◌}
use Rattle.naga_arena.specs.Arena.{value_at}
use Rattle.naga_arena.specs.declared.span.Span.{Span}
use Rattle.naga_ir.specs.declared.expression.Expression.{Expression}
use Rattle.naga_flow.specs.Places.{end_of_chain, indices_of_chain, ready_in}
use Rattle.naga_flow.specs.declared.chains.Indexed.{Indexed}
use Rattle.naga_flow.specs.declared.chains.Link.{Link}
use Rattle.naga_flow.specs.declared.chains.Link.TheVariants.{Value, Place}

-- the link of an expression, which is a value if there is none
abbrev pub link_at : List Link → ℕ → Link
link_at links handle = slice_index_or links handle Value

module _ (arena : List (Expression × Span)) where
  -- those of the expressions that are not ready when the function is entered
  abbrev pub unready : List ℕ → List ℕ
  unready [] = []
  unready (handle ∷ rest) = if ready_in (value_at arena handle) then unready rest else handle ∷ unready rest

  -- the access chain ends in a ready expression
  abbrev pub EndsReady : ℕ → Type 0
  EndsReady handle = ready_in (value_at arena (end_of_chain arena handle handle)) ≡ true

  -- the indices of a chain that are not ready, from this one on
  abbrev pub indices_from : Option Indexed → List ℕ
  indices_from None = []
  indices_from (Some first) = first.index ∷ unready (indices_of_chain arena first.base first.base)

  -- these are the index and the base of the first access of the chain whose index is not ready
  pub record IsIndexed (handle : ℕ) (first : Indexed) : Type 0 where
    pub before : first.base < handle
    pub ends : EndsReady first.base
    pub indices : unready (indices_of_chain arena handle handle) ≡ indices_from (Some first)

  -- this is the first index of the chain that is not ready, or there is none
  abbrev pub IsPlace : ℕ → Option Indexed → Type 0
  IsPlace handle None = unready (indices_of_chain arena handle handle) ≡ []
  IsPlace handle (Some first) = IsIndexed handle first

  -- this is what a use of the expression reads
  abbrev pub IsLink : ℕ → Link → Type 0
  IsLink handle Value = ready_in (value_at arena (end_of_chain arena handle handle)) ≡ false
  IsLink handle (Place first) = EndsReady handle × IsPlace handle first

  -- each of these links is that of the expression at its position
  pub record AreLinks (links : List Link) : Type 0 where
    pub each : (handle : ℕ) → handle < length links → IsLink handle (link_at links handle)

  -- so is each of these, and there is no expression after them
  pub record AreChains (links : List Link) : Type 0 where
    pub are_links : AreLinks links
    pub all : (handle : ℕ) → length links ≤ handle → value_at arena handle ≡ None
