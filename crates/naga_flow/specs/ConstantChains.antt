-- The set of all chains of chosen accesses by constant indices that end in an expression which is ready when the
-- function is entered.
use Rattle.std.specs.Prelude.{◌≡◌, ◌<◌, ◌≤◌, ℕ, Bool, false, List, IfSome, if◌then◌else◌}
use Rattle.std.specs.FinSet as set
use Rattle.naga_arena.specs.declared.span.Span.{Span}
use Rattle.naga_ir.specs.declared.expression.Expression.{Expression}
use Rattle.naga_sets.specs.HandleSet.{BoundedSet, with_member}
use Rattle.naga_flow.specs.Readings.{chosen_base, constant_chains_in}

-- the set, with one more member if it is one
abbrev pub with_if : (is_member : Bool) → BoundedSet → ℕ → BoundedSet
with_if is_member members handle = if is_member then with_member members handle else members

module _ (chosen : ℕ → Bool) (arena : List (Expression × Span)) where
  -- the expression comes after its base, or is no chosen access by a constant index
  abbrev pub BasePrecedes : ℕ → Type 0
  BasePrecedes handle = IfSome (chosen_base chosen arena handle) (λ base. base < handle)

  -- so is each of the first expressions
  abbrev pub BasesPrecede : (count : ℕ) → Type 0
  BasesPrecede count = (handle : ℕ) → handle < count → BasePrecedes handle

  -- of the first expressions, the set has the chains, and it has no others
  pub record AreChainsBefore (count : ℕ) (found : BoundedSet) : Type 0 where
    pub chains : (handle : ℕ) → handle < count → set.contains found.members handle ≡ constant_chains_in chosen arena handle
    pub no_others : (handle : ℕ) → count ≤ handle → set.contains found.members handle ≡ false

  -- the set has the chains
  abbrev pub AreConstantChains : BoundedSet → Type 0
  AreConstantChains chains = (handle : ℕ) → set.contains chains.members handle ≡ constant_chains_in chosen arena handle
