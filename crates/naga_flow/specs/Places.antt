-- Access chains that end in an expression which has its value when the function is entered. Such a chain is a place: it
-- is evaluated where it is used, so that no `Emit` need cover it.
use Rattle.std.specs.Prelude.{ℕ, zero, suc, List, [], ◌∷◌, ◌++◌, Bool, false, Option, Some, None, option_and_then, option_to_list, if◌then◌else◌, nat_lt}
use Rattle.naga_arena.specs.Arena.{value_at}
use Rattle.naga_arena.specs.declared.span.Span.{Span}
use Rattle.naga_ir.specs.Expression.{base_of, needs_pre_emit}
use Rattle.naga_ir.specs.declared.expression.Expression.{Expression}
use Rattle.naga_ir.specs.declared.expression.Expression.TheVariants.{Access}

-- the index of an access, if it is an expression
abbrev pub index_of : Expression → Option ℕ
index_of (Access base index) = Some index
index_of _ = None

abbrev pub ready_in : Option Expression → Bool
ready_in None = false
ready_in (Some expression) = needs_pre_emit expression

abbrev pub if_before : ℕ → Option ℕ → Option ℕ
if_before handle None = None
if_before handle (Some base) = if nat_lt base handle then Some base else None

module _ (arena : List (Expression × Span)) where
  -- the base of an access, if it comes before the access
  abbrev pub base_before : ℕ → Option ℕ
  base_before handle = if_before handle (option_and_then base_of (value_at arena handle))

  -- the expression in which the access chain ends, after at most this many steps from an access to its base
  abbrev pub end_of_chain : (steps : ℕ) → ℕ → ℕ
  end_of_chain zero handle = handle
  end_of_chain (suc steps) handle =
      elim (base_before handle) as (λ _. ℕ) [ None ↦ handle | Some base ↦ end_of_chain steps base ]

  -- the indices of the access chain, from its last access on
  abbrev pub indices_of_chain : (steps : ℕ) → ℕ → List ℕ
  indices_of_chain zero handle = []
  indices_of_chain (suc steps) handle =
      elim (base_before handle) as (λ _. List ℕ) [
        | None ↦ []
        | Some base ↦ option_to_list (option_and_then index_of (value_at arena handle)) ++ indices_of_chain steps base
      ]

  -- what a use of the expression reads: the indices of a place, or else the expression itself
  abbrev pub reads_in : ℕ → List ℕ
  reads_in handle =
      if ready_in (value_at arena (end_of_chain handle handle)) then indices_of_chain handle handle else handle ∷ []
