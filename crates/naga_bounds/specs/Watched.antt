-- Executions that access only elements that are there: the machine of a body that notes whether each access so far was in
-- bounds.
--
-- An access that is evaluated where it is used is one by a constant index below a fixed length, so nothing is noted there.
-- Nor are the initial values of local variables watched.
use Rattle.std.specs.Prelude.{◌≡◌, ℕ, Bool, true, false, ◌&&◌, List, [], ◌∷◌, Option, Some, None, nat_lt}
use Rattle.naga_ir.specs.Tree.{Tree}
use Rattle.naga_valid.specs.declared.reference.Reference.{Reference}
use Rattle.naga_flow.specs.Results.{emitted_by}
use Rattle.naga_meaning.specs.Forms.{ExpressionForm}
use Rattle.naga_meaning.specs.Functions.{Meanings, code_of, parts}
use Rattle.naga_meaning.specs.Machine.{Machine, does}
use Rattle.naga_meaning.specs.Values.{Code, World, act, emit, emitted_value, ends, put, value}
use Rattle.naga_typifier.specs.Rows.{◌>>=◌}
use Rattle.naga_bounds.specs.Reach.{Reach, Typed, at_use, expression_at, length_at, reach_of}
use Rattle.naga_bounds.specs.Respects.{array_length, override_value}
use Rattle.naga_bounds.specs.declared.cause.Position.{Position}
use Rattle.naga_bounds.specs.declared.cause.Position.TheVariants.{Constant, Computed}
use Rattle.naga_bounds.specs.declared.length.Length.{Length}
use Rattle.naga_bounds.specs.declared.length.Length.TheVariants.{Fixed, Overridden, Counted}

-- the first number is below the second, and both are there
abbrev pub is_below : Option ℕ → Option ℕ → Bool
is_below (Some position) (Some count) = nat_lt position count
is_below _ _ = false

module _ {Thing Value State : Type 0} (look : Reference → Thing) (by : Meanings Thing Value State)
    (number : Value → Option ℕ) (typed : Typed) where
  -- the expressions of the function, where each access that may be out of bounds has the value of its `Emit`
  abbrev pub code : Code (Option (ExpressionForm × List (Option Thing)))
  code = code_of look (at_use typed) typed.arena

  -- how many elements there are at a base with this value
  abbrev pub count : Length → (base : Value) → State → Option ℕ
  count (Fixed n) base state = Some n
  count (Overridden handle) base state = number (override_value look by handle state)
  count Counted base state = number (array_length look by base state)

  -- how many elements there are at this base, if its length is known
  abbrev pub count_at : World Value State → (base : ℕ) → Option Length → Option ℕ
  count_at world base None = None
  count_at world base (Some long) = count long (value by code world base) world.state

  -- the number of a position
  abbrev pub position : World Value State → Position → Option ℕ
  position world (Computed index) = number (value by code world index)
  position world (Constant index) = Some index

  -- there is an element at each of these positions
  abbrev pub are_below : World Value State → Option ℕ → List Position → Bool
  are_below world long [] = true
  are_below world long (each ∷ rest) = is_below (position world each) long && are_below world long rest

  -- all that is accessed, if something is, is there
  abbrev pub is_there : World Value State → Option Reach → Bool
  is_there world None = true
  is_there world (Some reach) = are_below world (count_at world reach.base (length_at typed reach.base)) reach.positions

  -- if the expression is an access, each of its elements is one of its base
  abbrev pub is_in_bounds : World Value State → ℕ → Bool
  is_in_bounds world handle = is_there world (expression_at typed handle >>= reach_of)

  -- each of these expressions is in bounds when it is evaluated, one after another
  abbrev pub are_in_bounds : List ℕ → World Value State → Bool
  are_in_bounds [] world = true
  are_in_bounds (handle ∷ rest) world =
      is_in_bounds world handle && are_in_bounds rest (put handle (emitted_value by code world handle) world)

  -- the machine of a body, with a note of whether each access so far was in bounds
  abbrev pub watched : Machine (World Value State × Bool)
  watched = record {
    perform = λ what noted. (
      act (parts look) by code what (emit by code (emitted_by what) noted.0),
      noted.1 && are_in_bounds (emitted_by what) noted.0,
    );
    stop = λ what noted. ends (parts look) by code what (emit by code (emitted_by what) noted.0);
    answer = λ handle noted. by.decide (value by code noted.0 handle);
    choice = λ handle values noted. by.choose (value by code noted.0 handle) values;
  }

  -- each access of the execution is in bounds
  abbrev pub StaysInBounds : (turns : ℕ) → Tree → World Value State → Type 0
  StaysInBounds turns body start = (does watched turns body (start, true)).state.1 ≡ true
