-- What an interpretation must respect, so that an index whose form shows a bound is below it: a few facts of unsigned
-- numbers, that there are elements, and that arrays keep their lengths.
use Rattle.std.specs.Prelude.{◌≡◌, ⊤, ◌<◌, ◌≤◌, ℕ, suc, true, List, [], ◌∷◌, Option, Some, None, Ok}
use Rattle.naga_arena.specs.Limits.{max_len}
use Rattle.naga_kinds.specs.declared.math.MathFunction.TheVariants.{Clamp, Min}
use Rattle.naga_kinds.specs.declared.operator.BinaryOperator.TheVariants.{And, Modulo, Subtract}
use Rattle.naga_kinds.specs.declared.scalar.ScalarKind.TheVariants.{Uint}
use Rattle.naga_ir.specs.Expression.{needs_pre_emit}
use Rattle.naga_ir.specs.Literal.{u32_of}
use Rattle.naga_ir.specs.declared.expression.Expression.{Expression}
use Rattle.naga_ir.specs.declared.expression.Expression.TheVariants as expr
use Rattle.naga_ir.specs.declared.literal.Literal as literal
use Rattle.naga_ir.specs.declared.literal.Literal.TheVariants.{U32}
use Rattle.naga_valid.specs.declared.reference.Reference.{Reference}
use Rattle.naga_meaning.specs.Forms.{StatementForm}
use Rattle.naga_meaning.specs.Functions.{Meanings, shape_of}

-- the expression is ready when the function is entered, or an access by a constant index
abbrev pub IsSteady : Expression → Type 0
IsSteady (expr.AccessIndex base index) = ⊤
IsSteady expression = needs_pre_emit expression ≡ true

-- the value is read as a number that is at most this one
abbrev pub IsAtMost : {Value : Type 0} → (number : Value → Option ℕ) → ℕ → Value → Type 0
IsAtMost number n value = (m : ℕ) × (m ≤ n) × (number value ≡ Some m)

module _ {Thing Value State : Type 0} (look : Reference → Thing) (by : Meanings Thing Value State) where
  -- what the operator of this expression gives for operands with these values, whatever their handles
  abbrev pub applied : Expression → List Value → State → Value
  applied operator values state = by.compute (Some (shape_of look operator)) values state

  -- the value of a literal
  abbrev pub literal_value : literal.Literal → State → Value
  literal_value written = applied (expr.Literal written) []

  -- the minimum of two values
  abbrev pub least : (value limit : Value) → State → Value
  least value limit = applied (expr.Math Min 0 (Some 0) None None) (value ∷ limit ∷ [])

  -- the value that is clamped between two limits
  abbrev pub confined : (value low high : Value) → State → Value
  confined value low high = applied (expr.Math Clamp 0 (Some 0) (Some 0) None) (value ∷ low ∷ high ∷ [])

  -- the bits that two values have in common
  abbrev pub common : (left right : Value) → State → Value
  common left right = applied (expr.Binary And 0 0) (left ∷ right ∷ [])

  -- the remainder of a division
  abbrev pub remainder : (left right : Value) → State → Value
  remainder left right = applied (expr.Binary Modulo 0 0) (left ∷ right ∷ [])

  -- the difference of two values
  abbrev pub difference : (left right : Value) → State → Value
  difference left right = applied (expr.Binary Subtract 0 0) (left ∷ right ∷ [])

  -- the value, converted to the type `u32`
  abbrev pub unsigned : Value → State → Value
  unsigned value = applied (expr.As 0 Uint (Some 4)) (value ∷ [])

  -- the element of a value at a computed index
  abbrev pub element : (base index : Value) → State → Value
  element base index = applied (expr.Access 0 0) (base ∷ index ∷ [])

  -- the element of a value at a constant index
  abbrev pub element_at : (base : Value) → (index : ℕ) → State → Value
  element_at base index = applied (expr.AccessIndex 0 index) (base ∷ [])

  -- the length of the array to which this value points
  abbrev pub array_length : (array : Value) → State → Value
  array_length array = applied (expr.ArrayLength 0) (array ∷ [])

  -- the value of an override
  abbrev pub override_value : (handle : ℕ) → State → Value
  override_value handle = applied (expr.Override handle) []

  -- `number` reads a value of an integer type as an index, and `unsigned_number` one of type `u32`. Each is `None` for a
  -- negative number, and for all that is not of such a type. What an operator gives for operands of types that it does
  -- not take is left open, except that a minimum, a conjunction, a remainder or a difference with an operand of type `u32`,
  -- which is the second one of the last two, is a number, too, and so is what is clamped between two such numbers.
  pub record RespectsIndices (number unsigned_number : Value → Option ℕ) : Type 0 where
    -- a literal is read as its number
    pub literals : (written : literal.Literal) (n : ℕ) (state : State) → u32_of written ≡ Ok n →
        number (literal_value written state) ≡ Some n
    -- so is one of type `u32`
    pub unsigned_literals : (n : ℕ) (state : State) → unsigned_number (literal_value (U32 n) state) ≡ Some n
    -- a minimum with a number of type `u32` is at most this number
    pub bounded : (value limit : Value) (n : ℕ) (state : State) → unsigned_number limit ≡ Some n →
        IsAtMost number n (least value limit state) × IsAtMost number n (least limit value state)
    -- so are the bits that a value has in common with such a number
    pub masked : (value mask : Value) (n : ℕ) (state : State) → unsigned_number mask ≡ Some n →
        IsAtMost number n (common value mask state) × IsAtMost number n (common mask value state)
    -- a value that is clamped between two such numbers is at most the upper one, if that is not less than the lower one
    pub clamped : (value low high : Value) (m n : ℕ) (state : State) → unsigned_number low ≡ Some m →
        unsigned_number high ≡ Some n → m ≤ n → IsAtMost number n (confined value low high state)
    -- a remainder is below the divisor, if that is positive and of type `u32`
    pub remainders : (left right : Value) (n : ℕ) (state : State) → unsigned_number right ≡ Some (suc n) →
        IsAtMost number n (remainder left right state)
    -- the length of an array is of type `u32`
    pub unsigned_lengths : (array : Value) (state : State) →
        unsigned_number (array_length array state) ≡ number (array_length array state)
    -- a positive number less one of type `u32` is the number before it, of this type
    pub lessened : (left right : Value) (n : ℕ) (state : State) → number left ≡ Some (suc n) →
        unsigned_number right ≡ Some 1 → unsigned_number (difference left right state) ≡ Some n

  -- What an interpretation must respect besides, so that clamping an index that is in bounds changes nothing.
  pub record RespectsClamps (number unsigned_number : Value → Option ℕ) : Type 0 where
    -- the minimum of a number and one of type `u32` that is not less is the first number
    pub minima : (value limit : Value) (m n : ℕ) (state : State) → number value ≡ Some m →
        unsigned_number limit ≡ Some n → m ≤ n → number (least value limit state) ≡ Some m
    -- a number that fits into 32 bits is the same number of type `u32`
    pub converted : (value : Value) (n : ℕ) (state : State) → number value ≡ Some n → n ≤ max_len →
        number (unsigned value state) ≡ Some n
    -- which element a computed index chooses depends only on its number
    pub elements : (base index other : Value) (n : ℕ) (state : State) → number index ≡ Some n →
        number other ≡ Some n → element base index state ≡ element base other state
    -- it is the element that the number chooses as a constant index, below the length of an array in a buffer
    pub counted_elements : (base index : Value) (n count : ℕ) (state : State) → number index ≡ Some n →
        number (array_length base state) ≡ Some count → n < count → element base index state ≡ element_at base n state
    -- the same below an override, which may be the size of an array
    pub overridden_elements : (base index : Value) (handle n count : ℕ) (state : State) → number index ≡ Some n →
        number (override_value handle state) ≡ Some count → n < count → element base index state ≡ element_at base n state

  -- the last index of an array in a buffer, and of one whose size is one of these overrides, fits into 32 bits
  pub record HaveShortLengths (number : Value → Option ℕ) (IsSize : ℕ → Type 0) : Type 0 where
    pub counted : (array : Value) (n : ℕ) (state : State) → number (array_length array state) ≡ Some (suc n) → n ≤ max_len
    pub overridden : (handle n : ℕ) (state : State) → IsSize handle → number (override_value handle state) ≡ Some (suc n) →
        n ≤ max_len

  -- Arrays in buffers, and arrays whose size is one of these overrides, have an element. WebGPU sees to this when buffers
  -- are bound and pipelines are created.
  pub record HasElements (number : Value → Option ℕ) (IsSize : ℕ → Type 0) : Type 0 where
    pub counted : (array : Value) (state : State) → (n : ℕ) × (number (array_length array state) ≡ Some (suc n))
    pub overridden : (handle : ℕ) (state : State) → IsSize handle →
        (n : ℕ) × (number (override_value handle state) ≡ Some (suc n))

  -- no statement changes how long arrays are, or what is ready when the function is entered, or what an access by a
  -- constant index gives
  pub record LengthsStay (number : Value → Option ℕ) : Type 0 where
    pub array_lengths : (action : StatementForm × List (Option Thing)) (values : List Value) (array : Value)
        (state : State) → number (array_length array (by.perform action values state).0) ≡ number (array_length array state)
    pub ready : (action : StatementForm × List (Option Thing)) (values : List Value) (operator : Expression)
        (operands : List Value) (state : State) → IsSteady operator →
        applied operator operands (by.perform action values state).0 ≡ applied operator operands state
