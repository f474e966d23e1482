-- Calls that respect types. The function that is called begins in a state of its own, with arguments of the types of its
-- parameters, and leaves a state of its caller and a result of the type that it declares.
use Rattle.std.specs.Prelude.{◌≡◌, ◌⊎◌, ℕ, Bool, List, Option, Some, slice_get}
use Rattle.std.specs.List.{AllZip}
use Rattle.naga_arena.specs.Arena.{value_at}
use Rattle.naga_ir.specs.declared.expression.Expression.{Expression}
use Rattle.naga_ir.specs.declared.module.Function as function
use Rattle.naga_ir.specs.declared.module.Module as the_module
use Rattle.naga_valid.specs.declared.reference.Reference.{Reference}
use Rattle.naga_valid.specs.declared.reference.Reference.TheVariants as reference
use Rattle.naga_flow.specs.Bodies.{functions_of_entries}
use Rattle.naga_flow.specs.Readings.{constant_chains_in}
use Rattle.naga_meaning.specs.Calls.{Calls, blank, called}
use Rattle.naga_meaning.specs.Functions.{Meanings, code_of, initials}
use Rattle.naga_meaning.specs.Readings.{Reading, read_by}
use Rattle.naga_meaning.specs.Values.{Outcome, World, entered}
use Rattle.naga_typifier.specs.Context.{context_in}
use Rattle.naga_typifier.specs.Rows.{handle}
use Rattle.naga_typing.specs.Forms.{Form}
use Rattle.naga_typing.specs.TypedFunctions.{signature_in}
use Rattle.naga_typing.specs.TypedExecutions.{FunctionHasTypes, IsChecked, OutcomeHasTypes}
use Rattle.naga_typing.specs.TypedValues.{HasType, RespectsTypesIn}

-- this is a function of the module, or the function of one of its entry points
abbrev pub IsFunctionOf : the_module.Module → function.Function → Type 0
IsFunctionOf whole inside =
    ((called : ℕ) × (value_at whole.functions called ≡ Some inside))
    ⊎ ((position : ℕ) × (slice_get (functions_of_entries whole.entry_points.items) position ≡ Some inside))

-- the function, of which only chosen accesses, by constant indices, are evaluated where they are used
abbrev pub read_narrowly : (chosen : ℕ → Bool) → function.Function → Reading
read_narrowly chosen inside = read_by (constant_chains_in chosen inside.expressions) inside

-- each function that is found is the function of the module with this handle, and passes the checks, read so
abbrev pub FindsChecked : {Thing : Type 0} → (look : Reference → Thing) (find : Thing → Option Reading) →
    the_module.Module → (Accepts : function.Function → Expression → Type 0) → Type 0
FindsChecked look find whole Accepts =
    (called : ℕ) (reading : Reading) → find (look (reference.Function called)) ≡ Some reading →
    (callee : function.Function) × (chosen : ℕ → Bool) × (value_at whole.functions called ≡ Some callee)
    × (reading ≡ read_narrowly chosen callee) × IsChecked whole (Accepts callee) chosen callee

-- the values have the types of the parameters of the function
abbrev pub AreArguments : {Value : Type 0} → (has_type : Value → Form → Type 0) → the_module.Module →
    function.Function → List Value → Type 0
AreArguments has_type whole callee =
    AllZip (λ parameter value. HasType has_type (context_in whole callee) value (handle parameter.ty))
    callee.arguments.items

-- The function leaves this: a state of its own, and a value of the type of its result, if it returns one.
abbrev pub IsLeftBy : {Value State : Type 0} → (has_type : Value → Form → Type 0) → the_module.Module →
    (Invariant : function.Function → State → Type 0) → function.Function → Outcome Value State → Type 0
IsLeftBy has_type whole Invariant callee =
    OutcomeHasTypes has_type (context_in whole callee) (signature_in whole callee) (Invariant callee)

module _ {Thing Value State : Type 0} (look : Reference → Thing) (calls : Calls Thing Value State)
    (by : Meanings Thing Value State) (has_type : Value → Form → Type 0) (whole : the_module.Module)
    (Invariant : function.Function → State → Type 0) where
  -- How calls begin and end, so that values have types in all functions of a module. `Invariant` holds of the states in
  -- which the body of a function may be.
  pub record CallsRespectTypes : Type 0 where
    -- a call begins in a state of the function that is called, when the local variables have their initial values
    pub begins : (caller : function.Function) → IsFunctionOf whole caller → (state : State) → Invariant caller state →
        (called : ℕ) (callee : function.Function) → value_at whole.functions called ≡ Some callee →
        (values : List Value) → AreArguments has_type whole callee values → (at_use : ℕ → Bool) →
        Invariant callee
        (entered by (code_of look at_use callee.expressions) (initials callee.local_variables)
        (blank (calls.begin (look (reference.Function called)) values state))).state
    -- it ends in a state of the caller
    pub finishes : (caller : function.Function) → IsFunctionOf whole caller → (state : State) → Invariant caller state →
        (called : ℕ) (callee : function.Function) → value_at whole.functions called ≡ Some callee →
        (left : Outcome Value State) → IsLeftBy has_type whole Invariant callee left →
        Invariant caller (calls.finish left state).0
    -- its result has the type that the function declares, also if no value is returned, as where the function is killed
    pub results : (caller : function.Function) → IsFunctionOf whole caller → (state : State) → Invariant caller state →
        (called : ℕ) (callee : function.Function) → value_at whole.functions called ≡ Some callee →
        (left : Outcome Value State) → IsLeftBy has_type whole Invariant callee left →
        (ty : ℕ) → (signature_in whole callee).result ≡ Some ty →
        HasType has_type (context_in whole callee) (calls.finish left state).1 (handle ty)

-- Where calls respect types, and so does an interpretation in each function of a module, so does the interpretation in
-- which calls have the meanings of the functions that are called, down to any depth.
abbrev pub CalledRespectsTypes : (Thing Value State : Type 0) → (has_type : Value → Form → Type 0) →
    (Accepts : function.Function → Expression → Type 0) → (Invariant : function.Function → State → Type 0) → Type 0
CalledRespectsTypes Thing Value State has_type Accepts Invariant =
    (whole : the_module.Module) (look : Reference → Thing) (find : Thing → Option Reading) →
    FindsChecked look find whole Accepts → (by : Meanings Thing Value State) →
    ((inside : function.Function) → IsFunctionOf whole inside →
    RespectsTypesIn look by has_type whole inside (Accepts inside) (Invariant inside)) →
    (calls : Calls Thing Value State) → CallsRespectTypes look calls by has_type whole Invariant →
    (turns depth : ℕ) (inside : function.Function) → IsFunctionOf whole inside →
    RespectsTypesIn look (called look find calls by turns depth) has_type whole inside (Accepts inside)
    (Invariant inside)

-- Where calls have the meanings of the functions that are called, down to any depth, each value that is computed in a
-- function of the module that passes the checks has the type of its expression.
abbrev pub CalledValuesHaveTypes : (Thing Value State : Type 0) → (has_type : Value → Form → Type 0) →
    (Accepts : function.Function → Expression → Type 0) → (Invariant : function.Function → State → Type 0) → Type 0
CalledValuesHaveTypes Thing Value State has_type Accepts Invariant =
    (whole : the_module.Module) (look : Reference → Thing) (find : Thing → Option Reading) →
    FindsChecked look find whole Accepts → (by : Meanings Thing Value State) →
    ((inside : function.Function) → IsFunctionOf whole inside →
    RespectsTypesIn look by has_type whole inside (Accepts inside) (Invariant inside)) →
    (calls : Calls Thing Value State) → CallsRespectTypes look calls by has_type whole Invariant →
    (inside : function.Function) → IsFunctionOf whole inside →
    (chosen : ℕ → Bool) → IsChecked whole (Accepts inside) chosen inside →
    (turns depth : ℕ) (start : World Value State) → Invariant inside start.state →
    FunctionHasTypes look (called look find calls by turns depth) has_type whole (Invariant inside) chosen inside turns
    start
