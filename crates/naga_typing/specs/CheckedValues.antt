-- The values that the functions of a module compute, if the module passes the checks of handles, of types and of uses.
--
-- Which expressions an interpretation must respect is not up to it here: those whose operands are as the check of types
-- requires. So it need not say what an operator gives for operands that the check rejects.
use Rattle.std.specs.Prelude.{◌≡◌, ℕ, Bool, [], Option, Some}
use Rattle.naga_arena.specs.Arena.{value_at}
use Rattle.naga_ir.specs.View.{tree_of}
use Rattle.naga_ir.specs.declared.expression.Expression.{Expression}
use Rattle.naga_ir.specs.declared.module.Function as function
use Rattle.naga_ir.specs.declared.module.Module as the_module
use Rattle.naga_valid.specs.Valid.{HandlesAreValid}
use Rattle.naga_valid.specs.declared.reference.Reference.{Reference}
use Rattle.naga_valid.specs.declared.reference.Reference.TheVariants as reference
use Rattle.naga_flow.specs.Readings.{emitted_in}
use Rattle.naga_flow.specs.Scopes.{BlockPasses}
use Rattle.naga_meaning.specs.Calls.{Calls, called}
use Rattle.naga_meaning.specs.Functions.{Meanings}
use Rattle.naga_meaning.specs.Readings.{Reading}
use Rattle.naga_meaning.specs.Values.{World}
use Rattle.naga_typing.specs.Expressions.{ExpressionFits}
use Rattle.naga_typing.specs.Forms.{Form}
use Rattle.naga_typing.specs.TypedCalls.{CallsRespectTypes, IsFunctionOf, read_narrowly}
use Rattle.naga_typing.specs.TypedExecutions.{FunctionHasTypes}
use Rattle.naga_typing.specs.TypedModules.{FitsInside, ModuleIsTyped}
use Rattle.naga_typing.specs.TypedValues.{RespectsTypesIn}

-- the operands of the expression are as the check of types requires in this function of the module
abbrev pub MeetsRequirements : the_module.Module → function.Function → Expression → Type 0
MeetsRequirements whole inside = ExpressionFits (FitsInside whole inside)

-- what the function uses has been evaluated, and nothing is evaluated again in its scope, as the check of uses has it
-- where only chosen accesses by constant indices are evaluated where they are used
abbrev pub PassesUses : (chosen : ℕ → Bool) → function.Function → Type 0
PassesUses chosen inside = BlockPasses (emitted_in chosen inside.expressions) [] [] (tree_of inside.body)

-- each function that is found is the function of the module with this handle, and passes the check of uses, read so
abbrev pub FindsFunctions : {Thing : Type 0} → (look : Reference → Thing) (find : Thing → Option Reading) →
    the_module.Module → Type 0
FindsFunctions look find whole =
    (called : ℕ) (reading : Reading) → find (look (reference.Function called)) ≡ Some reading →
    (callee : function.Function) × (chosen : ℕ → Bool) × (value_at whole.functions called ≡ Some callee)
    × (reading ≡ read_narrowly chosen callee) × PassesUses chosen callee

-- the interpretation respects the types of each function of the module, for expressions that meet their requirements
abbrev pub RespectsTypesOf : {Thing Value State : Type 0} → (look : Reference → Thing) → Meanings Thing Value State →
    (has_type : Value → Form → Type 0) → the_module.Module → (Invariant : function.Function → State → Type 0) → Type 0
RespectsTypesOf look by has_type whole Invariant =
    (inside : function.Function) → IsFunctionOf whole inside →
    RespectsTypesIn look by has_type whole inside (MeetsRequirements whole inside) (Invariant inside)

-- In a module that passes the checks of handles and of types, each value that is computed in a function that passes the
-- check of uses has the type of its expression, where calls have the meanings of the functions that are called, down to
-- any depth.
abbrev pub CheckedValuesHaveTypes : (Thing Value State : Type 0) → (has_type : Value → Form → Type 0) →
    (Invariant : function.Function → State → Type 0) → Type 0
CheckedValuesHaveTypes Thing Value State has_type Invariant =
    (whole : the_module.Module) → HandlesAreValid whole → ModuleIsTyped whole →
    (look : Reference → Thing) (find : Thing → Option Reading) → FindsFunctions look find whole →
    (by : Meanings Thing Value State) → RespectsTypesOf look by has_type whole Invariant →
    (calls : Calls Thing Value State) → CallsRespectTypes look calls by has_type whole Invariant →
    (inside : function.Function) → IsFunctionOf whole inside → (chosen : ℕ → Bool) → PassesUses chosen inside →
    (turns depth : ℕ) (start : World Value State) → Invariant inside start.state →
    FunctionHasTypes look (called look find calls by turns depth) has_type whole (Invariant inside) chosen inside turns
    start
