-- A function whose accesses fit accesses only elements that are there.
use Rattle.std.specs.Prelude.{◌≡◌, ℕ, Bool, [], Option, Some}
use Rattle.naga_ir.specs.View.{tree_of}
use Rattle.naga_ir.specs.declared.module.Function as function
use Rattle.naga_ir.specs.declared.module.Module as the_module
use Rattle.naga_valid.specs.declared.reference.Reference.{Reference}
use Rattle.naga_flow.specs.Readings.{emitted_in}
use Rattle.naga_flow.specs.Uses.{UsesKnown}
use Rattle.naga_compact.specs.Operands.{OperandsPrecede}
use Rattle.naga_meaning.specs.Functions.{Meanings, code_of, initials}
use Rattle.naga_meaning.specs.Values.{World, entered}
use Rattle.naga_bounds.specs.Modules.{AccessesFitIn, typed_in}
use Rattle.naga_bounds.specs.Reach.{Typed, at_use, is_fixed_access, length_at}
use Rattle.naga_bounds.specs.Respects.{HasElements, LengthsStay, RespectsIndices}
use Rattle.naga_bounds.specs.Watched.{StaysInBounds}
use Rattle.naga_bounds.specs.declared.length.Length.TheVariants.{Overridden}

-- the override is the size of an array that the function accesses
abbrev pub IsSizeIn : Typed → ℕ → Type 0
IsSizeIn code handle = (base : ℕ) × (length_at code base ≡ Some (Overridden handle))

-- In a function whose accesses fit, and whose uses are of what an `Emit` has evaluated, except for accesses by constant
-- indices below fixed lengths, each access is in bounds: for each interpretation that respects indices, in which arrays
-- have elements and keep their lengths, from each start, for each bound of turns.
abbrev pub FittingStaysInBounds : (Thing Value State : Type 0) → Type 0
FittingStaysInBounds Thing Value State =
    (whole : the_module.Module) (inside : function.Function) → AccessesFitIn whole inside →
    OperandsPrecede inside.expressions →
    (fixed : ℕ → Bool) → ((handle : ℕ) → fixed handle ≡ is_fixed_access (typed_in whole inside) handle) →
    UsesKnown (emitted_in fixed inside.expressions) [] (tree_of inside.body) →
    (look : Reference → Thing) (by : Meanings Thing Value State) (number unsigned_number : Value → Option ℕ) →
    RespectsIndices look by number unsigned_number → HasElements look by number (IsSizeIn (typed_in whole inside)) →
    LengthsStay look by number →
    (turns : ℕ) (start : World Value State) →
    StaysInBounds look by number (typed_in whole inside) turns (tree_of inside.body)
    (entered by (code_of look (at_use (typed_in whole inside)) inside.expressions) (initials inside.local_variables) start)
