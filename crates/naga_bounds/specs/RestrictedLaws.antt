-- What a function whose accesses were clamped promises: each access fits, jumps and uses pass their checks as before, and an
-- execution that was in bounds has the outcome that it had.
use Rattle.std.specs.Prelude.{◌≡◌, ◌<◌, ℕ, Bool, length, List, None, Option, nat_lt, slice_get}
use Rattle.std.specs.List.{Contains}
use Rattle.naga_ir.specs.View.{tree_of}
use Rattle.naga_ir.specs.declared.module.Function as function
use Rattle.naga_ir.specs.declared.module.Module as the_module
use Rattle.naga_valid.specs.Functions.{FunctionIsWithin}
use Rattle.naga_valid.specs.Places.{lengths}
use Rattle.naga_valid.specs.Valid.{HandlesAreValid}
use Rattle.naga_valid.specs.declared.reference.Reference.{Reference}
use Rattle.naga_flow.specs.Structured.{jumps_are_structured}
use Rattle.naga_compact.specs.Functions.{initial_values}
use Rattle.naga_compact.specs.Operands.{IsReached, OperandsPrecede}
use Rattle.naga_meaning.specs.Functions.{HandlesAreInside, Meanings, code_of, initials, meaning}
use Rattle.naga_meaning.specs.Readings.{read_by}
use Rattle.naga_meaning.specs.Renaming.{SameKept}
use Rattle.naga_meaning.specs.Values.{World, entered}
use Rattle.naga_typing.specs.TypedModules.{FunctionIsTyped, ModuleIsTyped}
use Rattle.naga_bounds.specs.Fits.{misfit}
use Rattle.naga_bounds.specs.Laws.{IsSizeIn}
use Rattle.naga_bounds.specs.Modules.{AccessesFitIn, typed_in}
use Rattle.naga_bounds.specs.Reach.{Typed, at_use}
use Rattle.naga_bounds.specs.Respects.{HasElements, HaveShortLengths, LengthsStay, RespectsClamps, RespectsIndices}
use Rattle.naga_bounds.specs.Restricted.{IsClamped, new_of}
use Rattle.naga_bounds.specs.RestrictedModules.{IsEmitted, IsTyped, RestrictsIn, RestrictsModule, counts_in}
use Rattle.naga_bounds.specs.Watched.{StaysInBounds}
use Rattle.naga_bounds.specs.declared.change.Change.{Change}

-- each expression has at its new handle the type that it had at its old one
abbrev pub KeepsTypes : List Change → (old new : Typed) → Type 0
KeepsTypes changes old new =
    (handle : ℕ) → handle < length old.arena → slice_get new.known (new_of changes handle) ≡ slice_get old.known handle

-- After the accesses of a function were clamped, each of its expressions has a type, and those that it had before have the
-- types that they had.
abbrev pub RestrictingKeepsTypes : Type 0
RestrictingKeepsTypes =
    (whole : the_module.Module) (old new : function.Function) → OperandsPrecede old.expressions → IsTyped whole old →
    (clamped : IsClamped (counts_in whole) (typed_in whole old) old new) →
    IsTyped whole new × KeepsTypes clamped.changes (typed_in whole old) (typed_in whole new)

-- A function that passes the check of types still passes it after its accesses were clamped: what is inserted has operands
-- as it requires, and so has each expression that takes it.
abbrev pub RestrictedIsTyped : Type 0
RestrictedIsTyped =
    (whole : the_module.Module) (old new : function.Function) → HandlesAreInside old → FunctionIsTyped whole old →
    IsClamped (counts_in whole) (typed_in whole old) old new → FunctionIsTyped whole new

-- A module with valid handles that passes the check of types still passes it after it was restricted.
abbrev pub RestrictedModuleIsTyped : Type 0
RestrictedModuleIsTyped =
    (old new : the_module.Module) → HandlesAreValid old → RestrictsModule old new → ModuleIsTyped old → ModuleIsTyped new

-- Each access of a function whose accesses were clamped fits: those that fitted before still do, and each other one has a
-- minimum as its index.
abbrev pub RestrictedFits : Type 0
RestrictedFits =
    (whole : the_module.Module) (old new : function.Function) → OperandsPrecede old.expressions → IsTyped whole old →
    IsClamped (counts_in whole) (typed_in whole old) old new → AccessesFitIn whole new

-- each expression of a function whose accesses were clamped refers only to earlier ones, if that was so before
abbrev pub RestrictedOperandsPrecede : Type 0
RestrictedOperandsPrecede =
    (whole : the_module.Module) (old new : function.Function) → OperandsPrecede old.expressions →
    IsClamped (counts_in whole) (typed_in whole old) old new → OperandsPrecede new.expressions

-- the handles of a function whose accesses were clamped are valid if they were before
abbrev pub RestrictedIsWithin : Type 0
RestrictedIsWithin =
    (whole : the_module.Module) (old new : function.Function) (functions : ℕ) → OperandsPrecede old.expressions →
    IsClamped (counts_in whole) (typed_in whole old) old new →
    FunctionIsWithin (record (lengths whole) { functions = functions }) old →
    FunctionIsWithin (record (lengths whole) { functions = functions }) new

-- clamping changes no jump, so each jump is allowed where it is if it was before
abbrev pub RestrictingKeepsJumps : Type 0
RestrictingKeepsJumps =
    (counts : ℕ → Bool) (code : Typed) (old new : function.Function) → IsClamped counts code old new →
    jumps_are_structured (tree_of new.body) ≡ jumps_are_structured (tree_of old.body)

-- Whatever the function uses is evaluated before, and nothing again in its scope, after its accesses were clamped too: what
-- is inserted is in the `Emit` of its access.
abbrev pub RestrictingKeepsUses : Type 0
RestrictingKeepsUses =
    (whole : the_module.Module) (old new : function.Function) (functions : ℕ) →
    FunctionIsWithin (record (lengths whole) { functions = functions }) old → OperandsPrecede old.expressions →
    IsTyped whole old → IsClamped (counts_in whole) (typed_in whole old) old new → IsEmitted whole old → IsEmitted whole new

-- A function that was restricted passes both checks again, and restricting it again changes nothing.
abbrev pub RestrictingTwice : Type 0
RestrictingTwice =
    (whole : the_module.Module) (old new : function.Function) (functions : ℕ) →
    FunctionIsWithin (record (lengths whole) { functions = functions }) old → OperandsPrecede old.expressions →
    RestrictsIn whole old new →
    RestrictsIn whole new new × ((again : function.Function) → RestrictsIn whole new again → again ≡ new)

-- In a function that was restricted, each access is in bounds: for each interpretation that respects indices, in which
-- arrays have elements and keep their lengths, from each start, for each bound of turns.
abbrev pub RestrictedStaysInBounds : (Thing Value State : Type 0) → Type 0
RestrictedStaysInBounds Thing Value State =
    (whole : the_module.Module) (old new : function.Function) (functions : ℕ) →
    FunctionIsWithin (record (lengths whole) { functions = functions }) old → OperandsPrecede old.expressions →
    RestrictsIn whole old new →
    (look : Reference → Thing) (by : Meanings Thing Value State) (number unsigned_number : Value → Option ℕ) →
    RespectsIndices look by number unsigned_number → HasElements look by number (IsSizeIn (typed_in whole new)) →
    LengthsStay look by number →
    (turns : ℕ) (start : World Value State) →
    StaysInBounds look by number (typed_in whole new) turns (tree_of new.body)
    (entered by (code_of look (at_use (typed_in whole new)) new.expressions) (initials new.local_variables) start)

-- the accesses that the initial values of local variables need fit
abbrev pub InitialValuesFit : the_module.Module → function.Function → Type 0
InitialValuesFit whole inside =
    (handle : ℕ) → IsReached inside.expressions (Contains (initial_values inside.local_variables)) handle →
    misfit (typed_in whole inside) handle ≡ None

-- the state is the same, and each expression has at its new handle the value that it has at its old one
abbrev pub AreSameAt : {Value State : Type 0} → List Change → function.Function → (old new : World Value State) → Type 0
AreSameAt changes inside = SameKept (λ handle. nat_lt handle (length inside.expressions)) (new_of changes)

-- An execution that accessed only elements that are there has the same outcome after the accesses were clamped: for each
-- interpretation that respects indices and clamps, in which arrays have elements and are not too long, from each start,
-- for each bound of turns.
abbrev pub RestrictingKeepsOutcomes : (Thing Value State : Type 0) → Type 0
RestrictingKeepsOutcomes Thing Value State =
    (whole : the_module.Module) (old new : function.Function) (functions : ℕ) →
    FunctionIsWithin (record (lengths whole) { functions = functions }) old → HandlesAreInside old → IsTyped whole old →
    (clamped : IsClamped (counts_in whole) (typed_in whole old) old new) → InitialValuesFit whole old →
    (look : Reference → Thing) (by : Meanings Thing Value State) (number unsigned_number : Value → Option ℕ) →
    RespectsIndices look by number unsigned_number → RespectsClamps look by number unsigned_number →
    HasElements look by number (IsSizeIn (typed_in whole old)) →
    HaveShortLengths look by number (IsSizeIn (typed_in whole old)) →
    (turns : ℕ) (start start' : World Value State) → AreSameAt clamped.changes old start start' →
    StaysInBounds look by number (typed_in whole old) turns (tree_of old.body)
    (entered by (code_of look (at_use (typed_in whole old)) old.expressions) (initials old.local_variables) start) →
    meaning look by turns (read_by (at_use (typed_in whole new)) new) start'
    ≡ meaning look by turns (read_by (at_use (typed_in whole old)) old) start
