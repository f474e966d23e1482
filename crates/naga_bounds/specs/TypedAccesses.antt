-- Accesses of values that have the types of their expressions: each part that is accessed is there in the value.
--
-- The check of accesses counts the parts of a base by the type of its expression. In a module that passes the check of
-- types, the value of the base has that type, so what is below that number is a part of the value.
use Rattle.std.specs.Prelude.{◌≡◌, ◌<◌, ℕ, List, ◌∷◌, ◌++◌, Option, Some, IfSome}
use Rattle.std.specs.List.{AllByRecursion}
use Rattle.naga_ir.specs.View.{tree_of}
use Rattle.naga_ir.specs.declared.module.Function as function
use Rattle.naga_ir.specs.declared.module.Module as the_module
use Rattle.naga_ir.specs.declared.statement.Statement.{Statement}
use Rattle.naga_valid.specs.Valid.{HandlesAreValid}
use Rattle.naga_valid.specs.declared.reference.Reference.{Reference}
use Rattle.naga_flow.specs.Events.{Event, met}
use Rattle.naga_flow.specs.Results.{emitted_by}
use Rattle.naga_meaning.specs.Adequacy.{IsABeginning, after}
use Rattle.naga_meaning.specs.Functions.{Meanings, parts}
use Rattle.naga_meaning.specs.Machine.{Machine, does}
use Rattle.naga_meaning.specs.Values.{World, emit, machine, value}
use Rattle.naga_typifier.specs.Context.{context_in, contents_of, inner_at}
use Rattle.naga_typifier.specs.Rows.{◌>>=◌}
use Rattle.naga_typifier.specs.declared.resolution.TypeResolution.{TypeResolution}
use Rattle.naga_typing.specs.CheckedValues.{MeetsRequirements}
use Rattle.naga_typing.specs.Forms.{Form}
use Rattle.naga_typing.specs.TypedCalls.{IsFunctionOf}
use Rattle.naga_typing.specs.TypedModules.{ModuleIsTyped}
use Rattle.naga_typing.specs.TypedValues.{HasType, RespectsTypesIn}
use Rattle.naga_bounds.specs.Laws.{IsSizeIn}
use Rattle.naga_bounds.specs.Modules.{AccessesFitIn, typed_in}
use Rattle.naga_bounds.specs.Reach.{Reach, Typed, expression_at, length_reached, reach_of}
use Rattle.naga_bounds.specs.Respects.{HasElements, LengthsStay, RespectsIndices}
use Rattle.naga_bounds.specs.RestrictedModules.{IsEmitted}
use Rattle.naga_bounds.specs.Watched.{code, count, position}
use Rattle.naga_bounds.specs.declared.cause.Position.{Position}
use Rattle.naga_bounds.specs.declared.length.Length.{Length}

-- `HasPart` says which parts a value has in a state, or what it points to.
module _ {Thing Value State : Type 0} (look : Reference → Thing) (by : Meanings Thing Value State)
    (number : Value → Option ℕ) (has_type : Value → Form → Type 0) (HasPart : Value → ℕ → State → Type 0)
    (whole : the_module.Module) (inside : function.Function) where
  abbrev pub typed : Typed
  typed = typed_in whole inside

  -- A value has each part that its type says, or what it points to has it. Where an override or a buffer determines how
  -- many there are, it has as many.
  abbrev pub TypesHaveParts : (Invariant : State → Type 0) → Type 0
  TypesHaveParts Invariant =
      (base : Value) (ty : TypeResolution) → HasType has_type (context_in whole inside) base ty →
      (long : Length) →
      (contents_of (inner_at whole.types) ty >>= length_reached (inner_at whole.types)) ≡ Some long →
      (state : State) → Invariant state → (n : ℕ) → count look by number typed long base state ≡ Some n →
      (part : ℕ) → part < n → HasPart base part state

  -- in this world, the value of the base has the part at this position
  abbrev pub IsPartThere : World Value State → (base : ℕ) → Position → Type 0
  IsPartThere world base each =
      (part : ℕ) × (position look by number typed world each ≡ Some part)
      × HasPart (value by (code look by number typed) world base) part world.state

  -- each part that is accessed is there
  abbrev pub ArePartsThere : World Value State → Reach → Type 0
  ArePartsThere world reach = AllByRecursion (IsPartThere world reach.base) reach.positions

  -- the machine of the body
  abbrev pub machine_in : Machine (World Value State)
  machine_in = machine (parts look) by (code look by number typed)

  -- Whenever an `Emit` of the execution from this world evaluates an access, each part that it accesses is there in the
  -- value of its base.
  abbrev pub PartsAreThere : (turns : ℕ) → World Value State → Type 0
  PartsAreThere turns start =
      (begun : IsABeginning machine_in turns (tree_of inside.body) start (does machine_in turns (tree_of inside.body) start))
      (before later : List Event) (what : Statement) → begun.happened ≡ before ++ met what ∷ later →
      (first rest : List ℕ) (access : ℕ) → emitted_by what ≡ first ++ access ∷ rest →
      IfSome (expression_at typed access >>= reach_of)
      (ArePartsThere (emit by (code look by number typed) first (after machine_in before start)))

-- In a function of a module with valid handles that passes the checks of types, of uses and of accesses, each part that is
-- accessed is there in the value of its base: for each interpretation that respects types and indices, in which arrays
-- have elements and keep their lengths, and values have the parts that their types say, from each state of the function,
-- for each bound of turns.
abbrev pub AccessedPartsAreThere : (Thing Value State : Type 0) → (has_type : Value → Form → Type 0) →
    (Invariant : function.Function → State → Type 0) → (HasPart : Value → ℕ → State → Type 0) → Type 0
AccessedPartsAreThere Thing Value State has_type Invariant HasPart =
    (whole : the_module.Module) → HandlesAreValid whole → ModuleIsTyped whole →
    (inside : function.Function) → IsFunctionOf whole inside → AccessesFitIn whole inside → IsEmitted whole inside →
    (look : Reference → Thing) (by : Meanings Thing Value State) →
    RespectsTypesIn look by has_type whole inside (MeetsRequirements whole inside) (Invariant inside) →
    (number unsigned_number : Value → Option ℕ) → RespectsIndices look by number unsigned_number →
    HasElements look by number (IsSizeIn (typed_in whole inside)) → LengthsStay look by number →
    TypesHaveParts look by number has_type HasPart whole inside (Invariant inside) →
    (turns : ℕ) (start : World Value State) → Invariant inside start.state →
    PartsAreThere look by number has_type HasPart whole inside turns start
