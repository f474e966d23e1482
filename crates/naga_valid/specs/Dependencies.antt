-- Which parts of a module depend on which.
--
-- A reference to a declaration or an expression leads to its place, the range of an `Emit` to each expression in it,
-- and a reference to a function to each part of that function. One to a local variable leads nowhere, since the init of
-- a variable may refer to the variable itself.
use Rattle.std.specs.Prelude.{◌≡◌, ◌<◌, ◌≤◌, ℕ, Option, Some, None}
use Rattle.std.specs.List.{Contains}
use Rattle.naga_ir.specs.declared.module.Module as the_module
use Rattle.naga_valid.specs.Places.{references_in}
use Rattle.naga_valid.specs.declared.reference.Reference.{Reference}
use Rattle.naga_valid.specs.declared.reference.Reference.TheVariants as reference
use Rattle.naga_valid.specs.declared.place.Part.{Part}
use Rattle.naga_valid.specs.declared.place.Part.TheVariants as part
use Rattle.naga_valid.specs.declared.place.Place.{Place}
use Rattle.naga_valid.specs.declared.place.Place.TheVariants.{«Type», Constant, Override, GlobalVariable, GlobalExpression, Function, EntryPointFunction, DiagnosticFilter}

-- the expression with this handle, in the arena of the expressions that the place may refer to
abbrev pub expression_for : Place → (handle : ℕ) → Option Place
expression_for (GlobalExpression index) handle = Some (GlobalExpression handle)
expression_for (Function index inner) handle = Some (Function index (part.Expression handle))
expression_for (EntryPointFunction position inner) handle = Some (EntryPointFunction position (part.Expression handle))
expression_for _ handle = None

-- A reference in the first place leads to the other place. One to a function leads to each part of it. One to a local
-- variable leads nowhere, since the init of a variable may refer to the variable itself.
abbrev pub LeadsTo : Place → Reference → (other : Place) → Type 0
LeadsTo from (reference.«Type» handle) other = other ≡ «Type» handle
LeadsTo from (reference.Constant handle) other = other ≡ Constant handle
LeadsTo from (reference.Override handle) other = other ≡ Override handle
LeadsTo from (reference.GlobalVariable handle) other = other ≡ GlobalVariable handle
LeadsTo from (reference.GlobalExpression handle) other = other ≡ GlobalExpression handle
LeadsTo from (reference.Expression handle) other = expression_for from handle ≡ Some other
LeadsTo from (reference.Expressions first past) other = (handle : ℕ) × (first ≤ handle) × (handle < past) × (expression_for from handle ≡ Some other)
LeadsTo from (reference.LocalVariable handle) other = ⊥
LeadsTo from (reference.Function handle) other = (inner : Part) × (other ≡ Function handle inner)
LeadsTo from (reference.DiagnosticFilter handle) other = other ≡ DiagnosticFilter handle

-- a reference in the place leads to the other one
abbrev pub RefersTo : the_module.Module → (from other : Place) → Type 0
RefersTo whole from other = (to : Reference) × Contains (references_in whole from) to × LeadsTo from to other

-- the place refers to the other one, or to a place that depends on it
pub data DependsOn (whole : the_module.Module) : Place → Place → Type 0 where
  directly : {from other : Place} → RefersTo whole from other → DependsOn whole from other
  through : {from next other : Place} → RefersTo whole from next → DependsOn whole next other → DependsOn whole from other
