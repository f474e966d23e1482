-- What the handles of a module represent.
--
-- A handle represents the element that has it: what is declared there, and what the handles in it represent, in their
-- order. So its number does not matter, and two equal types at different handles represent the same. Neither do spare
-- capacity, spans and names, except the name of an override, by which a pipeline refers to it.
--
-- A global variable, an override and a function also have a place, since two equal variables are two variables. The
-- places are arbitrary, and a function is nothing but its place: what it does is looked up there.
use Rattle.std.specs.Prelude.{◌≡◌, ◌≤◌, ⊤, ℕ, zero, suc, List, [], ◌∷◌, map, Option, Some, None, option_map, string_bytes}
use Rattle.naga_arena.specs.Arena.{value_at}
use Rattle.naga_ir.specs.Types.{Inner, Member, member_of, plain, structure}
use Rattle.naga_ir.specs.declared.module.GlobalVariable as global
use Rattle.naga_ir.specs.declared.module.Module as the_module
use Rattle.naga_ir.specs.declared.types.StructMember.{StructMember}
use Rattle.naga_ir.specs.declared.types.TypeInner.{TypeInner}
use Rattle.naga_ir.specs.declared.types.TypeInner.TheVariants.{Struct}
use Rattle.naga_valid.specs.declared.reference.Reference.{Reference}
use Rattle.naga_valid.specs.declared.reference.Reference.TheVariants as reference
use Rattle.naga_compact.specs.Module.References.{references_of_element}
use Rattle.naga_compact.specs.derived.Renaming.{rename_type_inner}
use Rattle.naga_meaning.specs.Forms.{ExpressionForm, erasing, expression_form}

-- ---- elements without their handles

-- what is declared of an element, without its handles
pub data Declared : Type 0 where
  of_type : (contents : Inner) → Declared
  of_constant : Declared
  of_override : (id : Option ℕ) (name : Option (List ℕ)) → Declared
  of_global_variable : (declared : global.GlobalVariable) → Declared
  of_global_expression : (form : ExpressionForm) → Declared
  of_function : Declared
  -- the handle is not one of an element of the module, but of a local variable, or of what has no value
  of_other : (name : Reference) → Declared
  -- no element has the handle
  missing : Declared

-- a member of a structure without its name and its handle
abbrev pub member_form : StructMember → Member
member_form member = record (member_of member) { name = None; ty = 0 }

-- the contents of a type without names and handles
abbrev pub contents_form : TypeInner → Inner
contents_form (Struct members span) = structure (map member_form members.items) span
contents_form contents = plain (rename_type_inner erasing contents)

-- a global variable without its name and its handles; whether it has an init shows in what it contains
abbrev pub variable_form : global.GlobalVariable → global.GlobalVariable
variable_form declared = record declared { name = None; ty = 0; init = None }

-- what is declared of an element that is found
abbrev pub declared_of : {X : Type 0} → (X → Declared) → Option X → Declared
declared_of form None = missing
declared_of form (Some found) = form found

-- what is declared of the element with this handle
abbrev pub declared_at : the_module.Module → Reference → Declared
declared_at whole (reference.«Type» handle) = declared_of (λ type. of_type (contents_form type.inner)) (value_at whole.types handle)
declared_at whole (reference.Constant handle) = declared_of (λ declared. of_constant) (value_at whole.constants handle)
declared_at whole (reference.Override handle) =
    declared_of (λ declared. of_override declared.id (option_map string_bytes declared.name)) (value_at whole.overrides handle)
declared_at whole (reference.GlobalVariable handle) =
    declared_of (λ declared. of_global_variable (variable_form declared)) (value_at whole.global_variables handle)
declared_at whole (reference.GlobalExpression handle) =
    declared_of (λ expression. of_global_expression (expression_form expression)) (value_at whole.global_expressions handle)
declared_at whole (reference.Function handle) = of_function
declared_at whole name = of_other name

-- the handles in the element with this handle, in order; those in functions do not count
abbrev pub handles_in : the_module.Module → Reference → List Reference
handles_in whole (reference.Function handle) = []
handles_in whole name = references_of_element whole name

-- ---- unfolding

mutual
  -- what a handle represents, down to some depth
  pub data Unfolded (Place : Type 0) : Type 0 where
    deeper : Unfolded Place
    element : (declared : Declared) (place : Option Place) (contents : AllUnfolded Place) → Unfolded Place

  -- what handles represent, in order
  pub data AllUnfolded (Place : Type 0) : Type 0 where
    no_more : AllUnfolded Place
    and_then : (first : Unfolded Place) (others : AllUnfolded Place) → AllUnfolded Place

-- What a handle represents: how it is unfolded, to each depth. Elements contain the handles of earlier ones, so from
-- some depth on nothing is left to be unfolded.
abbrev pub Thing : (Place : Type 0) → Type 0
Thing Place = (depth : ℕ) → Unfolded Place

module _ {Place : Type 0} where
  -- what each handle represents, one after another
  abbrev pub all_unfolded : (Reference → Unfolded Place) → List Reference → AllUnfolded Place
  all_unfolded look [] = no_more
  all_unfolded look (name ∷ rest) = and_then (look name) (all_unfolded look rest)

  -- the place of a global variable, an override or a function
  abbrev pub placed : (place : Reference → Place) → Reference → Option Place
  placed place (reference.Override handle) = Some (place (reference.Override handle))
  placed place (reference.GlobalVariable handle) = Some (place (reference.GlobalVariable handle))
  placed place (reference.Function handle) = Some (place (reference.Function handle))
  placed place name = None

  module _ (whole : the_module.Module) (place : Reference → Place) where
    -- what the handle represents, down to this depth
    abbrev pub unfolded : (depth : ℕ) → Reference → Unfolded Place
    unfolded zero name = deeper
    unfolded (suc depth) name =
        element (declared_at whole name) (placed place name) (all_unfolded (unfolded depth) (handles_in whole name))

    -- what the handle represents
    abbrev pub thing_of : Reference → Thing Place
    thing_of name depth = unfolded depth name

-- the same is declared of both elements, both have the same place, and their handles represent the same
pub record HasSameParts {Place : Type 0} (whole : the_module.Module) (at : Reference → Place) (a b : Reference) : Type 0 where
  pub declared : declared_at whole a ≡ declared_at whole b
  pub place : placed at a ≡ placed at b
  pub contents : map (thing_of whole at) (handles_in whole a) ≡ map (thing_of whole at) (handles_in whole b)

-- ---- depth

module _ {Place : Type 0} where
  abbrev mutual
    -- nothing is left to be unfolded
    pub IsWhole : Unfolded Place → Type 0
    IsWhole deeper = ⊥
    IsWhole (element declared place contents) = AreWhole contents

    -- the same of each of these
    pub AreWhole : AllUnfolded Place → Type 0
    AreWhole no_more = ⊤
    AreWhole (and_then first others) = IsWhole first × AreWhole others

-- at this depth nothing is left to be unfolded, and further on nothing changes
pub record IsWholeFrom {Place : Type 0} (thing : Thing Place) (depth : ℕ) : Type 0 where
  pub whole : IsWhole (thing depth)
  pub unchanged : (further : ℕ) → depth ≤ further → thing further ≡ thing depth

-- ---- functions

-- the place of what is unfolded, if it is a function
abbrev pub place_of_function : {Place : Type 0} → Unfolded Place → Option Place
place_of_function (element of_function place contents) = place
place_of_function _ = None

-- the place of a function
abbrev pub function_place : {Place : Type 0} → Thing Place → Option Place
function_place thing = place_of_function (thing 1)
