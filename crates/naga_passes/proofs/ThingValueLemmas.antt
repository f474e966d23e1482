-- Handles represent the same in modules of the same values, which differ only in spans and in spare capacity.
use Rattle.std.proofs.Common.{◌≡◌, ◌∙◌, sym, ap, refl, inl, inr, ℕ, zero, suc, List, [], ◌∷◌, map, Option, None}
use Rattle.std.specs.Prelude.{◌⊎◌, option_map, option_to_list, string_bytes}
use Rattle.std.specs.declared.alloc.Global.{Global}
use Rattle.std.specs.declared.vec.Vec.{Vec}
use Rattle.naga_ir.specs.Types.{Inner, Member, inner_of, member_of, plain, structure, type_of}
use Rattle.naga_ir.specs.declared.module.Constant.{Constant}
use Rattle.naga_ir.specs.declared.module.GlobalVariable.{GlobalVariable}
use Rattle.naga_ir.specs.declared.module.Module.{Module}
use Rattle.naga_ir.specs.declared.module.Override.{Override}
use Rattle.naga_ir.specs.declared.types.StructMember.{StructMember}
use Rattle.naga_ir.specs.declared.types.TypeInner.{TypeInner}
use Rattle.naga_ir.specs.declared.types.TypeInner.TheVariants.{Struct}
use Rattle.naga_ir.specs.declared.types.«Type».{«Type» as NamedType}
use Rattle.naga_valid.specs.Declarations.{references_of_constant, references_of_global_variable, references_of_inner, references_of_override, references_of_type}
use Rattle.naga_valid.specs.Expressions.{references_of_expression}
use Rattle.naga_valid.specs.Places.{references_found}
use Rattle.naga_valid.specs.declared.reference.Reference.{Reference}
use Rattle.naga_valid.specs.declared.reference.Reference.TheVariants as reference
use Rattle.naga_compact.specs.Module.References.{as_global}
use Rattle.naga_json.specs.Declarations.{ConstantValue, OverrideValue, GlobalVariableValue, constant_value, override_value, global_variable_value}
use Rattle.naga_json.specs.Expression.{value_of}
use Rattle.naga_json.specs.Module.{ModuleValue, module_value}
use Rattle.naga_json.specs.Unspanned.{unspanned_module}
use Rattle.naga_meaning.specs.Forms.{expression_form}
use Rattle.naga_meaning.specs.Things.{all_unfolded, contents_form, declared_at, declared_of, element, handles_in, of_constant, of_global_expression, of_global_variable, of_override, of_type, placed, thing_of, unfolded, variable_form}
use Rattle.naga_passes.proofs.ExpressionValueLemmas.{found-same}
use Rattle.naga_passes.proofs.HaveSameValuesLemmas.{HaveSameValues, HaveSameValues-unspanned, found-value}

-- ---- types

map-again : {X Y Z : Type 0} (f : X → Y) (h : Y → Z) (xs : List X) → map (λ x. h (f x)) xs ≡ map h (map f xs)
map-again f h [] = refl
map-again f h (x ∷ xs) = ap (λ rest. h (f x) ∷ rest) (map-again f h xs)

-- what depends only on the values of members is the same
members-same : {Z : Type 0} (h : Member → Z) (xs ys : List StructMember) → map member_of ys ≡ map member_of xs → map (λ member. h (member_of member)) ys ≡ map (λ member. h (member_of member)) xs
members-same h xs ys same = map-again member_of h ys ∙ (ap (map h) same ∙ sym (map-again member_of h xs))

-- the type is a structure
record IsStruct (x : TypeInner) : Type 0 where
  members : Vec StructMember Global
  span : ℕ
  is : x ≡ Struct members span

structured : (x : TypeInner) → IsStruct x ⊎ (inner_of x ≡ plain x)
structured (Struct members span) = inl (record { members = members; span = span; is = refl })
structured _ = inr refl

-- what does not depend on names and spare capacity in a structure is the same for types of the same contents
module _ {A : Type 0} (g : TypeInner → A) (of_members : (c d : Vec StructMember Global) (span : ℕ) → map member_of d.items ≡ map member_of c.items → g (Struct d span) ≡ g (Struct c span)) where
  same_structured : (x y : TypeInner) → inner_of y ≡ inner_of x → IsStruct x ⊎ (inner_of x ≡ plain x) → IsStruct y ⊎ (inner_of y ≡ plain y) → g y ≡ g x
  same_structured x y same (inl p) (inl q) =
      let values : structure (map member_of q.members.items) q.span ≡ structure (map member_of p.members.items) p.span = sym (ap inner_of q.is) ∙ (same ∙ ap inner_of p.is) in
      let members : map member_of q.members.items ≡ map member_of p.members.items = cc in
      let spans : q.span ≡ p.span = cc in
      ap g q.is ∙ (ap (λ span. g (Struct q.members span)) spans ∙ (of_members p.members q.members p.span members ∙ sym (ap g p.is)))
  same_structured x y same (inl p) (inr q) =
      let values : plain y ≡ structure (map member_of p.members.items) p.span = sym q ∙ (same ∙ ap inner_of p.is) in absurd cc
  same_structured x y same (inr p) (inl q) =
      let values : structure (map member_of q.members.items) q.span ≡ plain x = sym (ap inner_of q.is) ∙ (same ∙ p) in absurd cc
  same_structured x y same (inr p) (inr q) =
      let values : plain y ≡ plain x = sym q ∙ (same ∙ p) in
      let whole : y ≡ x = cc in ap g whole

  inner-same : (x y : NamedType) → type_of y ≡ type_of x → g y.inner ≡ g x.inner
  inner-same x y same = same_structured x.inner y.inner (ap (λ (p : Option (List ℕ) × Inner). p.1) same) (structured x.inner) (structured y.inner)

contents-same : (x y : NamedType) → type_of y ≡ type_of x → contents_form y.inner ≡ contents_form x.inner
contents-same = inner-same contents_form (λ c d span same. ap (λ members. structure members span) (members-same (λ member. record member { name = None; ty = 0 }) c.items d.items same))

references-same : (x y : NamedType) → type_of y ≡ type_of x → references_of_type y ≡ references_of_type x
references-same = inner-same references_of_inner (λ c d span same. members-same (λ member. reference.«Type» member.ty) c.items d.items same)

-- ---- elements

variable-same : (x y : GlobalVariable) → global_variable_value y ≡ global_variable_value x → variable_form y ≡ variable_form x
variable-same x y same = ap (λ (v : GlobalVariableValue). record (variable_form x) { space = v.space; binding = v.binding; memory_decorations = v.memory_decorations }) same

module _ (new read : Module) (same : module_value read ≡ unspanned_module (module_value new)) where
  types : HaveSameValues type_of new.types read.types
  types = HaveSameValues-unspanned type_of new.types read.types (ap (λ (m : ModuleValue). m.types) same)

  constants : HaveSameValues constant_value new.constants read.constants
  constants = HaveSameValues-unspanned constant_value new.constants read.constants (ap (λ (m : ModuleValue). m.constants) same)

  overrides : HaveSameValues override_value new.overrides read.overrides
  overrides = HaveSameValues-unspanned override_value new.overrides read.overrides (ap (λ (m : ModuleValue). m.overrides) same)

  variables : HaveSameValues global_variable_value new.global_variables read.global_variables
  variables = HaveSameValues-unspanned global_variable_value new.global_variables read.global_variables (ap (λ (m : ModuleValue). m.global_variables) same)

  expressions : HaveSameValues value_of new.global_expressions read.global_expressions
  expressions = HaveSameValues-unspanned value_of new.global_expressions read.global_expressions (ap (λ (m : ModuleValue). m.global_expressions) same)

  declared_at-read : (name : Reference) → declared_at read name ≡ declared_at new name
  declared_at-read (reference.«Type» handle) =
      found-value type_of (declared_of (λ (type : NamedType). of_type (contents_form type.inner))) (λ x y is. ap of_type (contents-same x y is)) new.types read.types types handle
  declared_at-read (reference.Constant handle) =
      found-value constant_value (declared_of (λ (declared : Constant). of_constant)) (λ x y is. refl) new.constants read.constants constants handle
  declared_at-read (reference.Override handle) =
      found-value override_value (declared_of (λ (declared : Override). of_override declared.id (option_map string_bytes declared.name)))
      (λ x y is. ap (λ (v : OverrideValue). of_override v.id v.name) is) new.overrides read.overrides overrides handle
  declared_at-read (reference.GlobalVariable handle) =
      found-value global_variable_value (declared_of (λ (declared : GlobalVariable). of_global_variable (variable_form declared)))
      (λ x y is. ap of_global_variable (variable-same x y is)) new.global_variables read.global_variables variables handle
  declared_at-read (reference.GlobalExpression handle) =
      found-same new.global_expressions read.global_expressions expressions (declared_of (λ expression. of_global_expression (expression_form expression))) (λ ty c d items. refl) handle
  declared_at-read _ = refl

  handles_in-read : (name : Reference) → handles_in read name ≡ handles_in new name
  handles_in-read (reference.«Type» handle) =
      found-value type_of (references_found references_of_type) references-same new.types read.types types handle
  handles_in-read (reference.Constant handle) =
      found-value constant_value (references_found references_of_constant)
      (λ x y is. ap (λ (v : ConstantValue). reference.«Type» v.ty ∷ reference.GlobalExpression v.init ∷ []) is) new.constants read.constants constants handle
  handles_in-read (reference.Override handle) =
      found-value override_value (references_found references_of_override)
      (λ x y is. ap (λ (v : OverrideValue). reference.«Type» v.ty ∷ option_to_list (option_map reference.GlobalExpression v.init)) is) new.overrides read.overrides overrides handle
  handles_in-read (reference.GlobalVariable handle) =
      found-value global_variable_value (references_found references_of_global_variable)
      (λ x y is. ap (λ (v : GlobalVariableValue). reference.«Type» v.ty ∷ option_to_list (option_map reference.GlobalExpression v.init)) is) new.global_variables read.global_variables variables handle
  handles_in-read (reference.GlobalExpression handle) =
      ap (map as_global) (found-same new.global_expressions read.global_expressions expressions (references_found references_of_expression) (λ ty c d items. rw items refl) handle)
  handles_in-read _ = refl

  module _ {Place : Type 0} (place : Reference → Place) where
    unfolded-read : (depth : ℕ) (name : Reference) → unfolded read place depth name ≡ unfolded new place depth name
    unfolded-read zero name = refl
    unfolded-read (suc depth) name = λ i.
        element (declared_at-read name i) (placed place name) (all_unfolded (λ name. unfolded-read depth name i) (handles_in-read name i))

    -- handles represent the same
    pub thing_of-unspanned : thing_of read place ≡ thing_of new place
    thing_of-unspanned = λ i name depth. unfolded-read depth name i
