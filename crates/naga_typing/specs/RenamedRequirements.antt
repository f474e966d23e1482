-- Requirements with other handles in place of their own, and what they name.
use Rattle.std.specs.Prelude.{◌≡◌, ⊤, ℕ, Bool, map, Option, IfSome}
use Rattle.std.specs.List.{AllByRecursion}
use Rattle.std.specs.Option.{option_map}
use Rattle.naga_ir.specs.Types.{Inner, Member, plain, structure}
use Rattle.naga_valid.specs.declared.reference.Reference.{Reference}
use Rattle.naga_valid.specs.declared.reference.Reference.TheVariants as reference
use Rattle.naga_compact.specs.Renaming.{Renaming}
use Rattle.naga_compact.specs.derived.Renaming.{rename_type_inner}
use Rattle.naga_typifier.specs.Context.{Context}
use Rattle.naga_typifier.specs.declared.resolution.TypeResolution.{TypeResolution}
use Rattle.naga_typing.specs.Forms.{Form, contents, declared}
use Rattle.naga_typing.specs.Renamed.{HasRenamed, TypeIsKept}
use Rattle.naga_typing.specs.Requirements.{Signature}
use Rattle.naga_typing.specs.declared.requirement.Expected.{Expected}
use Rattle.naga_typing.specs.declared.requirement.Expected.TheVariants as expected
use Rattle.naga_typing.specs.declared.requirement.FirstComponents.{FirstComponents}
use Rattle.naga_typing.specs.declared.requirement.Requirement.{Requirement}
use Rattle.naga_typing.specs.declared.requirement.Requirement.TheVariants as requirement
use Rattle.naga_typing.specs.declared.requirement.Source.{Source}
use Rattle.naga_typing.specs.declared.requirement.Source.TheVariants as source

module _ (r : Renaming) where
  -- ---- forms of types

  -- the member of a structure with its type renamed
  abbrev pub rename_member : Member → Member
  rename_member member = record member { ty = r.types member.ty }

  -- the contents of a type with their handles renamed
  abbrev pub rename_inner : Inner → Inner
  rename_inner (structure members span) = structure (map rename_member members) span
  rename_inner (plain what) = plain (rename_type_inner r what)

  -- the form of a type with its handle, or the handles in its contents, renamed
  abbrev pub rename_form : Form → Form
  rename_form (declared ty) = declared (r.types ty)
  rename_form (contents what) = contents (rename_inner what)

  -- ---- requirements

  -- the source with its handle renamed
  abbrev pub rename_source : Source → Source
  rename_source (source.Same expression) = source.Same (r.expressions expression)
  rename_source (source.Loaded pointer) = source.Loaded (r.expressions pointer)
  rename_source (source.AtomicScalar pointer) = source.AtomicScalar (r.expressions pointer)
  rename_source (source.ExchangeResult pointer) = source.ExchangeResult (r.expressions pointer)
  rename_source (source.Texel image) = source.Texel (r.expressions image)
  rename_source (source.Component image) = source.Component (r.expressions image)
  rename_source (source.Argument function position) = source.Argument (r.functions function) position
  rename_source (source.Declared ty) = source.Declared (r.types ty)
  rename_source (source.Entry expression) = source.Entry (r.expressions expression)
  rename_source (source.Along expression scalar) = source.Along (r.expressions expression) scalar
  rename_source (source.Position image scalar) = source.Position (r.expressions image) scalar
  rename_source from = from

  -- what is expected, with its handles renamed
  abbrev pub rename_expected : Expected → Expected
  rename_expected (expected.Type from) = expected.Type (rename_source from)
  rename_expected (expected.Coordinate image) = expected.Coordinate (r.expressions image)
  rename_expected (expected.CooperativeData target) = expected.CooperativeData (r.expressions target)
  rename_expected (expected.Either first second) = expected.Either (rename_source first) (rename_source second)
  rename_expected (expected.SameScalar other) = expected.SameScalar (r.expressions other)
  rename_expected (expected.Shift left) = expected.Shift (r.expressions left)
  rename_expected (expected.Level image) = expected.Level (r.expressions image)
  rename_expected (expected.Component ty position) = expected.Component (r.types ty) position
  rename_expected what = what

  -- the first components with their handles renamed
  abbrev pub rename_first : FirstComponents → FirstComponents
  rename_first of = record {
    first = option_map r.expressions of.first;
    second = option_map r.expressions of.second;
    third = option_map r.expressions of.third;
    fourth = option_map r.expressions of.fourth;
  }

  -- the requirement with its handles renamed
  abbrev pub rename_requirement : Requirement → Requirement
  rename_requirement (requirement.Operand operand what) =
      requirement.Operand (r.expressions operand) (rename_expected what)
  rename_requirement (requirement.Layers image has_index) = requirement.Layers (r.expressions image) has_index
  rename_requirement (requirement.ArgumentCount function count) =
      requirement.ArgumentCount (r.functions function) count
  rename_requirement (requirement.CallResult function has_result) =
      requirement.CallResult (r.functions function) has_result
  rename_requirement (requirement.Samples image has_index) = requirement.Samples (r.expressions image) has_index
  rename_requirement (requirement.Levels image has_level) = requirement.Levels (r.expressions image) has_level
  rename_requirement (requirement.ComponentCount ty count) = requirement.ComponentCount (r.types ty) count
  rename_requirement (requirement.VectorEntries ty of) = requirement.VectorEntries (r.types ty) (rename_first of)
  rename_requirement (requirement.Contents ty kind) = requirement.Contents (r.types ty) kind
  rename_requirement (requirement.Product a b c) =
      requirement.Product (r.expressions a) (r.expressions b) (r.expressions c)
  rename_requirement required = required

  -- the requirement that may be absent, with its handles renamed
  abbrev pub rename_slot : Option Requirement → Option Requirement
  rename_slot = option_map rename_requirement

-- ---- what requirements name

-- a predicate on handles, each with the arena to which it belongs
module _ (P : Reference → Type 0) where
  -- what a source names is in `P`
  abbrev pub SourceNames : Source → Type 0
  SourceNames (source.Same expression) = P (reference.Expression expression)
  SourceNames (source.Loaded pointer) = P (reference.Expression pointer)
  SourceNames (source.AtomicScalar pointer) = P (reference.Expression pointer)
  SourceNames (source.ExchangeResult pointer) = P (reference.Expression pointer)
  SourceNames (source.Texel image) = P (reference.Expression image)
  SourceNames (source.Component image) = P (reference.Expression image)
  SourceNames (source.Argument function position) = P (reference.Function function)
  SourceNames (source.Declared ty) = P (reference.«Type» ty)
  SourceNames (source.Entry expression) = P (reference.Expression expression)
  SourceNames (source.Along expression scalar) = P (reference.Expression expression)
  SourceNames (source.Position image scalar) = P (reference.Expression image)
  SourceNames _ = ⊤

  -- what is named where something is expected is in `P`
  abbrev pub ExpectedNames : Expected → Type 0
  ExpectedNames (expected.Type from) = SourceNames from
  ExpectedNames (expected.Coordinate image) = P (reference.Expression image)
  ExpectedNames (expected.CooperativeData target) = P (reference.Expression target)
  ExpectedNames (expected.Either first second) = SourceNames first × SourceNames second
  ExpectedNames (expected.SameScalar other) = P (reference.Expression other)
  ExpectedNames (expected.Shift left) = P (reference.Expression left)
  ExpectedNames (expected.Level image) = P (reference.Expression image)
  ExpectedNames (expected.Component ty position) = P (reference.«Type» ty)
  ExpectedNames _ = ⊤

  -- an operand that may be absent is in `P`
  abbrev pub OperandNames : Option ℕ → Type 0
  OperandNames operand = IfSome operand (λ handle. P (reference.Expression handle))

  -- the first components are in `P`
  abbrev pub FirstNames : FirstComponents → Type 0
  FirstNames of = OperandNames of.first × OperandNames of.second × OperandNames of.third × OperandNames of.fourth

  -- what a requirement names is in `P`
  abbrev pub RequirementNames : Requirement → Type 0
  RequirementNames (requirement.Operand operand what) = P (reference.Expression operand) × ExpectedNames what
  RequirementNames (requirement.Layers image has_index) = P (reference.Expression image)
  RequirementNames (requirement.ArgumentCount function count) = P (reference.Function function)
  RequirementNames (requirement.CallResult function has_result) = P (reference.Function function)
  RequirementNames (requirement.Samples image has_index) = P (reference.Expression image)
  RequirementNames (requirement.Levels image has_level) = P (reference.Expression image)
  RequirementNames (requirement.ComponentCount ty count) = P (reference.«Type» ty)
  RequirementNames (requirement.VectorEntries ty of) = P (reference.«Type» ty) × FirstNames of
  RequirementNames (requirement.Contents ty kind) = P (reference.«Type» ty)
  RequirementNames (requirement.Product a b c) =
      P (reference.Expression a) × P (reference.Expression b) × P (reference.Expression c)
  RequirementNames _ = ⊤

  -- what a requirement names, if it is present, is in `P`
  abbrev pub SlotNames : Option Requirement → Type 0
  SlotNames slot = IfSome slot RequirementNames

-- ---- what is renamed

module _ (r : Renaming) (kept : ℕ → Bool) (signature after : Signature) where
  -- the second function has the type of the result of the first one and that of the description of a ray, renamed, and
  -- both are kept
  pub record RenamesSignature : Type 0 where
    pub result : after.result ≡ option_map r.types signature.result
    pub result_kept : IfSome signature.result (TypeIsKept kept)
    pub ray_desc : after.ray_desc ≡ option_map r.types signature.ray_desc
    pub ray_desc_kept : IfSome signature.ray_desc (TypeIsKept kept)

  -- a function that is called has, at its new handle, parameters and a result of the types of the old one, renamed, and
  -- the types of the parameters are kept
  pub record RenamesCalled (ctx new : Context) (function : ℕ) : Type 0 where
    pub parameters : after.parameters (r.functions function) ≡ option_map (map r.types) (signature.parameters function)
    pub parameters_kept : IfSome (signature.parameters function) (AllByRecursion (TypeIsKept kept))
    pub result : new.results (r.functions function) ≡ option_map (option_map r.types) (ctx.results function)

  module _ (ctx new : Context) (known found : ℕ → Option TypeResolution) where
    -- what has this handle has, at its new handle, its type, renamed, and its type is kept
    abbrev pub NameIsRenamed : Reference → Type 0
    NameIsRenamed (reference.Expression handle) = HasRenamed r kept known found handle
    NameIsRenamed (reference.Function handle) = RenamesCalled ctx new handle
    NameIsRenamed (reference.«Type» handle) = TypeIsKept kept handle
    NameIsRenamed _ = ⊤
