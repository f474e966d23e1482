-- The kinds that types and keys consist of: `==` returns `true` if and only if two values are identical.
use Rattle.std.proofs.Common.{◌≡◌, refl, rules}
use denote.Enum.Bare.{same_true, true_same}
use Rattle.std.specs.Bool.{Decides}
use Rattle.std.specs.Cmp.{unsigned_Decides, booleans_Decides}
use Rattle.naga_kinds.proofs.DecidesLemmas.{enum_decides, equal_options_decide, last_decides, next_decides}
use Rattle.naga_kinds.specs.declared.address_space.AddressSpace.{AddressSpace}
use Rattle.naga_kinds.specs.declared.binding.Binding.{Binding}
use Rattle.naga_kinds.specs.declared.binding.Interpolation.{Interpolation}
use Rattle.naga_kinds.specs.declared.binding.Sampling.{Sampling}
use Rattle.naga_kinds.specs.declared.builtin.BuiltIn.{BuiltIn}
use Rattle.naga_kinds.specs.declared.flags.StorageAccess.{StorageAccess}
use Rattle.naga_kinds.specs.declared.format.StorageFormat.{StorageFormat}
use Rattle.naga_kinds.specs.declared.image.ImageClass.{ImageClass}
use Rattle.naga_kinds.specs.declared.image.ImageDimension.{ImageDimension}
use Rattle.naga_kinds.specs.declared.math.MathFunction.{MathFunction}
use Rattle.naga_kinds.specs.declared.scalar.CooperativeRole.{CooperativeRole}
use Rattle.naga_kinds.specs.declared.scalar.CooperativeSize.{CooperativeSize}
use Rattle.naga_kinds.specs.declared.scalar.PredeclaredType.{PredeclaredType}
use Rattle.naga_kinds.specs.declared.scalar.Scalar.{Scalar}
use Rattle.naga_kinds.specs.declared.scalar.ScalarKind.{ScalarKind}
use Rattle.naga_kinds.specs.declared.scalar.VectorSize.{VectorSize}
use Rattle.naga_kinds.specs.contracts.address_space.AddressSpace as address_space
use Rattle.naga_kinds.specs.contracts.binding.Binding as binding
use Rattle.naga_kinds.specs.contracts.builtin.BuiltIn as built_in
use Rattle.naga_kinds.specs.contracts.image.ImageClass as image_class
use Rattle.naga_kinds.specs.contracts.math.MathFunction as math_function
use Rattle.naga_kinds.specs.contracts.scalar.PredeclaredType as predeclared_type
use Rattle.naga_kinds.specs.contracts.address_space.AddressSpacePartialEq.TheImpl as address_space_eq
use Rattle.naga_kinds.specs.contracts.binding.BindingPartialEq.TheImpl as binding_eq
use Rattle.naga_kinds.specs.contracts.binding.InterpolationPartialEq.TheImpl as interpolation_eq
use Rattle.naga_kinds.specs.contracts.binding.SamplingPartialEq.TheImpl as sampling_eq
use Rattle.naga_kinds.specs.contracts.builtin.BuiltInPartialEq.TheImpl as built_in_eq
use Rattle.naga_kinds.specs.contracts.flags.StorageAccessPartialEq.TheImpl as storage_access_eq
use Rattle.naga_kinds.specs.contracts.format.StorageFormatPartialEq.TheImpl as storage_format_eq
use Rattle.naga_kinds.specs.contracts.image.ImageClassPartialEq.TheImpl as image_class_eq
use Rattle.naga_kinds.specs.contracts.image.ImageDimensionPartialEq.TheImpl as image_dimension_eq
use Rattle.naga_kinds.specs.contracts.math.MathFunctionPartialEq.TheImpl as math_function_eq
use Rattle.naga_kinds.specs.contracts.scalar.CooperativeRolePartialEq.TheImpl as cooperative_role_eq
use Rattle.naga_kinds.specs.contracts.scalar.CooperativeSizePartialEq.TheImpl as cooperative_size_eq
use Rattle.naga_kinds.specs.contracts.scalar.PredeclaredTypePartialEq.TheImpl as predeclared_type_eq
use Rattle.naga_kinds.specs.contracts.scalar.ScalarPartialEq.TheImpl as scalar_eq
use Rattle.naga_kinds.specs.contracts.scalar.ScalarKindPartialEq.TheImpl as scalar_kind_eq
use Rattle.naga_kinds.specs.contracts.scalar.VectorSizePartialEq.TheImpl as vector_size_eq

-- ---- enums without fields, and structs

pub interpolations : (a b : Interpolation) → Decides (interpolation_eq.ghosts.eq a b) (a ≡ b)
interpolations a b = search rules

pub samplings : (a b : Sampling) → Decides (sampling_eq.ghosts.eq a b) (a ≡ b)
samplings a b = search rules

pub storage_accesses : (a b : StorageAccess) → Decides (storage_access_eq.ghosts.eq a b) (a ≡ b)
storage_accesses a b = search rules

pub storage_formats : (a b : StorageFormat) → Decides (storage_format_eq.ghosts.eq a b) (a ≡ b)
storage_formats a b = search rules

pub image_dimensions : (a b : ImageDimension) → Decides (image_dimension_eq.ghosts.eq a b) (a ≡ b)
image_dimensions a b = search rules

pub cooperative_roles : (a b : CooperativeRole) → Decides (cooperative_role_eq.ghosts.eq a b) (a ≡ b)
cooperative_roles a b = search rules

pub cooperative_sizes : (a b : CooperativeSize) → Decides (cooperative_size_eq.ghosts.eq a b) (a ≡ b)
cooperative_sizes a b = search rules

pub scalar_kinds : (a b : ScalarKind) → Decides (scalar_kind_eq.ghosts.eq a b) (a ≡ b)
scalar_kinds a b = search rules

pub vector_sizes : (a b : VectorSize) → Decides (vector_size_eq.ghosts.eq a b) (a ≡ b)
vector_sizes a b = search rules

pub scalars : (a b : Scalar) → Decides (scalar_eq.ghosts.eq a b) (a ≡ b)
scalars a b = search rules

-- this enum has too many variants for a plain search
pub math_functions : (a b : MathFunction) → Decides (math_function_eq.ghosts.eq a b) (a ≡ b)
math_functions a b = (same_true math_function.the_type (search rules) a b, true_same math_function.the_type a b)

-- ---- enums with fields

pub built_ins : (a b : BuiltIn) → Decides (built_in_eq.ghosts.eq a b) (a ≡ b)
built_ins = enum_decides built_in.the_parts built_in.as_values built_in.the_make built_in.the_eta (λ a b. built_in_eq.ghosts.eq a b) (λ a b. refl) refl (last_decides booleans_Decides, (last_decides booleans_Decides, tt))

pub bindings : (a b : Binding) → Decides (binding_eq.ghosts.eq a b) (a ≡ b)
bindings =
    let location = next_decides unsigned_Decides (next_decides (equal_options_decide interpolations) (next_decides (equal_options_decide samplings) (next_decides (equal_options_decide unsigned_Decides) (last_decides booleans_Decides)))) in
    enum_decides binding.the_parts binding.as_values binding.the_make binding.the_eta (λ a b. binding_eq.ghosts.eq a b) (λ a b. refl) refl (last_decides built_ins, (location, tt))

pub address_spaces : (a b : AddressSpace) → Decides (address_space_eq.ghosts.eq a b) (a ≡ b)
address_spaces = enum_decides address_space.the_parts address_space.as_values address_space.the_make address_space.the_eta (λ a b. address_space_eq.ghosts.eq a b) (λ a b. refl) refl (last_decides storage_accesses, tt)

pub image_classes : (a b : ImageClass) → Decides (image_class_eq.ghosts.eq a b) (a ≡ b)
image_classes = enum_decides image_class.the_parts image_class.as_values image_class.the_make image_class.the_eta (λ a b. image_class_eq.ghosts.eq a b) (λ a b. refl) refl (
  next_decides scalar_kinds (last_decides booleans_Decides),
  (last_decides booleans_Decides, (next_decides storage_formats (last_decides storage_accesses), tt)),
)

pub predeclared_types : (a b : PredeclaredType) → Decides (predeclared_type_eq.ghosts.eq a b) (a ≡ b)
predeclared_types =
    let result = next_decides (equal_options_decide vector_sizes) (last_decides scalars) in
    enum_decides predeclared_type.the_parts predeclared_type.as_values predeclared_type.the_make predeclared_type.the_eta (λ a b. predeclared_type_eq.ghosts.eq a b) (λ a b. refl) refl (last_decides scalars, (result, (result, tt)))
