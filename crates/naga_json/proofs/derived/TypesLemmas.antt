-- Made by tests/derive from the declarations of naga_kinds and naga_ir.
-- Values whose types are declared in the module `types` are read as they are written.
use Rattle.std.proofs.Common.{refl}
use Rattle.std.specs.List.{AllByRecursion}
use Rattle.json.specs.Json.{Json}
use Rattle.naga_json.specs.Lawful.{Gives, IsRead, Lawful}
use Rattle.naga_json.proofs.CodecLemmas.{lawful-boolean, lawful-handle, lawful-nonzero, lawful-text, lawful-word}
use Rattle.naga_json.proofs.FieldsLemmas.{contains, distinct, lawful-field, lawful-no_fields, lawful-optional_field, lawful-struct, LawfulFields}
use Rattle.naga_json.proofs.ListsLemmas.{lawful-list}
use Rattle.naga_json.proofs.VariantsLemmas.{gives-data_enum, gives-enum, is_word, lawful-holds, lawful-holds_fields, LawfulVariant}
use Rattle.naga_ir.specs.declared.types.ArraySize.{ArraySize}
use Rattle.naga_ir.specs.declared.types.ArraySize.TheVariants as array_size
use Rattle.naga_ir.specs.Types.{Inner, plain, structure}
use Rattle.naga_ir.specs.declared.types.TypeInner.TheVariants as type_inner
use Rattle.naga_json.specs.derived.Types.{array_size_codec, array_size_constant, array_size_names, array_size_pending, array_size_rows, struct_member_codec, struct_member_fields, type_inner_acceleration_structure, type_inner_array, type_inner_atomic, type_inner_binding_array, type_inner_codec, type_inner_cooperative_matrix, type_inner_image, type_inner_matrix, type_inner_pointer, type_inner_ray_query, type_inner_rows, type_inner_sampler, type_inner_scalar, type_inner_struct, type_inner_value_pointer, type_inner_vector}
use Rattle.naga_json.proofs.derived.AddressSpaceLemmas.{lawful-address_space}
use Rattle.naga_json.proofs.derived.BindingLemmas.{lawful-binding}
use Rattle.naga_json.proofs.derived.ImageLemmas.{lawful-image_class}
use Rattle.naga_json.proofs.derived.ScalarLemmas.{lawful-scalar}
use Rattle.naga_json.proofs.derived.KindsLemmas.{lawful-cooperative_role, lawful-cooperative_size, lawful-image_dimension, lawful-vector_size}

lawful-array_size_constant : LawfulVariant array_size_constant
lawful-array_size_constant = lawful-holds _ _ _ lawful-nonzero

lawful-array_size_pending : LawfulVariant array_size_pending
lawful-array_size_pending = lawful-holds _ _ _ lawful-handle

pub lawful-array_size : Lawful array_size_codec
lawful-array_size = record { reads = reads; gives = gives-enum array_size_codec.Fits array_size_names array_size_rows (search) each }
  where
    reads : (value : ArraySize) → array_size_codec.Fits value → IsRead array_size_codec.decode value (array_size_codec.encode value)
    reads (array_size.Constant value) fits = lawful-array_size_constant.reads value fits array_size_codec.decode (λ held. refl)
    reads (array_size.Pending value) fits = lawful-array_size_pending.reads value fits array_size_codec.decode (λ held. refl)
    reads array_size.Dynamic fits = is_word refl

    each : (held : Json) → AllByRecursion (λ row. Gives array_size_codec.Fits row.1) (array_size_rows held)
    each held = (lawful-array_size_constant.gives array_size_codec.Fits (λ parts fits. fits) held, (lawful-array_size_pending.gives array_size_codec.Fits (λ parts fits. fits) held, tt))

lawful-struct_member_fields : LawfulFields struct_member_fields
lawful-struct_member_fields = lawful-optional_field _ _ _ lawful-text (lawful-field _ _ _ lawful-handle (lawful-optional_field _ _ _ lawful-binding (lawful-field _ _ _ lawful-word lawful-no_fields)))

pub lawful-struct_member : Lawful struct_member_codec
unfolding distinct contains
lawful-struct_member = lawful-struct struct_member_fields lawful-struct_member_fields _ _ (λ value. refl) (λ parts. refl) refl

lawful-type_inner_scalar : LawfulVariant type_inner_scalar
lawful-type_inner_scalar = lawful-holds _ _ _ lawful-scalar

lawful-type_inner_vector : LawfulVariant type_inner_vector
unfolding distinct contains
lawful-type_inner_vector = lawful-holds_fields _ _ _ (lawful-field _ _ _ lawful-vector_size (lawful-field _ _ _ lawful-scalar lawful-no_fields)) refl

lawful-type_inner_matrix : LawfulVariant type_inner_matrix
unfolding distinct contains
lawful-type_inner_matrix = lawful-holds_fields _ _ _ (lawful-field _ _ _ lawful-vector_size (lawful-field _ _ _ lawful-vector_size (lawful-field _ _ _ lawful-scalar lawful-no_fields))) refl

lawful-type_inner_cooperative_matrix : LawfulVariant type_inner_cooperative_matrix
unfolding distinct contains
lawful-type_inner_cooperative_matrix = lawful-holds_fields _ _ _ (lawful-field _ _ _ lawful-cooperative_size (lawful-field _ _ _ lawful-cooperative_size (lawful-field _ _ _ lawful-scalar (lawful-field _ _ _ lawful-cooperative_role lawful-no_fields)))) refl

lawful-type_inner_atomic : LawfulVariant type_inner_atomic
lawful-type_inner_atomic = lawful-holds _ _ _ lawful-scalar

lawful-type_inner_pointer : LawfulVariant type_inner_pointer
unfolding distinct contains
lawful-type_inner_pointer = lawful-holds_fields _ _ _ (lawful-field _ _ _ lawful-handle (lawful-field _ _ _ lawful-address_space lawful-no_fields)) refl

lawful-type_inner_value_pointer : LawfulVariant type_inner_value_pointer
unfolding distinct contains
lawful-type_inner_value_pointer = lawful-holds_fields _ _ _ (lawful-optional_field _ _ _ lawful-vector_size (lawful-field _ _ _ lawful-scalar (lawful-field _ _ _ lawful-address_space lawful-no_fields))) refl

lawful-type_inner_array : LawfulVariant type_inner_array
unfolding distinct contains
lawful-type_inner_array = lawful-holds_fields _ _ _ (lawful-field _ _ _ lawful-handle (lawful-field _ _ _ lawful-array_size (lawful-field _ _ _ lawful-word lawful-no_fields))) refl

lawful-type_inner_struct : LawfulVariant type_inner_struct
unfolding distinct contains
lawful-type_inner_struct = lawful-holds_fields _ _ _ (lawful-field _ _ _ (lawful-list _ lawful-struct_member) (lawful-field _ _ _ lawful-word lawful-no_fields)) refl

lawful-type_inner_image : LawfulVariant type_inner_image
unfolding distinct contains
lawful-type_inner_image = lawful-holds_fields _ _ _ (lawful-field _ _ _ lawful-image_dimension (lawful-field _ _ _ lawful-boolean (lawful-field _ _ _ lawful-image_class lawful-no_fields))) refl

lawful-type_inner_sampler : LawfulVariant type_inner_sampler
unfolding distinct contains
lawful-type_inner_sampler = lawful-holds_fields _ _ _ (lawful-field _ _ _ lawful-boolean lawful-no_fields) refl

lawful-type_inner_acceleration_structure : LawfulVariant type_inner_acceleration_structure
unfolding distinct contains
lawful-type_inner_acceleration_structure = lawful-holds_fields _ _ _ (lawful-field _ _ _ lawful-boolean lawful-no_fields) refl

lawful-type_inner_ray_query : LawfulVariant type_inner_ray_query
unfolding distinct contains
lawful-type_inner_ray_query = lawful-holds_fields _ _ _ (lawful-field _ _ _ lawful-boolean lawful-no_fields) refl

lawful-type_inner_binding_array : LawfulVariant type_inner_binding_array
unfolding distinct contains
lawful-type_inner_binding_array = lawful-holds_fields _ _ _ (lawful-field _ _ _ lawful-handle (lawful-field _ _ _ lawful-array_size lawful-no_fields)) refl

pub lawful-type_inner : Lawful type_inner_codec
lawful-type_inner = record { reads = reads; gives = gives-data_enum type_inner_codec.Fits type_inner_rows each }
  where
    reads : (value : Inner) → type_inner_codec.Fits value → IsRead type_inner_codec.decode value (type_inner_codec.encode value)
    reads (plain (type_inner.Scalar value)) fits = lawful-type_inner_scalar.reads value fits type_inner_codec.decode (λ held. refl)
    reads (plain (type_inner.Vector size scalar)) fits = lawful-type_inner_vector.reads (size, (scalar, tt)) fits type_inner_codec.decode (λ held. refl)
    reads (plain (type_inner.Matrix columns rows scalar)) fits = lawful-type_inner_matrix.reads (columns, (rows, (scalar, tt))) fits type_inner_codec.decode (λ held. refl)
    reads (plain (type_inner.CooperativeMatrix columns rows scalar role)) fits = lawful-type_inner_cooperative_matrix.reads (columns, (rows, (scalar, (role, tt)))) fits type_inner_codec.decode (λ held. refl)
    reads (plain (type_inner.Atomic value)) fits = lawful-type_inner_atomic.reads value fits type_inner_codec.decode (λ held. refl)
    reads (plain (type_inner.Pointer base space)) fits = lawful-type_inner_pointer.reads (base, (space, tt)) fits type_inner_codec.decode (λ held. refl)
    reads (plain (type_inner.ValuePointer size scalar space)) fits = lawful-type_inner_value_pointer.reads (size, (scalar, (space, tt))) fits type_inner_codec.decode (λ held. refl)
    reads (plain (type_inner.Array base size stride)) fits = lawful-type_inner_array.reads (base, (size, (stride, tt))) fits type_inner_codec.decode (λ held. refl)
    reads (structure members span) fits = lawful-type_inner_struct.reads (members, (span, tt)) fits type_inner_codec.decode (λ held. refl)
    reads (plain (type_inner.Image dim arrayed class)) fits = lawful-type_inner_image.reads (dim, (arrayed, (class, tt))) fits type_inner_codec.decode (λ held. refl)
    reads (plain (type_inner.Sampler comparison)) fits = lawful-type_inner_sampler.reads (comparison, tt) fits type_inner_codec.decode (λ held. refl)
    reads (plain (type_inner.AccelerationStructure vertex_return)) fits = lawful-type_inner_acceleration_structure.reads (vertex_return, tt) fits type_inner_codec.decode (λ held. refl)
    reads (plain (type_inner.RayQuery vertex_return)) fits = lawful-type_inner_ray_query.reads (vertex_return, tt) fits type_inner_codec.decode (λ held. refl)
    reads (plain (type_inner.BindingArray base size)) fits = lawful-type_inner_binding_array.reads (base, (size, tt)) fits type_inner_codec.decode (λ held. refl)
    reads other fits = absurd fits

    each : (held : Json) → AllByRecursion (λ row. Gives type_inner_codec.Fits row.1) (type_inner_rows held)
    each held = (lawful-type_inner_scalar.gives type_inner_codec.Fits (λ parts fits. fits) held, (lawful-type_inner_vector.gives type_inner_codec.Fits (λ parts fits. fits) held, (lawful-type_inner_matrix.gives type_inner_codec.Fits (λ parts fits. fits) held, (lawful-type_inner_cooperative_matrix.gives type_inner_codec.Fits (λ parts fits. fits) held, (lawful-type_inner_atomic.gives type_inner_codec.Fits (λ parts fits. fits) held, (lawful-type_inner_pointer.gives type_inner_codec.Fits (λ parts fits. fits) held, (lawful-type_inner_value_pointer.gives type_inner_codec.Fits (λ parts fits. fits) held, (lawful-type_inner_array.gives type_inner_codec.Fits (λ parts fits. fits) held, (lawful-type_inner_struct.gives type_inner_codec.Fits (λ parts fits. fits) held, (lawful-type_inner_image.gives type_inner_codec.Fits (λ parts fits. fits) held, (lawful-type_inner_sampler.gives type_inner_codec.Fits (λ parts fits. fits) held, (lawful-type_inner_acceleration_structure.gives type_inner_codec.Fits (λ parts fits. fits) held, (lawful-type_inner_ray_query.gives type_inner_codec.Fits (λ parts fits. fits) held, (lawful-type_inner_binding_array.gives type_inner_codec.Fits (λ parts fits. fits) held, tt))))))))))))))
