-- `==` of types returns `true` if and only if they represent the same type.
use Rattle.std.proofs.Common.{◌≡◌, ◌∙◌, ◌&&◌, ℕ, Bool, true, List, map, refl, rules, sym, ap, inl, inr, Option}
use denote.Enum.Compared.{Each}
use Rattle.std.specs.Prelude.{◌==◌}
use Rattle.std.specs.Prelude.{string_bytes}
use Rattle.std.specs.Bool.{Decides}
use Rattle.std.specs.Cmp.{unsigned_Decides, booleans_Decides}
use Rattle.std.specs.Cmp.Lexicographic.{bytes_decides}
use Rattle.std.specs.Option.{option_eq, option_map}
use Rattle.std.specs.String.{string_eq}
use Rattle.std.specs.declared.alloc.Global.{Global}
use Rattle.std.specs.declared.num.NonZeroU32.{NonZeroU32}
use Rattle.std.specs.declared.string.String.{String}
use Rattle.std.specs.contracts.num.NonZeroU32 as non_zero
use Rattle.std.specs.contracts.prelude.NonZeroU32PartialEq.TheImpl as non_zero_eq
use Rattle.naga_kinds.proofs.DecidesLemmas.{conjunction_decides, decides_along, enum_decides, equal_options_decide, last_decides, lists_decide, next_decides, options_decide, own_tests, themselves, variants_decide, Viewed, viewed, Views}
use Rattle.naga_kinds.proofs.PartialEqLemmas.{address_spaces, bindings, cooperative_roles, cooperative_sizes, image_classes, image_dimensions, scalars, vector_sizes}
use Rattle.naga_kinds.specs.declared.glsl.GlslScalar.{GlslScalar}
use Rattle.naga_kinds.specs.declared.glsl.GlslVectorSize.{GlslVectorSize}
use Rattle.naga_kinds.specs.contracts.glsl.GlslScalarPartialEq.TheImpl as glsl_scalar_eq
use Rattle.naga_kinds.specs.contracts.glsl.GlslVectorSizePartialEq.TheImpl as glsl_vector_size_eq
use Rattle.naga_ir.specs.declared.glsl.GlslUniformType.{GlslUniformType}
use Rattle.naga_ir.specs.contracts.glsl.GlslUniformType as uniform
use Rattle.naga_ir.specs.contracts.glsl.GlslUniformTypePartialEq.TheImpl as uniform_eq
use Rattle.naga_ir.specs.declared.types.ArraySize.{ArraySize}
use Rattle.naga_ir.specs.declared.types.StructMember.{StructMember}
use Rattle.naga_ir.specs.declared.types.«Type».{«Type» as NamedType}
use Rattle.naga_ir.specs.declared.types.TypeInner.{TypeInner}
use Rattle.naga_ir.specs.declared.types.TypeInner.TheVariants.{Scalar, Vector, Matrix, CooperativeMatrix, Atomic, Pointer, ValuePointer, Array, Struct, Image, Sampler, AccelerationStructure, RayQuery, BindingArray}
use Rattle.naga_ir.specs.contracts.types.ArraySize as array_size
use Rattle.naga_ir.specs.contracts.types.TypeInner as type_inner
use Rattle.naga_ir.specs.contracts.types.ArraySizePartialEq.TheImpl as array_size_eq
use Rattle.naga_ir.specs.contracts.types.StructMemberPartialEq.TheImpl as struct_member_eq
use Rattle.naga_ir.specs.contracts.types.TypeInnerPartialEq.TheImpl as type_inner_eq
use Rattle.naga_ir.specs.contracts.types.TypePartialEq.TheImpl as type_eq
use Rattle.naga_ir.specs.Types.{Member, member_of, Inner, structure, plain, inner_of, type_of}

-- ---- names, members of structures, sizes

pub name-decides : (x y : Option (String Global)) → Decides (option_eq string_eq x y) (option_map string_bytes x ≡ option_map string_bytes y)
name-decides = options_decide string_bytes (λ x y. bytes_decides (string_bytes x) (string_bytes y))

-- the test of handles has a second part, for their kinds, which is always true
handle-decides : (x y : ℕ) → Decides ((x == y) && true) (x ≡ y)
handle-decides x y =
    decides_along (λ h. h.0) (λ e. (e, tt)) (conjunction_decides (x == y) true (unsigned_Decides x y) ((λ (e : true ≡ true). let t : Unit {0} = tt in t), λ t. refl))

pub member_of-decides : (a b : StructMember) → Decides (struct_member_eq.ghosts.eq a b) (member_of a ≡ member_of b)
member_of-decides a b =
    decides_along (λ h i. record { name = h.0 i; ty = h.1.0 i; binding = h.1.1.0 i; offset = h.1.1.1 i }) (λ e. (ap (λ (m : Member). m.name) e, (ap (λ (m : Member). m.ty) e, (ap (λ (m : Member). m.binding) e, ap (λ (m : Member). m.offset) e)))) (conjunction_decides _ _ (name-decides a.name b.name) (conjunction_decides _ _ (handle-decides a.ty b.ty) (conjunction_decides _ _ (equal_options_decide bindings a.binding b.binding) (unsigned_Decides a.offset b.offset))))

non_zero-decides : (a b : NonZeroU32) → Decides (non_zero_eq.ghosts.eq a b) (a ≡ b)
non_zero-decides a b =
    decides_along (λ e. non_zero.the_type.to_one a b (λ i. (e i, tt))) (λ e. ap (λ (n : NonZeroU32). n.value) e) (unsigned_Decides a.value b.value)

pub array_size-decides : (a b : ArraySize) → Decides (array_size_eq.ghosts.eq a b) (a ≡ b)
array_size-decides = enum_decides array_size.the_parts array_size.as_values array_size.the_make array_size.the_eta (λ a b. array_size_eq.ghosts.eq a b) (λ a b. refl) refl (last_decides non_zero-decides, (last_decides handle-decides, tt))

-- ---- types of uniforms

glsl_scalar-decides : (a b : GlslScalar) → Decides (glsl_scalar_eq.ghosts.eq a b) (a ≡ b)
glsl_scalar-decides a b = search rules

glsl_vector_size-decides : (a b : GlslVectorSize) → Decides (glsl_vector_size_eq.ghosts.eq a b) (a ≡ b)
glsl_vector_size-decides a b = search rules

pub uniform_type-decides : (a b : GlslUniformType) → Decides (uniform_eq.ghosts.eq a b) (a ≡ b)
uniform_type-decides =
    let vector = next_decides glsl_vector_size-decides (last_decides glsl_scalar-decides) in
    enum_decides uniform.the_parts uniform.as_values uniform.the_make uniform.the_eta (λ a b. uniform_eq.ghosts.eq a b) (λ a b. refl) refl (last_decides glsl_scalar-decides, (vector, (next_decides glsl_vector_size-decides vector, tt)))

-- ---- contents of types

abbrev parts_views : Views type_inner.the_parts
parts_views =
    let own = themselves type_inner.the_parts in
    (own.0, (own.1.0, (own.1.1.0, (own.1.1.1.0, (own.1.1.1.1.0, (own.1.1.1.1.1.0, (own.1.1.1.1.1.1.0, (own.1.1.1.1.1.1.1.0, ((List Member × ℕ, λ x. (map member_of x.0.items, x.1.0)), own.1.1.1.1.1.1.1.1.1)))))))))

abbrev view_of : TypeInner → Viewed type_inner.the_parts parts_views
view_of what = viewed type_inner.the_parts parts_views (type_inner.as_values what)

abbrev inner_from : Viewed type_inner.the_parts parts_views → Inner
inner_from (inl x) = plain (Scalar x.0)
inner_from (inr (inl x)) = plain (Vector x.0 x.1.0)
inner_from (inr (inr (inl x))) = plain (Matrix x.0 x.1.0 x.1.1.0)
inner_from (inr (inr (inr (inl x)))) = plain (CooperativeMatrix x.0 x.1.0 x.1.1.0 x.1.1.1.0)
inner_from (inr (inr (inr (inr (inl x))))) = plain (Atomic x.0)
inner_from (inr (inr (inr (inr (inr (inl x)))))) = plain (Pointer x.0 x.1.0)
inner_from (inr (inr (inr (inr (inr (inr (inl x))))))) = plain (ValuePointer x.0 x.1.0 x.1.1.0)
inner_from (inr (inr (inr (inr (inr (inr (inr (inl x)))))))) = plain (Array x.0 x.1.0 x.1.1.0)
inner_from (inr (inr (inr (inr (inr (inr (inr (inr (inl x))))))))) = structure x.0 x.1
inner_from (inr (inr (inr (inr (inr (inr (inr (inr (inr (inl x)))))))))) = plain (Image x.0 x.1.0 x.1.1.0)
inner_from (inr (inr (inr (inr (inr (inr (inr (inr (inr (inr (inl x))))))))))) = plain (Sampler x.0)
inner_from (inr (inr (inr (inr (inr (inr (inr (inr (inr (inr (inr (inl x)))))))))))) = plain (AccelerationStructure x.0)
inner_from (inr (inr (inr (inr (inr (inr (inr (inr (inr (inr (inr (inr (inl x))))))))))))) = plain (RayQuery x.0)
inner_from (inr (inr (inr (inr (inr (inr (inr (inr (inr (inr (inr (inr (inr (inl x)))))))))))))) = plain (BindingArray x.0 x.1.0)
inner_from (inr (inr (inr (inr (inr (inr (inr (inr (inr (inr (inr (inr (inr (inr z)))))))))))))) = absurd z

abbrev view_from : Inner → Viewed type_inner.the_parts parts_views
view_from (structure members span) = inr (inr (inr (inr (inr (inr (inr (inr (inl (members, span)))))))))
view_from (plain what) = view_of what

-- the view and the contents of a type determine each other
abbrev Agree : TypeInner → Type 0
Agree what = (inner_from (view_of what) ≡ inner_of what) × (view_from (inner_of what) ≡ view_of what)

view_of-inner_of : (what : TypeInner) → Agree what
view_of-inner_of (Scalar scalar) = (refl, refl)
view_of-inner_of (Vector size scalar) = (refl, refl)
view_of-inner_of (Matrix columns rows scalar) = (refl, refl)
view_of-inner_of (CooperativeMatrix columns rows scalar role) = (refl, refl)
view_of-inner_of (Atomic scalar) = (refl, refl)
view_of-inner_of (Pointer base space) = (refl, refl)
view_of-inner_of (ValuePointer size scalar space) = (refl, refl)
view_of-inner_of (Array base size stride) = (refl, refl)
view_of-inner_of (Struct members span) = (refl, refl)
view_of-inner_of (Image dim arrayed class) = (refl, refl)
view_of-inner_of (Sampler comparison) = (refl, refl)
view_of-inner_of (AccelerationStructure vertex_return) = (refl, refl)
view_of-inner_of (RayQuery vertex_return) = (refl, refl)
view_of-inner_of (BindingArray base size) = (refl, refl)

abbrev own : Each Bool type_inner.the_parts
own = own_tests type_inner.the_parts (λ c d. type_inner_eq.ghosts.eq (type_inner.the_make c) (type_inner.the_make d))

pub inner_of-decides : (a b : TypeInner) → Decides (type_inner_eq.ghosts.eq a b) (inner_of a ≡ inner_of b)
inner_of-decides a b =
    let told : Decides (type_inner_eq.ghosts.eq a b) (view_of a ≡ view_of b) =
    variants_decide type_inner.the_parts parts_views own refl (
      last_decides scalars,
      (
        next_decides vector_sizes (last_decides scalars),
        (
          next_decides vector_sizes (next_decides vector_sizes (last_decides scalars)),
          (
            next_decides cooperative_sizes (next_decides cooperative_sizes (next_decides scalars (last_decides cooperative_roles))),
            (
              last_decides scalars,
              (
                next_decides handle-decides (last_decides address_spaces),
                (
                  next_decides (equal_options_decide vector_sizes) (next_decides scalars (last_decides address_spaces)),
                  (
                    next_decides handle-decides (next_decides array_size-decides (last_decides unsigned_Decides)),
                    (
                      (λ x y. decides_along (λ h i. (h.0 i, h.1 i)) (λ e. (ap (λ (v : List Member × ℕ). v.0) e, ap (λ (v : List Member × ℕ). v.1) e)) (conjunction_decides _ _ (lists_decide member_of member_of-decides x.0.items y.0.items) (unsigned_Decides x.1.0 y.1.0))),
                      (
                        next_decides image_dimensions (next_decides booleans_Decides (last_decides image_classes)),
                        (
                          last_decides booleans_Decides,
                          (
                            last_decides booleans_Decides,
                            (
                              last_decides booleans_Decides,
                              (next_decides handle-decides (last_decides array_size-decides), tt),
                            ),
                          ),
                        ),
                      ),
                    ),
                  ),
                ),
              ),
            ),
          ),
        ),
      ),
    ) (type_inner.as_values a) (type_inner.as_values b)
    in
    decides_along (λ e. sym (view_of-inner_of a).0 ∙ ap inner_from e ∙ (view_of-inner_of b).0) (λ e. sym (view_of-inner_of a).1 ∙ ap view_from e ∙ (view_of-inner_of b).1) told

pub type_of-decides : (a b : NamedType) → Decides (type_eq.ghosts.eq a b) (type_of a ≡ type_of b)
type_of-decides a b =
    decides_along (λ h i. (h.0 i, h.1 i)) (λ e. (ap (λ (t : Option (List ℕ) × Inner). t.0) e, ap (λ (t : Option (List ℕ) × Inner). t.1) e)) (conjunction_decides _ _ (name-decides a.name b.name) (inner_of-decides a.inner b.inner))
