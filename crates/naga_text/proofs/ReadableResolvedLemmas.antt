-- The types of expressions are readable.
use Rattle.std.proofs.Common.{refl, ℕ, List}
use Rattle.std.specs.Prelude.{◌*◌, Option, Some, None, codes}
use Rattle.naga_arena.specs.Arena.{value_at}
use Rattle.naga_arena.specs.declared.span.Span.{Span}
use Rattle.naga_kinds.specs.Scalar.{components_of}
use Rattle.naga_kinds.specs.declared.address_space.AddressSpace.{AddressSpace}
use Rattle.naga_kinds.specs.declared.address_space.AddressSpace.TheVariants as space
use Rattle.naga_kinds.specs.declared.scalar.CooperativeRole.{CooperativeRole}
use Rattle.naga_kinds.specs.declared.scalar.CooperativeSize.{CooperativeSize}
use Rattle.naga_kinds.specs.declared.scalar.CooperativeSize.TheVariants.{Eight, Sixteen}
use Rattle.naga_kinds.specs.declared.scalar.Scalar.{Scalar}
use Rattle.naga_kinds.specs.declared.scalar.ScalarKind.{ScalarKind}
use Rattle.naga_kinds.specs.declared.scalar.ScalarKind.TheVariants as kind
use Rattle.naga_kinds.specs.declared.scalar.VectorSize.{VectorSize}
use Rattle.naga_ir.specs.declared.types.«Type».{«Type» as Declared}
use Rattle.naga_ir.specs.declared.types.TypeInner.{TypeInner}
use Rattle.naga_ir.specs.declared.types.TypeInner.TheVariants as type
use Rattle.naga_typifier.specs.declared.resolution.TypeResolution.{TypeResolution}
use Rattle.naga_typifier.specs.declared.resolution.TypeResolution.TheVariants as resolution
use Rattle.naga_valid.specs.ElementNames.{text_of}
use Rattle.naga_text.specs.Readable.{IsPlain}
use Rattle.naga_text.specs.Types.{type_text}
use Rattle.naga_text.specs.Words.{quoted}
use Rattle.naga_text.specs.Resolved.{base_text, bracketed, cooperative_contents_text, cooperative_digits, cooperative_size_text, declared_type_text, full_text, matrix_size_text, named_type_text, plain_text, pointer_text, resolved_text, scalar_words, space_words, unnamed_text, value_text, vector_text}
use Rattle.naga_text.proofs.ReadableEscapesLemmas.{decimal-plain}
use Rattle.naga_text.proofs.ReadableTypesLemmas.{type_text-plain}
use Rattle.naga_text.proofs.ReadableWordsLemmas.{quoted-plain, word-plain}
use Rattle.naga_text.proofs.SpellsLemmas.{Spells-after, Spells-append, Spells-ascii}
use Rattle.naga_text.proofs.derived_lemmas.ReadableNamesLemmas.{cooperative_role_name-plain}

-- ---- scalars, vectors and matrices

scalar_words-plain : (scalar : Scalar) → IsPlain (scalar_words scalar)
scalar_words-plain scalar = go scalar.kind
  where
    go : (of : ScalarKind) → IsPlain (scalar_words (record scalar { kind = of }))
    go kind.Sint = Spells-after (codes "i") refl (decimal-plain (scalar.width * 8))
    go kind.Uint = Spells-after (codes "u") refl (decimal-plain (scalar.width * 8))
    go kind.Float = Spells-after (codes "f") refl (decimal-plain (scalar.width * 8))
    go kind.Bool = Spells-ascii (codes "bool") refl
    go kind.AbstractInt = Spells-ascii (codes "AbstractInt") refl
    go kind.AbstractFloat = Spells-ascii (codes "AbstractFloat") refl

bracketed-plain : {inner : List ℕ} → IsPlain inner → IsPlain (bracketed inner)
bracketed-plain inner = Spells-after (codes "<") refl (Spells-append inner (Spells-ascii (codes ">") refl))

vector_text-plain : (size : VectorSize) (scalar : Scalar) → IsPlain (vector_text size scalar)
vector_text-plain size scalar =
    Spells-after (codes " vec") refl (Spells-append (decimal-plain (components_of size)) (bracketed-plain (scalar_words-plain scalar)))

matrix_size_text-plain : (columns rows : VectorSize) → IsPlain (matrix_size_text columns rows)
matrix_size_text-plain columns rows =
    Spells-after (codes " mat") refl
    (Spells-append (decimal-plain (components_of columns)) (Spells-after (codes "x") refl (decimal-plain (components_of rows))))

cooperative_digits-plain : (size : CooperativeSize) → IsPlain (cooperative_digits size)
cooperative_digits-plain Eight = Spells-ascii (codes "8") refl
cooperative_digits-plain Sixteen = Spells-ascii (codes "16") refl

cooperative_size_text-plain : (columns rows : CooperativeSize) → IsPlain (cooperative_size_text columns rows)
cooperative_size_text-plain columns rows =
    Spells-after (codes " coop_mat") refl
    (Spells-append (cooperative_digits-plain columns) (Spells-after (codes "x") refl (cooperative_digits-plain rows)))

cooperative_contents_text-plain : (scalar : Scalar) (role : CooperativeRole) → IsPlain (cooperative_contents_text scalar role)
cooperative_contents_text-plain scalar role =
    Spells-after (codes "<") refl (Spells-append (scalar_words-plain scalar) (Spells-after (codes ",") refl
    (Spells-append (word-plain (cooperative_role_name-plain role)) (Spells-ascii (codes ">") refl))))

value_text-plain : (size : Option VectorSize) (scalar : Scalar) → IsPlain (value_text size scalar)
value_text-plain (Some size) scalar = vector_text-plain size scalar
value_text-plain None scalar = word-plain (scalar_words-plain scalar)

-- ---- types

unnamed_text-plain : (handle : Option ℕ) → IsPlain (unnamed_text handle)
unnamed_text-plain (Some handle) = type_text-plain handle
unnamed_text-plain None = Spells-ascii (codes " ?") refl

plain_text-plain : (handle : Option ℕ) (inner : TypeInner) → IsPlain (plain_text handle inner)
plain_text-plain handle (type.Scalar scalar) = word-plain (scalar_words-plain scalar)
plain_text-plain handle (type.Vector size scalar) = vector_text-plain size scalar
plain_text-plain handle (type.Matrix columns rows scalar) =
    Spells-append (matrix_size_text-plain columns rows) (bracketed-plain (scalar_words-plain scalar))
plain_text-plain handle (type.CooperativeMatrix columns rows scalar role) =
    Spells-append (cooperative_size_text-plain columns rows) (cooperative_contents_text-plain scalar role)
plain_text-plain handle (type.Atomic scalar) = Spells-after (codes " atomic") refl (bracketed-plain (scalar_words-plain scalar))
plain_text-plain handle _ = unnamed_text-plain handle

space_words-plain : (of : AddressSpace) → IsPlain (space_words of)
space_words-plain space.Function = Spells-ascii (codes "function") refl
space_words-plain space.Private = Spells-ascii (codes "private") refl
space_words-plain space.WorkGroup = Spells-ascii (codes "workgroup") refl
space_words-plain space.Uniform = Spells-ascii (codes "uniform") refl
space_words-plain (space.Storage access) = Spells-ascii (codes "storage") refl
space_words-plain space.Handle = Spells-ascii (codes "handle") refl
space_words-plain space.Immediate = Spells-ascii (codes "immediate") refl
space_words-plain space.TaskPayload = Spells-ascii (codes "task_payload") refl
space_words-plain space.RayPayload = Spells-ascii (codes "ray_payload") refl
space_words-plain space.IncomingRayPayload = Spells-ascii (codes "incoming_ray_payload") refl

pointer_text-plain : (of : AddressSpace) {base : List ℕ} → IsPlain base → IsPlain (pointer_text of base)
pointer_text-plain of base =
    Spells-append (Spells-after (codes " ptr<") refl (Spells-append (space_words-plain of) (Spells-ascii (codes ",") refl)))
    (Spells-append base (Spells-ascii (codes ">") refl))

named_type_text-plain : (declared : Declared) {unnamed : List ℕ} → IsPlain unnamed → IsPlain (named_type_text declared unnamed)
named_type_text-plain declared {unnamed} plain = go (text_of declared.name)
  where
    go : (name : Option (List ℕ)) → IsPlain (elim name as (λ _. List ℕ) [ Some text ↦ quoted text | None ↦ unnamed ])
    go (Some text) = quoted-plain text
    go None = plain

module _ (types : List (Declared × Span)) where
  base_text-plain : (base : ℕ) → IsPlain (base_text types base)
  base_text-plain base = go (value_at types base)
    where
      go : (found : Option Declared) → IsPlain (elim found as (λ _. List ℕ) [
        | None ↦ type_text base
        | Some declared ↦ named_type_text declared (plain_text (Some base) declared.inner)
      ])
      go None = type_text-plain base
      go (Some declared) = named_type_text-plain declared (plain_text-plain (Some base) declared.inner)

  full_text-plain : (handle : Option ℕ) (inner : TypeInner) → IsPlain (full_text types handle inner)
  full_text-plain handle (type.Pointer base of) = pointer_text-plain of (base_text-plain base)
  full_text-plain handle (type.ValuePointer size scalar of) = pointer_text-plain of (value_text-plain size scalar)
  full_text-plain handle inner = plain_text-plain handle inner

  declared_type_text-plain : (handle : ℕ) → IsPlain (declared_type_text types handle)
  declared_type_text-plain handle = go (value_at types handle)
    where
      go : (found : Option Declared) → IsPlain (elim found as (λ _. List ℕ) [
        | None ↦ type_text handle
        | Some declared ↦ named_type_text declared (full_text types (Some handle) declared.inner)
      ])
      go None = type_text-plain handle
      go (Some declared) = named_type_text-plain declared (full_text-plain (Some handle) declared.inner)

  pub resolved_text-plain : (resolved : Option TypeResolution) → IsPlain (resolved_text types resolved)
  resolved_text-plain None = Spells-ascii (codes " ?") refl
  resolved_text-plain (Some (resolution.Handle handle)) = declared_type_text-plain handle
  resolved_text-plain (Some (resolution.Value inner)) = full_text-plain None inner
