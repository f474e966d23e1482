-- Each expression of a function that has types has one, and an access by a computed index is to what has a part.
use Rattle.std.proofs.Common.{◌≡◌, ◌∙◌, ◌<◌, ap, append_assoc, arith, refl, subst, sym, ℕ, zero, suc, List, [], ◌∷◌, ◌++◌, Option, Some, None, Ok}
use Rattle.std.proofs.lemmas.List.{append-nil}
use Rattle.std.specs.List.{slice_get}
use Rattle.naga_arena.specs.Arena.{values}
use Rattle.naga_kinds.specs.Scalar.{components_of}
use Rattle.naga_kinds.specs.declared.scalar.VectorSize.{VectorSize}
use Rattle.naga_kinds.specs.declared.scalar.VectorSize.TheVariants.{Bi, Tri, Quad}
use Rattle.naga_ir.specs.declared.expression.Expression.{Expression}
use Rattle.naga_ir.specs.declared.expression.Expression.TheVariants as expr
use Rattle.naga_ir.specs.declared.module.Function as function
use Rattle.naga_ir.specs.declared.module.Module as the_module
use Rattle.naga_ir.specs.declared.types.ArraySize.{ArraySize}
use Rattle.naga_ir.specs.declared.types.ArraySize.TheVariants as size
use Rattle.naga_ir.specs.declared.types.TypeInner.{TypeInner}
use Rattle.naga_ir.specs.declared.types.TypeInner.TheVariants as inner
use Rattle.naga_typifier.specs.Context.{Context, context_in, contents_of, inner_at, inner_of}
use Rattle.naga_typifier.specs.Faults.{fault_of}
use Rattle.naga_typifier.specs.Rows.{◌>>=◌, accessed, part_of, pointer_to}
use Rattle.naga_typifier.specs.Table.{type_of}
use Rattle.naga_typifier.specs.Typing.{typing}
use Rattle.naga_typifier.specs.declared.resolution.TypeResolution.{TypeResolution}
use Rattle.naga_typifier.specs.declared.resolve_error.ResolveError.{ResolveError}
use Rattle.naga_bounds.specs.Fits.{length_found, or_unknown}
use Rattle.naga_bounds.specs.Modules.{typed_in}
use Rattle.naga_bounds.specs.Reach.{contents_at, expression_at, length_behind, length_of, length_of_size, length_reached}
use Rattle.naga_bounds.specs.RestrictedModules.{IsTyped}
use Rattle.naga_bounds.specs.declared.length.Length.{Length}
use Rattle.naga_bounds.specs.declared.length.Length.TheVariants.{Fixed}
use Rattle.naga_bounds.proofs.RestrictedLemmas.{get-left}

-- ---- each expression has a type, by the types of those before it

module _ (ctx : Context) where
  -- the expression has a type by the types in front of the list
  pub record HasType (known : List TypeResolution) (e : Expression) : Type 0 where
    pub front : List TypeResolution
    pub later : List TypeResolution
    pub ty : TypeResolution
    pub split : known ≡ front ++ later
    pub has : type_of ctx (slice_get front) e ≡ Some ty

  typing-extends : (known : List TypeResolution) (rest : List Expression) → (later : List TypeResolution) × ((typing ctx known rest).0 ≡ known ++ later)
  typing-extends known [] = ([], sym (append-nil known))
  typing-extends known (e ∷ rest) = go (λ ty. typing-extends (known ++ ty ∷ []) rest) (type_of ctx (slice_get known) e)
    where
      go : ((ty : TypeResolution) → (later : List TypeResolution) × ((typing ctx (known ++ ty ∷ []) rest).0 ≡ (known ++ ty ∷ []) ++ later)) → (found : Option TypeResolution) →
          (later : List TypeResolution) × ((elim found as (λ _. List TypeResolution × Option ResolveError) [ None ↦ (known, Some (fault_of ctx (slice_get known) e)) | Some ty ↦ typing ctx (known ++ ty ∷ []) rest ]).0 ≡ known ++ later)
      go more None = ([], sym (append-nil known))
      go more (Some ty) = (ty ∷ (more ty).0, (more ty).1 ∙ append_assoc known (ty ∷ []) (more ty).0)

  -- what is left after the first of these expressions, if its type is this
  abbrev left : List TypeResolution → Expression → List Expression → Option TypeResolution → List TypeResolution × Option ResolveError
  left known first rest found =
      elim found as (λ _. List TypeResolution × Option ResolveError) [ None ↦ (known, Some (fault_of ctx (slice_get known) first)) | Some ty ↦ typing ctx (known ++ ty ∷ []) rest ]

  pub typing-has : (known : List TypeResolution) (rest : List Expression) → (typing ctx known rest).1 ≡ None → (i : ℕ) (e : Expression) → slice_get rest i ≡ Some e → HasType (typing ctx known rest).0 e
  typing-has known [] none i e at = absurd (cc)
  typing-has known (first ∷ rest) none i e at = go (λ ty. typing-has (known ++ ty ∷ []) rest) (λ ty. typing-extends (known ++ ty ∷ []) rest) (type_of ctx (slice_get known) first) refl none i at
    where
      go : ((ty : TypeResolution) → (typing ctx (known ++ ty ∷ []) rest).1 ≡ None → (i : ℕ) (e : Expression) → slice_get rest i ≡ Some e → HasType (typing ctx (known ++ ty ∷ []) rest).0 e) →
          ((ty : TypeResolution) → (later : List TypeResolution) × ((typing ctx (known ++ ty ∷ []) rest).0 ≡ (known ++ ty ∷ []) ++ later)) →
          (found : Option TypeResolution) → type_of ctx (slice_get known) first ≡ found → (left known first rest found).1 ≡ None → (i : ℕ) → slice_get (first ∷ rest) i ≡ Some e → HasType (left known first rest found).0 e
      go more extends None is none i at = absurd (let h : Some (fault_of ctx (slice_get known) first) ≡ None = none in cc)
      go more extends (Some ty) is none zero at =
          let same : first ≡ e = cc in
          record {
            front = known;
            later = ty ∷ (extends ty).0;
            ty = ty;
            split = (extends ty).1 ∙ append_assoc known (ty ∷ []) (extends ty).0;
            has = subst (λ x. type_of ctx (slice_get known) x ≡ Some ty) same is;
          }
      go more extends (Some ty) is none (suc i) at = more ty none i e at

-- ---- lengths

some-components : (size : VectorSize) → 0 < components_of size
some-components Bi = omega arith
some-components Tri = omega arith
some-components Quad = omega arith

size-positive : (written : ArraySize) (count : ℕ) → length_of_size written ≡ Some (Fixed count) → 0 < count
size-positive (size.Constant number) count is = let same : number.value ≡ count = cc in subst (λ n. 0 < n) same number.ok
size-positive (size.Pending handle) count is = absurd (cc)
size-positive size.Dynamic count is = absurd (cc)

part-positive : (contents : TypeInner) (part : TypeResolution) → part_of None contents ≡ Some part → (count : ℕ) → length_of contents ≡ Some (Fixed count) → 0 < count
part-positive (inner.Vector size scalar) part has count is = let same : components_of size ≡ count = cc in subst (λ n. 0 < n) same (some-components size)
part-positive (inner.Matrix columns rows scalar) part has count is = let same : components_of columns ≡ count = cc in subst (λ n. 0 < n) same (some-components columns)
part-positive (inner.Array base size stride) part has count is = size-positive size count is
part-positive (inner.BindingArray base size) part has count is = size-positive size count is
part-positive _ part has count is = absurd (cc)

behind-fixed : (contents : TypeInner) (count : ℕ) → length_behind contents ≡ Some (Fixed count) → length_of contents ≡ Some (Fixed count)
behind-fixed (inner.Array base (size.Constant number) stride) count is = is
behind-fixed (inner.Array base (size.Pending handle) stride) count is = is
behind-fixed (inner.Array base size.Dynamic stride) count is = absurd (cc)
behind-fixed _ count is = is

pub bound-some : {A B : Type 0} (found : Option A) (next : A → Option B) (y : B) → (found >>= next) ≡ Some y → (x : A) × (found ≡ Some x) × (next x ≡ Some y)
bound-some None next y is = absurd (cc)
bound-some (Some x) next y is = (x, refl, is)

accessed-positive : (ctx : Context) (contents : TypeInner) (part : TypeResolution) → accessed ctx None contents ≡ Some part → (count : ℕ) → length_reached ctx.types contents ≡ Some (Fixed count) → 0 < count
accessed-positive ctx (inner.Pointer base space) part has count is =
    let pointed = bound-some (ctx.types base) length_behind (Fixed count) is in
    let parts = bound-some (ctx.types base >>= part_of None) (pointer_to space) part has in
    let of_contents = bound-some (ctx.types base) (part_of None) parts.0 parts.1 in
    let same : of_contents.0 ≡ pointed.0 = (let e : Some of_contents.0 ≡ Some pointed.0 = sym of_contents.1 ∙ pointed.1 in cc) in
    part-positive of_contents.0 parts.0 of_contents.2 count (behind-fixed of_contents.0 count (ap length_behind same ∙ pointed.2))
accessed-positive ctx (inner.ValuePointer None scalar space) part has count is = absurd (cc)
accessed-positive ctx (inner.ValuePointer (Some size) scalar space) part has count is = let same : components_of size ≡ count = cc in subst (λ n. 0 < n) same (some-components size)
accessed-positive ctx contents part has count is = part-positive contents part has count is

pub found-length : (found : Option Length) (long : Length) → or_unknown found ≡ Ok long → found ≡ Some long
found-length None long is = absurd (cc)
found-length (Some other) long is = ap Some (let same : other ≡ long = cc in same)

-- a length that a type gives, of what a computed index chooses from, is not 0
pub fixed-positive : (whole : the_module.Module) (old : function.Function) → IsTyped whole old → (x base index count : ℕ) → expression_at (typed_in whole old) x ≡ Some (expr.Access base index)
    → length_found (typed_in whole old) (contents_at (typed_in whole old) base) ≡ Ok (Fixed count) → 0 < count
fixed-positive whole old typed x base index count found long =
    let ctx : Context = context_in whole old in
    let has = typing-has ctx [] (values old.expressions) typed x (expr.Access base index) found in
    let parted = bound-some (slice_get has.front base >>= inner_of ctx) (accessed ctx None) has.ty has.has in
    let resolved = bound-some (slice_get has.front base) (inner_of ctx) parted.0 parted.1 in
    let known : slice_get (typed_in whole old).known base ≡ Some resolved.0 = ap (λ all. slice_get all base) has.split ∙ get-left has.front has.later base resolved.0 resolved.1 in
    let contents : contents_at (typed_in whole old) base ≡ Some parted.0 = ap (λ v. v >>= contents_of (inner_at whole.types)) known ∙ resolved.2 in
    accessed-positive ctx parted.0 has.ty parted.2 count
    (found-length (length_reached (inner_at whole.types) parted.0) (Fixed count) (sym (ap (length_found (typed_in whole old)) contents) ∙ long))
