-- Types with other handles in place of their own, and the types of renamed expressions.
use Rattle.std.specs.Prelude.{◌≡◌, ⊤, ℕ, Bool, true, Option, IfSome}
use Rattle.std.specs.List.{AllByRecursion}
use Rattle.std.specs.Option.{option_map}
use Rattle.naga_kinds.specs.declared.address_space.AddressSpace.{AddressSpace}
use Rattle.naga_kinds.specs.declared.scalar.PredeclaredType.{PredeclaredType}
use Rattle.naga_ir.specs.declared.expression.Expression.{Expression}
use Rattle.naga_ir.specs.declared.expression.Expression.TheVariants.{Constant, Override, ZeroValue, Compose, AtomicResult, WorkGroupUniformLoadResult, SubgroupOperationResult, GlobalVariable, CallResult}
use Rattle.naga_ir.specs.declared.types.TypeInner.{TypeInner}
use Rattle.naga_ir.specs.declared.types.TypeInner.TheVariants as inner
use Rattle.naga_compact.specs.Renaming.{Renaming}
use Rattle.naga_compact.specs.derived.Renaming.{rename_type_inner}
use Rattle.naga_typifier.specs.Context.{Context}
use Rattle.naga_typifier.specs.declared.resolution.TypeResolution.{TypeResolution}
use Rattle.naga_typifier.specs.declared.resolution.TypeResolution.TheVariants as resolution

-- ---- types that are kept

module _ (kept : ℕ → Bool) where
  -- the declared type is kept
  abbrev pub TypeIsKept : ℕ → Type 0
  TypeIsKept ty = kept ty ≡ true

  -- the types that the contents of a type mention are kept
  abbrev pub MentionsKept : TypeInner → Type 0
  MentionsKept (inner.Pointer base space) = TypeIsKept base
  MentionsKept (inner.Array base size stride) = TypeIsKept base
  MentionsKept (inner.BindingArray base size) = TypeIsKept base
  MentionsKept (inner.Struct members span) = AllByRecursion (λ member. TypeIsKept member.ty) members.items
  MentionsKept contents = ⊤

  -- the type is kept, or mentions only types that are
  abbrev pub IsKept : TypeResolution → Type 0
  IsKept (resolution.Handle ty) = TypeIsKept ty
  IsKept (resolution.Value contents) = MentionsKept contents

  -- types that are kept mention only types that are
  abbrev pub IsClosed : Context → Type 0
  IsClosed ctx = (ty : ℕ) → TypeIsKept ty → IfSome (ctx.types ty) MentionsKept

  -- Types that are kept mention only types that are. The types of local variables and of arguments are kept, and so are
  -- those that expressions have without naming them.
  pub record TypesAreKept (ctx : Context) : Type 0 where
    pub closed : IsClosed ctx
    pub locals : (handle : ℕ) → IfSome (ctx.locals handle) TypeIsKept
    pub arguments : (index : ℕ) → IfSome (ctx.arguments index) TypeIsKept
    pub ray_intersection : IfSome ctx.ray_intersection TypeIsKept
    pub ray_vertex_return : IfSome ctx.ray_vertex_return TypeIsKept
    pub predeclared : (key : PredeclaredType) → IfSome (ctx.predeclared key) TypeIsKept

  -- the types that an expression names, and those of the elements of the module that it names, are kept
  abbrev pub NamesAreKept : Context → Expression → Type 0
  NamesAreKept ctx (Constant constant) = IfSome (ctx.constants constant) TypeIsKept
  NamesAreKept ctx (Override override) = IfSome (ctx.overrides override) TypeIsKept
  NamesAreKept ctx (ZeroValue ty) = TypeIsKept ty
  NamesAreKept ctx (Compose ty components) = TypeIsKept ty
  NamesAreKept ctx (GlobalVariable global) = IfSome (ctx.globals global) (λ found. TypeIsKept found.1)
  NamesAreKept ctx (CallResult function) = IfSome (ctx.results function) (λ result. IfSome result TypeIsKept)
  NamesAreKept ctx (AtomicResult ty comparison) = TypeIsKept ty
  NamesAreKept ctx (WorkGroupUniformLoadResult ty) = TypeIsKept ty
  NamesAreKept ctx (SubgroupOperationResult ty) = TypeIsKept ty
  NamesAreKept ctx expression = ⊤

-- ---- types that are renamed

module _ (r : Renaming) where
  -- the type with its handle, or the handles in its contents, renamed
  abbrev pub rename_resolution : TypeResolution → TypeResolution
  rename_resolution (resolution.Handle ty) = resolution.Handle (r.types ty)
  rename_resolution (resolution.Value contents) = resolution.Value (rename_type_inner r contents)

  -- the space and the type of a global variable, with the type renamed
  abbrev pub rename_global : AddressSpace × ℕ → AddressSpace × ℕ
  rename_global global = (global.0, r.types global.1)

  -- the element of the module that an expression names has, at its new handle, the renamed type
  abbrev pub NamesAreRenamed : (ctx new : Context) → Expression → Type 0
  NamesAreRenamed ctx new (Constant constant) =
      new.constants (r.constants constant) ≡ option_map r.types (ctx.constants constant)
  NamesAreRenamed ctx new (Override override) =
      new.overrides (r.overrides override) ≡ option_map r.types (ctx.overrides override)
  NamesAreRenamed ctx new (GlobalVariable global) =
      new.globals (r.global_variables global) ≡ option_map rename_global (ctx.globals global)
  NamesAreRenamed ctx new (CallResult function) =
      new.results (r.functions function) ≡ option_map (option_map r.types) (ctx.results function)
  NamesAreRenamed ctx new expression = ⊤

  -- The second context has the types of the first that are kept, renamed and at their new handles. What has a type
  -- without being an element of the module has its type, renamed.
  pub record RenamesContext (kept : ℕ → Bool) (ctx new : Context) : Type 0 where
    pub types : (ty : ℕ) → TypeIsKept kept ty → new.types (r.types ty) ≡ option_map (rename_type_inner r) (ctx.types ty)
    pub locals : (handle : ℕ) → new.locals handle ≡ option_map r.types (ctx.locals handle)
    pub arguments : (index : ℕ) → new.arguments index ≡ option_map r.types (ctx.arguments index)
    pub ray_intersection : new.ray_intersection ≡ option_map r.types ctx.ray_intersection
    pub ray_vertex_return : new.ray_vertex_return ≡ option_map r.types ctx.ray_vertex_return
    pub predeclared : (key : PredeclaredType) → new.predeclared key ≡ option_map r.types (ctx.predeclared key)

  -- the renamed expression has the type of the expression, renamed, and that type is kept
  abbrev pub HasRenamed : (kept : ℕ → Bool) → (known after : ℕ → Option TypeResolution) → ℕ → Type 0
  HasRenamed kept known after operand =
      (after (r.expressions operand) ≡ option_map rename_resolution (known operand))
      × IfSome (known operand) (IsKept kept)
