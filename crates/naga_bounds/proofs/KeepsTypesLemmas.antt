-- The function in which accesses are clamped has types, and each expression keeps its own.
use Rattle.std.proofs.Common.{◌≡◌, ◌∙◌, ◌<◌, ap, length, refl, ℕ, List, [], Option, None}
use Rattle.std.specs.List.{slice_get}
use Rattle.naga_arena.specs.Arena.{value_at, values}
use Rattle.naga_ir.specs.declared.module.Function as function
use Rattle.naga_ir.specs.declared.module.LocalVariable as local
use Rattle.naga_ir.specs.declared.module.Module as the_module
use Rattle.naga_compact.specs.Operands.{OperandsPrecede}
use Rattle.naga_compact.specs.Renaming.Declarations.{rename_local_variable}
use Rattle.naga_typifier.specs.Context.{context_in, contents_of, inner_at}
use Rattle.naga_typifier.specs.Rows.{◌>>=◌}
use Rattle.naga_typifier.specs.Typing.{typing}
use Rattle.naga_typifier.specs.declared.resolution.TypeResolution.{TypeResolution}
use Rattle.naga_typifier.specs.declared.resolve_error.ResolveError.{ResolveError}
use Rattle.naga_typing.proofs.ContextLemmas.{context_in-same, read-kept, type_of_local, value_at-mapped}
use Rattle.naga_bounds.specs.Modules.{typed_in}
use Rattle.naga_bounds.specs.Reach.{contents_at}
use Rattle.naga_bounds.specs.Restricted.{IsClamped, moving, new_of}
use Rattle.naga_bounds.specs.RestrictedLaws.{KeepsTypes}
use Rattle.naga_bounds.specs.RestrictedModules.{IsTyped, counts_in}
use Rattle.naga_bounds.proofs.KeepsContentsLemmas.{typing-made}

module _ (whole : the_module.Module) (old new : function.Function) (precede : OperandsPrecede old.expressions) (typed : IsTyped whole old)
    (clamped : IsClamped (counts_in whole) (typed_in whole old) old new) where
  locals-kept : (handle : ℕ) → type_of_local (value_at new.local_variables handle) ≡ type_of_local (value_at old.local_variables handle)
  locals-kept handle =
      let rename = rename_local_variable (moving clamped.changes) in
      ap (λ variables. type_of_local (value_at variables handle)) clamped.changed_to.local_variables
      ∙ ap type_of_local (value_at-mapped rename old.local_variables handle)
      ∙ read-kept rename (λ (variable : local.LocalVariable). variable.ty) (λ variable. refl) (value_at old.local_variables handle)

  -- the context is the same
  pub context-kept : context_in whole new ≡ context_in whole old
  context-kept = context_in-same whole whole old new refl (λ handle. refl) locals-kept clamped.changed_to.arguments

  made-types : (found : List TypeResolution) × (typing (context_in whole new) [] (values new.expressions) ≡ (found, None))
      × ((x : ℕ) → x < length old.expressions → slice_get found (new_of clamped.changes x) ≡ slice_get (typed_in whole old).known x)
  made-types =
      let made = typing-made whole old typed clamped.changes clamped.planned precede in
      (made.0, (λ i. typing (context-kept i) [] (values (clamped.changed_to.expressions i))) ∙ made.1, made.2)

  pub typed-kept : IsTyped whole new
  typed-kept = ap (λ (found : List TypeResolution × Option ResolveError). found.1) made-types.1

  pub types-kept : KeepsTypes clamped.changes (typed_in whole old) (typed_in whole new)
  types-kept x within =
      ap (λ (found : List TypeResolution × Option ResolveError). slice_get found.0 (new_of clamped.changes x)) made-types.1 ∙ made-types.2 x within

  pub contents-kept : (x : ℕ) → x < length old.expressions → contents_at (typed_in whole new) (new_of clamped.changes x) ≡ contents_at (typed_in whole old) x
  contents-kept x within = ap (λ found. found >>= contents_of (inner_at whole.types)) (types-kept x within)
