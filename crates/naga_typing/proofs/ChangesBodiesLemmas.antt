-- A function has the same types wherever only bodies change.
use Rattle.std.proofs.Common.{◌≡◌, ap, sym, subst}
use Rattle.naga_arena.specs.Arena.{value_at}
use Rattle.naga_arena.specs.declared.span.Span.{Span}
use Rattle.naga_ir.specs.Tree.{Tree}
use Rattle.naga_ir.specs.declared.module.Function as function
use Rattle.naga_ir.specs.declared.module.Module as the_module
use Rattle.naga_proc.specs.Bodies.{ChangesBodies, ChangesBody, ChangesEntryBody}
use Rattle.naga_typifier.specs.Context.{Context, context_in}
use Rattle.naga_typing.specs.Arenas.{AreTypes}
use Rattle.naga_typing.specs.Modules.{HasSameTypes, HaveSameTypes}
use Rattle.naga_typing.proofs.ContextLemmas.{context_in-same, results-related, type_of_local}
use Rattle.naga_typing.proofs.RemovesElementsLemmas.{AllZip-found}

module _ (Related : Tree → Tree → Type 0) (old new : the_module.Module) (changes : ChangesBodies Related old new) where
  abbrev EntryChanges : (before after : function.Function × Span) → Type 0
  EntryChanges before after = ChangesBody Related before.0 after.0 × (after.1 ≡ before.1)

  HasSameTypes-changed : (before after : function.Function) → ChangesBody Related before after → HasSameTypes old before new after
  HasSameTypes-changed before after is types have =
      let same : context_in new after ≡ context_in old before =
      context_in-same old new before after changes.outside
      (results-related EntryChanges (λ x y both. ap (λ (f : function.Function). f.result) both.0.0) old.functions new.functions changes.functions)
      (λ handle. ap (λ (f : function.Function). type_of_local (value_at f.local_variables handle)) is.0)
      (ap (λ (f : function.Function). f.arguments) is.0)
      in
      subst (λ (f : function.Function). AreTypes (context_in new after) (value_at f.expressions) types) (sym is.0)
      (subst (λ (ctx : Context). AreTypes ctx (value_at before.expressions) types) (sym same) have)

  pub HaveSameTypes-changed : HaveSameTypes old new
  HaveSameTypes-changed = record {
    functions = λ handle before found.
        let after = AllZip-found EntryChanges old.functions new.functions changes.functions handle before found in
        (after.0, after.1, HasSameTypes-changed before.0 after.0.0 after.2.0);
    entry_points = λ position before found.
        let after = AllZip-found (ChangesEntryBody Related) old.entry_points.items new.entry_points.items changes.entry_points position before found in
        (after.0, after.1, HasSameTypes-changed before.function after.0.function after.2.1);
  }
