use Rattle.std.proofs.Common.{◌≡◌, ◌∙◌, ◌++◌, ◌∷◌, ap, sym, List}
use Rattle.naga_arena.specs.declared.span.Span.{Span}
use Rattle.naga_ir.specs.declared.types.«Type».{«Type» as NamedType}
use Rattle.naga_compact.specs.Kept.{kept_elements}
use Rattle.naga_compact.specs.Renaming.Functions.{map_values}
use Rattle.naga_compact.specs.Renaming.Renumbering.{renaming_of}
use Rattle.naga_compact.specs.derived.Renaming.{rename_type}
use Rattle.naga_compact.proofs.KeptTypesLemmas.{distinct_types, handle_of-next, renamed_rest, renamed_rest-yes}
use Rattle.naga_compact.proofs.module.renumbering.type_arena.retain_types.Goals as goal

pub rest-init : goal.rest-init
rest-init c =
    let kept = c.args.renumbering.now in
    ap (λ types. types ++ renamed_rest kept c.into_iter-handle-iterator.result) c.drain_all-handle-items.ensures.emptied
    ∙ ap (renamed_rest kept) (c.into_iter-handle-iterator.ensures.into_iter_gives ∙ c.drain_all-handle-items.ensures.rest)

pub insert_renamed-requires : goal.insert_renamed-requires
insert_renamed-requires c =
    let kept = c.args.renumbering.now in
    let all : List (NamedType × Span) = map_values (rename_type (renaming_of kept)) (kept_elements kept.types c.args.types.now) in
    let ty : NamedType = rename_type (renaming_of kept) c.in-Some.ty in
    let later : List (NamedType × Span) = renamed_rest kept c.next.new.self in
    let so = sym c.keeps.ensures ∙ c.if-keeps.true in
    let next : renamed_rest kept c.rest.handle-iterator ≡ (ty, c.in-Some.span) ∷ later =
    ap (renamed_rest kept) c.in-Some.ensures.steps ∙ renamed_rest-yes kept c.in-Some.handle c.in-Some.ty c.in-Some.span c.next.new.self so
    in record {
      absent = handle_of-next all c.rest.types later ty c.in-Some.span (distinct_types kept c.args.types.now c.requires.closed c.len.ensures.distinct) (sym c.rest.invariant ∙ ap (λ rest. c.rest.types ++ rest) next);
    }
