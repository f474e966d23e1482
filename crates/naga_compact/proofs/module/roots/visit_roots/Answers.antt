use Rattle.std.proofs.Common.{◌≡◌, ◌∙◌, ap, sym, ℕ, List}
use Rattle.std.specs.List.{enumerate_from, filter_map, flat_map}
use Rattle.naga_arena.specs.Arena.{values}
use Rattle.naga_ir.specs.declared.module.Constant as constant
use Rattle.naga_ir.specs.declared.module.EntryPoint as entry_point
use Rattle.naga_ir.specs.declared.module.Module as the_module
use Rattle.naga_valid.specs.Places.{references_of_special_types}
use Rattle.naga_valid.specs.declared.reference.Reference.TheVariants.{Constant}
use Rattle.naga_compact.specs.Module.References.{references_of_whole_entry_point}
use Rattle.naga_compact.specs.Module.Used.{element_if, elements_where, is_named_concrete, kept_if_unused, required, roots}
use Rattle.naga_compact.specs.Module.Visits.{Visited, visit, visits}
use Rattle.naga_compact.proofs.FoldLemmas.{fold-then, fold-three}
use Rattle.naga_compact.proofs.VisitsLemmas.{visits-arena}
use Rattle.naga_compact.proofs.module.roots.visit_roots.Goals as goal

-- the special types, the entry points and the constants are visited
required-visited : (whole : the_module.Module) (v u w x : Visited) (items : List entry_point.EntryPoint) (entries : List (ℕ × constant.Constant)) →
    u ≡ visits v (references_of_special_types whole.special_types) →
    items ≡ whole.entry_points.items → w ≡ visits u (flat_map references_of_whole_entry_point items) →
    entries ≡ enumerate_from 0 (values whole.constants) → x ≡ visits w (filter_map (element_if Constant (is_named_concrete whole.types)) entries) →
    x ≡ visits v (required whole)
required-visited whole v u w x items entries special is_items entry_points is_entries constants =
    fold-three visit v u w x
    (references_of_special_types whole.special_types)
    (flat_map references_of_whole_entry_point whole.entry_points.items)
    (elements_where Constant (is_named_concrete whole.types) whole.constants)
    special
    (entry_points ∙ ap (λ xs. visits u (flat_map references_of_whole_entry_point xs)) is_items)
    (visits-arena w x Constant (is_named_concrete whole.types) whole.constants entries is_entries constants)

pub returns-in-No : goal.returns-in-No
returns-in-No c =
    let whole = c.args.module.now in
    required-visited whole c.args.tracer.now c.visit_special_types.new.tracer c.visit_entry_points.new.tracer c.visit_kept.new.tracer c.as_slice.result.now c.iter.result
    c.visit_special_types.ensures c.as_slice.ensures.value c.visit_entry_points.ensures c.iter.ensures.rest c.visit_kept.ensures
    ∙ ap (λ keep. visits c.args.tracer.now (roots whole keep)) (sym c.in-No.is)

pub returns-in-Yes : goal.returns-in-Yes
returns-in-Yes c =
    let whole = c.args.module.now in
    let first : c.visit_kept.new.tracer ≡ visits c.args.tracer.now (required whole) =
    required-visited whole c.args.tracer.now c.visit_special_types.new.tracer c.visit_entry_points.new.tracer c.visit_kept.new.tracer c.as_slice.result.now c.iter.result
    c.visit_special_types.ensures c.as_slice.ensures.value c.visit_entry_points.ensures c.iter.ensures.rest c.visit_kept.ensures
    in
    fold-then visit c.args.tracer.now c.visit_kept.new.tracer c.visit_kept_if_unused.new.tracer (required whole) (kept_if_unused whole) first c.visit_kept_if_unused.ensures
    ∙ ap (λ keep. visits c.args.tracer.now (roots whole keep)) (sym c.in-Yes.is)
