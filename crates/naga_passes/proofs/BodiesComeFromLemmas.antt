-- Modules whose bodies come from those of another one.
use Rattle.std.proofs.Common.{◌≡◌, ◌∙◌, sym, ap, refl, inl, inr, List, ◌++◌, [], ◌∷◌}
use Rattle.std.proofs.lemmas.List.Elements.{All-contains, All-contains_itself, All-weaker}
use Rattle.std.specs.List.{All, AllZip, Contains}
use Rattle.naga_arena.specs.declared.span.Span.{Span}
use Rattle.naga_ir.specs.Tree.{Tree}
use Rattle.naga_ir.specs.View.{tree_of}
use Rattle.naga_ir.specs.declared.module.EntryPoint as entry_point
use Rattle.naga_ir.specs.declared.module.Function as function
use Rattle.naga_ir.specs.declared.module.Module as the_module
use Rattle.naga_compact.specs.Kept.{kept_elements, new_index}
use Rattle.naga_compact.specs.Module.Compaction.{CompactsFunctions, CompactsModule, HasCompactedFunction, IsCompactedFunction, RemovesElements}
use Rattle.naga_compact.specs.Renaming.{Renaming, of_expressions}
use Rattle.naga_compact.specs.Renaming.Functions.{IsRenamedEntryPoint, IsRenamedFunction}
use Rattle.naga_compact.specs.Renaming.Renumbering.{renaming_of}
use Rattle.naga_compact.specs.Renaming.Blocks.{rename_tree}
use Rattle.naga_compact.specs.declared.module.renumbering.ModuleRenumbering.{ModuleRenumbering}
use Rattle.naga_compact.specs.declared.module.roots.KeepUnused.{KeepUnused}
use Rattle.naga_compact.proofs.CompactsFunctionsLemmas.{IsCompactedEntry}
use Rattle.naga_proc.specs.Bodies.{ChangesBodies, ChangesEntryBody}
use Rattle.naga_proc.specs.Closing.{ClosedBy}
use Rattle.naga_proc.proofs.AllLemmas.{All-kept_elements, All-zipped}
use Rattle.naga_proc.proofs.Bodies.AllZipLemmas.{AllZip-itself, AllZip-then, AllZip-weaker}
use Rattle.naga_proc.proofs.Bodies.ChangesBodiesLemmas.{ChangesEntry}
use Rattle.naga_bounds.specs.Modules.{typed_in}
use Rattle.naga_bounds.specs.Restricted.{Restricts, moving}
use Rattle.naga_bounds.specs.RestrictedModules.{RestrictsElement, RestrictsEntry, RestrictsIn, RestrictsModule, counts_in}
use Rattle.naga_passes.specs.After.{Transforms}
use Rattle.naga_passes.specs.Bodies.{BodiesComeFrom, ComesFrom, body_of, entry_body_of}
use Rattle.naga_passes.specs.Culling.{Culled}
use Rattle.naga_passes.specs.Runs.{IsRenamed, TransformsBody, renamed_tree}
use Rattle.naga_passes.specs.declared.pass.Pass.{Pass}
use Rattle.naga_passes.specs.declared.pass.Pass.TheVariants.{Cull, Close, Compact, Restrict}

-- the bodies of two entry points are related
abbrev EntryBodies : (Tree → Tree → Type 0) → (before after : entry_point.EntryPoint) → Type 0
EntryBodies Related before after = Related (entry_body_of before) (entry_body_of after)

-- the body of a function comes from the functions
abbrev BodyFrom : (Tree → Tree → Type 0) → List (function.Function × Span) → (after : function.Function × Span) → Type 0
BodyFrom Related functions after = ComesFrom Related functions (body_of after)

-- each second element is related to a first one
All-related : {A B : Type 0} (R : A → B → Type 0) (xs : List A) (ys : List B) → AllZip R xs ys → All (λ y. (x : A) × Contains xs x × R x y) ys
All-related R xs ys zip =
    All-zipped R (Contains xs) (λ y. (x : _) × Contains xs x × R x y) (λ x y related inside. (x, inside, related)) xs ys zip (All-contains_itself xs)

-- ---- one after another

pub BodiesComeFrom-itself : (Related : Tree → Tree → Type 0) → ((b : Tree) → Related b b) → (whole : the_module.Module) → BodiesComeFrom Related whole whole
BodiesComeFrom-itself Related itself whole = record {
  functions = All-weaker (Contains whole.functions) (BodyFrom Related whole.functions) (λ entry inside. (entry, inside, itself (body_of entry))) whole.functions (All-contains_itself whole.functions);
  entry_points = AllZip-itself (EntryBodies Related) (λ entry. itself (entry_body_of entry)) whole.entry_points.items;
}

module _ (R S : Tree → Tree → Type 0) where
  -- a relation that follows from another one
  pub BodiesComeFrom-weaker : ((b c : Tree) → R b c → S b c) → (old new : the_module.Module) → BodiesComeFrom R old new → BodiesComeFrom S old new
  BodiesComeFrom-weaker weaker old new from = record {
    functions = All-weaker (BodyFrom R old.functions) (BodyFrom S old.functions) (λ entry is. (is.0, is.1, weaker (body_of is.0) (body_of entry) is.2)) new.functions from.functions;
    entry_points = AllZip-weaker (EntryBodies R) (EntryBodies S) (λ before after. weaker (entry_body_of before) (entry_body_of after)) old.entry_points.items new.entry_points.items from.entry_points;
  }

  -- one relation after another
  pub BodiesComeFrom-then : (T : Tree → Tree → Type 0) → ((b c d : Tree) → R b c → S c d → T b d) → (old middle new : the_module.Module) → BodiesComeFrom R old middle → BodiesComeFrom S middle new → BodiesComeFrom T old new
  BodiesComeFrom-then T joined old middle new once again = record {
    functions = All-weaker (BodyFrom S middle.functions) (BodyFrom T old.functions)
        (λ entry is.
        let earlier : BodyFrom R old.functions is.0 = All-contains (BodyFrom R old.functions) middle.functions is.0 once.functions is.1 in
        (earlier.0, earlier.1, joined (body_of earlier.0) (body_of is.0) (body_of entry) earlier.2 is.2))
        new.functions again.functions;
    entry_points = AllZip-then (EntryBodies R) (EntryBodies S) (EntryBodies T)
        (λ before between after. joined (entry_body_of before) (entry_body_of between) (entry_body_of after))
        old.entry_points.items middle.entry_points.items new.entry_points.items once.entry_points again.entry_points;
  }

-- ---- new handles

renamed_tree-append : (before after : List Renaming) (b : Tree) → renamed_tree (before ++ after) b ≡ renamed_tree after (renamed_tree before b)
renamed_tree-append [] after b = refl
renamed_tree-append (r ∷ before) after b = renamed_tree-append before after (rename_tree r b)

IsRenamed-then : (b c d : Tree) → IsRenamed b c → IsRenamed c d → IsRenamed b d
IsRenamed-then b c d once again =
    (once.0 ++ again.0, again.1 ∙ (ap (renamed_tree again.0) once.1 ∙ sym (renamed_tree-append once.0 again.0 b)))

IsRenamed-compacted : (old new : function.Function) → IsCompactedFunction old new → IsRenamed (tree_of old.body) (tree_of new.body)
IsRenamed-compacted old new compacted = (of_expressions (new_index compacted.0) ∷ [], compacted.1.body)

IsRenamed-renamed : (r : Renaming) (old new : function.Function) → IsRenamedFunction r old new → IsRenamed (tree_of old.body) (tree_of new.body)
IsRenamed-renamed r old new renamed = (r ∷ [], renamed.body)

-- ---- passes

BodiesComeFrom-changed : (Related : Tree → Tree → Type 0) (old new : the_module.Module) → ChangesBodies Related old new → BodiesComeFrom Related old new
BodiesComeFrom-changed Related old new changes = record {
  functions = All-weaker (λ (after : function.Function × Span). (before : function.Function × Span) × Contains old.functions before × ChangesEntry Related before after) (BodyFrom Related old.functions)
      (λ entry is. (is.0, is.1, is.2.0.1)) new.functions (All-related (ChangesEntry Related) old.functions new.functions changes.functions);
  entry_points = AllZip-weaker (ChangesEntryBody Related) (EntryBodies Related) (λ before after is. is.1.1) old.entry_points.items new.entry_points.items changes.entry_points;
}

BodiesComeFrom-compacted_functions : (old new : the_module.Module) → CompactsFunctions old new → BodiesComeFrom IsRenamed old new
BodiesComeFrom-compacted_functions old new compacts = record {
  functions = All-weaker (λ (after : function.Function × Span). (before : function.Function × Span) × Contains old.functions before × IsCompactedEntry before after) (BodyFrom IsRenamed old.functions)
      (λ entry is. (is.0, is.1, IsRenamed-compacted is.0.0 entry.0 is.2.0)) new.functions (All-related IsCompactedEntry old.functions new.functions compacts.functions);
  entry_points = AllZip-weaker HasCompactedFunction (EntryBodies IsRenamed) (λ before after is. IsRenamed-compacted before.function after.function is.1) old.entry_points.items new.entry_points.items compacts.entry_points;
}

-- the function of the entry has new handles, and its span is unchanged
abbrev pub IsRenamedEntry : Renaming → (before after : function.Function × Span) → Type 0
IsRenamedEntry r before after = IsRenamedFunction r before.0 after.0 × (after.1 ≡ before.1)

BodiesComeFrom-removed : (kept : ModuleRenumbering) (old new : the_module.Module) → RemovesElements kept old new → BodiesComeFrom IsRenamed old new
BodiesComeFrom-removed kept old new removes =
    let r : Renaming = renaming_of kept in record {
      functions = All-zipped (IsRenamedEntry r) (Contains old.functions) (BodyFrom IsRenamed old.functions)
          (λ before after related inside. (before, inside, IsRenamed-renamed r before.0 after.0 related.0))
          (kept_elements kept.functions old.functions) new.functions removes.functions (All-kept_elements (Contains old.functions) kept.functions old.functions (All-contains_itself old.functions));
      entry_points = AllZip-weaker (IsRenamedEntryPoint r) (EntryBodies IsRenamed) (λ before after is. IsRenamed-renamed r before.function after.function is.inside) old.entry_points.items new.entry_points.items removes.entry_points;
    }

BodiesComeFrom-compacted : (old : the_module.Module) (keep_unused : KeepUnused) (kept : ModuleRenumbering) (new : the_module.Module) → CompactsModule old keep_unused kept new → BodiesComeFrom IsRenamed old new
BodiesComeFrom-compacted old keep_unused kept new compacts =
    BodiesComeFrom-then IsRenamed IsRenamed IsRenamed IsRenamed-then old compacts.middle new
    (BodiesComeFrom-compacted_functions old compacts.middle compacts.functions) (BodiesComeFrom-removed kept compacts.middle new compacts.removed)

IsRenamed-restricted : (whole : the_module.Module) (old new : function.Function) → RestrictsIn whole old new → IsRenamed (tree_of old.body) (tree_of new.body)
IsRenamed-restricted whole old new restricted = by restricted.restricts
  where
    by : Restricts (counts_in whole) (typed_in whole old) old new → IsRenamed (tree_of old.body) (tree_of new.body)
    by (inl same) = ([], ap (λ inside. tree_of inside.body) same.1)
    by (inr clamped) = (moving clamped.changes ∷ [], clamped.changed_to.body)

BodiesComeFrom-restricted : (old new : the_module.Module) → RestrictsModule old new → BodiesComeFrom IsRenamed old new
BodiesComeFrom-restricted old new restricts = record {
  functions = All-weaker (λ (after : function.Function × Span). (before : function.Function × Span) × Contains old.functions before × RestrictsElement old before after) (BodyFrom IsRenamed old.functions)
      (λ entry is. (is.0, is.1, IsRenamed-restricted old is.0.0 entry.0 is.2.0)) new.functions (All-related (RestrictsElement old) old.functions new.functions restricts.functions);
  entry_points = AllZip-weaker (RestrictsEntry old) (EntryBodies IsRenamed) (λ before after is. IsRenamed-restricted old before.function after.function is.1) old.entry_points.items new.entry_points.items restricts.entry_points;
}

-- what a pass makes of a module comes from what it makes of each body
pub BodiesComeFrom-transformed : (pass : Pass) (old new : the_module.Module) → Transforms pass old new → BodiesComeFrom (TransformsBody pass) old new
BodiesComeFrom-transformed Cull old new transforms = BodiesComeFrom-changed Culled old new transforms
BodiesComeFrom-transformed (Close rule) old new transforms = BodiesComeFrom-changed (ClosedBy rule) old new transforms
BodiesComeFrom-transformed (Compact keep_unused) old new transforms = BodiesComeFrom-compacted old keep_unused transforms.0 new transforms.1
BodiesComeFrom-transformed Restrict old new transforms = BodiesComeFrom-restricted old new transforms
