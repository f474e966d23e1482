-- What passes make of a body, and of its runs.
use Rattle.std.specs.Prelude.{◌≡◌, ⊤, ℕ, List, [], ◌∷◌}
use Rattle.naga_compact.specs.Mapping.Runs.{MappedRunsFit}
use Rattle.naga_compact.specs.Renaming.{Renaming}
use Rattle.naga_compact.specs.Renaming.Blocks.{rename_tree}
use Rattle.naga_compact.specs.derived.Renaming.{rename_statement}
use Rattle.naga_ir.specs.Tree.{Tree}
use Rattle.naga_ir.specs.declared.statement.Statement.{Statement}
use Rattle.naga_proc.specs.Closing.{ClosedBy}
use Rattle.naga_passes.specs.Culling.{Culled}
use Rattle.naga_passes.specs.declared.pass.Pass.{Pass}
use Rattle.naga_passes.specs.declared.pass.Pass.TheVariants.{Cull, Close, Compact, Restrict}

-- ---- one renaming after another

abbrev pub renamed_statement : List Renaming → Statement → Statement
renamed_statement [] statement = statement
renamed_statement (r ∷ others) statement = renamed_statement others (rename_statement r statement)

abbrev pub renamed_expression : List Renaming → ℕ → ℕ
renamed_expression [] handle = handle
renamed_expression (r ∷ others) handle = renamed_expression others (r.expressions handle)

abbrev pub renamed_tree : List Renaming → Tree → Tree
renamed_tree [] block = block
renamed_tree (r ∷ others) block = renamed_tree others (rename_tree r block)

-- ---- bodies

-- the second block is the first with new handles
abbrev pub IsRenamed : Tree → Tree → Type 0
IsRenamed b c = (renamings : List Renaming) × (c ≡ renamed_tree renamings b)

-- the second block is what the pass makes of the first
abbrev pub TransformsBody : Pass → Tree → Tree → Type 0
TransformsBody Cull = Culled
TransformsBody (Close rule) = ClosedBy rule
TransformsBody (Compact keep_unused) = IsRenamed
TransformsBody Restrict = IsRenamed

-- the pass inserts no returns
abbrev pub InsertsNothing : Pass → Type 0
InsertsNothing Cull = ⊤
InsertsNothing (Close rule) = ⊥
InsertsNothing (Compact keep_unused) = ⊤
InsertsNothing Restrict = ⊤

-- each run of the first block, with new handles, is a run of the second, for the same answers and the same number of
-- turns
abbrev pub KeepsRuns : Tree → Tree → Type 0
KeepsRuns old new =
    (renamings : List Renaming) × MappedRunsFit (renamed_statement renamings) (renamed_expression renamings) old new
