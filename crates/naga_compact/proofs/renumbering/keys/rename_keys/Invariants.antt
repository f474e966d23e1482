use Rattle.std.proofs.Common.{◌≡◌, ◌++◌, ◌≤◌, length}
use Rattle.indexmap.specs.IndexMap.{spare}
use Rattle.naga_compact.specs.Functions.{rename_keys}
use Rattle.naga_compact.proofs.renumbering.keys.rename_keys.Given as goal

-- the entries that are left are still to be renamed, and there is space for them
abbrev pub invariant-entries : goal.invariant-entries
invariant-entries g l = record {
  done : l.map.entries ++ rename_keys (g.R.RenameKey.keeps_key l.renumbering) (g.R.RenameKey.renamed_key l.renumbering) l.key-iterator ≡ rename_keys (g.R.RenameKey.keeps_key l.renumbering) (g.R.RenameKey.renamed_key l.renumbering) l.fn.map.entries;
  spare : length l.key-iterator ≤ spare l.map;
}
