use Rattle.std.proofs.Common.{◌≡◌, ◌++◌}
use Rattle.naga_compact.specs.Kept.{kept_elements}
use Rattle.naga_compact.specs.Renaming.Functions.{map_values}
use Rattle.naga_compact.specs.Renaming.Renumbering.{renaming_of}
use Rattle.naga_compact.specs.derived.Renaming.{rename_type}
use Rattle.naga_compact.proofs.KeptTypesLemmas.{renamed_rest}
use Rattle.naga_compact.proofs.module.renumbering.type_arena.retain_types.Given as goal

-- the types that are left are still to be renamed
abbrev pub invariant-rest : goal.invariant-rest
invariant-rest l =
    l.types ++ renamed_rest l.renumbering l.handle-iterator
    ≡ map_values (rename_type (renaming_of l.renumbering)) (kept_elements l.renumbering.types l.fn.types)
