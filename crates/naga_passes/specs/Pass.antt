-- The names of passes.
use Rattle.std.specs.Prelude.{ℕ, List, codes}
use Rattle.naga_compact.specs.declared.module.roots.KeepUnused.TheVariants.{No, Yes}
use Rattle.naga_proc.specs.declared.terminator.rule.Rule.TheVariants.{New, Old}
use Rattle.naga_passes.specs.declared.pass.Pass.{Pass}
use Rattle.naga_passes.specs.declared.pass.Pass.TheVariants.{Cull, Close, Compact, Restrict}

-- the name of a pass
abbrev pub name_of : Pass → List ℕ
name_of Cull = codes "cull"
name_of (Close New) = codes "close"
name_of (Close Old) = codes "close-naga"
name_of (Compact No) = codes "compact"
name_of (Compact Yes) = codes "compact-keep-unused"
name_of Restrict = codes "restrict"
