use Rattle.std.proofs.Common.{◌≡◌}
use Rattle.naga_compact.proofs.MappedListLemmas.{mapped_to}
use Rattle.naga_compact.proofs.renaming.rename_each.Given as goal

-- the parts before the index are renamed
abbrev pub invariant-parts : goal.invariant-parts
invariant-parts g l = l.parts ≡ mapped_to (g.T.Rename.renamed (g.N.NewHandles.renaming l.new)) l.part-index l.initial.parts
