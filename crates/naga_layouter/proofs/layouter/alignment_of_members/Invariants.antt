-- The members that are left, after those before, give the alignment of all.
use Rattle.std.proofs.Common.{◌≡◌, drop}
use Rattle.naga_layouter.specs.Layout.{alignment_of_members}
use Rattle.naga_layouter.proofs.layouter.alignment_of_members.Given as goal

abbrev pub invariant-each : goal.invariant-each
invariant-each l = alignment_of_members l.known l.index l.alignment (drop l.index l.members)
    ≡ alignment_of_members l.known 0 0 l.members
