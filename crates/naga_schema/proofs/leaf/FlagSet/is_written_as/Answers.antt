use Rattle.bitflags.proofs.HexFacts.{reads_hex}
use Rattle.naga_schema.specs.Leaf.{is_flags}
use Rattle.naga_schema.proofs.leaf.FlagSet.is_written_as.Goals as goal

pub returns-in-Barrier : goal.returns-in-Barrier
unfolding is_flags
returns-in-Barrier c = rw c.in-Barrier.is (c.reads.ensures tt (reads_hex 32))

pub returns-in-MemoryDecorations : goal.returns-in-MemoryDecorations
unfolding is_flags
returns-in-MemoryDecorations c = rw c.in-MemoryDecorations.is (c.reads-in-MemoryDecorations.ensures tt (reads_hex 8))

pub returns-in-StorageAccess : goal.returns-in-StorageAccess
unfolding is_flags
returns-in-StorageAccess c = rw c.in-StorageAccess.is (c.reads-in-StorageAccess.ensures tt (reads_hex 32))
