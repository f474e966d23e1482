use Rattle.std.proofs.Common.{◌<◌, length, arith}
use Rattle.naga_schema.proofs.MessagesLemmas.{shown_text-cut}
use Rattle.naga_schema.proofs.mismatch.ShownDisplay.fmt.Goals as goal

pub returns-clause-writes : goal.returns-clause-writes
returns-clause-writes g c =
    let name = c.args.self.now.0.now in
    let long : 64 < length name = omega arith in
    let floor = c.floor_char_boundary in
    let text = shown_text-cut name floor.result long floor.ensures.bound floor.ensures.boundary floor.ensures.nearest in
    rw (text, ← c.split_at.ensures.front) c.write-2.ensures.writes
