use Rattle.std.proofs.Common.{◌≡◌, ◌<◌, rules, length, get_or}
use Rattle.std.specs.Vec.{with_item}
use Rattle.naga_ir.proofs.LendsStatementLemmas.{LendsIf-beside, slice_get-statements, get_or-spans}
use Rattle.naga_ir.proofs.block.Block.get_mut.Goals as goal

pub returns : goal.returns
returns c =
    let items = c.args.self.now.entries.items in
    let i = c.args.position in
    let pair = c.in_ok-pair.pair.now in
    let inside : i < length items = search rules in
    let found : pair ≡ get_or items i pair = search rules in
    (LendsIf-beside _ (λ p z. record { entries = with_item c.args.self.now.entries i (z, p) }) (get_or-spans items i pair (record { start = 0; «end» = 0 }) inside found), record { writes_back = tt; some = search rules; value = slice_get-statements items i pair inside found })
