use Rattle.std.proofs.Common.{◌≡◌, ◌<◌, rules, length, get_or}
use Rattle.std.specs.Vec.{with_item}
use Rattle.naga_ir.specs.declared.statement.Statement.TheVariants.{Kill}
use Rattle.naga_ir.proofs.LendsStatementLemmas.{LendsIf-beside, slice_get-spans, get_or-statements}
use Rattle.naga_ir.proofs.block.Block.get_span_mut.Goals as goal

pub returns : goal.returns
returns c =
    let items = c.args.self.now.entries.items in
    let i = c.args.position in
    let pair = c.in_ok-pair.pair.now in
    let inside : i < length items = search rules in
    let found : pair ≡ get_or items i pair = search rules in
    (LendsIf-beside _ (λ p z. record { entries = with_item c.args.self.now.entries i (p, z) }) (get_or-statements items i pair Kill inside found), record { writes_back = tt; some = search rules; value = slice_get-spans items i pair inside found })
