use Rattle.std.proofs.Common.{refl}
use Rattle.naga_notation.proofs.ReachedOfLemmas.{open_case-is}
use Rattle.naga_notation.proofs.reader.Reader.open_case.Goals as goal

pub returns : goal.returns
returns c =
    let outers = c.args.self.now.outers in
    open_case-is c.args.is_default outers.items outers.len c.in-Some.outer.now c.number_case.new.self _
    (record { counted = outers.ok.0; some = c.in-Some.ensures.variant.0 refl; is = c.in-Some.ensures.value })
    c.in_ok-number_case.ensures
    c.empty_block.ensures
