use Rattle.std.proofs.Common.{refl}
use Rattle.naga_notation.proofs.ReachedOfLemmas.{close_case-is}
use Rattle.naga_notation.proofs.reader.Reader.close_case.Goals as goal

pub returns : goal.returns
returns c =
    let outers = c.args.self.now.outers in
    close_case-is c.args.fall_through outers.items outers.len c.in-Some.outer.now c.push_case.new.self c.args.self.now.current c.replace-body.result
    (record { counted = outers.ok.0; some = c.in-Some.ensures.variant.0 refl; is = c.in-Some.ensures.value })
    c.in_ok-push_case.ensures c.replace-body.ensures.value
