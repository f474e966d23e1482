use Rattle.std.proofs.Common.{inl}
use Rattle.naga_passes.proofs.TextLemmas.{IsText-read}
use Rattle.naga_look.proofs.transform.show.Goals as goal

pub returns-clause-shown : goal.returns-clause-shown
returns-clause-shown c =
    inl (c.in_ok-old.old, IsText-read c.in_ok-old.old c.args.text.now c.in_ok-old.ensures.meaning c.in_ok-old.ensures.handles, c.in_ok-compared.ensures)
