use Rattle.std.proofs.lemmas.Result.{on_ok_weaker}
use Rattle.naga_notation.proofs.ReachedOfLemmas.{reached-push}
use Rattle.naga_notation.proofs.reader.Reader.push.Goals as goal

pub returns : goal.returns
returns c =
    on_ok_weaker c.push.result
    (reached-push c.args.self.now.outers c.args.self.now.current c.push.new.self c.args.self.now.begun c.args.self.now.part c.args.statement c.requires)
    c.push.ensures.ok
