use Rattle.naga_notation.proofs.ReachedOfLemmas.{close_cases-is}
use Rattle.naga_notation.proofs.reader.Reader.close_cases.Goals as goal

pub returns : goal.returns
returns c =
    close_cases-is c.args.self.now.outers.items c.pop.new.self.items c.in-Some.field-0 c.in-Case.before c.in-Case.value c.first_handle.result _
    c.in-Some.ensures.items (cc) c.first_handle.ensures c.in_ok-push.ensures
