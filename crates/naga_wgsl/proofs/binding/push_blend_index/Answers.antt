use Rattle.std.proofs.Common.{◌++◌, codes}
use Rattle.std.specs.Fmt.{decimal}
use Rattle.naga_wgsl.proofs.AttemptsLemmas.{pushed-behind}
use Rattle.naga_wgsl.proofs.binding.push_blend_index.Goals as goal

pub returns : goal.returns
returns c =
    pushed-behind c.push_closed.result c.args.text.now (codes "@blend_src(") (decimal c.args.index ++ codes ") ") c.push.new.self c.push_closed.new.text
    c.in_ok-push.ensures c.push_closed.ensures
