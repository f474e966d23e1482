use Rattle.std.proofs.Common.{[], subst}
use Rattle.naga_ir.specs.View.{tree_of}
use Rattle.naga_flow.specs.Misuses.{BlockMisuse, IfMisuse}
use Rattle.naga_flow.specs.Readings.{expressions_read}
use Rattle.naga_flow.specs.Tracking.{known_of, scope_of}
use Rattle.naga_flow.proofs.MisusesLemmas.{BlockMisuse-refused, IfMisuse-passed_on}
use Rattle.naga_flow.proofs.uses.check.Goals as goal

pub returns : goal.returns
returns c =
    let expressions = expressions_read c.args.function.now.expressions c.args.reads in
    let body = tree_of c.args.function.now.body in
    IfMisuse-passed_on c.in-Err-walk_block.error
    (subst (λ arena. IfMisuse c.in-Err-walk_block.error (BlockMisuse (expressions_read arena c.args.reads) 0 [] [] body)) c.in-Ok-of.ensures
    (subst (λ known. IfMisuse c.in-Err-walk_block.error (BlockMisuse (expressions_read c.in-Ok-of.chains c.args.reads) 0 (known_of known) (scope_of known) body)) c.in-Ok.ensures c.in-Err-walk_block.ensures))
    (λ misuse h. (h, λ passes. BlockMisuse-refused expressions misuse 0 [] [] body h passes.0 passes.1))
