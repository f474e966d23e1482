use Rattle.std.proofs.Common.{◌≡◌, Some, None, sym, subst, rules, arith}
use Rattle.naga_ir.specs.Chain.{OriginatesIn, next_base}
use Rattle.naga_ir.proofs.ChainsPrecedeLemmas.{ChainsPrecede-base}
use Rattle.naga_ir.proofs.OriginatesInLemmas.{OriginatesIn-further, OriginatesIn-here}
use Rattle.naga_ir.proofs.chains.originating_global.Goals as goal

pub path-smaller : goal.path-smaller
path-smaller c =
    let base : next_base c.args.expressions.now c.path.handle ≡ Some c.in-Some.base = search rules in
    ChainsPrecede-base c.args.expressions.now c.path.handle c.in-Some.base base c.requires.precede

pub path-preserved : goal.path-preserved
path-preserved c =
    let base : next_base c.args.expressions.now c.path.handle ≡ Some c.in-Some.base = search rules in
    let lower = ChainsPrecede-base c.args.expressions.now c.path.handle c.in-Some.base base c.requires.precede in
    record {
      within = omega (arith, lower, c.path.invariant.within);
      leads = λ global origin. c.path.invariant.leads global (OriginatesIn-further c.args.expressions.now c.path.handle c.in-Some.base global base origin);
    }

pub returns : goal.returns
returns c =
    let none : next_base c.args.expressions.now c.path.handle ≡ None = search rules in
    subst (λ global. OriginatesIn c.args.expressions.now c.args.pointer global) (sym c.global_at.ensures)
    (c.path.invariant.leads _ (OriginatesIn-here c.args.expressions.now c.path.handle none))
