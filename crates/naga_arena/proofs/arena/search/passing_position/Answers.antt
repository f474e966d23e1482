use Rattle.std.proofs.Common.{refl, false}
use Rattle.std.proofs.lemmas.Option.{slice_get_read}
use Rattle.std.specs.Fn.{FnReturnsAt}
use Rattle.naga_arena.proofs.AllLemmas.{All-take_all, All-take_more}
use Rattle.naga_arena.proofs.arena.search.passing_position.Goals as goal

pub loop-i-preserved : goal.loop-i-preserved
loop-i-preserved g c =
    All-take_more (λ x. FnReturnsAt g.F.Fn c.args.test.now x false) _ _ _ c.loop-i-test.true c.index-values-i.is c.loop-i.invariant
    (record { shown = _; shows = refl; says = record { met = rw c.if-test.false at c.test.ensures } })

pub returns-then-test-clause-first : goal.returns-then-test-clause-first
returns-then-test-clause-first g c =
    record {
      before = c.loop-i.invariant;
      found = (
        c.index-values-i.result,
        slice_get_read _ _ _ _ refl c.loop-i-test.true c.index-values-i.is,
        record { shown = _; shows = refl; says = record { met = rw c.if-test.true at c.test.ensures } },
      );
    }

pub returns-clause-none : goal.returns-clause-none
returns-clause-none g c = All-take_all (λ x. FnReturnsAt g.F.Fn c.args.test.now x false) _ _ c.loop-i-test.false c.loop-i.invariant
