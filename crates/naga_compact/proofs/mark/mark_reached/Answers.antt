use Rattle.std.proofs.Common.{◌≡◌, ◌∙◌, sym, subst, ◌+◌, ◌-◌, true, false, arith}
use Rattle.std.specs.FinSet.{contains}
use Rattle.naga_valid.specs.Expressions.{references_of_expression}
use Rattle.naga_valid.specs.Operands.{expression_of}
use Rattle.naga_compact.specs.Marks.{put}
use Rattle.naga_compact.proofs.FoldLemmas.{fold-filter_map}
use Rattle.naga_compact.proofs.IsReachedLemmas.{MarkedTo, marked_none, marked_more, marked_past, marked_all}
use Rattle.naga_compact.proofs.mark.mark_reached.Goals as goal

pub down-init : goal.down-init
down-init c = record {
  within = omega arith;
  marked = marked_none c.args.expressions.now c.args.marks.now c.len-i.result (omega arith);
}

pub down-preserved-then-contains : goal.down-preserved-then-contains
down-preserved-then-contains c =
    let next : c.down.i ≡ c.down.i - 1 + 1 = omega arith in
    let marked : contains c.down.marks.members c.at-handle.result ≡ true = sym c.contains.ensures ∙ c.if-contains.true in record {
      within = omega arith;
      marked = subst (λ s. MarkedTo c.args.expressions.now c.args.marks.now s (c.down.i - 1)) (sym (c.collect_references.ensures ∙ fold-filter_map put expression_of c.down.marks (references_of_expression c.index.result.now)))
          (marked_more c.args.expressions.now c.args.marks.now c.down.marks c.down.i (c.down.i - 1) c.at-handle.result c.index.result.now c.requires.precede c.requires.bound next c.down.invariant.within c.at-handle.ensures c.index.ensures marked c.down.invariant.marked);
    }

pub down-preserved : goal.down-preserved
down-preserved c =
    let next : c.down.i ≡ c.down.i - 1 + 1 = omega arith in
    let unmarked : contains c.down.marks.members c.at-handle.result ≡ false = sym c.contains.ensures ∙ c.if-contains.false in record {
      within = omega arith;
      marked = marked_past c.args.expressions.now c.args.marks.now c.down.marks c.down.i (c.down.i - 1) c.at-handle.result next c.at-handle.ensures unmarked c.down.invariant.marked;
    }

pub returns-clause-reached : goal.returns-clause-reached
returns-clause-reached c = marked_all c.args.expressions.now c.args.marks.now c.down.marks c.down.i c.down-test.false c.down.invariant.marked
