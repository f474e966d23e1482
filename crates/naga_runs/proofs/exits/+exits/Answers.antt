use Rattle.std.proofs.lemmas.Bool.{or_left}
use Rattle.std.proofs.Common.{◌||◌, ◌∙◌, sym, ap, subst, rules}
use Rattle.naga_ir.proofs.NodeOfLemmas.{node_of-Block, node_of-If}
use Rattle.naga_ir.specs.View.{node_of, tree_of}
use Rattle.naga_runs.proofs.BreaksOutLemmas.{SearchedTo, SearchedTo-start, SearchedTo-lt, SearchedTo-here, SearchedTo-next}
use Rattle.naga_runs.specs.Exits.{breaks_out, node_breaks}
use Rattle.naga_runs.proofs.exits.+exits.Goals as goal

pub breaks_out-loop-statement-init : goal.breaks_out-loop-statement-init
breaks_out-loop-statement-init t c =
    SearchedTo-start c.args.block.now c.into_iter-statement-iterator.result c.into_iter-statement-iterator.ensures.into_iter_gives

pub breaks_out-statement_breaks-requires : goal.breaks_out-statement_breaks-requires
breaks_out-statement_breaks-requires t c =
    let lt = SearchedTo-lt c.args.block.now c.in-Some.statement.now c.next.new.self (subst (SearchedTo c.args.block.now) c.in-Some.ensures.steps c.loop-statement.invariant) in
    (search (rules, lt), tt)

pub breaks_out-returns-then-statement_breaks : goal.breaks_out-returns-then-statement_breaks
breaks_out-returns-then-statement_breaks t c =
    sym (SearchedTo-here c.args.block.now c.in-Some.statement.now c.next.new.self (sym c.statement_breaks.ensures ∙ c.if-statement_breaks.true) (subst (SearchedTo c.args.block.now) c.in-Some.ensures.steps c.loop-statement.invariant))

pub breaks_out-loop-statement-preserved : goal.breaks_out-loop-statement-preserved
breaks_out-loop-statement-preserved t c =
    SearchedTo-next c.args.block.now c.in-Some.statement.now c.next.new.self (sym c.statement_breaks.ensures ∙ c.if-statement_breaks.false) (subst (SearchedTo c.args.block.now) c.in-Some.ensures.steps c.loop-statement.invariant)

pub breaks_out-returns : goal.breaks_out-returns
breaks_out-returns t c =
    sym (subst (SearchedTo c.args.block.now) c.in-None.ensures.steps.0 c.loop-statement.invariant).0

pub statement_breaks-returns-in-Block : goal.statement_breaks-returns-in-Block
statement_breaks-returns-in-Block t c =
    c.breaks_out.ensures ∙ sym (ap node_breaks (ap node_of c.in-Block.is ∙ node_of-Block _))

pub statement_breaks-returns-then-breaks_out : goal.statement_breaks-returns-then-breaks_out
statement_breaks-returns-then-breaks_out t c =
    c.if-breaks_out.true ∙ sym (ap node_breaks (ap node_of c.in-If.is ∙ node_of-If _ _ _) ∙ or_left (breaks_out (tree_of c.in-If.accept)) (breaks_out (tree_of c.in-If.reject)) (sym c.breaks_out-in-If.ensures ∙ c.if-breaks_out.true))

pub statement_breaks-returns-else-breaks_out : goal.statement_breaks-returns-else-breaks_out
statement_breaks-returns-else-breaks_out t c =
    c.breaks_out-else-breaks_out.ensures ∙ sym (ap node_breaks (ap node_of c.in-If.is ∙ node_of-If _ _ _) ∙ ap (λ b. b || breaks_out (tree_of c.in-If.reject)) (sym c.breaks_out-in-If.ensures ∙ c.if-breaks_out.false))
