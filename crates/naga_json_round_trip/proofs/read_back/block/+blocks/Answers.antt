use Rattle.std.proofs.Common.{◌≡◌, ◌<◌, ◌∷◌, [], ℕ, rules, sym, subst, true, arith, suc, All}
use Rattle.std.proofs.lemmas.List.Elements.{All-cons}
use Rattle.naga_ir.specs.declared.block.Block.{size-Block}
use Rattle.naga_ir.specs.declared.statement.Statement.{size-Statement}
use Rattle.naga_json_write.proofs.BlockLemmas.{AreLast-lt, AreLast-next}
use Rattle.naga_json_round_trip.specs.Module.{BlockFits, StatementFits}
use Rattle.naga_json_round_trip.proofs.BlockLemmas.{All-AreLast, BlockFits-each, BlockFits-from_each, BlockFits-none, CasesFit-each, CasesFit-from_each, decided_false, decided_true}
use Rattle.naga_json_round_trip.proofs.read_back.block.+blocks.Goals as goal

-- ---- a block

pub block_reads_back-returns-in_default : goal.block_reads_back-returns-in_default
block_reads_back-returns-in_default t c = decided_false (BlockFits-none c.args.depth c.args.block.now c.in_default.ensures)

pub block_reads_back-statement_reads_back-requires : goal.block_reads_back-statement_reads_back-requires
block_reads_back-statement_reads_back-requires t c =
    let is : c.loop-statement.statement-iterator ≡ c.in-Some-statement.statement.now ∷ c.next.new.self = c.in-Some-statement.ensures.steps in
    let lt : size-Statement c.in-Some-statement.statement.now < size-Block c.args.block.now = AreLast-lt c.args.block.now c.in-Some-statement.statement.now c.next.new.self c.loop-statement.statement-iterator is c.loop-statement.invariant.last in
    (search (rules, lt), tt)

pub block_reads_back-returns-then-not-statement_reads_back : goal.block_reads_back-returns-then-not-statement_reads_back
block_reads_back-returns-then-not-statement_reads_back t c =
    let is : c.loop-statement.statement-iterator ≡ c.in-Some-statement.statement.now ∷ c.next.new.self = c.in-Some-statement.ensures.steps in
    let deeper : c.args.depth ≡ suc c.in-Some.within = omega (arith, c.in-Some.ensures) in
    decided_false λ reads.
    let each = BlockFits-each c.in-Some.within c.args.block.now (subst (λ (depth : ℕ). BlockFits depth c.args.block.now) deeper reads) in
    let here = All-AreLast (StatementFits c.in-Some.within) c.args.block.now c.in-Some-statement.statement.now c.next.new.self c.loop-statement.statement-iterator is c.loop-statement.invariant.last each in
    let other : c.statement_reads_back.result ≡ true = c.statement_reads_back.ensures.1 here in
    absurd (cc)

pub block_reads_back-loop-statement-preserved : goal.block_reads_back-loop-statement-preserved
block_reads_back-loop-statement-preserved t c =
    let is : c.loop-statement.statement-iterator ≡ c.in-Some-statement.statement.now ∷ c.next.new.self = c.in-Some-statement.ensures.steps in
    let here = c.statement_reads_back.ensures.0 c.if-not-statement_reads_back.false in
    record {
      last = AreLast-next c.args.block.now c.in-Some-statement.statement.now c.next.new.self c.loop-statement.statement-iterator is c.loop-statement.invariant.last;
      each = λ rest. c.loop-statement.invariant.each (subst (All (StatementFits c.in-Some.within)) (sym is) (All-cons (StatementFits c.in-Some.within) c.in-Some-statement.statement.now c.next.new.self here rest));
    }

pub block_reads_back-returns : goal.block_reads_back-returns
block_reads_back-returns t c =
    let is : c.loop-statement.statement-iterator ≡ [] = search rules in
    let deeper : suc c.in-Some.within ≡ c.args.depth = omega (arith, c.in-Some.ensures) in
    let each = c.loop-statement.invariant.each (subst (All (StatementFits c.in-Some.within)) (sym is) (λ k d within. absurd (omega arith))) in
    decided_true (subst (λ (depth : ℕ). BlockFits depth c.args.block.now) deeper (BlockFits-from_each c.in-Some.within c.args.block.now each))

-- ---- the cases of a switch

pub cases_read_back-returns-then-not-block_reads_back : goal.cases_read_back-returns-then-not-block_reads_back
cases_read_back-returns-then-not-block_reads_back t c = decided_false λ reads.
    let here = CasesFit-each c.args.depth c.args.cases.now reads c.loop-case.case-index c.case-item.result c.loop-case-test.true in
    let read : BlockFits c.args.depth c.case-item.result.body = subst (λ one. BlockFits c.args.depth one.body) (sym c.case-item.is) here.1.0 in
    let other : c.block_reads_back.result ≡ true = c.block_reads_back.ensures.1 read in
    absurd (cc)

pub cases_read_back-returns : goal.cases_read_back-returns
cases_read_back-returns t c =
    decided_true (CasesFit-from_each c.args.depth c.args.cases.now (λ k d within. c.loop-case.invariant k d (omega arith) (omega arith)))
