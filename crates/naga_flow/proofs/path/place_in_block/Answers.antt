use Rattle.std.proofs.Common.{◌≡◌, ◌∙◌, ◌+◌, ◌-◌, ◌<◌, ◌++◌, Some, None, ap, drop, sym, subst, suc, rules, arith, slice_get}
use Rattle.naga_ir.specs.Block.{statements}
use Rattle.naga_ir.specs.View.{tree_of}
use Rattle.naga_flow.specs.Paths.{path_at, paths_in, position_text}
use Rattle.naga_flow.proofs.PathsLemmas.{path-begins, path-inside, path-later, path-past, paths_from, paths_in-statements}
use Rattle.naga_flow.proofs.path.place_in_block.Goals as goal

pub statements-init : goal.statements-init
statements-init c = record {
  path = ap (λ paths. path_at paths c.args.number) (sym (paths_in-statements c.args.block.now));
  lower = search rules;
}

pub returns-in_err-statement-clause-path : goal.returns-in_err-statement-clause-path
returns-in_err-statement-clause-path c =
    let none : slice_get (statements c.args.block.now) c.statements.position ≡ None = search rules in
    search (rules, path-past c.args.block.now c.statements.position c.statements.left c.args.number c.statements.invariant.path none)

pub returns-then-left-eq0-clause-path : goal.returns-then-left-eq0-clause-path
returns-then-left-eq0-clause-path c =
    let found : slice_get (statements c.args.block.now) c.statements.position ≡ Some c.in_ok-statement.statement.now = search rules in
    path-begins c.args.block.now c.statements.position c.statements.left c.args.number c.statements.invariant.path c.in_ok-statement.statement.now found c.if-left-eq0.true

pub returns-then-left-count-clause-path : goal.returns-then-left-count-clause-path
returns-then-left-count-clause-path c =
    let found : slice_get (statements c.args.block.now) c.statements.position ≡ Some c.in_ok-statement.statement.now = search rules in
    let is : c.statements.left ≡ suc (c.statements.left - 1) = omega (arith, c.if-left-eq0.false) in
    ap (λ rest. position_text c.statements.position ++ rest) c.place_in_statement-inside.ensures.path
    ∙ path-inside c.args.block.now c.statements.position c.statements.left c.args.number c.statements.invariant.path c.in_ok-statement.statement.now found (c.statements.left - 1) is
    (subst (λ count. c.statements.left - 1 < count) c.count_inside-count.ensures c.if-left-count.true)

pub statements-preserved : goal.statements-preserved
statements-preserved c =
    let found : slice_get (statements c.args.block.now) c.statements.position ≡ Some c.in_ok-statement.statement.now = search rules in
    let is : c.statements.left ≡ suc (c.statements.left - 1) = omega (arith, c.if-left-eq0.false) in record {
      path = subst (λ count. path_at (paths_from (c.statements.position + 1) (drop (c.statements.position + 1) (statements c.args.block.now))) (c.statements.left - 1 - count) ≡ path_at (paths_in (tree_of c.args.block.now)) c.args.number)
          (sym c.count_inside-count.ensures)
          (path-later c.args.block.now c.statements.position c.statements.left c.args.number c.statements.invariant.path c.in_ok-statement.statement.now found (c.statements.left - 1) is
          c.statements.invariant.lower c.ranges.number.fits (λ lt. omega (arith, c.if-left-count.false, c.count_inside-count.ensures, lt)));
      lower = omega (arith, c.statements.invariant.lower);
    }
