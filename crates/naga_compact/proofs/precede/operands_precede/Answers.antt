use Rattle.std.proofs.Common.{◌≡◌, ◌∙◌, Some, refl, sym, subst, rules, IsTrue, false}
use Rattle.std.specs.Prelude.{All, slice_get}
use Rattle.std.specs.List.{enumerate_from}
use Rattle.std.proofs.lemmas.Bool.{false≢true}
use Rattle.std.proofs.lemmas.Option.{slice_get_read}
use Rattle.naga_compact.specs.Operands.{FollowsItsOperands}
use Rattle.naga_ir.proofs.EnumerateFromLemmas.{All-enumerate_from_all, All-enumerate_from_at, All-enumerate_from_more}
use Rattle.naga_compact.proofs.precede.operands_precede.Goals as goal

pub loop-i-preserved : goal.loop-i-preserved
loop-i-preserved c =
    let follows : IsTrue c.are_below.result = search rules in
    All-enumerate_from_more FollowsItsOperands c.as_slice-expressions.result.now c.loop-i.i c.index-expressions-i.result c.loop-i-test.true c.index-expressions-i.is c.loop-i.invariant
    (c.are_below.ensures.0 follows)

pub returns-then-not-are_below : goal.returns-then-not-are_below
returns-then-not-are_below c =
    let not_below : c.are_below.result ≡ false = search rules in
    let found : slice_get c.as_slice-expressions.result.now c.loop-i.i ≡ Some c.index-expressions-i.result =
    slice_get_read _ _ _ _ refl c.loop-i-test.true c.index-expressions-i.is in (
      λ true_is. absurd (false≢true true_is),
      λ all.
          let each = subst (λ xs. All FollowsItsOperands (enumerate_from 0 xs)) (sym c.as_slice-expressions.ensures) all in
          sym not_below ∙ c.are_below.ensures.1 (All-enumerate_from_at FollowsItsOperands c.as_slice-expressions.result.now c.loop-i.i c.index-expressions-i.result found each),
    )

pub returns : goal.returns
returns c =
    (λ _. subst (λ xs. All FollowsItsOperands (enumerate_from 0 xs)) c.as_slice-expressions.ensures (All-enumerate_from_all FollowsItsOperands c.as_slice-expressions.result.now c.loop-i.i c.loop-i-test.false c.loop-i.invariant), λ _. refl)
