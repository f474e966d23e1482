use Rattle.std.proofs.Common.{refl, take, arith, rules}
use Rattle.naga_shape.proofs.LinesLemmas.{IsOpen-no_newline, TakesPart-newline}
use Rattle.naga_shape.proofs.line.take_part.Goals as goal

pub returns-in_ok-extend_from_slice-in-Some-clause-part : goal.returns-in_ok-extend_from_slice-in-Some-clause-part
returns-in_ok-extend_from_slice-in-Some-clause-part c = (
  take c.in-Some.end c.args.chunk.now,
  search rules,
  TakesPart-newline c.args.chunk.now c.in-Some.end c.in-Some.ensures.0.high (λ k below. c.in-Some.ensures.0.before k (omega arith) below) c.in-Some.ensures.1,
)

pub returns-in_ok-extend_from_slice-in-None-clause-part : goal.returns-in_ok-extend_from_slice-in-None-clause-part
returns-in_ok-extend_from_slice-in-None-clause-part c = (
  c.args.chunk.now,
  c.in_ok-extend_from_slice-in-None.ensures.items,
  (refl, IsOpen-no_newline c.args.chunk.now (λ k within. c.in-None.ensures k (omega arith) within)),
)
