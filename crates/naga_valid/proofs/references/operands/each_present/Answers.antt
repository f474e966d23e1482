use Rattle.std.proofs.Common.{rules, arith, ◌+◌, ◌<◌, ◌≤◌, ◌^◌, [], ap, drop, length, map}
use Rattle.std.specs.Option.{option_map}
use Rattle.std.specs.Prelude.{option_to_list}
use Rattle.std.proofs.Math.ListN.{drop_of_length-le}
use Rattle.naga_valid.specs.Reference.{present_then}
use Rattle.naga_valid.proofs.AreVisitedLemmas.{Resumes-end, Resumes-next, Resumes-stop, length-present, present-rest}
use Rattle.naga_valid.proofs.references.operands.each_present.Goals as goal

pub returns-in-Break : goal.returns-in-Break
returns-in-Break g c =
    let short : length c.args.list.now < 2 ^ 63 = search rules in
    let f = g.T.HasReference.reference in
    let is = present-rest f c.args.list.now c.loop-element.element-index c.element-item.result c.loop-element-test.true c.element-item.is in
    record {
      visited =
          Resumes-stop g.V.Visitor.visits c.args.visitor.now c.loop-element.visitor c.present.new.visitor (present_then (map (option_map f) c.args.list.now) []) (present_then (map (option_map f) (drop c.loop-element.element-index c.args.list.now)) []) (option_to_list (option_map f c.element-item.result)) (present_then (map (option_map f) (drop (c.loop-element.element-index + 1) c.args.list.now)) []) c.in-Break.stop c.loop-element.invariant is
          (c.in-Break.ensures.visited);
      fits = omega (arith, short, length-present f c.args.list.now);
    }

pub loop-element-preserved : goal.loop-element-preserved
loop-element-preserved g c =
    let f = g.T.HasReference.reference in
    let is = present-rest f c.args.list.now c.loop-element.element-index c.element-item.result c.loop-element-test.true c.element-item.is in
    Resumes-next g.V.Visitor.visits c.args.visitor.now c.loop-element.visitor c.present.new.visitor (present_then (map (option_map f) c.args.list.now) []) (present_then (map (option_map f) (drop c.loop-element.element-index c.args.list.now)) []) (option_to_list (option_map f c.element-item.result)) (present_then (map (option_map f) (drop (c.loop-element.element-index + 1) c.args.list.now)) []) c.loop-element.invariant is
    (c.in-Continue.ensures.visited)

pub returns : goal.returns
returns g c =
    let short : length c.args.list.now < 2 ^ 63 = search rules in
    let f = g.T.HasReference.reference in
    let past : length c.args.list.now ≤ c.loop-element.element-index = omega (arith, c.loop-element-test.false) in
    record {
      visited =
          Resumes-end g.V.Visitor.visits c.args.visitor.now c.loop-element.visitor (present_then (map (option_map f) c.args.list.now) []) (present_then (map (option_map f) (drop c.loop-element.element-index c.args.list.now)) []) c.loop-element.invariant
          (ap (λ xs. present_then (map (option_map f) xs) []) (drop_of_length-le c.args.list.now past));
      fits = omega (arith, short, length-present f c.args.list.now);
    }
