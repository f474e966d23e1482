use Rattle.std.proofs.Common.{rules, arith, ◌+◌, ◌<◌, ◌^◌, ◌∷◌, [], drop, length, map, refl}
use Rattle.std.proofs.lemmas.List.{length-map}
use Rattle.std.specs.declared.ops.ControlFlow.TheVariants.{Continue}
use Rattle.naga_valid.proofs.AreVisitedLemmas.{AreVisited-next, AreVisited-stop, Resumes-next, Resumes-stop, map-rest}
use Rattle.naga_valid.proofs.visitor.Visitor.visit_each.Goals as goal

pub returns-in-Break : goal.returns-in-Break
returns-in-Break g c =
    let short : length c.args.list.now < 2 ^ 64 = search rules in
    let is = map-rest c.args.list.now c.loop-element.element-index c.element-item.result c.loop-element-test.true c.element-item.is g.T.HasReference.reference c.reference.result c.reference.ensures in
    record {
      visited =
          Resumes-stop g.Self.Visitor.visits c.args.self.now c.loop-element.self c.visit.new.self (map g.T.HasReference.reference c.args.list.now) (map g.T.HasReference.reference (drop c.loop-element.element-index c.args.list.now)) (c.reference.result ∷ []) (map g.T.HasReference.reference (drop (c.loop-element.element-index + 1) c.args.list.now)) c.in-Break.stop c.loop-element.invariant is
          (AreVisited-stop g.Self.Visitor.visits c.loop-element.self c.reference.result [] c.in-Break.stop c.visit.new.self c.in-Break.ensures);
      fits = omega (arith, short, length-map c.args.list.now g.T.HasReference.reference);
    }

pub loop-element-preserved : goal.loop-element-preserved
loop-element-preserved g c =
    let is = map-rest c.args.list.now c.loop-element.element-index c.element-item.result c.loop-element-test.true c.element-item.is g.T.HasReference.reference c.reference.result c.reference.ensures in
    Resumes-next g.Self.Visitor.visits c.args.self.now c.loop-element.self c.visit.new.self (map g.T.HasReference.reference c.args.list.now) (map g.T.HasReference.reference (drop c.loop-element.element-index c.args.list.now)) (c.reference.result ∷ []) (map g.T.HasReference.reference (drop (c.loop-element.element-index + 1) c.args.list.now)) c.loop-element.invariant is
    (AreVisited-next g.Self.Visitor.visits c.loop-element.self c.visit.new.self c.reference.result [] (Continue tt) c.visit.new.self c.in-Continue.ensures (refl, refl))
