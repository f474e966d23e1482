use Rattle.std.proofs.Common.{rules, arith, ◌≡◌, ◌-◌, ◌<◌, ◌≤◌, ◌^◌, get_or, length, map, subst, sym}
use Rattle.std.specs.declared.ops.ControlFlow.TheVariants.{Break}
use Rattle.std.proofs.lemmas.List.{length-map}
use Rattle.naga_valid.specs.Visits.{AreVisited, counts_down}
use Rattle.naga_valid.proofs.CountsDownLemmas.{counts_down-passes, counts_down-stops}
use Rattle.naga_valid.proofs.references.nth.NthVisitor.visit_each.Goals as goal

pub returns-in-Some : goal.returns-in-Some
returns-in-Some g c =
    let short : length c.args.list.now < 2 ^ 64 = search rules in
    let within : c.args.self.now.left < length c.args.list.now = search rules in
    let is : c.in-Some.element.now ≡ get_or c.args.list.now c.args.self.now.left c.in-Some.element.now = search rules in
    record {
      visited =
          subst (λ to. AreVisited counts_down c.args.self.now (map g.T.HasReference.reference c.args.list.now) (Break to) (record { left = 0 })) (sym c.reference.ensures)
          (counts_down-stops g.T.HasReference.reference c.args.list.now c.args.self.now.left c.in-Some.element.now within is);
      fits = omega (arith, short, length-map c.args.list.now g.T.HasReference.reference);
    }

pub returns-in-None : goal.returns-in-None
returns-in-None g c =
    let short : length c.args.list.now < 2 ^ 64 = search rules in
    let past : length c.args.list.now ≤ c.args.self.now.left = search rules in
    record {
      visited =
          counts_down-passes g.T.HasReference.reference c.args.list.now c.args.self.now.left (c.args.self.now.left - length c.args.list.now) (omega (arith, past));
      fits = omega (arith, short, length-map c.args.list.now g.T.HasReference.reference);
    }
