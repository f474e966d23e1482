use Rattle.std.proofs.Common.{rules, arith, ◌<◌, ◌^◌, length, length-append}
use Rattle.std.specs.Option.{option_map}
use Rattle.std.specs.Prelude.{option_to_list}
use Rattle.std.proofs.lemmas.List.{length-map}
use Rattle.naga_valid.specs.Reference.{operands}
use Rattle.naga_valid.specs.declared.reference.Reference.TheVariants as reference
use Rattle.naga_valid.proofs.AreVisitedLemmas.{AreVisited-append, AreVisited-stops, length-optional}
use Rattle.naga_valid.proofs.references.operands.each_and.Goals as goal

pub returns-in-Continue : goal.returns-in-Continue
returns-in-Continue g c =
    let short : length c.args.list.now < 2 ^ 63 = search rules in
    let last = option_to_list (option_map reference.Expression c.args.operand) in
    let list = operands c.args.list.now in
    record {
      visited =
          AreVisited-append g.V.Visitor.visits c.args.visitor.now c.visit_each.new.self list last c.optional_operand.result c.optional_operand.new.visitor
          (c.in-Continue.ensures).visited c.optional_operand.ensures.visited;
      fits = omega (arith, short, length-map c.args.list.now reference.Expression, length-append list last, length-optional (option_map reference.Expression c.args.operand));
    }

pub returns-in-Break : goal.returns-in-Break
returns-in-Break g c =
    let short : length c.args.list.now < 2 ^ 63 = search rules in
    let last = option_to_list (option_map reference.Expression c.args.operand) in
    let list = operands c.args.list.now in
    record {
      visited =
          AreVisited-stops g.V.Visitor.visits c.args.visitor.now list last c.in-Break.stop c.visit_each.new.self (c.in-Break.ensures).visited;
      fits = omega (arith, short, length-map c.args.list.now reference.Expression, length-append list last, length-optional (option_map reference.Expression c.args.operand));
    }
