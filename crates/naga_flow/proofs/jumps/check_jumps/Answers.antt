use Rattle.std.proofs.Common.{◌≡◌, ◌∙◌, ap, false, refl, sym, true}
use Rattle.naga_ir.specs.View.{tree_of}
use Rattle.naga_flow.specs.Jumps.{told}
use Rattle.naga_flow.specs.Structured.{of_function}
use Rattle.naga_flow.specs.declared.misplaced_jump.MisplacedJump.{MisplacedJump}
use Rattle.naga_flow.proofs.JumpsLemmas.{Walks-not_structured, Walks-structured}
use Rattle.naga_flow.proofs.jumps.check_jumps.Goals as goal

pub returns-in-None-clause-structured : goal.returns-in-None-clause-structured
returns-in-None-clause-structured c =
    let place = c.walk_block.new.place in
    let structured = Walks-structured c.of_function.result of_function (tree_of c.args.function.now.body) c.start-place.result.met (told c.walk_block.result place) c.of_function.ensures c.walk_block.ensures place.met
    (ap (λ found. told found place) c.in-None.is)
    in
    (λ _. structured, λ _. refl)

pub returns-in-Some-clause-structured : goal.returns-in-Some-clause-structured
returns-in-Some-clause-structured c =
    let place = c.walk_block.new.place in
    let fault : MisplacedJump = record { statement = place.met; span = place.span; jump = c.in-Some.jump } in
    let not_structured = Walks-not_structured c.of_function.result of_function (tree_of c.args.function.now.body) c.start-place.result.met (told c.walk_block.result place) c.of_function.ensures c.walk_block.ensures fault
    (ap (λ found. told found place) c.in-Some.is)
    in
    (λ h. absurd (cc), λ h. absurd (let e : true ≡ false = sym h ∙ not_structured in cc))
