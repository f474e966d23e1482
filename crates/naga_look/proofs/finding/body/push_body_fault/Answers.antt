use Rattle.std.proofs.Common.{refl, subst}
use Rattle.naga_flow.specs.Bodies.{HasFault}
use Rattle.naga_flow.specs.declared.bodies.InvalidBody.TheVariants as body
use Rattle.naga_look.specs.Findings.{inside_of, jump_fault, misuse_fault}
use Rattle.naga_look.proofs.FindingsLemmas.{AddsBodyFault-found, AddsBodyFaults-none, jump-other, misuse-other}
use Rattle.naga_look.proofs.finding.body.push_body_fault.Goals as goal

pub returns-in-Ok : goal.returns-in-Ok
returns-in-Ok c = AddsBodyFaults-none (inside_of c.args.body.now) c.args.found.now.items c.in-Ok.ensures.passes

pub returns-in-Err-Jump : goal.returns-in-Err-Jump
returns-in-Err-Jump c =
    let inside = inside_of c.args.body.now in
    let misplaced = c.in-Err-Jump.misplaced in
    let has = subst (HasFault inside.whole) c.in-Err-Jump.field-0-is c.in-Err-Jump.ensures.fault in
    AddsBodyFault-found c.push_jump.result inside (body.Jump misplaced) (jump_fault inside misplaced) c.args.found.now.items c.push_jump.new.found.items
    (c.a_body_with_a_fault_does_not_pass.ensures inside.whole (body.Jump misplaced) has (jump-other misplaced)) has refl c.push_jump.ensures

pub returns-in-Err-Use : goal.returns-in-Err-Use
returns-in-Err-Use c =
    let inside = inside_of c.args.body.now in
    let misuse = c.in-Err-Use.misuse in
    let has = subst (HasFault inside.whole) c.in-Err-Use.field-0-is c.in-Err-Use.ensures.fault in
    AddsBodyFault-found c.push_misuse.result inside (body.Use misuse) (misuse_fault inside misuse) c.args.found.now.items c.push_misuse.new.found.items
    (c.a_body_with_a_fault_does_not_pass.ensures inside.whole (body.Use misuse) has (misuse-other misuse)) has refl c.push_misuse.ensures
