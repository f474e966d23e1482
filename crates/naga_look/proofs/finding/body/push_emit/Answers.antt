use Rattle.std.proofs.Common.{inr, refl}
use Rattle.std.specs.Prelude.{None, codes}
use Rattle.naga_look.specs.Findings.{finding_in, inside_of}
use Rattle.naga_look.specs.declared.finding.FindingKind.TheVariants.{Emit}
use Rattle.naga_look.proofs.FindingsLemmas.{AddsEmit-found, AddsEmits-none}
use Rattle.naga_look.proofs.finding.body.push_emit.Goals as goal

pub returns-then-branch : goal.returns-then-branch
returns-then-branch c =
    let inside = inside_of c.args.body.now in
    let lacks = c.in_ok-lacks_emit.ensures.0 c.if-branch.true in
    AddsEmit-found c.push_finding.result inside (finding_in Emit inside None None (codes "an access without its own Emit"))
    c.args.found.now.items c.push_finding.new.found.items (inr (lacks, refl)) c.push_finding.ensures

pub returns-else-branch : goal.returns-else-branch
returns-else-branch c =
    AddsEmits-none (inside_of c.args.body.now) c.args.found.now.items
    (λ lacks. let yes = c.in_ok-lacks_emit.ensures.1 lacks in let no = c.if-branch.false in cc)
