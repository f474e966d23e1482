use Rattle.std.proofs.Common.{◌≡◌, ◌++◌, length, subst, sym}
use Rattle.naga_bounds.specs.Restricted.{group, moving}
use Rattle.naga_bounds.specs.declared.change.Change.{Change}
use Rattle.naga_bounds.proofs.rebuild.push_group.Goals as goal

pub returns-in-Clamped-clause-entries : goal.returns-in-Clamped-clause-entries
returns-in-Clamped-clause-entries c =
    let before = c.args.building.now.entries in
    subst (λ (change : Change). c.push_clamped.new.building.entries
    ≡ before ++ group (moving c.args.plan.now) (change, (c.args.expression, c.args.span)) c.args.front (length before))
    (sym c.in-Clamped.is) (c.push_clamped.ensures.entries c.args.expression)
