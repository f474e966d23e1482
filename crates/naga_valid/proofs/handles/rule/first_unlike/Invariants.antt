use Rattle.std.proofs.Common.{ℕ, ◌<◌, ◌≤◌}
use Rattle.std.specs.Prelude.{All}
use Rattle.naga_valid.specs.Places.{references_in}
use Rattle.naga_valid.specs.declared.place.Place.TheVariants as place
use Rattle.naga_valid.proofs.handles.rule.first_unlike.Given as goal

-- the rule permits all references of the global expressions that were passed
abbrev pub invariant-loop-index : goal.invariant-loop-index
invariant-loop-index g l =
    (k : ℕ) → l.fn.start ≤ k → k < l.index → All (g.R.Rule.Permits l.module l.rule k) (references_in l.module (place.GlobalExpression k))
