use Rattle.std.proofs.Common.{◌∙◌, ℕ, Some, ap, cond}
use Rattle.std.specs.Prelude.{nat_eq}
use Rattle.std.specs.HashMap.{get}
use Rattle.naga_namer.proofs.reset.insert_stage.Goals as goal

pub returns : goal.returns
returns c = λ other.
    c.in_ok-insert.ensures.updates.0 other
    ∙ ap (λ (k : ℕ). cond (nat_eq k other) (Some c.args.stage) (get nat_eq c.args.stages.now other)) c.index.ensures.value
