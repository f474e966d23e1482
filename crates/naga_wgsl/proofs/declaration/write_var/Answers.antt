use Rattle.std.proofs.Common.{codes, refl}
use Rattle.naga_wgsl.specs.Spaces.{space_text}
use Rattle.naga_wgsl.proofs.AttemptsLemmas.{attempts-between, attempts_written}
use Rattle.naga_wgsl.proofs.declaration.write_var.Goals as goal

pub returns : goal.returns
returns c =
    attempts-between (codes "var") (codes " ") (space_text c.args.space) (space_text c.args.space) c.args.text.now c.push.new.self c.write_space.new.text
    c.push-2.new.self c.in_ok-write_space.field-0 _ refl c.in_ok-push.ensures (attempts_written _ _ _ _ c.in_ok-write_space.ensures) c.in_ok-push-2.ensures
