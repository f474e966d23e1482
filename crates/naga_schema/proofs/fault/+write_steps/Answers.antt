use Rattle.std.proofs.Common.{◌≡◌, map, reverse, refl, Ok}
use Rattle.std.proofs.Output.{displays_on_IsOk_append, displays_on_ok_of_eq}
use Rattle.std.specs.Fmt.{◌++?◌}
use Rattle.naga_schema.specs.Messages.{step_text, steps_text}
use Rattle.naga_schema.specs.Path.{into_of}
use Rattle.naga_schema.proofs.MessagesLemmas.{path-last}
use Rattle.naga_schema.proofs.fault.+write_steps.Goals as goal

pub returns-in_ok-write_step-in-Some : goal.returns-in_ok-write_step-in-Some
returns-in_ok-write_step-in-Some g t c =
    let step = c.in-Some.step.now in
    let others = c.in-Some.others.now in
    let first = c.in_ok-write_step-in-Some in
    let split = c.in-Some.ensures.cases.0 in
    let text : (step_text (into_of step) ++? steps_text (map into_of (reverse others))) ≡ steps_text (map into_of (reverse c.args.steps.now)) =
    rw (split, path-last others step) refl in
    displays_on_ok_of_eq _ _ _ _ _ _ text
    (displays_on_IsOk_append _ _ _ _ (Ok first.field-0) _ (step_text (into_of step)) (steps_text (map into_of (reverse others))) (λ ok. refl) first.ensures c.write_steps.ensures)
