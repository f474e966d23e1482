use Rattle.std.proofs.Common.{◌≡◌, map, reverse, refl, Some, Ok, codes}
use Rattle.std.proofs.Output.{displays_on_IsOk_append, displays_on_ok_of_eq}
use Rattle.std.specs.Fmt.{◌++?◌}
use Rattle.naga_schema.specs.Messages.{first_step_text, path_text, steps_text}
use Rattle.naga_schema.specs.Path.{into_of}
use Rattle.naga_schema.proofs.MessagesLemmas.{path-last}
use Rattle.naga_schema.proofs.fault.write_path.Goals as goal

pub returns-in_ok-write_steps-in-Some : goal.returns-in_ok-write_steps-in-Some
returns-in_ok-write_steps-in-Some g c =
    let first = c.in-Some.first.now in
    let rest = c.in-Some.rest.now in
    let one = c.in_ok-write_first_step-in-Some in
    let others = c.in_ok-write_steps-in-Some in
    let end = Some (codes ": ") in
    let split = c.in-Some.ensures.cases.0 in
    let text : (first_step_text (into_of first) ++? (steps_text (map into_of (reverse rest)) ++? end)) ≡ path_text (map into_of (reverse c.args.steps.now)) =
    rw (split, path-last rest first) refl in
    displays_on_ok_of_eq _ _ _ _ _ _ text
    (displays_on_IsOk_append _ _ _ _ (Ok one.field-0) _ (first_step_text (into_of first)) (steps_text (map into_of (reverse rest)) ++? end) (λ ok. refl) one.ensures
    (displays_on_IsOk_append _ _ _ _ (Ok others.field-0) _ (steps_text (map into_of (reverse rest))) end (λ ok. refl) others.ensures c.write_str.ensures.writes))
