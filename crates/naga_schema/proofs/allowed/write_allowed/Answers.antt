use Rattle.std.proofs.Common.{◌≡◌, ◌++◌, rules, ap, sym, refl, drop, slice_get, codes, Some, None, Ok}
use Rattle.std.proofs.Output.{displays_on_IsOk_append, displays_on_ok_of_eq}
use Rattle.std.specs.Fmt.{◌++?◌}
use Rattle.naga_schema.specs.Messages.{allowed_text, more_text}
use Rattle.naga_schema.specs.Path.{allowed_names}
use Rattle.naga_schema.proofs.AllowedLemmas.{allowed-few}
use Rattle.naga_schema.proofs.allowed.write_allowed.Goals as goal

pub returns-in_ok-write-in-Some : goal.returns-in_ok-write-in-Some
returns-in_ok-write-in-Some g c =
    let names = allowed_names c.args.allowed.now in
    let name = c.in-Some.name.now in
    let one = c.in_ok-write-in-Some in
    let few : slice_get names 8 ≡ None = search rules in
    let text : (Some (codes ", expected " ++ name) ++? Some (more_text (drop 1 names))) ≡ Some (allowed_text names) =
    ap Some (allowed-few names name few (sym c.in-Some.ensures)) in
    displays_on_ok_of_eq _ _ _ _ _ _ text
    (displays_on_IsOk_append _ _ _ _ (Ok one.field-0) _ (Some (codes ", expected " ++ name)) (Some (more_text (drop 1 names))) (λ ok. refl) one.ensures.writes c.write_more.ensures)
