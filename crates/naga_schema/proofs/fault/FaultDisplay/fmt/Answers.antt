use Rattle.std.proofs.Common.{◌≡◌, map, reverse, refl, Ok}
use Rattle.std.proofs.Output.{displays_on_IsOk_append, displays_on_ok_of_eq}
use Rattle.std.specs.Fmt.{◌++?◌}
use Rattle.naga_schema.specs.Messages.{path_text, blame_text, found_text}
use Rattle.naga_schema.specs.Path.{blame_of, into_of, found_of}
use Rattle.naga_schema.proofs.fault.FaultDisplay.fmt.Goals as goal

pub returns-clause-writes : goal.returns-clause-writes
returns-clause-writes g c =
    let fault = c.args.self.now in
    let path = path_text (map into_of (reverse c.deref.result.now)) in
    let blame = blame_text (blame_of fault.cause) in
    let written = c.in_ok-write_path in
    let text : (path ++? blame) ≡ found_text (found_of fault) = rw c.deref.ensures.value refl in
    displays_on_ok_of_eq _ _ _ _ _ _ text
    (displays_on_IsOk_append _ _ _ _ (Ok written.field-0) _ path blame (λ ok. refl) written.ensures c.write.ensures.writes)
