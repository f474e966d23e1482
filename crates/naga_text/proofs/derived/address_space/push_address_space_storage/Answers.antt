-- Made by tests/derive from the declarations of naga_kinds and naga_ir.
use Rattle.std.specs.Prelude.{codes}
use Rattle.naga_text.proofs.PiecesLemmas.{OnOk-after}
use Rattle.naga_text.proofs.derived.address_space.push_address_space_storage.Goals as goal

pub returns : goal.returns
returns c =
    OnOk-after c.push_access.result c.args.text.now c.push.new.self c.push_access.new.text (codes " Storage") _ c.in_ok-push.ensures
    c.push_access.ensures
