use Rattle.std.proofs.Common.{ap, sym, ◌∙◌}
use Rattle.std.specs.Prelude.{None, option_and_then}
use Rattle.std.specs.List.{last_or}
use Rattle.naga_arena.specs.Arena.{value_at}
use Rattle.naga_ir.specs.Expression.{global_of}
use Rattle.naga_kinds.proofs.PathLemmas.{Path-unique}
use Rattle.naga_ir.proofs.laws.pointers.pointer_has_one_origin.Goals as goal

pub returns : goal.returns
returns c = λ expressions pointer global other here there.
    here.2 ∙ ap (λ path. option_and_then (λ handle. option_and_then global_of (value_at expressions handle)) (last_or None path)) (Path-unique here.1 there.1) ∙ sym there.2
