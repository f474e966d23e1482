use Rattle.std.proofs.Common.{◌+◌}
use Rattle.naga_typing.proofs.typed_function.TypedFunction.first_entries.Goals as goal

pub returns : goal.returns
returns c = λ i. c.entries_at.ensures.is i + c.entries_at-2.ensures.is i + c.entries_at-3.ensures.is i + c.entries_at-4.ensures.is i
