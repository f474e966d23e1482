use Rattle.std.proofs.Common.{◌∙◌, ap, refl}
use Rattle.naga_sets.specs.HandleSet.{BoundedSet}
use Rattle.naga_compact.proofs.CompactsFunctionLemmas.{CompactsFunction-from, named_or_initial-bound}
use Rattle.naga_compact.proofs.function.compact_function.Goals as goal

pub compact_body-requires-clause-bound : goal.compact_body-requires-clause-bound
compact_body-requires-clause-bound c =
    ap (λ (s : BoundedSet). s.bound) c.in_ok-needed.ensures ∙ named_or_initial-bound c.args.function.now

pub returns-clause-compacted : goal.returns-clause-compacted
returns-clause-compacted c =
    CompactsFunction-from c.args.function.now _ c.in_ok-needed.needed c.in_ok-renumbering.renumbering c.requires.precede c.in_ok-needed.ensures c.in_ok-renumbering.ensures.compacted c.rename_keys.ensures c.rename_values.ensures refl refl refl refl
