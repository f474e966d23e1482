use Rattle.std.proofs.Common.{◌∙◌, ap}
use Rattle.std.specs.List.{filter_map}
use Rattle.naga_compact.specs.Marks.{puts}
use Rattle.naga_compact.proofs.InitialValuesLemmas.{filter_map-enumerate_from}
use Rattle.naga_compact.proofs.function.mark_initial_values.Goals as goal

pub loop-variable-init : goal.loop-variable-init
loop-variable-init c =
    ap (λ xs. puts c.args.marks.now (filter_map (λ entry. entry.1.init) xs)) (c.into_iter-variable-iterator.ensures.into_iter_gives ∙ c.iter-variable-items.ensures.rest)
    ∙ ap (puts c.args.marks.now) (filter_map-enumerate_from (λ variable. variable.init) 0 c.args.variables.now)
