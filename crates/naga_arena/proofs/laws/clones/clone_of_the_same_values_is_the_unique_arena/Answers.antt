use Rattle.std.proofs.Common.{ap, ◌∙◌}
use Rattle.std.specs.List.{zip}
use Rattle.std.proofs.lemmas.List.Elements.{same_from_all_zip}
use Rattle.naga_arena.specs.Arena.{values, spans}
use Rattle.naga_arena.specs.UniqueArena.{without_repeats}
use Rattle.naga_arena.proofs.ZipLemmas.{zip-values_spans}
use Rattle.naga_arena.proofs.laws.clones.clone_of_the_same_values_is_the_unique_arena.Goals as goal

pub returns : goal.returns
returns g c = λ arena copy same is.
    let equal = same_from_all_zip _ (values arena) is.0 is.1 same in
    is.2 ∙ ap (without_repeats _) (ap (λ ks. zip ks (spans arena)) equal ∙ zip-values_spans arena)
