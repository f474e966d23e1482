use Rattle.std.proofs.Common.{ap, sym, ◌∙◌}
use Rattle.std.specs.List.{zip}
use Rattle.std.proofs.lemmas.List.Elements.{same_from_all_zip}
use Rattle.naga_arena.specs.Arena.{values, spans}
use Rattle.naga_arena.proofs.ZipLemmas.{zip-values_spans}
use Rattle.naga_arena.proofs.laws.clones.clone_of_the_same_values_is_the_arena.Goals as goal

pub returns : goal.returns
returns g c = λ arena copy same is.
    let equal = same_from_all_zip _ (values arena) (values copy) is.0 same in
    sym (zip-values_spans copy) ∙ ap (λ ks. zip ks (spans copy)) equal ∙ ap (zip (values arena)) is.1 ∙ zip-values_spans arena
