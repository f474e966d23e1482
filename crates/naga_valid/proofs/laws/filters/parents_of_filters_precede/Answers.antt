use Rattle.naga_valid.proofs.ParentsPrecedeLemmas.{leaf-valid, ParentsPrecede-valid}
use Rattle.naga_valid.proofs.laws.filters.parents_of_filters_precede.Goals as goal

pub returns : goal.returns
returns c =
    record {
      parents = ParentsPrecede-valid c.args.module.now c.requires;
      leaf = leaf-valid c.args.module.now c.requires;
    }
