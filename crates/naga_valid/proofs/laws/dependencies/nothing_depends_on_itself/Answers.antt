use Rattle.naga_valid.proofs.DependsOnLemmas.{DependsOn-functions, DependsOn-irreflexive}
use Rattle.naga_valid.proofs.laws.dependencies.nothing_depends_on_itself.Goals as goal

pub returns : goal.returns
returns c =
    record {
      itself = DependsOn-irreflexive c.args.module.now c.requires;
      functions = λ handle other inner outer. DependsOn-functions c.args.module.now c.requires handle inner other outer;
    }
