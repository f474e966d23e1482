use Rattle.naga_passes.specs.Meanings.{ComputesAfter, renumberings_of}
use Rattle.naga_passes.proofs.FunctionValueLemmas.{ComputesAfter-unspanned, FunctionsBecome-unspanned}
use Rattle.naga_passes.proofs.FunctionsComputeAfterLemmas.{FunctionsComputeAfter-passes}
use Rattle.naga_passes.proofs.TextLemmas.{module_value-read}
use Rattle.naga_passes.proofs.laws.meanings.text_after_passes_keeps_meanings.Goals as goal

pub returns : goal.returns
returns g c = λ passes old read text none valid written fits is.
    let renumberings = renumberings_of passes old written.new written.after in
    FunctionsBecome-unspanned (ComputesAfter g.row.Thing.Denot g.row.Value.Denot g.row.State.Denot passes renumberings)
    (ComputesAfter-unspanned g.row.Thing.Denot g.row.Value.Denot g.row.State.Denot passes renumberings) renumberings old written.new read (module_value-read passes old read text written fits is)
    (FunctionsComputeAfter-passes g.row.Thing.Denot g.row.Value.Denot g.row.State.Denot passes old written.new none valid written.after)
