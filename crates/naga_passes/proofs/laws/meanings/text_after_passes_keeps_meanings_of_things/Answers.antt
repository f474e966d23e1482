use Rattle.std.proofs.Common.{◌≡◌, sym, subst}
use Rattle.naga_json.specs.Module.{module_value}
use Rattle.naga_json.specs.Unspanned.{unspanned_module}
use Rattle.naga_meaning.specs.Things.{thing_of}
use Rattle.naga_passes.specs.Meanings.{ComputesAfterOf, FunctionsComputeAfterOf, renumberings_of}
use Rattle.naga_passes.proofs.FunctionValueLemmas.{ComputesAfterOf-unspanned, FunctionsBecome-unspanned}
use Rattle.naga_passes.proofs.FunctionsComputeAfterOfLemmas.{FunctionsComputeAfterOf-passes}
use Rattle.naga_passes.proofs.TextLemmas.{module_value-read}
use Rattle.naga_passes.proofs.ThingValueLemmas.{thing_of-unspanned}
use Rattle.naga_passes.proofs.laws.meanings.text_after_passes_keeps_meanings_of_things.Goals as goal

pub returns : goal.returns
returns g c = λ passes old read text none valid written fits is place place' keeps.
    let renumberings = renumberings_of passes old written.new written.after in
    let same : module_value read ≡ unspanned_module (module_value written.new) = module_value-read passes old read text written fits is in
    subst (λ look. FunctionsComputeAfterOf g.row.Value.Denot g.row.State.Denot (thing_of old place) look passes renumberings old read) (sym (thing_of-unspanned written.new read same place'))
    (FunctionsBecome-unspanned (ComputesAfterOf g.row.Value.Denot g.row.State.Denot (thing_of old place) (thing_of written.new place') passes renumberings)
    (ComputesAfterOf-unspanned g.row.Value.Denot g.row.State.Denot (thing_of old place) (thing_of written.new place') passes renumberings) renumberings old written.new read same
    (FunctionsComputeAfterOf-passes g.row.Place.Denot g.row.Value.Denot g.row.State.Denot passes old written.new none valid written.after place place' keeps))
