use Rattle.naga_text.specs.Types.{inner_text}
use Rattle.naga_text.proofs.PiecesLemmas.{OnOk-variant}
use Rattle.naga_text.proofs.types.push_inner.Goals as goal

pub returns-in-BindingArray : goal.returns-in-BindingArray
returns-in-BindingArray c =
    OnOk-variant inner_text c.push_elements.result c.args.text.now c.push_elements.new.text c.args.inner.now _ c.in-BindingArray.is c.push_elements.ensures
