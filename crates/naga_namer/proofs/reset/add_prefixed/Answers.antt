use Rattle.std.proofs.Common.{◌∙◌, ◌∷◌, [], ℕ, List, subst}
use Rattle.naga_namer.specs.Namers.{naming}
use Rattle.naga_namer.specs.ModuleNames.{AddsNames}
use Rattle.naga_namer.proofs.reset.add_prefixed.Goals as goal

pub returns : goal.returns
returns c =
    let P : List ℕ → Type 0 = λ label. AddsNames (naming c.args.namer.now) c.args.entries.now.items ((c.args.key, label) ∷ [])
    (naming c.add.new.namer) c.add.new.entries.items in
    subst P (c.as_str.ensures.value ∙ c.in_ok-label.ensures) c.in_ok-add.ensures
