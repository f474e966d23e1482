use Rattle.std.proofs.Common.{ap, subst}
use Rattle.naga_namer.specs.ModuleNames.{NamesModule}
use Rattle.naga_namer.specs.Namers.{naming}
use Rattle.naga_namer.specs.Names.{Naming, Reserved}
use Rattle.naga_namer.proofs.NamesModuleLemmas.{keys-of-names}
use Rattle.naga_namer.proofs.namer.Namer.reset.Goals as goal

pub returns-clause-named : goal.returns-clause-named
returns-clause-named c =
    let P : Reserved → Type 0 = λ reserved. NamesModule reserved c.args.«module».now c.in_ok-names.names.entries
    (naming c.name_module.new.namer).counts in
    subst P (ap (λ (it : Naming). it.reserved) c.new-scope.ensures) c.in_ok-names.ensures.named

pub returns-clause-keys : goal.returns-clause-keys
returns-clause-keys c =
    keys-of-names c.args.«module».now _ c.in_ok-names.names.entries _ c.in_ok-names.ensures.named
