use Rattle.std.proofs.Common.{◌∙◌, List, subst}
use Rattle.naga_namer.specs.Declarations.{Entry, other_declarations}
use Rattle.naga_namer.specs.ModuleNames.{AddsNames}
use Rattle.naga_namer.specs.Namers.{naming}
use Rattle.naga_namer.specs.contracts.name_key.NameKeyPartialEq.TheImpl as name_key_eq
use Rattle.naga_namer.proofs.NameKeyLemmas.{keys-decide}
use Rattle.naga_namer.proofs.NamesModuleLemmas.{names-module}
use Rattle.naga_namer.proofs.reset.name_module.Goals as goal

pub returns-clause-named : goal.returns-clause-named
returns-clause-named c =
    let whole = c.args.«module».now in
    let P : List Entry → Type 0 = λ types. AddsNames (naming c.name_types.new.namer) c.new-others.result.items (other_declarations types whole)
    (naming c.name_others.new.namer) c.name_others.new.entries.items in
    names-module whole name_key_eq.ghosts.eq (λ a b. (keys-decide a b).0) (naming c.args.namer.now) (naming c.name_types.new.namer) (naming c.name_others.new.namer)
    c.new-types.result.items c.new-others.result.items c.new-members.result.items
    c.name_types.new.entries.items c.name_others.new.entries.items c.name_all_members.new.entries.items c.in_ok-names.names.entries
    c.new-types.ensures.items c.new-others.ensures.items c.new-members.ensures.items c.requires
    c.in_ok-name_types.ensures (subst P c.as_slice.ensures.value c.in_ok-name_others.ensures) c.in_ok-name_all_members.ensures c.in_ok-names.ensures

pub returns-clause-reserved : goal.returns-clause-reserved
returns-clause-reserved c = c.in_ok-name_others.ensures.reserved ∙ c.in_ok-name_types.ensures.reserved
