use Rattle.std.proofs.Common.{◌≡◌, ◌∙◌, Some, ap, subst, sym}
use Rattle.std.specs.Prelude.{MatchOption}
use Rattle.naga_typing.specs.TypedFunctions.{FitsIn, context_of, signature_of}
use Rattle.naga_typing.proofs.DeclarationFaultsLemmas.{Adds-fits, Adds-pushed}
use Rattle.naga_typing.proofs.declarations.push_fault.Goals as goal

pub returns-in_default : goal.returns-in_default
returns-in_default c =
    let typed = c.args.typed.now in
    Adds-fits (context_of typed) (signature_of typed) typed.known.now (c.args.declared, c.args.slot.now) c.args.faults.now.items c.in_default.ensures

pub returns : goal.returns
returns c =
    let typed = c.args.typed.now in
    let slot = c.args.slot.now in
    let misses =
    subst (λ found. MatchOption found (FitsIn typed slot) (λ unmet. (slot ≡ Some unmet) × ¬ FitsIn typed slot)) c.in-Some.is c.unmet.ensures
    in
    Adds-pushed (context_of typed) (signature_of typed) typed.known.now c.push.result (c.args.declared, slot) c.unmet-unmet.result
    c.args.faults.now.items c.push.new.faults.items
    (misses.0 ∙ ap Some (sym c.unmet-unmet.ensures.required)) misses.1 c.unmet-unmet.ensures.found c.push.ensures
