use Rattle.std.proofs.Common.{◌∙◌, ◌≤◌, Some, ap, arith, length, subst}
use Rattle.naga_flow.proofs.BodiesLemmas.{All-take_all, All-take_next}
use Rattle.naga_typing.specs.Initials.{initials}
use Rattle.naga_typing.specs.TypedFunctions.{FitsIn}
use Rattle.naga_typing.proofs.typed_function.TypedFunction.check_initials.Goals as goal

pub returns-in-Some : goal.returns-in-Some
returns-in-Some c = (
  omega (arith, c.declarations-test.true, c.count_of-position-end.ensures.bound),
  record {
    at = c.initial.ensures ∙ ap Some c.in-Some.ensures.0;
    fails = subst (λ slot. ¬ FitsIn c.args.self.now slot) c.in-Some.ensures.0 c.in-Some.ensures.1;
    earlier = c.declarations.invariant;
  },
)

pub declarations-preserved : goal.declarations-preserved
declarations-preserved c =
    let typed = c.args.self.now in
    All-take_next (FitsIn typed) (initials typed.«module».now typed.function.now c.args.kind) c.declarations.position
    c.initial.result c.initial.ensures c.declarations.invariant c.in_default.ensures

pub returns : goal.returns
returns c =
    let typed = c.args.self.now in
    let slots = initials typed.«module».now typed.function.now c.args.kind in
    let past : length slots ≤ c.declarations.position = omega (arith, c.count_of-position-end.ensures.value, c.declarations-test.false) in
    All-take_all (FitsIn typed) slots c.declarations.position past c.declarations.invariant
