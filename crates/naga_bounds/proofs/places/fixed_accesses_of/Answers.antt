use Rattle.std.proofs.Common.{◌≡◌, ◌≤◌, ◌+◌, ap, arith, length, subst, sym}
use Rattle.naga_bounds.proofs.HasPassingLemmas.{HasPassing}
use Rattle.naga_bounds.specs.Reach.{Typed, is_fixed_access}
use Rattle.naga_bounds.proofs.HasPassingLemmas.{HasPassing-all, HasPassing-none, HasPassing-push, fixed-past}
use Rattle.naga_bounds.proofs.places.fixed_accesses_of.Goals as goal

pub expressions-init : goal.expressions-init
expressions-init c = subst (HasPassing (is_fixed_access c.args.typed.now) 0) (sym c.in_ok-found.ensures) (HasPassing-none (is_fixed_access c.args.typed.now) _)

pub expressions-preserved : goal.expressions-preserved
expressions-preserved c =
    let test = is_fixed_access c.args.typed.now in
    let before = c.expressions.found in
    let handle = c.at-handle.result in
    let is : handle ≡ c.expressions.index = c.at-handle.ensures in
    let earlier : HasPassing test handle before = subst (λ count. HasPassing test count before) (sym is) c.expressions.invariant in
    subst (λ count. HasPassing test (count + 1) c.add.new.places) is
    (subst (HasPassing test (handle + 1)) (sym c.in_ok-add.ensures)
    (HasPassing-push test handle before c.is_fixed_access-is_fixed.result earlier c.is_fixed_access-is_fixed.ensures))

pub returns : goal.returns
returns c =
    let code = c.args.typed.now in
    let same = ap (λ (view : Typed). length view.arena) c.typed.view_is in
    let all : length code.arena ≤ c.expressions.index = omega (arith, same, c.len-index-end.ensures.value, c.expressions-test.false) in
    HasPassing-all (is_fixed_access code) c.expressions.index c.expressions.found c.expressions.invariant
    (λ handle past. fixed-past code handle (omega (arith, all, past)))
