use Rattle.std.proofs.Common.{◌≡◌, ◌∙◌, ap, subst, sym, []}
use Rattle.std.specs.FinSet as set
use Rattle.naga_ir.specs.View.{tree_of}
use Rattle.naga_flow.specs.Misuses.{BlockMisuse, Judged}
use Rattle.naga_flow.specs.Readings.{emitted_in}
use Rattle.naga_flow.specs.Scopes.{BlockPasses}
use Rattle.naga_flow.specs.Uses.{Expressions}
use Rattle.naga_bounds.specs.Reach.{Typed, is_fixed_access}
use Rattle.naga_bounds.proofs.EmittedLemmas.{emitted_in-chains}
use Rattle.naga_bounds.proofs.accesses.Accesses.check_emitted.Goals as goal

pub returns : goal.returns
returns c =
    let inside = c.self.inside in
    let body = tree_of c.args.function.now.body in
    let chains = set.contains inside.places.members in
    let arena : c.args.function.now.expressions ≡ inside.typed.arena =
    c.requires ∙ ap (λ (code : Typed). code.arena) (sym c.self.view_is) in
    let same : emitted_in chains c.args.function.now.expressions ≡ emitted_in (is_fixed_access c.args.self.now) c.args.function.now.expressions =
    ap (emitted_in chains) arena
    ∙ emitted_in-chains inside.typed chains c.self.invariant
    ∙ (λ i. emitted_in (is_fixed_access (c.self.view_is i)) (sym arena i))
    in
    subst (λ (expressions : Expressions). Judged c.check_emitted.result (λ _. BlockPasses expressions [] [] body)
    (λ misuse. BlockMisuse expressions 0 [] [] body misuse × ¬ BlockPasses expressions [] [] body)) same c.check_emitted.ensures
