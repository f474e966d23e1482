use Rattle.std.proofs.Common.{◌≡◌, ◌+◌, ◌<◌, ℕ, true, false, Option, length, sym, ap, subst, rules, arith}
use Rattle.std.specs.Prelude.{IfSome}
use Rattle.std.specs.Option.{option_map_or}
use Rattle.naga_kinds.specs.Search.{Finds, is_rule}
use Rattle.naga_kinds.proofs.FindsLemmas.{Carries, Carries-end, Carries-found, Carries-on, parent_has_fewer, parent_within}
use Rattle.naga_kinds.proofs.diagnostic_filter.DiagnosticFilterNode.search_counted.Goals as goal

pub returns-then-is_standard-clause-finds : goal.returns-then-is_standard-clause-finds
returns-then-is_standard-clause-finds c =
    let nodes = c.args.arena.now in
    let carries = subst (λ next. Carries nodes c.args.node c.args.triggering_rule next c.nodes.looked_at) c.in-Some.is c.nodes.invariant.carries in
    let is : is_rule c.args.triggering_rule c.index-node.result.now.inner.triggering_rule ≡ true = search rules in
    Carries-found nodes c.args.node c.args.triggering_rule c.nodes.looked_at c.in-Some.handle c.index-node.result.now c.index-node.ensures carries c.requires.precede is

pub nodes-smaller : goal.nodes-smaller
nodes-smaller c =
    let fewer = parent_has_fewer c.args.arena.now c.requires.precede c.in-Some.handle c.index-node.result.now c.index-node.ensures in
    let left = ap (λ (next : Option ℕ). option_map_or (λ (here : ℕ). here + 1) next 0) c.in-Some.is in
    omega arith

pub nodes-preserved : goal.nodes-preserved
nodes-preserved c =
    let nodes = c.args.arena.now in
    let carries = subst (λ next. Carries nodes c.args.node c.args.triggering_rule next c.nodes.looked_at) c.in-Some.is c.nodes.invariant.carries in
    let isnt : is_rule c.args.triggering_rule c.index-node.result.now.inner.triggering_rule ≡ false = search rules in
    let fewer = parent_has_fewer nodes c.requires.precede c.in-Some.handle c.index-node.result.now c.index-node.ensures in
    let left = ap (λ (next : Option ℕ). option_map_or (λ (here : ℕ). here + 1) next 0) c.in-Some.is in
    let within : c.in-Some.handle < length nodes = subst (λ next. IfSome next (λ here. here < length nodes)) c.in-Some.is c.nodes.invariant.within in
    record {
      within = parent_within nodes c.requires.precede c.in-Some.handle c.index-node.result.now c.index-node.ensures (length nodes) within;
      bound = omega (arith, c.nodes.invariant.bound);
      carries = Carries-on nodes c.args.node c.args.triggering_rule c.nodes.looked_at c.in-Some.handle c.index-node.result.now c.index-node.ensures carries isnt;
    }

pub returns-clause-finds : goal.returns-clause-finds
returns-clause-finds c =
    let nodes = c.args.arena.now in
    let carries = subst (λ next. Carries nodes c.args.node c.args.triggering_rule next c.nodes.looked_at) c.in_default.is c.nodes.invariant.carries in
    subst (λ severity. Finds nodes c.args.node c.args.triggering_rule (severity, c.nodes.looked_at)) (sym c.default_severity.ensures) (Carries-end nodes c.args.node c.args.triggering_rule c.nodes.looked_at carries)
