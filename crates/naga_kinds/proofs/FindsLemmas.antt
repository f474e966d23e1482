-- The result of a search, node by node.
use Rattle.std.proofs.Common.{◌≡◌, ℕ, zero, suc, ◌+◌, ◌<◌, ◌≤◌, true, false, List, [], ◌∷◌, ◌++◌, length, map, slice_get, Option, Some, None, refl, sym, ap, subst, ◌∙◌, arith}
use Rattle.std.specs.Prelude.{IfSome, ◌↔◌, option_and_then}
use Rattle.std.specs.List.{enumerate_from}
use Rattle.std.specs.Option.{option_map_or}
use Rattle.naga_arena.specs.Arena.{value_at, values}
use Rattle.naga_arena.specs.declared.span.Span.{Span}
use Rattle.naga_kinds.specs.Filter.{default_of}
use Rattle.naga_kinds.specs.Path.{Path, ends, passes}
use Rattle.naga_kinds.specs.Search.{parent_of, ParentsPrecede, filters_of, is_rule, severity_by, looked_at, Finds}
use Rattle.naga_kinds.specs.declared.diagnostic_filter.DiagnosticFilter.{DiagnosticFilter}
use Rattle.naga_kinds.specs.declared.diagnostic_filter.DiagnosticFilterNode.{DiagnosticFilterNode}
use Rattle.naga_kinds.specs.declared.diagnostic_filter.Severity.{Severity}
use Rattle.naga_kinds.specs.declared.diagnostic_filter.StandardFilterableTriggeringRule.{StandardFilterableTriggeringRule}
use Rattle.naga_arena.proofs.ValueAtLemmas.{slice_get-map-push}
use Rattle.naga_kinds.proofs.PathLemmas.{Descends-below, filter_map-agreeing, Path-agreeing, Path-from, Path-unique}

-- ---- the first filter of a list, and the later ones

module _ (filter : DiagnosticFilter) (filters : List DiagnosticFilter) (rule : StandardFilterableTriggeringRule) where
  severity-first : is_rule rule filter.triggering_rule ≡ true → severity_by (filter ∷ filters) rule ≡ filter.new_severity
  severity-first here = rw here refl

  looked_at-first : is_rule rule filter.triggering_rule ≡ true → looked_at (filter ∷ filters) rule ≡ 1
  looked_at-first here = rw here (omega arith)

  severity-later : is_rule rule filter.triggering_rule ≡ false → severity_by (filter ∷ filters) rule ≡ severity_by filters rule
  severity-later here = rw here refl

  looked_at-later : is_rule rule filter.triggering_rule ≡ false → looked_at (filter ∷ filters) rule ≡ looked_at filters rule + 1
  looked_at-later here = rw here (omega arith)

-- ---- a search from a node, and from its parent

module _ (nodes : List (DiagnosticFilterNode × Span)) (rule : StandardFilterableTriggeringRule) (here : ℕ) (node : DiagnosticFilterNode) (at : value_at nodes here ≡ Some node) where
  filters-first : (later : List ℕ) → filters_of nodes (here ∷ later) ≡ node.inner ∷ filters_of nodes later
  filters-first later = rw at refl

  Finds-first : ParentsPrecede nodes → is_rule rule node.inner.triggering_rule ≡ true → Finds nodes (Some here) rule (node.inner.new_severity, 1)
  Finds-first precede is =
      let later = Path-from precede (parent_of nodes here) in
      let others = filters_of nodes later.0 in
      (here ∷ later.0, passes later.1, rw (filters-first later.0, severity-first node.inner others rule is, looked_at-first node.inner others rule is) refl)

  Finds-later : is_rule rule node.inner.triggering_rule ≡ false → (found : Severity × ℕ) → Finds nodes node.parent rule found → Finds nodes (Some here) rule (found.0, found.1 + 1)
  Finds-later isnt found finds =
      let others = filters_of nodes finds.0 in
      let parent : node.parent ≡ parent_of nodes here = rw at refl in
      let along = subst (λ start. Path (parent_of nodes) start finds.0) parent finds.1 in
      let told : found ≡ (severity_by others rule, looked_at others rule) = finds.2 in
      (here ∷ finds.0, passes along, rw (filters-first finds.0, severity-later node.inner others rule isnt, looked_at-later node.inner others rule isnt, told) refl)

module _ (nodes : List (DiagnosticFilterNode × Span)) (precede : ParentsPrecede nodes) (here : ℕ) (node : DiagnosticFilterNode) (at : value_at nodes here ≡ Some node) where
  parent-below : (parent : Option ℕ) → parent_of nodes here ≡ parent → IfSome parent (λ p. p < here)
  parent-below None is = tt
  parent-below (Some p) is = precede here p is

  below-in : (bound : ℕ) (parent : Option ℕ) → here < bound → IfSome parent (λ p. p < here) → IfSome parent (λ p. p < bound)
  below-in bound None within below = tt
  below-in bound (Some p) within below = omega arith

  fewer_left : (parent : Option ℕ) → IfSome parent (λ p. p < here) → option_map_or (λ p. p + 1) parent 0 ≤ here
  fewer_left None below = omega arith
  fewer_left (Some p) below = omega arith

  own_parent : parent_of nodes here ≡ node.parent
  own_parent = rw at refl

  -- the parent is below each bound that the node is below, and fewer nodes remain from the parent on
  pub parent_within : (bound : ℕ) → here < bound → IfSome node.parent (λ p. p < bound)
  parent_within bound within = below-in bound node.parent within (parent-below node.parent own_parent)

  pub parent_has_fewer : option_map_or (λ p. p + 1) node.parent 0 ≤ here
  parent_has_fewer = fewer_left node.parent (parent-below node.parent own_parent)

-- ---- a search that has reached a node: its severity is that of a search from there, and the counts add up

abbrev pub Carries : List (DiagnosticFilterNode × Span) → Option ℕ → StandardFilterableTriggeringRule → Option ℕ → ℕ → Type 0
Carries nodes leaf rule next looked = (found : Severity × ℕ) → Finds nodes next rule found → Finds nodes leaf rule (found.0, looked + found.1)

module _ (nodes : List (DiagnosticFilterNode × Span)) (leaf : Option ℕ) (rule : StandardFilterableTriggeringRule) (looked : ℕ) where
  module _ (here : ℕ) (node : DiagnosticFilterNode) (at : value_at nodes here ≡ Some node) (carries : Carries nodes leaf rule (Some here) looked) where
    pub Carries-found : ParentsPrecede nodes → is_rule rule node.inner.triggering_rule ≡ true → Finds nodes leaf rule (node.inner.new_severity, looked + 1)
    Carries-found precede is =
        carries (node.inner.new_severity, 1) (Finds-first nodes rule here node at precede is)

    pub Carries-on : is_rule rule node.inner.triggering_rule ≡ false → Carries nodes leaf rule node.parent (looked + 1)
    Carries-on isnt found finds =
        let count : looked + (found.1 + 1) ≡ looked + 1 + found.1 = omega arith in
        subst (λ n. Finds nodes leaf rule (found.0, n)) count (carries (found.0, found.1 + 1) (Finds-later nodes rule here node at isnt found finds))

  pub Carries-end : Carries nodes leaf rule None looked → Finds nodes leaf rule (default_of rule, looked)
  Carries-end carries =
      let count : looked + 0 ≡ looked = omega arith in
      subst (λ n. Finds nodes leaf rule (default_of rule, n)) count (carries (default_of rule, 0) ([], ends, refl))

-- ---- appending a node

module _ (nodes : List (DiagnosticFilterNode × Span)) (added : DiagnosticFilterNode × Span) where
  pub added-Finds : (leaf : Option ℕ) (rule : StandardFilterableTriggeringRule) (found : Severity × ℕ) → ParentsPrecede nodes → IfSome leaf (λ handle. handle < length nodes) → Finds nodes leaf rule found ↔ Finds (nodes ++ added ∷ []) leaf rule found
  added-Finds leaf rule found precede within =
      let longer = nodes ++ added ∷ [] in
      let closed = Descends-below precede (length nodes) in
      let parents = λ (here : ℕ) (below : here < length nodes). ap (option_and_then (λ (node : DiagnosticFilterNode). node.parent)) (sym (slice_get-map-push (λ entry. entry.0) nodes added here below)) in
      let there = λ (path : List ℕ) (along : Path (parent_of nodes) leaf path). Path-agreeing (length nodes) closed parents within along in
      let items = λ (path : List ℕ) (along : Path (parent_of nodes) leaf path). ap (map (λ (node : DiagnosticFilterNode). node.inner)) (filter_map-agreeing (length nodes) closed (value_at nodes) (value_at longer) (λ here below. sym (slice_get-map-push (λ entry. entry.0) nodes added here below)) within along) in
      let told : List DiagnosticFilter → Severity × ℕ = λ filters. (severity_by filters rule, looked_at filters rule) in (
        λ finds. (finds.0, there finds.0 finds.1, finds.2 ∙ ap told (items finds.0 finds.1)),
        λ finds.
            let path = Path-from precede leaf in
            let one : finds.0 ≡ path.0 = Path-unique finds.1 (there path.0 path.1) in
            (path.0, path.1, finds.2 ∙ ap (λ p. told (filters_of longer p)) one ∙ sym (ap told (items path.0 path.1))),
      )

-- ---- testing node by node that parents precede

abbrev pub PrecedeEach : List (ℕ × DiagnosticFilterNode) → Type 0
PrecedeEach [] = Unit {0}
PrecedeEach (entry ∷ entries) = IfSome entry.1.parent (λ parent. parent < entry.0) × PrecedeEach entries

abbrev PrecedeFrom : ℕ → List DiagnosticFilterNode → Type 0
PrecedeFrom start nodes = (here later : ℕ) → option_and_then (λ node. node.parent) (slice_get nodes here) ≡ Some later → later < start + here

each_precede : (start : ℕ) (nodes : List DiagnosticFilterNode) → PrecedeEach (enumerate_from start nodes) ↔ PrecedeFrom start nodes
each_precede start [] = (λ _ here later none. cc, λ _. tt)
each_precede start (node ∷ nodes) =
    let rest = each_precede (start + 1) nodes in
    (λ each. all node.parent refl each.0 (rest.0 each.1), λ from. (own node.parent refl from, rest.1 (λ here later at. omega (arith, from (suc here) later at))))
  where
    all : (parent : Option ℕ) → node.parent ≡ parent → IfSome parent (λ p. p < start) → PrecedeFrom (start + 1) nodes → PrecedeFrom start (node ∷ nodes)
    all None is below from zero later at = absurd cc
    all (Some p) is below from zero later at = let same : p ≡ later = cc in omega arith
    all parent is below from (suc here) later at = omega (arith, from here later at)

    own : (parent : Option ℕ) → node.parent ≡ parent → PrecedeFrom start (node ∷ nodes) → IfSome parent (λ p. p < start)
    own None is from = tt
    own (Some p) is from = omega (arith, from zero p is)

pub parents_precede : (nodes : List (DiagnosticFilterNode × Span)) → PrecedeEach (enumerate_from 0 (values nodes)) ↔ ParentsPrecede nodes
parents_precede nodes =
    let each = each_precede 0 (values nodes) in
    (λ h here later at. omega (arith, each.0 h here later at), λ h. each.1 (λ here later at. omega (arith, h here later at)))
