-- What passes keep of the values that are evaluated before they are used.
use Rattle.std.proofs.Common.{◌≡◌, ◌∙◌, refl, sym, ap, subst, ℕ, Bool, true, false, not, ◌||◌, List, ◌∷◌, ◌++◌, option_to_list, arith}
use Rattle.std.specs.Prelude.{if◌then◌else◌}
use Rattle.naga_arena.specs.declared.span.Span.{Span}
use Rattle.naga_ir.specs.Tree.{Tree, empty, push, Node, plain, nested, branch, switch, loop, jump, Cases, no_cases, case}
use Rattle.naga_runs.specs.Diverges.{diverges}
use Rattle.naga_runs.specs.Exits.{has_default, last_falls}
use Rattle.naga_runs.specs.Runs.{values}
use Rattle.naga_flow.specs.Uses.{Expressions, MayUseEach, UsesKnown, NodeUsesKnown, CasesUseKnown, after_body, values_of, values_of_node, certain, may_be_skipped, where_reached}
use Rattle.naga_flow.specs.Ways.{may_go_on, only_off, either, followed, out_of_case, ways_of, ways_of_node, ways_of_cases}
use Rattle.naga_flow.specs.declared.ways.Ways.{Ways}
use Rattle.naga_flow.proofs.DivergesWaysLemmas.{diverges-ways}
use Rattle.naga_compact.specs.Culling.{culled, culled_node, culled_cases}
use Rattle.naga_compact.proofs.CulledLemmas.{push_reached-cases}
use Rattle.naga_proc.specs.Closing.{closed, closed_inside, closed_cases, returned_if, follows}
use Rattle.naga_proc.specs.declared.terminator.rule.Rule.{Rule}

-- ---- ways: statements that are never reached make no difference

followed-never : (a b : Ways) → a.falls_off ≡ false → followed a b ≡ a
followed-never a b h = ap (λ t. if t then record (either a b) { falls_off = b.falls_off } else a) h

culled_cases-values : (cases : Cases) → values (culled_cases cases) ≡ values cases
culled_cases-values no_cases = refl
culled_cases-values (case value body falls_through others) = ap (λ vs. value ∷ vs) (culled_cases-values others)

culled_cases-last_falls : (cases : Cases) → last_falls (culled_cases cases) ≡ last_falls cases
culled_cases-last_falls no_cases = refl
culled_cases-last_falls (case value body falls_through no_cases) = refl
culled_cases-last_falls (case value body falls_through (case value' body' falls_through' others)) = culled_cases-last_falls (case value' body' falls_through' others)

mutual
  pub culled-ways : (block : Tree) → ways_of (culled block) ≡ ways_of block
  culled-ways empty = refl
  culled-ways (push front last span) =
      let before : ways_of (culled front) ≡ ways_of front = culled-ways front in
      let inside : ways_of_node (culled_node last) ≡ ways_of_node last = culled_node-ways last in
      push_reached-cases (λ b. ways_of b ≡ followed (ways_of front) (ways_of_node last)) (culled front) (culled_node last) span
      (λ q. before ∙ sym (followed-never (ways_of front) (ways_of_node last) (ap (λ (w : Ways). w.falls_off) (sym before) ∙ diverges-ways (culled front) q)))
      (λ q i. followed (before i) (inside i))

  culled_node-ways : (node : Node) → ways_of_node (culled_node node) ≡ ways_of_node node
  culled_node-ways (plain what) = refl
  culled_node-ways (nested inner) = culled-ways inner
  culled_node-ways (branch condition accept reject) = λ i. either (culled-ways accept i) (culled-ways reject i)
  culled_node-ways (switch selector cases) =
      λ i. either (only_off (not (has_default (culled_cases-values cases i)) || culled_cases-last_falls cases i)) (culled_cases-ways cases i)
  culled_node-ways (loop body continuing break_if) = refl
  culled_node-ways (jump to) = refl

  culled_cases-ways : (cases : Cases) → ways_of_cases (culled_cases cases) ≡ ways_of_cases cases
  culled_cases-ways no_cases = refl
  culled_cases-ways (case value body falls_through others) = λ i. either (out_of_case falls_through (culled-ways body i)) (culled_cases-ways others i)

-- ---- values

pub culled_node-values : (node : Node) → values_of_node (culled_node node) ≡ values_of_node node
culled_node-values (plain what) = refl
culled_node-values (nested inner) = refl
culled_node-values (branch condition accept reject) = refl
culled_node-values (switch selector cases) = refl
culled_node-values (loop body continuing break_if) = refl
culled_node-values (jump to) = refl

-- a block that is not cut off evaluates the same
pub culled-values : (block : Tree) → diverges (culled block) ≡ false → values_of (culled block) ≡ values_of block
culled-values empty = λ h. refl
culled-values (push front last span) =
    let before : diverges (culled front) ≡ false → values_of (culled front) ≡ values_of front = culled-values front in
    push_reached-cases (λ b. diverges b ≡ false → values_of b ≡ (values_of front ++ values_of_node last)) (culled front) (culled_node last) span
    (λ q h. absurd (let e : true ≡ false = sym q ∙ h in cc))
    (λ q h i. before q i ++ culled_node-values last i)

certain-when : (t : Bool) (front : Tree) (last : Node) (span : Span) → may_be_skipped (ways_of front) (ways_of_node last) ≡ t → certain (push front last span) ≡ (if t then certain front else push front last span)
certain-when t front last span h = ap (λ t. if t then certain front else push front last span) h

skipped-never : (a b : Ways) → a.falls_off ≡ false → may_be_skipped a b ≡ true
skipped-never a b h = ap (λ t. not t || (a.continues || b.continues)) h

certain-step : (t : Bool) (front : Tree) (last : Node) (span : Span) → diverges (culled front) ≡ false → may_be_skipped (ways_of front) (ways_of_node last) ≡ t →
    values_of (certain (culled front)) ≡ values_of (certain front) →
    values_of (certain (push (culled front) (culled_node last) span)) ≡ values_of (certain (push front last span))
certain-step t front last span q h same =
    let h' : may_be_skipped (ways_of (culled front)) (ways_of_node (culled_node last)) ≡ t = (λ i. may_be_skipped (culled-ways front i) (culled_node-ways last i)) ∙ h in
    ap values_of (certain-when t (culled front) (culled_node last) span h') ∙ (go t ∙ sym (ap values_of (certain-when t front last span h)))
  where
    go : (t : Bool) → values_of (if t then certain (culled front) else push (culled front) (culled_node last) span) ≡ values_of (if t then certain front else push front last span)
    go true = same
    go false = λ i. culled-values front q i ++ culled_node-values last i

-- what a block evaluates for certain, the culled block does, too
pub culled-certain : (block : Tree) → values_of (certain (culled block)) ≡ values_of (certain block)
culled-certain empty = refl
culled-certain (push front last span) =
    let before : values_of (certain (culled front)) ≡ values_of (certain front) = culled-certain front in
    push_reached-cases (λ b. values_of (certain b) ≡ values_of (certain (push front last span))) (culled front) (culled_node last) span
    (λ q.
    let off : (ways_of front).falls_off ≡ false = ap (λ (w : Ways). w.falls_off) (sym (culled-ways front)) ∙ diverges-ways (culled front) q in
    before ∙ sym (ap values_of (certain-when true front last span (skipped-never (ways_of front) (ways_of_node last) off))))
    (λ q. certain-step (may_be_skipped (ways_of front) (ways_of_node last)) front last span q refl before)

mutual
  pub culled-uses : (expressions : Expressions) (known : List ℕ) (block : Tree) → UsesKnown expressions known block → UsesKnown expressions known (culled block)
  culled-uses ex known empty h = h
  culled-uses ex known (push front last span) h =
      let before : UsesKnown ex known (culled front) = culled-uses ex known front h.0 in
      let inside : NodeUsesKnown ex (values_of front ++ known) (culled_node last) = culled_node-uses ex (values_of front ++ known) last h.1 in
      push_reached-cases (UsesKnown ex known) (culled front) (culled_node last) span (λ q. before)
      (λ q. (before, subst (λ xs. NodeUsesKnown ex (xs ++ known) (culled_node last)) (sym (culled-values front q)) inside))

  culled_node-uses : (expressions : Expressions) (known : List ℕ) (node : Node) → NodeUsesKnown expressions known node → NodeUsesKnown expressions known (culled_node node)
  culled_node-uses ex known (plain what) h = h
  culled_node-uses ex known (nested inner) h = culled-uses ex known inner h
  culled_node-uses ex known (branch condition accept reject) h = (h.0, culled-uses ex known accept h.1, culled-uses ex known reject h.2)
  culled_node-uses ex known (switch selector cases) h = (h.0, culled_cases-use ex known cases h.1)
  culled_node-uses ex known (loop body continuing break_if) h =
      let continued : UsesKnown (after_body body ex) (values_of (certain body) ++ known) (culled continuing) = culled-uses (after_body body ex) (values_of (certain body) ++ known) continuing h.1 in (
        culled-uses ex known body h.0,
        subst (λ ways. UsesKnown (where_reached (may_go_on ways) ex) (values_of (certain (culled body)) ++ known) (culled continuing)) (sym (culled-ways body))
            (subst (λ xs. UsesKnown (after_body body ex) (xs ++ known) (culled continuing)) (sym (culled-certain body)) continued),
        subst (λ ways. MayUseEach (where_reached (may_go_on ways) ex) (values_of (certain (culled continuing)) ++ (values_of (certain (culled body)) ++ known)) (option_to_list break_if)) (sym (culled-ways body))
            (subst (λ ys. MayUseEach (after_body body ex) (ys ++ (values_of (certain (culled body)) ++ known)) (option_to_list break_if)) (sym (culled-certain continuing))
            (subst (λ xs. MayUseEach (after_body body ex) (values_of (certain continuing) ++ (xs ++ known)) (option_to_list break_if)) (sym (culled-certain body)) h.2)),
      )
  culled_node-uses ex known (jump to) h = h

  culled_cases-use : (expressions : Expressions) (known : List ℕ) (cases : Cases) → CasesUseKnown expressions known cases → CasesUseKnown expressions known (culled_cases cases)
  culled_cases-use ex known no_cases h = h
  culled_cases-use ex known (case value body falls_through others) h = (culled-uses ex known body h.0, culled_cases-use ex known others h.1)

-- ---- closing

module _ (expressions : Expressions) where
  returned_if-uses : (known : List ℕ) (gets : Bool) (block : Tree) → UsesKnown expressions known block → UsesKnown expressions known (returned_if gets block)
  returned_if-uses known true block h = (h, λ k d within. absurd (omega (arith, within)))
  returned_if-uses known false block h = h

  mutual
    pub closed-uses : (rule : Rule) (known : List ℕ) (block : Tree) → UsesKnown expressions known block → UsesKnown expressions known (closed rule block)
    closed-uses rule known empty h = (tt, λ k d within. absurd (omega (arith, within)))
    closed-uses rule known (push front last span) h =
        returned_if-uses known (follows rule last) (push front (closed_inside rule last) span) (h.0, closed_inside-uses rule (values_of front ++ known) last h.1)

    closed_inside-uses : (rule : Rule) (known : List ℕ) (node : Node) → NodeUsesKnown expressions known node → NodeUsesKnown expressions known (closed_inside rule node)
    closed_inside-uses rule known (plain what) h = h
    closed_inside-uses rule known (nested inner) h = closed-uses rule known inner h
    closed_inside-uses rule known (branch condition accept reject) h = (h.0, closed-uses rule known accept h.1, closed-uses rule known reject h.2)
    closed_inside-uses rule known (switch selector cases) h = (h.0, closed_cases-use rule known cases h.1)
    closed_inside-uses rule known (loop body continuing break_if) h = h
    closed_inside-uses rule known (jump to) h = h

    closed_cases-use : (rule : Rule) (known : List ℕ) (cases : Cases) → CasesUseKnown expressions known cases → CasesUseKnown expressions known (closed_cases rule cases)
    closed_cases-use rule known no_cases h = h
    closed_cases-use rule known (case value body true others) h = (h.0, closed_cases-use rule known others h.1)
    closed_cases-use rule known (case value body false others) h = (closed-uses rule known body h.0, closed_cases-use rule known others h.1)
