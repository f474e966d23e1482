-- The blocks of a function whose accesses are clamped: whatever they use has been evaluated, if it had been before.
use Rattle.std.proofs.Common.{◌≡◌, ◌∙◌, ◌+◌, ◌-◌, ◌<◌, ◌≤◌, ap, arith, length, refl, subst, sym, inl, inr, ℕ, zero, suc, Bool, true, false, List, [], ◌∷◌, ◌++◌, map, Option, Some, None, option_to_list}
use Rattle.std.proofs.lemmas.Bool.Decides.{nat_tests}
use Rattle.std.proofs.lemmas.List.{append_assoc, map-append}
use Rattle.std.proofs.lemmas.List.Elements.{All-cons, All-contains, All-contains_itself, All-head, All-nil, All-tail, All-weaker, Contains-append_cases, Contains-append_right}
use Rattle.std.specs.List.{Contains, range_with_len}
use Rattle.std.specs.Prelude.{⊤, All, if◌then◌else◌, nat_lt, option_map}
use Rattle.naga_arena.specs.Arena.{value_at}
use Rattle.naga_arena.specs.Range.{handles_of}
use Rattle.naga_ir.specs.Tree.{Tree, empty, push, Node, plain, nested, branch, switch, loop, jump, Jump, Cases, no_cases, case, break, continue, kill, return}
use Rattle.naga_ir.specs.declared.expression.Expression.{Expression}
use Rattle.naga_ir.specs.declared.statement.Statement as statement
use Rattle.naga_valid.specs.Reference.{operands, present}
use Rattle.naga_valid.specs.Statements.{references_of_cases, references_of_node, references_of_statement, references_of_tree}
use Rattle.naga_valid.specs.declared.reference.Reference.{Reference}
use Rattle.naga_valid.specs.declared.reference.Reference.TheVariants as reference
use Rattle.naga_flow.specs.Results.{evaluation_of, emitted_by, evaluated_by, evaluation_by, result_of, used_by}
use Rattle.naga_flow.specs.Tracking.{Includes}
use Rattle.naga_flow.specs.Uses.{AreEvaluatedBy, CasesUseKnown, Expressions, IsKnown, JumpUsesKnown, MayUse, MayUseEach, NodeUsesKnown, OperandsAreKnown, PlainUsesKnown, UsesKnown, after_body, certain, may_be_skipped, values_of, values_of_node, where_reached}
use Rattle.naga_flow.specs.Ways.{may_go_on, ways_of, ways_of_node}
use Rattle.naga_flow.specs.declared.evaluation.Evaluation.{Evaluation}
use Rattle.naga_flow.specs.declared.evaluation.Evaluation.TheVariants as way
use Rattle.naga_flow.proofs.IncludesLemmas.{Contains-one, Includes-itself, Includes-joined}
use Rattle.naga_compact.specs.Mapping.{map_jump}
use Rattle.naga_compact.specs.Operands.{OperandsPrecede}
use Rattle.naga_compact.specs.Renaming.{Renaming, rename_range}
use Rattle.naga_compact.specs.Renaming.Blocks.{rename_cases, rename_node, rename_tree}
use Rattle.naga_compact.specs.derived.Renaming.{rename_statement}
use Rattle.naga_meaning.proofs.Uses.RenamesLemmas.{map_tree-certain, map_tree-ways, result_of-renamed}
use Rattle.naga_meaning.specs.Renaming.{Each}
use Rattle.naga_bounds.specs.Changes.{AreChanges}
use Rattle.naga_bounds.specs.Model.{nothing_known, number, remembering, unsigned_number}
use Rattle.naga_bounds.specs.Reach.{Typed, contents_at}
use Rattle.naga_bounds.specs.Restricted.{moving, new_of, start_of}
use Rattle.naga_bounds.specs.declared.change.Change.{Change}
use Rattle.naga_bounds.proofs.ClampedValuesLemmas.{range-append}
use Rattle.naga_bounds.proofs.ComesFromLemmas.{Contains-range, evaluated-comes, range-bounds}
use Rattle.naga_bounds.proofs.InsertedUsesLemmas.{each-group, evaluation-kept, inserted-evaluation, known-join, moved-use, new, nothing-read, old, pushed, pushed-new, pushed-old}
use Rattle.naga_bounds.proofs.KeepsOutcomesLemmas.{references-left, references-right, used-inside, used-moved}
use Rattle.naga_bounds.proofs.ModelLemmas.{clamps, elements, respects, short}
use Rattle.naga_bounds.proofs.NewHandlesLemmas.{made, new-next, start-rises, value-within}

evaluation_by-renamed : (r : Renaming) → ((handle : ℕ) → r.functions handle ≡ handle) → (what : statement.Statement) → evaluation_by (rename_statement r what) ≡ evaluation_by what
evaluation_by-renamed r same (statement.Emit range) = refl
evaluation_by-renamed r same (statement.Call function arguments result) = ap way.Call (same function)
evaluation_by-renamed r same _ = refl

module _ (counts : ℕ → Bool) (code code' : Typed) (changes : List Change) (planned : AreChanges counts code changes)
    (precede : OperandsPrecede code.arena) (arena_is : code'.arena ≡ made changes code.arena planned.all) (types_are : code'.types ≡ code.types)
    (contents_are : (x : ℕ) → x < length code.arena → contents_at code' (new_of changes x) ≡ contents_at code x) where
  abbrev F : ℕ → ℕ
  F = new_of changes

  abbrev R : Renaming
  R = moving changes

  abbrev N : ℕ
  N = length code.arena

  abbrev start : ℕ → ℕ
  start = start_of changes

  abbrev group : ℕ → List ℕ
  group x = range_with_len (start x) (F x - start x) ++ F x ∷ []

  -- what is known in the old function is known at new handles in the new one
  abbrev Covers : (known known' : List ℕ) → Type 0
  Covers known known' = Includes known' (map F known)

  -- the expressions of the new function, for uses that control may or may not reach
  pub record Follows (old' new' : Expressions) : Type 0 where
    pub uses : (known known' : List ℕ) (y : ℕ) → y < N → Covers known known' → MayUse old' known y → MayUse new' known' (F y)
    pub groups : (x : ℕ) → x < N → (known known' : List ℕ) → Covers known known' → MayUseEach old' known (old'.operands x) → OperandsAreKnown new' known' (group x)
    pub evaluation : (x : ℕ) → x < N → new'.evaluation (F x) ≡ old'.evaluation x
    pub inserted : (x : ℕ) → x < N → (how : Evaluation) → old'.evaluation x ≡ Some how → (p : ℕ) → start x ≤ p → p < F x → new'.evaluation p ≡ Some how
    pub inside : (x : ℕ) (how : Evaluation) → old'.evaluation x ≡ Some how → x < N

  pub follows-reached : (t : Bool) (old' new' : Expressions) → Follows old' new' → Follows (where_reached t old') (where_reached t new')
  follows-reached true old' new' f = f
  follows-reached false old' new' f = record {
    uses = λ known known' y inside covers may. All-nil (IsKnown (where_reached false new') known');
    groups = λ x inside known known' covers may. nothing-read new' known' (group x);
    evaluation = f.evaluation;
    inserted = f.inserted;
    inside = f.inside;
  }

  -- ---- ranges

  covers-joined : (xs xs' known known' : List ℕ) → Includes xs' (map F xs) → Covers known known' → Covers (xs ++ known) (xs' ++ known')
  covers-joined xs xs' known known' h covers = subst (Includes (xs' ++ known')) (sym (map-append F xs known)) (Includes-joined (map F xs) xs' (map F known) known' h covers)

  covers-group : (x : ℕ) (known known' : List ℕ) → Covers known known' → Covers (x ∷ known) (pushed known' (group x))
  covers-group x known known' covers = record {
    each = λ y there. elim (Contains-append_cases (F x ∷ []) (map F known) y there) [
      | inl first ↦
          (let same : F x ≡ y = Contains-one (F x) y first in
          pushed-new known' (group x) y
          (Contains-append_right (range_with_len (start x) (F x - start x)) (F x ∷ []) y (subst (Contains (F x ∷ [])) same (0, omega arith, refl))))
      | inr later ↦ pushed-old known' (group x) y (covers.each y later)
    ];
  }

  group-range : (x : ℕ) → x < N → (rest : ℕ) → range_with_len (start x) ((F x - start x) + suc rest) ≡ group x ++ range_with_len (start (x + 1)) rest
  group-range x inside rest =
      let all = planned.all in
      let next = new-next changes x (omega (arith, inside, all)) in
      let rises = start-rises changes x (x + 1) (omega arith) (omega (arith, inside, all)) in
      let there : start x + (F x - start x) ≡ F x = omega (arith, next, rises) in
      range-append (start x) (F x - start x) (suc rest)
      ∙ ap (λ p. range_with_len (start x) (F x - start x) ++ p ∷ range_with_len (p + 1) rest) there
      ∙ ap (λ p. range_with_len (start x) (F x - start x) ++ F x ∷ range_with_len p rest) next
      ∙ sym (append_assoc (range_with_len (start x) (F x - start x)) (F x ∷ []) (range_with_len (start (x + 1)) rest))

  range-known : (old' new' : Expressions) → Follows old' new' → (k s : ℕ) (known known' : List ℕ) → s + k ≤ N → Covers known known' →
      OperandsAreKnown old' known (range_with_len s k) → OperandsAreKnown new' known' (range_with_len (start s) (start (s + k) - start s))
  range-known old' new' f zero s known known' within covers h =
      let none : start (s + 0) - start s ≡ 0 = (let same : s + 0 ≡ s = omega arith in let starts = ap start same in omega (arith, starts)) in
      subst (λ n. OperandsAreKnown new' known' (range_with_len (start s) n)) (sym none) tt
  range-known old' new' f (suc k) s known known' within covers h =
      let all = planned.all in
      let next = new-next changes s (omega (arith, within, all)) in
      let rises = start-rises changes s (s + 1) (omega arith) (omega (arith, within, all)) in
      let later = start-rises changes (s + 1) ((s + 1) + k) (omega arith) (omega (arith, within, all)) in
      let same : s + suc k ≡ (s + 1) + k = omega arith in
      let ends = ap start same in
      let rest : ℕ = start ((s + 1) + k) - start (s + 1) in
      let total : start (s + suc k) - start s ≡ (F s - start s) + suc rest = omega (arith, next, rises, later, ends) in
      subst (OperandsAreKnown new' known') (sym (ap (range_with_len (start s)) total ∙ group-range s (omega (arith, within)) rest))
      (known-join new' known' (group s) (range_with_len (start (s + 1)) rest) (f.groups s (omega (arith, within)) known known' covers h.0)
      (range-known old' new' f k (s + 1) (s ∷ known) (pushed known' (group s)) (omega (arith, within)) (covers-group s known known' covers) h.1))

  renamed-known : (old' new' : Expressions) → Follows old' new' → (first past : ℕ) (known known' : List ℕ) → first ≤ past → past ≤ N → Covers known known' →
      OperandsAreKnown old' known (handles_of (first, past)) → OperandsAreKnown new' known' (handles_of (rename_range start (first, past)))
  renamed-known old' new' f first past known known' before within covers h = go (nat_lt (start first) (start past)) refl
    where
      whole : first + (past - first) ≡ past
      whole = omega (arith, before)

      is : OperandsAreKnown new' known' (range_with_len (start first) (start past - start first))
      is = subst (λ p. OperandsAreKnown new' known' (range_with_len (start first) (start p - start first))) whole
          (range-known old' new' f (past - first) first known known' (let w = whole in omega (arith, w, within)) covers h)

      go : (t : Bool) → nat_lt (start first) (start past) ≡ t → OperandsAreKnown new' known' (handles_of (rename_range start (first, past)))
      go true test = subst (λ range. OperandsAreKnown new' known' (handles_of range)) (sym (ap (λ t. if t then (start first, start past) else (0, 0)) test)) is
      go false test = subst (λ range. OperandsAreKnown new' known' (handles_of range)) (sym (ap (λ t. if t then (start first, start past) else (0, 0)) test)) tt

  -- ---- statements

  module _ (Within : Reference → Type 0) (handle-within : (handle : ℕ) → Within (reference.Expression handle) → handle < N)
      (range-within : (first past : ℕ) → Within (reference.Expressions first past) → (first ≤ past) × (past ≤ N)) where
    handle-changes : (handle : ℕ) → Within (reference.Expression handle) → handle < length changes
    handle-changes handle h = let less = handle-within handle h in let all = planned.all in omega (arith, less, all)

    range-changes : (first past : ℕ) → Within (reference.Expressions first past) → (first ≤ past) × (past ≤ length changes)
    range-changes first past h = let pair = range-within first past h in let less = pair.1 in let all = planned.all in (pair.0, omega (arith, less, all))

    -- ---- what is evaluated

    range-covered : (first past : ℕ) → first ≤ past → past ≤ N → Includes (handles_of (rename_range start (first, past))) (map F (handles_of (first, past)))
    range-covered first past before within = record { each = λ y there. mapped (handles_of (first, past)) y there (λ x inside. one x inside) }
      where
        mapped : (xs : List ℕ) (y : ℕ) → Contains (map F xs) y → ((x : ℕ) → Contains xs x → Contains (handles_of (rename_range start (first, past))) (F x)) → Contains (handles_of (rename_range start (first, past))) y
        mapped [] y there h = absurd (omega (arith, there.1))
        mapped (x ∷ xs) y there h = elim (Contains-append_cases (F x ∷ []) (map F xs) y there) [
          | inl head ↦ subst (Contains (handles_of (rename_range start (first, past)))) (Contains-one (F x) y head) (h x (0, omega arith, refl))
          | inr tail ↦ mapped xs y tail (λ z inside. h z (Contains-append_right (x ∷ []) xs z inside))
        ]

        one : (x : ℕ) → Contains (handles_of (first, past)) x → Contains (handles_of (rename_range start (first, past))) (F x)
        one x inside =
            let bounds = range-bounds (past - first) first x inside in
            let low = bounds.0 in
            let high = bounds.1 in
            let all = planned.all in
            let next = new-next changes x (omega (arith, high, before, within, all)) in
            let own = start-rises changes x (x + 1) (omega arith) (omega (arith, high, before, within, all)) in
            let lower = start-rises changes first x low (omega (arith, high, before, within, all)) in
            let upper = start-rises changes (x + 1) past (omega (arith, high, before)) (omega (arith, within, all)) in
            let some : nat_lt (start first) (start past) ≡ true = (let less : start first < start past = omega (arith, next, own, lower, upper) in grind (arith, nat_tests)) in
            subst (λ range. Contains (handles_of range) (F x)) (sym (ap (λ t. if t then (start first, start past) else (0, 0)) some))
            (Contains-range (start past - start first) (start first) (F x) (omega (arith, next, own, lower)) (omega (arith, next, own, lower, upper)))

    result-covered : (result : Option ℕ) → Includes (option_to_list (option_map F result)) (map F (option_to_list result))
    result-covered None = Includes-itself
    result-covered (Some y) = Includes-itself

    evaluated-covered : (what : statement.Statement) → All Within (references_of_statement what) → Includes (evaluated_by (rename_statement R what)) (map F (evaluated_by what))
    evaluated-covered what h =
        subst (Includes (evaluated_by (rename_statement R what))) (sym (map-append F (emitted_by what) (option_to_list (result_of what))))
        (Includes-joined (map F (emitted_by what)) (emitted_by (rename_statement R what)) (map F (option_to_list (result_of what))) (option_to_list (result_of (rename_statement R what)))
        (emitted what h)
        (subst (λ result. Includes (option_to_list result) (map F (option_to_list (result_of what)))) (sym (result_of-renamed R what)) (result-covered (result_of what))))
      where
        emitted : (what : statement.Statement) → All Within (references_of_statement what) → Includes (emitted_by (rename_statement R what)) (map F (emitted_by what))
        emitted (statement.Emit range) h =
            let pair = range-within range.0 range.1 (All-head Within (reference.Expressions range.0 range.1) [] h) in
            range-covered range.0 range.1 pair.0 pair.1
        emitted _ h = Includes-itself

    values-covered : (block : Tree) → All Within (references_of_tree block) → Includes (values_of (rename_tree R block)) (map F (values_of block))
    values-covered empty h = Includes-itself
    values-covered (push front last span) h =
        subst (Includes (values_of (rename_tree R (push front last span)))) (sym (map-append F (values_of front) (values_of_node last)))
        (Includes-joined (map F (values_of front)) (values_of (rename_tree R front)) (map F (values_of_node last)) (values_of_node (rename_node R last))
        (values-covered front (references-left Within (references_of_tree front) (references_of_node last) h))
        (node last (references-right Within (references_of_tree front) (references_of_node last) h)))
      where
        node : (last : Node) → All Within (references_of_node last) → Includes (values_of_node (rename_node R last)) (map F (values_of_node last))
        node (plain what) h = evaluated-covered what h
        node (nested inner) h = Includes-itself
        node (branch condition accept reject) h = Includes-itself
        node (switch selector cases) h = Includes-itself
        node (loop body continuing break_if) h = Includes-itself
        node (jump to) h = Includes-itself

    certain-within : (block : Tree) → All Within (references_of_tree block) → All Within (references_of_tree (certain block))
    certain-within empty h = h
    certain-within (push front last span) h = go (may_be_skipped (ways_of front) (ways_of_node last)) (certain-within front (references-left Within (references_of_tree front) (references_of_node last) h))
      where
        go : (t : Bool) → All Within (references_of_tree (certain front)) → All Within (references_of_tree (if t then certain front else push front last span))
        go true before = before
        go false before = h

    certain-covered : (block : Tree) → All Within (references_of_tree block) → Includes (values_of (certain (rename_tree R block))) (map F (values_of (certain block)))
    certain-covered block h = subst (λ b. Includes (values_of b) (map F (values_of (certain block)))) (sym (map_tree-certain (rename_statement R) F block)) (values-covered (certain block) (certain-within block h))

    -- ---- a plain statement

    module _ (old' new' : Expressions) (f : Follows old' new') where
      each-use : (known known' : List ℕ) (ys : List ℕ) → ((y : ℕ) → Contains ys y → y < N) → Covers known known' → MayUseEach old' known ys → MayUseEach new' known' (map F ys)
      each-use known known' [] inside covers may = All-nil (MayUse new' known')
      each-use known known' (y ∷ ys) inside covers may =
          All-cons (MayUse new' known') (F y) (map F ys) (f.uses known known' y (inside y (0, omega arith, refl)) covers (All-head (MayUse old' known) y ys may))
          (each-use known known' ys (λ z there. inside z (Contains-append_right (y ∷ []) ys z there)) covers (All-tail (MayUse old' known) y ys may))

      each-below : (ys : List ℕ) → Each (λ y. nat_lt y N ≡ true) ys → (y : ℕ) → Contains ys y → y < N
      each-below ys h y there = let test : nat_lt y N ≡ true = All-contains (λ y. nat_lt y N ≡ true) ys y (all-of ys h) there in grind (arith, nat_tests)
        where
          all-of : (xs : List ℕ) → Each (λ y. nat_lt y N ≡ true) xs → All (λ y. nat_lt y N ≡ true) xs
          all-of [] h = All-nil (λ y. nat_lt y N ≡ true)
          all-of (x ∷ xs) h = All-cons (λ y. nat_lt y N ≡ true) x xs h.0 (all-of xs h.1)

      use-one : (known known' : List ℕ) (handle : ℕ) → All Within (operands (handle ∷ [])) → Covers known known' → MayUse old' known handle → MayUse new' known' (F handle)
      use-one known known' handle h covers may = f.uses known known' handle (handle-within handle (All-head Within (reference.Expression handle) [] h)) covers may

      use-any : (known known' : List ℕ) (value : Option ℕ) → All Within (present (value ∷ [])) → Covers known known' → MayUseEach old' known (option_to_list value) → MayUseEach new' known' (option_to_list (option_map F value))
      use-any known known' None h covers may = All-nil (MayUse new' known')
      use-any known known' (Some handle) h covers may =
          All-cons (MayUse new' known') (F handle) [] (use-one known known' handle h covers (All-head (MayUse old' known) handle [] may)) (All-nil (MayUse new' known'))

      operands-known : (what : statement.Statement) (known known' : List ℕ) → All Within (references_of_statement what) → Covers known known' → OperandsAreKnown old' known (emitted_by what) → OperandsAreKnown new' known' (emitted_by (rename_statement R what))
      operands-known (statement.Emit range) known known' h covers k =
          let pair = range-within range.0 range.1 (All-head Within (reference.Expressions range.0 range.1) [] h) in
          renamed-known old' new' f range.0 range.1 known known' pair.0 pair.1 covers k
      operands-known _ known known' h covers k = tt

      evaluated-as : (what : statement.Statement) → All Within (references_of_statement what) → (how : Evaluation) → AreEvaluatedBy old' how (evaluated_by what) → AreEvaluatedBy new' how (evaluated_by (rename_statement R what))
      evaluated-as what h how k =
          All-weaker (Contains (evaluated_by (rename_statement R what))) (λ p. new'.evaluation p ≡ Some how)
          (λ p there.
          let from = (evaluated-comes changes Within handle-changes range-changes what h).each p there in
          one from.0 (All-contains (λ x. old'.evaluation x ≡ Some how) (evaluated_by what) from.0 k from.1) p from.2.low from.2.high)
          (evaluated_by (rename_statement R what)) (All-contains_itself (evaluated_by (rename_statement R what)))
        where
          one : (x : ℕ) → old'.evaluation x ≡ Some how → (p : ℕ) → start x ≤ p → p ≤ F x → new'.evaluation p ≡ Some how
          one x is p low high = go (nat_lt p (F x)) refl
            where
              go : (t : Bool) → nat_lt p (F x) ≡ t → new'.evaluation p ≡ Some how
              go true test = f.inserted x (f.inside x how is) how is p low (grind (arith, nat_tests))
              go false test =
                  let past : F x ≤ p = grind (arith, nat_tests) in
                  let same : F x ≡ p = omega (arith, past, high) in
                  subst (λ q. new'.evaluation q ≡ Some how) same (f.evaluation x (f.inside x how is) ∙ is)

      plain-uses : (what : statement.Statement) (known known' : List ℕ) → All Within (references_of_statement what) → Covers known known' → PlainUsesKnown old' known what → PlainUsesKnown new' known' (rename_statement R what)
      plain-uses what known known' h covers k = record {
        used = subst (MayUseEach new' known')
            (sym (used-moved nothing_known remembering number unsigned_number counts code code' changes planned precede arena_is types_are contents_are (λ handle. ⊤) (λ base handle is. tt) respects clamps elements short Within handle-within range-within what h))
            (each-use known known' (used_by what)
            (each-below (used_by what) (used-inside nothing_known remembering number unsigned_number counts code code' changes planned precede arena_is types_are contents_are (λ handle. ⊤) (λ base handle is. tt) respects clamps elements short Within handle-within range-within what h))
            covers k.used);
        operands = operands-known what known known' h covers k.operands;
        evaluated = subst (λ how. AreEvaluatedBy new' how (evaluated_by (rename_statement R what))) (sym (evaluation_by-renamed R (λ handle. refl) what)) (evaluated-as what h (evaluation_by what) k.evaluated);
      }

      jump-uses : (to : Jump) (known known' : List ℕ) → All Within (references_of_node (jump to)) → Covers known known' → JumpUsesKnown old' known to → JumpUsesKnown new' known' (map_jump F to)
      jump-uses break known known' h covers k = tt
      jump-uses continue known known' h covers k = tt
      jump-uses kill known known' h covers k = tt
      jump-uses (return value) known known' h covers k = use-any known known' value h covers k

    -- ---- blocks

    mutual
      pub tree-uses : (old' new' : Expressions) → Follows old' new' → (block : Tree) (known known' : List ℕ) → All Within (references_of_tree block) → Covers known known' → UsesKnown old' known block → UsesKnown new' known' (rename_tree R block)
      tree-uses old' new' f empty known known' h covers k = tt
      tree-uses old' new' f (push front last span) known known' h covers k =
          let left = references-left Within (references_of_tree front) (references_of_node last) h in (
            tree-uses old' new' f front known known' left covers k.0,
            node-uses old' new' f last (values_of front ++ known) (values_of (rename_tree R front) ++ known') (references-right Within (references_of_tree front) (references_of_node last) h)
                (covers-joined (values_of front) (values_of (rename_tree R front)) known known' (values-covered front left) covers) k.1,
          )

      node-uses : (old' new' : Expressions) → Follows old' new' → (node : Node) (known known' : List ℕ) → All Within (references_of_node node) → Covers known known' → NodeUsesKnown old' known node → NodeUsesKnown new' known' (rename_node R node)
      node-uses old' new' f (plain what) known known' h covers k = plain-uses old' new' f what known known' h covers k
      node-uses old' new' f (nested inner) known known' h covers k = tree-uses old' new' f inner known known' h covers k
      node-uses old' new' f (branch condition accept reject) known known' h covers k =
          let own = references-right Within (operands (condition ∷ [])) (references_of_tree accept ++ references_of_tree reject) h in (
            use-one old' new' f known known' condition (references-left Within (operands (condition ∷ [])) (references_of_tree accept ++ references_of_tree reject) h) covers k.0,
            tree-uses old' new' f accept known known' (references-left Within (references_of_tree accept) (references_of_tree reject) own) covers k.1,
            tree-uses old' new' f reject known known' (references-right Within (references_of_tree accept) (references_of_tree reject) own) covers k.2,
          )
      node-uses old' new' f (switch selector cases) known known' h covers k = (
        use-one old' new' f known known' selector (references-left Within (operands (selector ∷ [])) (references_of_cases cases) h) covers k.0,
        cases-use old' new' f cases known known' (references-right Within (operands (selector ∷ [])) (references_of_cases cases) h) covers k.1,
      )
      node-uses old' new' f (loop body continuing break_if) known known' h covers k =
          let own = references-right Within (present (break_if ∷ [])) (references_of_tree body ++ references_of_tree continuing) h in
          let left = references-left Within (references_of_tree body) (references_of_tree continuing) own in
          let right = references-right Within (references_of_tree body) (references_of_tree continuing) own in
          let t = may_go_on (ways_of body) in
          let after = follows-reached t old' new' f in
          let there : after_body body new' ≡ after_body (rename_tree R body) new' = ap (λ ways. where_reached (may_go_on ways) new') (sym (map_tree-ways (rename_statement R) F body)) in
          let joined = covers-joined (values_of (certain body)) (values_of (certain (rename_tree R body))) known known' (certain-covered body left) covers in
          let joined_too = covers-joined (values_of (certain continuing)) (values_of (certain (rename_tree R continuing))) (values_of (certain body) ++ known) (values_of (certain (rename_tree R body)) ++ known') (certain-covered continuing right) joined in (
            tree-uses old' new' f body known known' left covers k.0,
            subst (λ ex. UsesKnown ex (values_of (certain (rename_tree R body)) ++ known') (rename_tree R continuing)) there
                (tree-uses (after_body body old') (after_body body new') after continuing (values_of (certain body) ++ known) (values_of (certain (rename_tree R body)) ++ known') right joined k.1),
            subst (λ ex. MayUseEach ex (values_of (certain (rename_tree R continuing)) ++ (values_of (certain (rename_tree R body)) ++ known')) (option_to_list (option_map F break_if))) there
                (use-any (after_body body old') (after_body body new') after (values_of (certain continuing) ++ (values_of (certain body) ++ known)) (values_of (certain (rename_tree R continuing)) ++ (values_of (certain (rename_tree R body)) ++ known')) break_if
                (references-left Within (present (break_if ∷ [])) (references_of_tree body ++ references_of_tree continuing) h) joined_too k.2),
          )
      node-uses old' new' f (jump to) known known' h covers k = jump-uses old' new' f to known known' h covers k

      cases-use : (old' new' : Expressions) → Follows old' new' → (cases : Cases) (known known' : List ℕ) → All Within (references_of_cases cases) → Covers known known' → CasesUseKnown old' known cases → CasesUseKnown new' known' (rename_cases R cases)
      cases-use old' new' f no_cases known known' h covers k = tt
      cases-use old' new' f (case value body falls_through others) known known' h covers k = (
        tree-uses old' new' f body known known' (references-left Within (references_of_tree body) (references_of_cases others) h) covers k.0,
        cases-use old' new' f others known known' (references-right Within (references_of_tree body) (references_of_cases others) h) covers k.1,
      )

  -- the new function follows the old one
  pub follows : Follows (old counts code code' changes planned precede arena_is types_are contents_are) (new counts code code' changes planned precede arena_is types_are contents_are)
  follows = record {
    uses = λ known known' y inside covers may. moved-use counts code code' changes planned precede arena_is types_are contents_are known known' y inside covers may;
    groups = λ x inside known known' covers may. each-group counts code code' changes planned precede arena_is types_are contents_are x inside known known' covers may;
    evaluation = λ x inside. evaluation-kept counts code code' changes planned precede arena_is types_are contents_are x inside;
    inserted = λ x inside how is p low high. inserted-evaluation counts code code' changes planned precede arena_is types_are contents_are x inside how is p low high;
    inside = λ x how is. found-inside x how is;
  }
    where
      found-inside : (x : ℕ) (how : Evaluation) → option_map evaluation_of (value_at code.arena x) ≡ Some how → x < N
      found-inside x how is = go (value_at code.arena x) refl is
        where
          go : (found : Option Expression) → value_at code.arena x ≡ found → option_map evaluation_of found ≡ Some how → x < N
          go None there is = absurd (cc)
          go (Some e) there is = value-within code.arena x e there
