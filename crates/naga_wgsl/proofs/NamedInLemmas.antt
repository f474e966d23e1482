-- The operands of inline expressions may be used wherever these are known, and what a text names is known.
use Rattle.std.proofs.Common.{◌≡◌, ◌∙◌, sym, subst, refl, inl, inr, ℕ, zero, suc, ◌<◌, Bool, true, false, List, [], ◌∷◌, ◌++◌, map, Some, option_to_list, arith}
use Rattle.std.proofs.lemmas.Bool.{cases_Bool}
use Rattle.std.proofs.lemmas.List.Elements.{All-append, All-contains, All-cons, All-nil, Contains-append_cases, Contains-append_right}
use Rattle.std.specs.List.{Contains, concat}
use Rattle.std.specs.Prelude.{All, ◌||◌, if◌then◌else◌}
use Rattle.naga_ir.specs.Tree.{Tree, empty, push, Node, plain, nested, branch, switch, loop, jump, break, continue, kill, return, Cases, no_cases, case}
use Rattle.naga_ir.specs.declared.statement.Statement.{Statement}
use Rattle.naga_flow.specs.Results.{emitted_by, evaluated_by, evaluation_by, result_of, used_by}
use Rattle.naga_flow.specs.Tracking.{AreSame}
use Rattle.naga_flow.specs.Uses.{AreEvaluatedBy, where_reached, Expressions, IsKnown, AreKnown, MayUse, MayUseEach, OperandsAreKnown, PlainUsesKnown, UsesKnown, NodeUsesKnown, CasesUseKnown, certain, may_be_skipped, values_of, values_of_node}
use Rattle.naga_flow.specs.Ways.{may_go_on, ways_of, ways_of_node}
use Rattle.naga_flow.specs.declared.evaluation.Evaluation.TheVariants as by_way
use Rattle.naga_flow.proofs.IncludesLemmas.{AreSame-shifted, AreSame-turned, Contains-one, Includes-itself, Includes-right}
use Rattle.naga_flow.proofs.UsesKnownLemmas.{MayUseEach-more}
use Rattle.naga_wgsl.specs.Inlining.{named_within, with_inline}
use Rattle.naga_meaning.specs.Renaming.{Each}
use Rattle.naga_meaning.specs.Values.{Code}
use Rattle.naga_meaning.proofs.EachLemmas.{all-of_each, each-both, each-of_all, each-weaker}
use Rattle.naga_meaning.proofs.RedirectsLemmas.{no_emitted_result, result-listed}
use Rattle.naga_meaning.proofs.ReadsOperandsLemmas.{ReadsOperands}

module _ (ex : Expressions) (inline : ℕ → Bool) (emits : (x : ℕ) → inline x ≡ true → ex.evaluation x ≡ Some by_way.Emit) where
  -- the operands of each known inline expression may be used
  abbrev pub Closed : List ℕ → Type 0
  Closed known = (x : ℕ) → Contains known x → inline x ≡ true → MayUseEach ex known (ex.operands x)

  pub closed-same : {xs ys : List ℕ} → AreSame xs ys → Closed ys → Closed xs
  closed-same same closed x c e = MayUseEach-more ex same.there (ex.operands x) (closed x (same.back.each x c) e)

  pub closed-added : (known : List ℕ) (x : ℕ) → Closed known → MayUseEach ex known (ex.operands x) → Closed (x ∷ known)
  closed-added known x closed so y c e = elim (Contains-append_cases (x ∷ []) known y c) [
    | inl here ↦
        subst (λ z. MayUseEach ex (x ∷ known) (ex.operands z)) (Contains-one x y here) (MayUseEach-more ex (Includes-right (x ∷ []) known Includes-itself) (ex.operands x) so)
    | inr there ↦ MayUseEach-more ex (Includes-right (x ∷ []) known Includes-itself) (ex.operands y) (closed y there e)
  ]

  pub closed-emitted : (xs known : List ℕ) → Closed known → OperandsAreKnown ex known xs → Closed (xs ++ known)
  closed-emitted [] known closed so = closed
  closed-emitted (x ∷ xs) known closed so = closed-same (AreSame-turned (AreSame-shifted (x ∷ []) xs known)) (closed-emitted xs (x ∷ known) (closed-added known x closed so.0) so.1)

  -- the result of a statement is not inline, since it is not evaluated by an `Emit`
  pub not_inline : (what : Statement) (x : ℕ) → AreEvaluatedBy ex (evaluation_by what) (evaluated_by what) → Contains (option_to_list (result_of what)) x → ¬ (inline x ≡ true)
  not_inline what x evaluated c e =
      let way : ex.evaluation x ≡ Some (evaluation_by what) =
      All-contains (λ y. ex.evaluation y ≡ Some (evaluation_by what)) (evaluated_by what) x evaluated (Contains-append_right (emitted_by what) (option_to_list (result_of what)) x c)
      in
      let emitted : ex.evaluation x ≡ Some by_way.Emit = emits x e in
      no_emitted_result what x (result-listed (result_of what) x c) (let both : Some (evaluation_by what) ≡ Some by_way.Emit = sym way ∙ emitted in cc)

  pub closed-performed : (what : Statement) (known : List ℕ) → PlainUsesKnown ex known what → Closed known → Closed (evaluated_by what ++ known)
  closed-performed what known uses closed = closed-same (AreSame-turned (AreSame-shifted (emitted_by what) (option_to_list (result_of what)) known)) with_result
    where
      emitted : Closed (emitted_by what ++ known)
      emitted = closed-emitted (emitted_by what) known closed uses.operands

      with_result : Closed (option_to_list (result_of what) ++ (emitted_by what ++ known))
      with_result x c e = elim (Contains-append_cases (option_to_list (result_of what)) (emitted_by what ++ known) x c) [
        | inl here ↦ absurd (not_inline what x uses.evaluated here e)
        | inr there ↦ MayUseEach-more ex (Includes-right (option_to_list (result_of what)) (emitted_by what ++ known) Includes-itself) (ex.operands x) (emitted x there e)
      ]

  -- ---- blocks

  pub node-closed : (node : Node) (known : List ℕ) → NodeUsesKnown ex known node → Closed known → Closed (values_of_node node ++ known)
  node-closed (plain what) known h closed = closed-performed what known h closed
  node-closed (nested inner) known h closed = closed
  node-closed (branch condition accept reject) known h closed = closed
  node-closed (switch selector cases) known h closed = closed
  node-closed (loop body continuing break_if) known h closed = closed
  node-closed (jump to) known h closed = closed

  pub block-closed : (block : Tree) (known : List ℕ) → UsesKnown ex known block → Closed known → Closed (values_of block ++ known)
  block-closed empty known h closed = closed
  block-closed (push front last span) known h closed =
      closed-same (AreSame-turned (AreSame-shifted (values_of front) (values_of_node last) known)) (node-closed last (values_of front ++ known) h.1 (block-closed front known h.0 closed))

  pub certain-closed : (block : Tree) (known : List ℕ) → UsesKnown ex known block → Closed known → Closed (values_of (certain block) ++ known)
  certain-closed empty known h closed = closed
  certain-closed (push front last span) known h closed =
      go (may_be_skipped (ways_of front) (ways_of_node last)) (certain-closed front known h.0 closed) (block-closed (push front last span) known h closed)
    where
      go : (t : Bool) → Closed (values_of (certain front) ++ known) → Closed (values_of (push front last span) ++ known) →
          Closed (values_of (if t then certain front else push front last span) ++ known)
      go true h h' = h
      go false h h' = h'

-- ---- what a text names

-- what each of these names has a property, so what they name together has it
all-named : (P : ℕ → Type 0) (names : ℕ → List ℕ) (xs : List ℕ) → Each (λ y. All P (names y)) xs → All P (concat (map names xs))
all-named P names [] h = All-nil P
all-named P names (x ∷ xs) h = All-append P (names x) (concat (map names xs)) h.0 (all-named P names xs h.1)

-- what is written out is not named
module _ (written : ℕ → Bool) (operands : ℕ → List ℕ) (before : (x : ℕ) → Each (λ y. y < x) (operands x)) where
  named_within-bound : (k x : ℕ) → x < k → All (λ y. written y ≡ false) (named_within written operands k x)
  named_within-bound zero x less = absurd (omega (arith, less))
  named_within-bound (suc k) x less =
      go (written x) refl
      (all-named (λ y. written y ≡ false) (named_within written operands k) (operands x)
      (each-weaker (λ y. y < x) (λ y. All (λ z. written z ≡ false) (named_within written operands k y)) (λ y first. named_within-bound k y (omega (arith, less, first))) (operands x) (before x)))
    where
      go : (t : Bool) → written x ≡ t → All (λ y. written y ≡ false) (concat (map (named_within written operands k) (operands x))) →
          All (λ y. written y ≡ false) (if t then concat (map (named_within written operands k) (operands x)) else x ∷ [])
      go true is each = each
      go false is each = All-cons (λ y. written y ≡ false) x [] is (All-nil (λ y. written y ≡ false))

  pub named-bound : (x : ℕ) → All (λ y. written y ≡ false) (named_within written operands (suc x) x)
  named-bound x = named_within-bound (suc x) x (omega arith)

module _ {Shape : Type 0} (code : Code Shape) (ex : Expressions) (inline : ℕ → Bool) (emits : (x : ℕ) → inline x ≡ true → ex.evaluation x ≡ Some by_way.Emit)
    (before : (x : ℕ) → Each (λ y. y < x) (ex.operands x)) (same : (x : ℕ) → code.operands x ≡ ex.operands x) (read : ReadsOperands code ex) where
  abbrev written : ℕ → Bool
  written = with_inline code.at_use inline

  abbrev names : ℕ → ℕ → List ℕ
  names = named_within written ex.operands

  abbrev ex' : Expressions
  ex' = record ex { reads = λ handle. names (suc handle) handle }

  module _ (known : List ℕ) (closed : Closed ex inline emits known) where
    within-named : (k x : ℕ) → x < k → MayUse ex known x → AreKnown ex' known (names k x)
    within-named zero x less so = absurd (omega (arith, less))
    within-named (suc k) x less so =
        let operands : MayUseEach ex known (ex.operands x) → AreKnown ex' known (concat (map (names k) (ex.operands x))) =
        λ each.
        all-named (IsKnown ex' known) (names k) (ex.operands x)
        (each-weaker (λ y. (y < x) × MayUse ex known y) (λ y. AreKnown ex' known (names k y)) (λ y both. within-named k y (let first : y < x = both.0 in omega (arith, less, first)) both.1) (ex.operands x)
        (each-both (λ y. y < x) (MayUse ex known) (ex.operands x) (before x) (each-of_all (MayUse ex known) (ex.operands x) each)))
        in
        elim (cases_Bool (code.at_use x)) [
          | inl is ↦
              subst (λ t. AreKnown ex' known (if t || inline x then concat (map (names k) (ex.operands x)) else x ∷ [])) (sym is)
              (operands (subst (MayUseEach ex known) (same x) (read.operands known x is so)))
          | inr is ↦ subst (λ t. AreKnown ex' known (if t || inline x then concat (map (names k) (ex.operands x)) else x ∷ [])) (sym is) (go (inline x) refl (read.itself known x is so) operands)
        ]
      where
        go : (t : Bool) → inline x ≡ t → Contains known x → (MayUseEach ex known (ex.operands x) → AreKnown ex' known (concat (map (names k) (ex.operands x)))) →
            AreKnown ex' known (if t then concat (map (names k) (ex.operands x)) else x ∷ [])
        go true also inside operands = operands (closed x inside also)
        go false other inside operands = All-cons (IsKnown ex' known) x [] (inr inside) (All-nil (IsKnown ex' known))

    named : (x : ℕ) → MayUse ex known x → MayUse ex' known x
    named x so = within-named (suc x) x (omega arith) so

    each-named : (xs : List ℕ) → MayUseEach ex known xs → MayUseEach ex' known xs
    each-named xs so = all-of_each (MayUse ex' known) xs (each-weaker (MayUse ex known) (MayUse ex' known) named xs (each-of_all (MayUse ex known) xs so))

  operands-named : (xs known : List ℕ) → Closed ex inline emits known → OperandsAreKnown ex known xs → OperandsAreKnown ex' known xs
  operands-named [] known closed so = tt
  operands-named (x ∷ xs) known closed so = (each-named known closed (ex.operands x) so.0, operands-named xs (x ∷ known) (closed-added ex inline emits known x closed so.0) so.1)

  mutual
    block-named : (block : Tree) (known : List ℕ) → Closed ex inline emits known → UsesKnown ex known block → UsesKnown ex' known block
    block-named empty known closed h = tt
    block-named (push front last span) known closed h =
        (block-named front known closed h.0, node-named last (values_of front ++ known) (block-closed ex inline emits front known h.0 closed) h.1)

    node-named : (node : Node) (known : List ℕ) → Closed ex inline emits known → NodeUsesKnown ex known node → NodeUsesKnown ex' known node
    node-named (plain what) known closed h =
        record { used = each-named known closed (used_by what) h.used; operands = operands-named (emitted_by what) known closed h.operands; evaluated = h.evaluated }
    node-named (nested inner) known closed h = block-named inner known closed h
    node-named (branch condition accept reject) known closed h = (named known closed condition h.0, block-named accept known closed h.1, block-named reject known closed h.2)
    node-named (switch selector cases) known closed h = (named known closed selector h.0, cases-named cases known closed h.1)
    node-named (loop body continuing break_if) known closed h =
        let within : List ℕ = values_of (certain body) ++ known in
        let closed_within : Closed ex inline emits within = certain-closed ex inline emits body known h.0 closed in
        let later = rest (may_go_on (ways_of body)) h.1 h.2 (λ uses. block-named continuing within closed_within uses) closed_within in
        (block-named body known closed h.0, later.0, later.1)
      where
        rest : (t : Bool) → UsesKnown (where_reached t ex) (values_of (certain body) ++ known) continuing →
            MayUseEach (where_reached t ex) (values_of (certain continuing) ++ (values_of (certain body) ++ known)) (option_to_list break_if) →
            (UsesKnown ex (values_of (certain body) ++ known) continuing → UsesKnown ex' (values_of (certain body) ++ known) continuing) →
            Closed ex inline emits (values_of (certain body) ++ known) →
            UsesKnown (where_reached t ex') (values_of (certain body) ++ known) continuing
            × MayUseEach (where_reached t ex') (values_of (certain continuing) ++ (values_of (certain body) ++ known)) (option_to_list break_if)
        rest true uses breaks_when again closed_within =
            let within : List ℕ = values_of (certain body) ++ known in
            (again uses, each-named (values_of (certain continuing) ++ within) (certain-closed ex inline emits continuing within uses closed_within) (option_to_list break_if) breaks_when)
        rest false uses breaks_when again closed_within = (uses, breaks_when)
    node-named (jump break) known closed h = tt
    node-named (jump continue) known closed h = tt
    node-named (jump kill) known closed h = tt
    node-named (jump (return value)) known closed h = each-named known closed (option_to_list value) h

    cases-named : (cases : Cases) (known : List ℕ) → Closed ex inline emits known → CasesUseKnown ex known cases → CasesUseKnown ex' known cases
    cases-named no_cases known closed h = tt
    cases-named (case value body falls_through others) known closed h = (block-named body known closed h.0, cases-named others known closed h.1)

  pub uses-named : (block : Tree) → UsesKnown ex [] block → UsesKnown ex' [] block
  uses-named block h = block-named block [] (λ x c e. absurd (omega (arith, c.1))) h
