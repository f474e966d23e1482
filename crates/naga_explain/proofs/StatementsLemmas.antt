-- Searches in the statements of a block: lemmas on specs/Statements.antt.
use Rattle.std.proofs.Common.{◌≡◌, ◌∙◌, sym, ap, subst, refl, Bool, true, false, true≢false, ℕ, ◌+◌, ◌-◌, ◌^◌, ◌<◌, List, [], ◌∷◌, ◌++◌, length, arith, drop, get_or}
use Rattle.std.proofs.lemmas.List.{append-nil, append_assoc, drop_more, length-append}
use Rattle.std.proofs.lemmas.List.Elements.{All-append, All-cons, All-nil}
use Rattle.std.specs.Prelude.{All, IsTrue, min, ◌↔◌}
use Rattle.std.specs.List.{Contains}
use Rattle.std.specs.declared.ops.ControlFlow.{ControlFlow}
use Rattle.std.specs.declared.ops.ControlFlow.TheVariants.{Break, Continue}
use Rattle.naga_arena.specs.declared.span.Span.{Span}
use Rattle.naga_flow.specs.Jumps.{numbered}
use Rattle.naga_ir.specs.Block.{pairs}
use Rattle.naga_ir.specs.Tree.{Tree, empty, push, Node}
use Rattle.naga_ir.specs.View.{cases_of, node_of, pushed, tree_of}
use Rattle.naga_ir.specs.declared.block.Block.{Block}
use Rattle.naga_ir.specs.declared.statement.Statement.{Statement}
use Rattle.naga_ir.specs.declared.statement.Statement as variant
use Rattle.naga_ir.specs.declared.statement.SwitchCase.{SwitchCase}
use Rattle.naga_valid.specs.Statements.{references_of_statement}
use Rattle.naga_valid.specs.declared.reference.Reference.{Reference}
use Rattle.naga_explain.specs.Statements.{RefersTo, Seeks, own_references, statements, statements_in_cases, statements_inside}

-- ---- the statements of a list

-- a statement, and those inside it
abbrev pub statement_pair : Statement × Span → List Node
statement_pair x = node_of x.0 ∷ statements_inside (node_of x.0)

-- the statements of each element of a list
abbrev pub each : {X : Type 0} → (X → List Node) → List X → List Node
each f [] = []
each f (x ∷ xs) = f x ++ each f xs

statements-pushed : (front : Tree) (xs : List (Statement × Span)) → statements (pushed front xs) ≡ statements front ++ each statement_pair xs
statements-pushed front [] = sym (append-nil (statements front))
statements-pushed front (x ∷ xs) =
    statements-pushed (push front (node_of x.0) x.1) xs ∙ append_assoc (statements front) (statement_pair x) (each statement_pair xs)

pub statements-pairs : (b : Block) → statements (tree_of b) ≡ each statement_pair (pairs b)
statements-pairs b = statements-pushed empty (pairs b)

-- the statements of the body of a case
abbrev pub case_body : SwitchCase → List Node
case_body x = statements (tree_of x.body)

pub statements_in_cases-bodies : (cases : List SwitchCase) → statements_in_cases (cases_of cases) ≡ each case_body cases
statements_in_cases-bodies [] = refl
statements_in_cases-bodies (x ∷ xs) = ap (λ rest. case_body x ++ rest) (statements_in_cases-bodies xs)

-- what a statement contains, without the statements of its blocks
pub own_references-statement : (s : Statement) → own_references (node_of s) ≡ references_of_statement s
own_references-statement (variant.Block' shape row) = refl
own_references-statement (variant.If' condition shape accept shape' reject) = refl
own_references-statement (variant.Switch' selector shape cases) = refl
own_references-statement (variant.Loop' shape body shape' continuing break_if) = refl
own_references-statement variant.Break = refl
own_references-statement variant.Continue = refl
own_references-statement (variant.Return value) = refl
own_references-statement variant.Kill = refl
own_references-statement s = refl

-- ---- numbers

min-again : (m c a b next : ℕ) → next ≡ min (c + a) m → min (next + b) m ≡ min (c + (a + b)) m
min-again m c a b next is = omega (arith, is)

numbered-again : (met a b next : ℕ) → next ≡ numbered met a → numbered next b ≡ numbered met (a + b)
numbered-again met a b next is = min-again (2 ^ 64 - 1) met a b next is

min-none : (m c : ℕ) → c ≡ c → c < m + 1 → c ≡ min (c + 0) m
min-none m c e within = omega (arith, within)

numbered-none : (met : ℕ) → met < 2 ^ 64 → met ≡ numbered met 0
numbered-none met within = min-none (2 ^ 64 - 1) met refl within

min-fits : (m c a new : ℕ) → new ≡ min (c + a) m → new < m + 1
min-fits m c a new is = omega (arith, is)

-- ---- searches

module _ (to : Reference) where
  abbrev Other : Node → Type 0
  Other node = ¬ RefersTo to node

  Seeks-none : (met : ℕ) → met < 2 ^ 64 → Seeks to [] met (Continue met)
  Seeks-none met within = (All-nil Other, numbered-none met within)

  -- a search in two lists, in the second of which it goes on from where it is after the first
  Seeks-both : (all more : List Node) (met next : ℕ) (answer : ControlFlow ℕ ℕ) →
      Seeks to all met (Continue next) → Seeks to more next answer → Seeks to (all ++ more) met answer
  Seeks-both all more met next (Continue last) first second = (
    All-append Other all more first.0 second.0,
    second.1 ∙ (numbered-again met (length all) (length more) next first.1 ∙ ap (numbered met) (sym (length-append all more))),
  )
  Seeks-both all more met next (Break number) first second = record {
    before = all ++ second.before;
    at = second.at;
    after = second.after;
    split = ap (λ xs. all ++ xs) second.split ∙ sym (append_assoc all second.before (second.at ∷ second.after));
    earlier = All-append Other all second.before first.0 second.earlier;
    refers = second.refers;
    numbered_so = second.numbered_so ∙ (numbered-again met (length all) (length second.before) next first.1 ∙ ap (numbered met) (sym (length-append all second.before)));
  }

  -- a search that stops in the first of two lists
  Seeks-stopped : (all more : List Node) (met number : ℕ) → Seeks to all met (Break number) → Seeks to (all ++ more) met (Break number)
  Seeks-stopped all more met number first = record {
    before = first.before;
    at = first.at;
    after = first.after ++ more;
    split = ap (λ xs. xs ++ more) first.split ∙ append_assoc first.before (first.at ∷ first.after) more;
    earlier = first.earlier;
    refers = first.refers;
    numbered_so = first.numbered_so;
  }

  -- two blocks of a statement
  module _ (first second : List Node) (met next : ℕ) (answer : ControlFlow ℕ ℕ) (seeks : Seeks to first met answer) where
    pub Seeks-then : (later : ControlFlow ℕ ℕ) → answer ≡ Continue next → Seeks to second next later → Seeks to (first ++ second) met later
    Seeks-then later passed so = Seeks-both first second met next later (subst (Seeks to first met) passed seeks) so

    pub Seeks-broken_off : (number : ℕ) → answer ≡ Break number → Seeks to (first ++ second) met (Break number)
    Seeks-broken_off number stopped = Seeks-stopped first second met number (subst (Seeks to first met) stopped seeks)

  pub Seeks-fits : (all : List Node) (met next : ℕ) (answer : ControlFlow ℕ ℕ) → answer ≡ Continue next → Seeks to all met answer → next < 2 ^ 64
  Seeks-fits all met next answer is seeks =
      let on : Seeks to all met (Continue next) = subst (Seeks to all met) is seeks in min-fits (2 ^ 64 - 1) met (length all) next on.1

  -- ---- a statement

  -- the statement itself refers to this
  pub Seeks-here : (met : ℕ) (s : Statement) → met < 2 ^ 64 → Contains (references_of_statement s) to → Seeks to (node_of s ∷ statements_inside (node_of s)) met (Break met)
  Seeks-here met s within here = record {
    before = [];
    at = node_of s;
    after = statements_inside (node_of s);
    split = refl;
    earlier = All-nil Other;
    refers = subst (λ xs. Contains xs to) (sym (own_references-statement s)) here;
    numbered_so = numbered-none met within;
  }

  -- the statement itself does not, and those inside it are searched
  pub Seeks-inside : (met next : ℕ) (s : Statement) (shape : Node) (answer : ControlFlow ℕ ℕ) → node_of s ≡ shape → ¬ Contains (references_of_statement s) to →
      next ≡ numbered met 1 → Seeks to (statements_inside shape) next answer → Seeks to (node_of s ∷ statements_inside (node_of s)) met answer
  Seeks-inside met next s shape answer is other one seeks =
      let not_here : All Other (node_of s ∷ []) = All-cons Other (node_of s) [] (λ here. other (subst (λ xs. Contains xs to) (own_references-statement s) here)) (All-nil Other) in
      Seeks-both (node_of s ∷ []) (statements_inside (node_of s)) met next answer (not_here, one)
      (subst (λ n. Seeks to (statements_inside n) next answer) (sym is) seeks)

  -- there is nothing inside it
  pub Seeks-nothing : (met next : ℕ) (s : Statement) (shape : Node) → node_of s ≡ shape → statements_inside shape ≡ [] → ¬ Contains (references_of_statement s) to →
      next < 2 ^ 64 → next ≡ numbered met 1 → Seeks to (node_of s ∷ statements_inside (node_of s)) met (Continue next)
  Seeks-nothing met next s shape is none other within one =
      Seeks-inside met next s shape (Continue next) is other one (subst (λ xs. Seeks to xs next (Continue next)) (sym none) (Seeks-none next within))

  -- ---- what is left of a list

  -- a search in the statements that are left, from `next` on, completes one in `whole`
  abbrev pub Completes : (whole left : List Node) (met next : ℕ) → Type 0
  Completes whole left met next = (answer : ControlFlow ℕ ℕ) → Seeks to left next answer → Seeks to whole met answer

  module _ {X : Type 0} (f : X → List Node) (whole : List Node) (met next : ℕ) (items rest : List X) (x : X) (is : items ≡ x ∷ rest) (left : Completes whole (each f items) met next) (answer : ControlFlow ℕ ℕ) (seeks : Seeks to (f x) next answer) where
    pub Completes-next : (passed : ℕ) → answer ≡ Continue passed → Completes whole (each f rest) met passed
    Completes-next passed so later-answer later =
        left later-answer (subst (λ xs. Seeks to (each f xs) next later-answer) (sym is)
        (Seeks-both (f x) (each f rest) next passed later-answer (subst (Seeks to (f x) next) so seeks) later))

    pub Completes-stopped : (number : ℕ) → answer ≡ Break number → Seeks to whole met (Break number)
    Completes-stopped number so =
        left (Break number) (subst (λ xs. Seeks to (each f xs) next (Break number)) (sym is)
        (Seeks-stopped (f x) (each f rest) next number (subst (Seeks to (f x) next) so seeks)))

  pub Completes-all : {X : Type 0} (f : X → List Node) (whole : List Node) (met next : ℕ) (items : List X) → items ≡ [] → next < 2 ^ 64 → Completes whole (each f items) met next → Seeks to whole met (Continue next)
  Completes-all f whole met next items is within left = left (Continue next) (subst (λ xs. Seeks to (each f xs) next (Continue next)) (sym is) (Seeks-none next within))

-- a test that failed
pub refuted : {C : Type 0} (test : Bool) → (IsTrue test ↔ C) → test ≡ false → ¬ C
refuted true says e inside = absurd (true≢false e)
refuted false says e inside = absurd (true≢false (sym (says.1 inside)))

-- the element at a position of a list, and those after it
pub drop-here : {X : Type 0} (xs : List X) (i : ℕ) (x : X) → i < length xs → x ≡ get_or xs i x → drop i xs ≡ x ∷ drop (i + 1) xs
drop-here xs i x within is = drop_more xs i x within ∙ ap (λ y. y ∷ drop (i + 1) xs) (sym is)
