-- Walks over the statements of a block in the order in which they are read.
use Rattle.std.proofs.Common.{◌≡◌, ◌∙◌, sym, ap, subst, refl, Bool, true, false, ◌&&◌, ℕ, ◌+◌, ◌-◌, ◌^◌, ◌<◌, List, [], ◌∷◌, ◌++◌, length, Option, Some, None, Result, Ok, Err, not, arith, drop, get_or}
use Rattle.std.proofs.lemmas.List.{append-nil, append_assoc, drop_more, length-append}
use Rattle.std.proofs.lemmas.List.Folds.{list_all-append}
use Rattle.std.specs.List.{list_all}
use Rattle.std.specs.Option.{is_some}
use Rattle.std.specs.Prelude.{min}
use Rattle.naga_arena.specs.declared.span.Span.{Span}
use Rattle.naga_ir.specs.Block.{pairs}
use Rattle.naga_ir.specs.Tree.{Tree, empty, push, Node, plain, nested, branch, switch, loop, jump, Cases, no_cases, case}
use Rattle.naga_ir.specs.Tree as tree
use Rattle.naga_ir.specs.View.{cases_of, node_of, pushed, tree_of}
use Rattle.naga_ir.specs.declared.block.Block.{Block}
use Rattle.naga_ir.specs.declared.statement.Statement.{Statement}
use Rattle.naga_ir.specs.declared.statement.SwitchCase.{SwitchCase}
use Rattle.naga_flow.specs.declared.exits.Exits.{Exits}
use Rattle.naga_flow.specs.declared.jumps.Place.{Place}
use Rattle.naga_flow.specs.declared.misplaced_jump.Jump.{Jump}
use Rattle.naga_flow.specs.declared.misplaced_jump.MisplacedJump.{MisplacedJump}
use Rattle.naga_flow.specs.Jumps.{Placed, Walks, kind_of, node_is_allowed, numbered, placed, placed_in_cases, placed_inside, is_allowed, told, verdict}
use Rattle.naga_flow.specs.Structured.{allows, cases_are_structured, in_body_of_loop, in_case, is_structured, node_is_structured, of_continuing}

-- ---- the statements of a list

-- a statement of a block with these exits, and those inside it
abbrev pub placed_pair : Exits → Statement × Span → List Placed
placed_pair around x = record { node = node_of x.0; span = x.1; around = around } ∷ placed_inside around (node_of x.0)

-- the statements of each element of a list
abbrev pub each : {X : Type 0} → (X → List Placed) → List X → List Placed
each f [] = []
each f (x ∷ xs) = f x ++ each f xs

placed-pushed : (around : Exits) (front : Tree) (xs : List (Statement × Span)) → placed around (pushed front xs) ≡ placed around front ++ each (placed_pair around) xs
placed-pushed around front [] = sym (append-nil (placed around front))
placed-pushed around front (x ∷ xs) =
    placed-pushed around (push front (node_of x.0) x.1) xs ∙ append_assoc (placed around front) (placed_pair around x) (each (placed_pair around) xs)

pub placed-pairs : (around : Exits) (b : Block) → placed around (tree_of b) ≡ each (placed_pair around) (pairs b)
placed-pairs around b = placed-pushed around empty (pairs b)

-- the statements of the body of a case
abbrev pub placed_body : Exits → SwitchCase → List Placed
placed_body around x = placed (in_case around) (tree_of x.body)

pub placed_in_cases-bodies : (around : Exits) (cases : List SwitchCase) → placed_in_cases around (cases_of cases) ≡ each (placed_body around) cases
placed_in_cases-bodies around [] = refl
placed_in_cases-bodies around (x ∷ xs) = ap (λ rest. placed_body around x ++ rest) (placed_in_cases-bodies around xs)

-- ---- whether all are allowed

and-true : (x : Bool) → x ≡ (x && true)
and-true true = refl
and-true false = refl

-- two parts of a statement or of a block, one after the other
list_all-parts : (a b : Bool) (xs ys : List Placed) → a ≡ list_all is_allowed xs → b ≡ list_all is_allowed ys → (a && b) ≡ list_all is_allowed (xs ++ ys)
list_all-parts a b xs ys h k = (λ i. h i && k i) ∙ sym (list_all-append is_allowed xs ys)

mutual
  pub is_structured-placed : (around : Exits) (block : Tree) → is_structured around block ≡ list_all is_allowed (placed around block)
  is_structured-placed around empty = refl
  is_structured-placed around (push front last span) =
      let here : Placed = record { node = last; span = span; around = around } in
      list_all-parts (is_structured around front) (node_is_structured around last) (placed around front) (here ∷ placed_inside around last)
      (is_structured-placed around front) (node_is_structured-placed around last span)

  node_is_structured-placed : (around : Exits) (node : Node) (span : Span) →
      node_is_structured around node ≡ list_all is_allowed (record { node = node; span = span; around = around } ∷ placed_inside around node)
  node_is_structured-placed around (plain what) span = refl
  node_is_structured-placed around (nested inner) span = is_structured-placed around inner
  node_is_structured-placed around (branch condition accept reject) span =
      list_all-parts (is_structured around accept) (is_structured around reject) (placed around accept) (placed around reject)
      (is_structured-placed around accept) (is_structured-placed around reject)
  node_is_structured-placed around (switch selector cases) span = cases_are_structured-placed around cases
  node_is_structured-placed around (loop body continuing break_if) span =
      list_all-parts (is_structured (in_body_of_loop around) body) (is_structured of_continuing continuing)
      (placed (in_body_of_loop around) body) (placed of_continuing continuing)
      (is_structured-placed (in_body_of_loop around) body) (is_structured-placed of_continuing continuing)
  node_is_structured-placed around (jump to) span = and-true (allows around to)

  cases_are_structured-placed : (around : Exits) (cases : Cases) → cases_are_structured around cases ≡ list_all is_allowed (placed_in_cases around cases)
  cases_are_structured-placed around no_cases = refl
  cases_are_structured-placed around (case value body falls_through others) =
      list_all-parts (is_structured (in_case around) body) (cases_are_structured around others) (placed (in_case around) body) (placed_in_cases around others)
      (is_structured-placed (in_case around) body) (cases_are_structured-placed around others)

list_all-falls : (before after : List Placed) (at : Placed) → is_allowed at ≡ false → list_all is_allowed (before ++ at ∷ after) ≡ false
list_all-falls [] after at h = ap (λ b. b && list_all is_allowed after) h
list_all-falls (x ∷ before) after at h = and-false (is_allowed x) (list_all is_allowed (before ++ at ∷ after)) (list_all-falls before after at h)
  where
    and-false : (a b : Bool) → b ≡ false → (a && b) ≡ false
    and-false true b h = h
    and-false false b h = refl

-- ---- walks

min-again : (m c a b next : ℕ) → next ≡ min (c + a) m → min (next + b) m ≡ min (c + (a + b)) m
min-again m c a b next is = omega (arith, is)

numbered-again : (met a b next : ℕ) → next ≡ numbered met a → numbered next b ≡ numbered met (a + b)
numbered-again met a b next is = min-again (2 ^ 64 - 1) met a b next is

min-none : (m c : ℕ) → c ≡ c → c < m + 1 → c ≡ min (c + 0) m
min-none m c e within = omega (arith, within)

pub numbered-none : (met : ℕ) → met < 2 ^ 64 → met ≡ numbered met 0
numbered-none met within = min-none (2 ^ 64 - 1) met refl within

pub Walks-none : (met : ℕ) → met < 2 ^ 64 → Walks [] met (Ok met)
Walks-none met within = (refl, numbered-none met within)

-- a walk over two lists, the second of which it meets from where it is after the first
pub Walks-both : (all more : List Placed) (met next : ℕ) (result : Result ℕ MisplacedJump) →
    Walks all met (Ok next) → Walks more next result → Walks (all ++ more) met result
Walks-both all more met next (Ok last) first second = (
  list_all-append is_allowed all more ∙ (λ i. first.0 i && second.0 i),
  second.1 ∙ (numbered-again met (length all) (length more) next first.1 ∙ ap (numbered met) (sym (length-append all more))),
)
Walks-both all more met next (Err fault) first second = record {
  before = all ++ second.before;
  at = second.at;
  after = second.after;
  split = ap (λ xs. all ++ xs) second.split ∙ sym (append_assoc all second.before (second.at ∷ second.after));
  earlier = list_all-append is_allowed all second.before ∙ (λ i. first.0 i && second.earlier i);
  falls = second.falls;
  is_jump = second.is_jump;
  span = second.span;
  statement = second.statement ∙ (numbered-again met (length all) (length second.before) next first.1 ∙ ap (numbered met) (sym (length-append all second.before)));
}

-- a walk that ends in the first of two lists
pub Walks-ended : (all more : List Placed) (met : ℕ) (fault : MisplacedJump) → Walks all met (Err fault) → Walks (all ++ more) met (Err fault)
Walks-ended all more met fault first = record {
  before = first.before;
  at = first.at;
  after = first.after ++ more;
  split = ap (λ xs. xs ++ more) first.split ∙ append_assoc first.before (first.at ∷ first.after) more;
  earlier = first.earlier;
  falls = first.falls;
  is_jump = first.is_jump;
  span = first.span;
  statement = first.statement;
}

-- a statement that is allowed where it is, before those inside it
pub Walks-inside : (here : Placed) (inside : List Placed) (met next : ℕ) (result : Result ℕ MisplacedJump) →
    is_allowed here ≡ true → next ≡ numbered met 1 → Walks inside next result → Walks (here ∷ inside) met result
Walks-inside here inside met next result h is later = Walks-both (here ∷ []) inside met next result (ap (λ b. b && true) h, is) later

-- a jump
pub Walks-jump : (met : ℕ) (span : Span) (around : Exits) (to : tree.Jump) (kind : Jump) (allowed : Bool) → met < 2 ^ 64 →
    kind ≡ kind_of to → allowed ≡ allows around to → Walks (record { node = jump to; span = span; around = around } ∷ []) met (verdict met span kind allowed)
Walks-jump met span around to kind true within is h = (ap (λ b. b && true) (sym h), refl)
Walks-jump met span around to kind false within is h = record {
  before = [];
  at = record { node = jump to; span = span; around = around };
  after = [];
  split = refl;
  earlier = refl;
  falls = sym h;
  is_jump = is;
  span = refl;
  statement = numbered-none met within;
}

-- ---- what a walk says of a block

module _ (exits around : Exits) (block : Tree) (met : ℕ) (result : Result ℕ MisplacedJump) (is : exits ≡ around) (walks : Walks (placed exits block) met result) where
  so : Walks (placed around block) met result
  so = subst (λ e. Walks (placed e block) met result) is walks

  pub Walks-structured : (next : ℕ) → result ≡ Ok next → is_structured around block ≡ true
  Walks-structured next ok =
      let all : Walks (placed around block) met (Ok next) = subst (Walks (placed around block) met) ok so in
      is_structured-placed around block ∙ all.0

  pub Walks-not_structured : (fault : MisplacedJump) → result ≡ Err fault → is_structured around block ≡ false
  Walks-not_structured fault err =
      let first : Walks (placed around block) met (Err fault) = subst (Walks (placed around block) met) err so in
      is_structured-placed around block ∙ (ap (list_all is_allowed) first.split ∙ list_all-falls first.before first.after first.at first.falls)

-- the answer to whether a walk over a block meets all of it
pub told-structured : (exits around : Exits) (block : Tree) (met : ℕ) (found : Option Jump) (place : Place) (answer : Bool) → exits ≡ around → Walks (placed exits block) met (told found place) →
    is_some found ≡ not answer → answer ≡ is_structured around block
told-structured exits around block met None place true is walks h = sym (Walks-structured exits around block met (Ok place.met) is walks place.met refl)
told-structured exits around block met None place false is walks h = absurd (let e : false ≡ true = h in cc)
told-structured exits around block met (Some kind) place true is walks h = absurd (let e : true ≡ false = h in cc)
told-structured exits around block met (Some kind) place false is walks h =
    let fault : MisplacedJump = record { statement = place.met; span = place.span; jump = kind } in
    sym (Walks-not_structured exits around block met (Err fault) is walks fault refl)

-- ---- walks over what is left of a list

min-fits : (m c a new : ℕ) → new ≡ min (c + a) m → new < m + 1
min-fits m c a new is = omega (arith, is)

pub Walks-fits : (all : List Placed) (met next : ℕ) (result : Result ℕ MisplacedJump) → result ≡ Ok next → Walks all met result → next < 2 ^ 64
Walks-fits all met next result is walks =
    let on : Walks all met (Ok next) = subst (Walks all met) is walks in min-fits (2 ^ 64 - 1) met (length all) next on.1

-- a walk over the statements that are left, from `next` on, completes one over `whole`
abbrev pub Completes : (whole left : List Placed) (met next : ℕ) → Type 0
Completes whole left met next = (result : Result ℕ MisplacedJump) → Walks left next result → Walks whole met result

module _ {X : Type 0} (f : X → List Placed) (whole : List Placed) (met next : ℕ) (items rest : List X) (x : X) (is : items ≡ x ∷ rest) (left : Completes whole (each f items) met next) (result : Result ℕ MisplacedJump) (walks : Walks (f x) next result) where
  pub Completes-next : (walked : ℕ) → result ≡ Ok walked → Completes whole (each f rest) met walked
  Completes-next walked ok later-result later =
      left later-result (subst (λ xs. Walks (each f xs) next later-result) (sym is)
      (Walks-both (f x) (each f rest) next walked later-result (subst (Walks (f x) next) ok walks) later))

  pub Completes-ended : (fault : MisplacedJump) → result ≡ Err fault → Walks whole met (Err fault)
  Completes-ended fault err =
      left (Err fault) (subst (λ xs. Walks (each f xs) next (Err fault)) (sym is)
      (Walks-ended (f x) (each f rest) next fault (subst (Walks (f x) next) err walks)))

pub Completes-all : {X : Type 0} (f : X → List Placed) (whole : List Placed) (met next : ℕ) (items : List X) → items ≡ [] → next < 2 ^ 64 → Completes whole (each f items) met next → Walks whole met (Ok next)
Completes-all f whole met next items is within left = left (Ok next) (subst (λ xs. Walks (each f xs) next (Ok next)) (sym is) (Walks-none next within))

-- the element at a position of a list, and those after it
pub drop-here : {X : Type 0} (xs : List X) (i : ℕ) (x : X) → i < length xs → x ≡ get_or xs i x → drop i xs ≡ x ∷ drop (i + 1) xs
drop-here xs i x within is = drop_more xs i x within ∙ ap (λ y. y ∷ drop (i + 1) xs) (sym is)

-- ---- walks over a statement

abbrev pub placed_node : Exits → Span → Node → List Placed
placed_node around span node = record { node = node; span = span; around = around } ∷ placed_inside around node

-- a statement that is no jump
pub Walks-node : (met next : ℕ) (span : Span) (around : Exits) (node shape : Node) (result : Result ℕ MisplacedJump) → node ≡ shape → node_is_allowed around shape ≡ true →
    next ≡ numbered met 1 → Walks (placed_inside around shape) next result → Walks (placed_node around span node) met result
Walks-node met next span around node shape result is h one walks =
    subst (λ n. Walks (placed_node around span n) met result) (sym is)
    (Walks-inside (record { node = shape; span = span; around = around }) (placed_inside around shape) met next result h one walks)

-- a jump, as it was judged
pub Walks-judged : (met : ℕ) (span : Span) (around : Exits) (node : Node) (to : tree.Jump) (result : Result ℕ MisplacedJump) → met < 2 ^ 64 → node ≡ jump to →
    result ≡ verdict met span (kind_of to) (allows around to) → Walks (placed_node around span node) met result
Walks-judged met span around node to result within is judged =
    subst (λ n. Walks (placed_node around span n) met result) (sym is)
    (subst (Walks (placed_node around span (jump to)) met) (sym judged) (Walks-jump met span around to (kind_of to) (allows around to) within refl refl))

-- two blocks of a statement
module _ (first second : List Placed) (met next : ℕ) (result : Result ℕ MisplacedJump) (walks : Walks first met result) where
  pub Walks-then : (later : Result ℕ MisplacedJump) → result ≡ Ok next → Walks second next later → Walks (first ++ second) met later
  Walks-then later ok so = Walks-both first second met next later (subst (Walks first met) ok walks) so

  pub Walks-broken_off : (fault : MisplacedJump) → result ≡ Err fault → Walks (first ++ second) met (Err fault)
  Walks-broken_off fault err = Walks-ended first second met fault (subst (Walks first met) err walks)
