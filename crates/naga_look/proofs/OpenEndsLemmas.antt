-- The ends of a block that get a return: lemmas on specs/OpenEnds.antt.
use Rattle.std.proofs.Common.{◌≡◌, ◌∙◌, ap, arith, refl, sym, subst, ℕ, zero, suc, ◌+◌, ◌-◌, ◌≤◌, List, [], ◌∷◌, ◌++◌, Bool, true, false, append-nil, append_assoc, length, length-append, take, Some, None}
use Rattle.std.proofs.Math.Seq.{take-nil}
use Rattle.std.proofs.lemmas.List.{length-map, take_all}
use Rattle.std.specs.Fmt.{decimal}
use Rattle.std.specs.Prelude.{Err, IfOk, Ok, Result, codes, flat_map, slice_get}
use Rattle.std.specs.List.{enumerate_from}
use Rattle.naga_arena.specs.declared.span.Span.{Span}
use Rattle.naga_flow.specs.Paths.{behind, size}
use Rattle.naga_ir.specs.Block.{pairs, statements}
use Rattle.naga_ir.specs.Tree.{Tree, Node, Cases, empty, push, plain, nested, branch, switch, loop, jump, no_cases, case}
use Rattle.naga_ir.specs.View.{cases_of, node_of, pushed, tree_of}
use Rattle.naga_ir.specs.declared.block.Block.{Block}
use Rattle.naga_ir.specs.declared.module.Function as function
use Rattle.naga_ir.specs.declared.statement.Statement.{Statement}
use Rattle.naga_ir.specs.declared.statement.SwitchCase.{SwitchCase}
use Rattle.naga_proc.proofs.Closing.ByLastLemmas.{by_last, length-by_last}
use Rattle.naga_proc.specs.Closing.{follows_switch}
use Rattle.naga_proc.specs.declared.terminator.rule.Rule.{Rule}
use Rattle.naga_proc.specs.declared.terminator.rule.Rule.TheVariants.{New}
use Rattle.naga_look.specs.Counts.{one_if, open_at, open_in_cases, open_tails, open_unless}
use Rattle.naga_look.specs.OpenEnds.{AddsEnds, case_name, end_if, ends_at, ends_in_case, ends_in_cases, ends_unless, inner_path, missing_returns, open_ends}
use Rattle.naga_look.proofs.CountsLemmas.{pushed-none}

module _ {B : Type 0} where
  take-joined : (n : ℕ) (xs ys : List B) → take n (xs ++ ys) ≡ take n xs ++ take (n - length xs) ys
  take-joined zero xs ys = let none : zero - length xs ≡ 0 = omega arith in sym (ap (λ k. take k ys) none)
  take-joined (suc n) [] ys = let room : suc n ≡ suc n - 0 = omega arith in ap (λ k. take k ys) room
  take-joined (suc n) (x ∷ xs) ys =
      let room : suc n - suc (length xs) ≡ n - length xs = omega arith in
      ap (λ rest. x ∷ rest) (take-joined n xs ys ∙ ap (λ k. take n xs ++ take k ys) (sym room))

take-behind : (n : ℕ) (first : List ℕ) (paths : List (List ℕ)) → take n (behind first paths) ≡ behind first (take n paths)
take-behind zero first paths = refl
take-behind (suc n) first [] = refl
take-behind (suc n) first (path ∷ paths) = ap (λ rest. (first ++ path) ∷ rest) (take-behind n first paths)

behind-behind : (before first : List ℕ) (paths : List (List ℕ)) → behind before (behind first paths) ≡ behind (before ++ first) paths
behind-behind before first [] = refl
behind-behind before first (path ∷ paths) = λ i. (sym (append_assoc before first path)) i ∷ behind-behind before first paths i

behind-append : (before : List ℕ) (paths others : List (List ℕ)) → behind before (paths ++ others) ≡ behind before paths ++ behind before others
behind-append before [] others = refl
behind-append before (path ∷ paths) others = ap (λ rest. (before ++ path) ∷ rest) (behind-append before paths others)

module _ (before : List ℕ) where
  pub AddsEnds-none : (limit : ℕ) (old : List (List ℕ)) → AddsEnds before limit [] old old limit
  AddsEnds-none limit old = record {
    lines = sym (ap (λ t. old ++ behind before t) (take-nil limit) ∙ append-nil old);
    room = omega arith;
  }

  -- the end of this block
  pub AddsEnds-one : (limit : ℕ) (old new : List (List ℕ)) → new ≡ old ++ before ∷ [] → AddsEnds before (suc limit) ([] ∷ []) old new limit
  AddsEnds-one limit old new is = record {
    lines =
        is ∙ ap (λ path. old ++ path ∷ []) (sym (append-nil before))
        ∙ ap (λ t. old ++ (before ++ []) ∷ behind before t) (sym (take-nil limit));
    room = omega arith;
  }

  pub AddsEnds-pushed : (limit left : ℕ) (path : List ℕ) (old new : List (List ℕ)) → ¬ (limit ≡ 0) → left ≡ limit - 1 → path ≡ before → new ≡ old ++ path ∷ []
      → AddsEnds before limit ([] ∷ []) old new left
  AddsEnds-pushed zero left path old new some is same pushed = absurd (some refl)
  AddsEnds-pushed (suc limit) left path old new some is same pushed =
      let room : limit ≡ left = omega (arith, is) in
      subst (AddsEnds before (suc limit) ([] ∷ []) old new) room (AddsEnds-one limit old new (pushed ∙ ap (λ p. old ++ p ∷ []) same))

  -- no more may be listed
  pub AddsEnds-full : (limit : ℕ) (ends old : List (List ℕ)) → limit ≡ 0 → AddsEnds before limit ends old old 0
  AddsEnds-full limit ends old full = record {
    lines = sym (ap (λ n. old ++ behind before (take n ends)) full ∙ append-nil old);
    room = omega (arith, full);
  }

  -- these, and then others
  pub AddsEnds-both : (limit middle left : ℕ) (ends others old between new : List (List ℕ))
      → AddsEnds before limit ends old between middle → AddsEnds before middle others between new left
      → AddsEnds before limit (ends ++ others) old new left
  AddsEnds-both limit middle left ends others old between new first second =
      let both = length-append ends others in
      record {
        lines =
            second.lines
            ∙ (λ i. first.lines i ++ behind before (take (first.room i) others))
            ∙ append_assoc old (behind before (take limit ends)) (behind before (take (limit - length ends) others))
            ∙ ap (λ t. old ++ t) (
            sym (behind-append before (take limit ends) (take (limit - length ends) others))
            ∙ ap (behind before) (sym (take-joined limit ends others))
            );
        room = omega (arith, both, first.room, second.room);
      }

-- the ends of a block inside
pub AddsEnds-behind : (before first inner : List ℕ) (limit left : ℕ) (ends old new : List (List ℕ)) → inner ≡ before ++ first
    → AddsEnds inner limit ends old new left → AddsEnds before limit (behind first ends) old new left
AddsEnds-behind before first inner limit left ends old new is adds = record {
  lines =
      adds.lines
      ∙ ap (λ text. old ++ behind text (take limit ends)) is
      ∙ ap (λ t. old ++ t) (sym (behind-behind before first (take limit ends)) ∙ ap (behind before) (sym (take-behind limit first ends)));
  room = let same : length (behind first ends) ≡ length ends = length-map ends (λ path. first ++ path) in omega (arith, same, adds.room);
}

-- the paths in a function
pub missing_returns-added : (limit left : ℕ) (whole : function.Function) (before : List ℕ) (old new : List (List ℕ)) → before ≡ codes "body" → old ≡ []
    → AddsEnds before limit (open_ends New (tree_of whole.body)) old new left → new ≡ missing_returns limit whole
missing_returns-added limit left whole before old new is none adds =
    adds.lines ∙ (λ i. none i ++ behind (is i) (take limit (open_ends New (tree_of whole.body))))

-- ---- what calls return

-- the path with a step to a block, whose name follows the bracket
pub inner-path : (before : List ℕ) (position : ℕ) (name : List ℕ)
    → before ++ (codes "[" ++ (decimal position ++ (codes "]" ++ name))) ≡ before ++ ((codes "[" ++ (decimal position ++ codes "]")) ++ name)
inner-path before position name = simp append_assoc

-- the same for a step to the body of a case
pub case-path : (before : List ℕ) (position number : ℕ)
    → ((before ++ (codes "[" ++ (decimal position ++ codes "].cases["))) ++ decimal number) ++ codes "].body" ≡ before ++ inner_path position (case_name number)
case-path before position number = simp append_assoc

module _ {E : Type 0} (r : Result ℕ E) (before : List ℕ) (limit : ℕ) (old new : List (List ℕ)) where
  -- these ends, by another name
  pub IfOk-AddsEnds : (ends others : List (List ℕ)) → ends ≡ others → IfOk r (AddsEnds before limit ends old new)
      → IfOk r (AddsEnds before limit others old new)
  IfOk-AddsEnds ends others same adds = subst (λ list. IfOk r (AddsEnds before limit list old new)) same adds

-- no ends, by another name
pub AddsEnds-named : (before : List ℕ) (limit : ℕ) (old ends : List (List ℕ)) → [] ≡ ends → AddsEnds before limit ends old old limit
AddsEnds-named before limit old ends same =
    subst (λ list. AddsEnds before limit list old old limit) same (AddsEnds-none before limit old)

-- the ends of a case that falls through, and of one that does not
pub unless-true : (falls_through : Bool) (ends : List (List ℕ)) → falls_through ≡ true → [] ≡ ends_unless falls_through ends
unless-true falls_through ends is = ap (λ t. ends_unless t ends) (sym is)

pub unless-false : (falls_through : Bool) (ends : List (List ℕ)) → falls_through ≡ false → ends ≡ ends_unless falls_through ends
unless-false falls_through ends is = ap (λ t. ends_unless t ends) (sym is)

pub IfOk-behind : {E : Type 0} (r : Result ℕ E) (before first inner : List ℕ) (limit : ℕ) (ends old new : List (List ℕ))
    → inner ≡ before ++ first → IfOk r (AddsEnds inner limit ends old new) → IfOk r (AddsEnds before limit (behind first ends) old new)
IfOk-behind (Err error) before first inner limit ends old new is adds = tt
IfOk-behind (Ok left) before first inner limit ends old new is adds = AddsEnds-behind before first inner limit left ends old new is adds

pub IfOk-both : {E : Type 0} (r : Result ℕ E) (before : List ℕ) (limit middle : ℕ) (ends others old between new : List (List ℕ))
    → AddsEnds before limit ends old between middle → IfOk r (AddsEnds before middle others between new)
    → IfOk r (AddsEnds before limit (ends ++ others) old new)
IfOk-both (Err error) before limit middle ends others old between new first second = tt
IfOk-both (Ok left) before limit middle ends others old between new first second =
    AddsEnds-both before limit middle left ends others old between new first second

-- ---- the last statement of a block

size-pushed : (front : Tree) (xs : List (Statement × Span)) → size (pushed front xs) ≡ size front + length xs
size-pushed front [] = omega arith
size-pushed front (x ∷ xs) = let later = size-pushed (push front (node_of x.0) x.1) xs in omega (arith, later)

-- the ends of a block with this last statement
pub open_ends-last : (rule : Rule) (b : Block) (last : Statement) → slice_get (statements b) (length (pairs b) - 1) ≡ Some last
    → open_ends rule (tree_of b) ≡ ends_at rule (length (pairs b) - 1) (node_of last)
open_ends-last rule b last found =
    let one = by_last b (length (pairs b) - 1) last last [] (length-by_last b last found) found in
    let long : size (tree_of b) ≡ 0 + length (pairs b) = size-pushed empty (pairs b) in
    let whole : size (tree_of b) ≡ size one.before + 1 = ap size one.whole in
    let position : size one.before ≡ length (pairs b) - 1 = omega (arith, long, whole) in
    ap (open_ends rule) one.whole ∙ ap (λ n. ends_at rule n (node_of last)) position

-- the ends of an empty block
pub open_ends-none : (rule : Rule) (b : Block) → slice_get (statements b) (length (pairs b) - 1) ≡ None → open_ends rule (tree_of b) ≡ [] ∷ []
open_ends-none rule b none = ap (open_ends rule) (pushed-none (pairs b) none)

-- ---- the bodies of cases

pub ends_in_cases-each : (rule : Rule) (position number : ℕ) (cases : List SwitchCase)
    → ends_in_cases rule position number (cases_of cases) ≡ flat_map (ends_in_case rule position) (enumerate_from number cases)
ends_in_cases-each rule position number [] = refl
ends_in_cases-each rule position number (x ∷ cases) =
    ap (λ ends. ends_in_case rule position (number, x) ++ ends) (ends_in_cases-each rule position (number + 1) cases)

module _ {X : Type 0} (f : ℕ × X → List (List ℕ)) where
  -- one case more
  pub ends-more : (k i : ℕ) (xs : List X) (x : X) → slice_get xs i ≡ Some x
      → flat_map f (enumerate_from k (take (i + 1) xs)) ≡ flat_map f (enumerate_from k (take i xs)) ++ f (k + i, x)
  ends-more k i [] x at = cc
  ends-more k zero (y ∷ xs) x at =
      let here : y ≡ x = cc in
      let same : k ≡ k + 0 = omega arith in
      let long : zero + 1 ≡ 1 = omega arith in
      ap (λ n. flat_map f (enumerate_from k (take n (y ∷ xs)))) long
      ∙ append-nil (f (k, y)) ∙ (λ j. f (same j, here j))
  ends-more k (suc i) (y ∷ xs) x at =
      let moved : (k + 1) + i ≡ k + suc i = omega arith in
      let long : suc i + 1 ≡ suc (i + 1) = omega arith in
      ap (λ n. flat_map f (enumerate_from k (take n (y ∷ xs)))) long
      ∙ ap (λ t. f (k, y) ++ t) (ends-more (k + 1) i xs x at)
      ∙ sym (append_assoc (f (k, y)) (flat_map f (enumerate_from (k + 1) (take i xs))) (f ((k + 1) + i, x)))
      ∙ ap (λ n. (f (k, y) ++ flat_map f (enumerate_from (k + 1) (take i xs))) ++ f (n, x)) moved

  pub ends-all : (i : ℕ) (xs : List X) → length xs ≤ i → flat_map f (enumerate_from 0 (take i xs)) ≡ flat_map f (enumerate_from 0 xs)
  ends-all i xs past = ap (λ those. flat_map f (enumerate_from 0 those)) (take_all i xs past)

-- one case more
pub AddsEnds-next : (before : List ℕ) (limit middle left : ℕ) (rule : Rule) (position : ℕ) (cases : List SwitchCase) (number : ℕ) (one : SwitchCase) (old between new : List (List ℕ))
    → slice_get cases number ≡ Some one
    → AddsEnds before limit (flat_map (ends_in_case rule position) (enumerate_from 0 (take number cases))) old between middle
    → AddsEnds before middle (ends_in_case rule position (number, one)) between new left
    → AddsEnds before limit (flat_map (ends_in_case rule position) (enumerate_from 0 (take (number + 1) cases))) old new left
AddsEnds-next before limit middle left rule position cases number one old between new at first second =
    let f = ends_in_case rule position in
    let same : 0 + number ≡ number = omega arith in
    let more : flat_map f (enumerate_from 0 (take number cases)) ++ f (number, one) ≡ flat_map f (enumerate_from 0 (take (number + 1) cases)) =
    ap (λ n. flat_map f (enumerate_from 0 (take number cases)) ++ f (n, one)) (sym same) ∙ sym (ends-more f 0 number cases one at) in
    subst (λ ends. AddsEnds before limit ends old new left) more
    (AddsEnds-both before limit middle left (flat_map f (enumerate_from 0 (take number cases))) (f (number, one)) old between new first second)

-- all cases
pub AddsEnds-cases : (before : List ℕ) (limit left : ℕ) (rule : Rule) (position : ℕ) (cases : List SwitchCase) (number : ℕ) (old new : List (List ℕ))
    → length cases ≤ number
    → AddsEnds before limit (flat_map (ends_in_case rule position) (enumerate_from 0 (take number cases))) old new left
    → AddsEnds before limit (ends_in_cases rule position 0 (cases_of cases)) old new left
AddsEnds-cases before limit left rule position cases number old new past adds =
    subst (λ ends. AddsEnds before limit ends old new left)
    (ends-all (ends_in_case rule position) number cases past ∙ sym (ends_in_cases-each rule position 0 cases)) adds

-- ---- how many ends there are

length-behind : (first : List ℕ) (paths : List (List ℕ)) → length (behind first paths) ≡ length paths
length-behind first paths = length-map paths (λ path. first ++ path)

length-end_if : (is : Bool) → length (end_if is) ≡ one_if is
length-end_if true = refl
length-end_if false = refl

length-ends_unless : (falls_through : Bool) (ends : List (List ℕ)) → length (ends_unless falls_through ends) ≡ open_unless falls_through (length ends)
length-ends_unless true ends = refl
length-ends_unless false ends = refl

module _ (rule : Rule) where
  mutual
    pub open_ends-length : (block : Tree) → length (open_ends rule block) ≡ open_tails rule block
    open_ends-length empty = refl
    open_ends-length (push front last span) = ends_at-length (size front) last

    ends_at-length : (position : ℕ) (last : Node) → length (ends_at rule position last) ≡ open_at rule last
    ends_at-length position (plain what) = refl
    ends_at-length position (nested inner) = length-behind (inner_path position (codes ".block")) (open_ends rule inner) ∙ open_ends-length inner
    ends_at-length position (branch condition accept reject) =
        length-append (behind (inner_path position (codes ".accept")) (open_ends rule accept)) (behind (inner_path position (codes ".reject")) (open_ends rule reject))
        ∙ (λ i. (length-behind (inner_path position (codes ".accept")) (open_ends rule accept) ∙ open_ends-length accept) i
        + (length-behind (inner_path position (codes ".reject")) (open_ends rule reject) ∙ open_ends-length reject) i)
    ends_at-length position (switch selector cases) =
        length-append (ends_in_cases rule position 0 cases) (end_if (follows_switch rule cases))
        ∙ (λ i. ends_in_cases-length position 0 cases i + length-end_if (follows_switch rule cases) i)
    ends_at-length position (loop body continuing break_if) = refl
    ends_at-length position (jump to) = refl

    ends_in_cases-length : (position number : ℕ) (cases : Cases) → length (ends_in_cases rule position number cases) ≡ open_in_cases rule cases
    ends_in_cases-length position number no_cases = refl
    ends_in_cases-length position number (case value body falls_through others) =
        length-append (ends_unless falls_through (behind (inner_path position (case_name number)) (open_ends rule body))) (ends_in_cases rule position (number + 1) others)
        ∙ (λ i. (length-ends_unless falls_through (behind (inner_path position (case_name number)) (open_ends rule body))
        ∙ ap (open_unless falls_through) (length-behind (inner_path position (case_name number)) (open_ends rule body) ∙ open_ends-length body)) i
        + ends_in_cases-length position (number + 1) others i)
