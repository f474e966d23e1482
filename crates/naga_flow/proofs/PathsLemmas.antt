-- The paths to the statements of a block, from its first statement on.
use Rattle.std.proofs.Common.{◌≡◌, ◌∙◌, ap, sym, refl, ℕ, zero, suc, ◌+◌, ◌-◌, ◌^◌, ◌<◌, ◌≤◌, List, [], ◌∷◌, ◌++◌, Some, None, length, map, arith, drop, slice_get}
use Rattle.std.proofs.lemmas.List.{append-nil, append_assoc, get_or-append_right, get_or-map, get_or_append_left, length-append, length-map}
use Rattle.std.proofs.lemmas.Option.{slice_get_within, unwrap_or-slice_get}
use Rattle.std.specs.Option.{unwrap_or}
use Rattle.std.specs.Prelude.{min}
use Rattle.naga_arena.specs.declared.span.Span.{Span}
use Rattle.naga_ir.specs.Block.{statements, pairs}
use Rattle.naga_ir.specs.Tree.{Tree, empty, push}
use Rattle.naga_ir.specs.View.{cases_of, node_of, pushed, tree_of}
use Rattle.naga_ir.specs.declared.block.Block.{Block}
use Rattle.naga_ir.specs.declared.statement.Statement.{Statement}
use Rattle.naga_ir.specs.declared.statement.SwitchCase.{SwitchCase}
use Rattle.naga_flow.proofs.JumpsLemmas.{drop-here}
use Rattle.naga_flow.specs.Paths.{behind, counted, either, path_at, paths_in, paths_in_cases, paths_inside, position_text, size, step_text}
use Rattle.naga_flow.specs.declared.path.Step.{Step}
use Rattle.naga_flow.specs.declared.path.Step.TheVariants as step

-- ---- the statements of a list

-- the paths to statements, the first of which has this position
abbrev pub paths_from : ℕ → List Statement → List (List ℕ)
paths_from position [] = []
paths_from position (x ∷ xs) =
    behind (position_text position) ([] ∷ paths_inside (node_of x)) ++ paths_from (position + 1) xs

paths_in-pushed : (front : Tree) (xs : List (Statement × Span)) →
    paths_in (pushed front xs) ≡ paths_in front ++ paths_from (size front) (map (λ x. x.0) xs)
paths_in-pushed front [] = sym (append-nil (paths_in front))
paths_in-pushed front (x ∷ xs) =
    paths_in-pushed (push front (node_of x.0) x.1) xs
    ∙ append_assoc (paths_in front) (behind (position_text (size front)) ([] ∷ paths_inside (node_of x.0))) (paths_from (size front + 1) (map (λ y. y.0) xs))

pub paths_in-statements : (b : Block) → paths_in (tree_of b) ≡ paths_from 0 (statements b)
paths_in-statements b = paths_in-pushed empty (pairs b)

-- ---- numbers of paths

-- the number of statements of a list, and of those inside them
abbrev pub count_of : List Statement → ℕ
count_of [] = 0
count_of (x ∷ xs) = suc (length (paths_inside (node_of x))) + count_of xs

length-behind : (first : List ℕ) (paths : List (List ℕ)) → length (behind first paths) ≡ length paths
length-behind first paths = length-map paths (λ path. first ++ path)

length-paths_from : (position : ℕ) (xs : List Statement) → length (paths_from position xs) ≡ count_of xs
length-paths_from position [] = refl
length-paths_from position (x ∷ xs) =
    length-append (behind (position_text position) ([] ∷ paths_inside (node_of x))) (paths_from (position + 1) xs)
    ∙ (λ i. length-behind (position_text position) ([] ∷ paths_inside (node_of x)) i + length-paths_from (position + 1) xs i)

-- the number of statements in the bodies of cases
abbrev pub count_in : List SwitchCase → ℕ
count_in [] = 0
count_in (x ∷ xs) = length (paths_in (tree_of x.body)) + count_in xs

length-paths_in_cases : (position : ℕ) (xs : List SwitchCase) → length (paths_in_cases position (cases_of xs)) ≡ count_in xs
length-paths_in_cases position [] = refl
length-paths_in_cases position (x ∷ xs) =
    length-append (behind (step_text (step.Case position)) (paths_in (tree_of x.body))) (paths_in_cases (position + 1) (cases_of xs))
    ∙ (λ i. length-behind (step_text (step.Case position)) (paths_in (tree_of x.body)) i + length-paths_in_cases (position + 1) xs i)

-- a count that goes on with so many
abbrev pub counts : ℕ → ℕ → ℕ
counts count more = min (count + more) (2 ^ 64 - 1)

min-start : (m a b : ℕ) → b ≡ a → min (0 + a) m ≡ min b m
min-start m a b is = omega (arith, is)

pub counts-statements : (b : Block) → counts 0 (count_of (statements b)) ≡ counted (paths_in (tree_of b))
counts-statements b =
    min-start (2 ^ 64 - 1) (count_of (statements b)) (length (paths_in (tree_of b)))
    (ap length (paths_in-statements b) ∙ length-paths_from 0 (statements b))

pub counts-cases : (xs : List SwitchCase) → counts 0 (count_in xs) ≡ counted (paths_in_cases 0 (cases_of xs))
counts-cases xs = min-start (2 ^ 64 - 1) (count_in xs) (length (paths_in_cases 0 (cases_of xs))) (length-paths_in_cases 0 xs)

min-none : (m c : ℕ) → c < m + 1 → c ≡ min (c + 0) m
min-none m c within = omega (arith, within)

-- a count that ends
pub counts-none : (count : ℕ) → count < 2 ^ 64 → count ≡ counts count 0
counts-none count within = min-none (2 ^ 64 - 1) count within

min-both : (m a b : ℕ) → min (min a m + min b m) m ≡ min (a + b) m
min-both m a b = omega arith

min-statement : (m count inside rest : ℕ) → min (min (min (count + 1) m + min inside m) m + rest) m ≡ min (count + (suc inside + rest)) m
min-statement m count inside rest = omega arith

min-case : (m count inside rest : ℕ) → min (min (count + min inside m) m + rest) m ≡ min (count + (inside + rest)) m
min-case m count inside rest = omega arith

-- a statement is counted with those inside it
pub counts-statement : (count : ℕ) (x : Statement) (xs rest : List Statement) (next : ℕ) → xs ≡ x ∷ rest →
    next ≡ counts (counts count 1) (counted (paths_inside (node_of x))) → counts next (count_of rest) ≡ counts count (count_of xs)
counts-statement count x xs rest next is next_is =
    ap (λ n. counts n (count_of rest)) next_is
    ∙ (min-statement (2 ^ 64 - 1) count (length (paths_inside (node_of x))) (count_of rest) ∙ ap (λ ys. counts count (count_of ys)) (sym is))

-- the statements of the body of a case are counted
pub counts-case : (count : ℕ) (x : SwitchCase) (xs rest : List SwitchCase) (next : ℕ) → xs ≡ x ∷ rest →
    next ≡ counts count (counted (paths_in (tree_of x.body))) → counts next (count_in rest) ≡ counts count (count_in xs)
counts-case count x xs rest next is next_is =
    ap (λ n. counts n (count_in rest)) next_is
    ∙ (min-case (2 ^ 64 - 1) count (length (paths_in (tree_of x.body))) (count_in rest) ∙ ap (λ ys. counts count (count_in ys)) (sym is))

-- the statements of two blocks are counted
pub counted-either : (steps : Step × Step) (firsts seconds : List (List ℕ)) →
    counts (counted firsts) (counted seconds) ≡ counted (either steps firsts seconds)
counted-either steps firsts seconds =
    min-both (2 ^ 64 - 1) (length firsts) (length seconds)
    ∙ ap (λ n. min n (2 ^ 64 - 1)) (sym (length-append (behind (step_text steps.0) firsts) (behind (step_text steps.1) seconds)
    ∙ (λ i. length-behind (step_text steps.0) firsts i + length-behind (step_text steps.1) seconds i)))

pub counted-behind : (first : List ℕ) (paths : List (List ℕ)) → counted paths ≡ counted (behind first paths)
counted-behind first paths = ap (λ n. min n (2 ^ 64 - 1)) (sym (length-behind first paths))

-- ---- the path with a number

within-counted : (m n l : ℕ) → n < min l m → n < l
within-counted m n l lt = omega (arith, lt)

-- a path of a list that comes first
pub path_at-first : (first : List ℕ) (paths more : List (List ℕ)) (number : ℕ) → number < counted paths →
    first ++ path_at paths number ≡ path_at (behind first paths ++ more) number
path_at-first first paths more number lt =
    let within : number < length paths = within-counted (2 ^ 64 - 1) number (length paths) lt in
    sym (get_or_append_left (behind first paths) more [] number (rw (length-behind first paths) within)
    ∙ get_or-map (λ path. first ++ path) paths number [] [] within)

passed-is : (m n l : ℕ) → n < m → ¬ (n < min l m) → l ≡ min l m
passed-is m n l small ge = omega (arith, small, ge)

-- a path of a list that comes after one that is counted
pub path_at-later : (first : List ℕ) (paths more : List (List ℕ)) (number : ℕ) → number < 2 ^ 64 - 1 → ¬ (number < counted paths) →
    path_at more (number - counted paths) ≡ path_at (behind first paths ++ more) number
path_at-later first paths more number small ge =
    let is : length paths ≡ counted paths = passed-is (2 ^ 64 - 1) number (length paths) small ge in
    sym (get_or-append_right (behind first paths) more (counted paths) number [] (length-behind first paths ∙ is) (omega (arith, ge)))

-- ---- the statement with a number

drop-none : {X : Type 0} (xs : List X) (i : ℕ) → slice_get xs i ≡ None → drop i xs ≡ []
drop-none [] zero e = refl
drop-none [] (suc i) e = refl
drop-none (x ∷ xs) zero e = absurd (cc)
drop-none (x ∷ xs) (suc i) e = drop-none xs i e

drop-found : {X : Type 0} (xs : List X) (i : ℕ) (x : X) → slice_get xs i ≡ Some x → drop i xs ≡ x ∷ drop (i + 1) xs
drop-found xs i x e = drop-here xs i x (slice_get_within xs i x e) (ap (λ o. unwrap_or o x) (sym e) ∙ unwrap_or-slice_get xs i x)

lower-than : (m left number l : ℕ) → left ≡ suc l → left ≤ number → number < m + 1 → l < m
lower-than m left number l is le within = omega (arith, is, le, within)

module _ (b : Block) (position left number : ℕ) (so : path_at (paths_from position (drop position (statements b))) left ≡ path_at (paths_in (tree_of b)) number) where
  -- there is no statement at the position
  pub path-past : slice_get (statements b) position ≡ None → [] ≡ path_at (paths_in (tree_of b)) number
  path-past e = ap (λ xs. path_at (paths_from position xs) left) (sym (drop-none (statements b) position e)) ∙ so

  module _ (x : Statement) (found : slice_get (statements b) position ≡ Some x) where
    paths-here : paths_from position (x ∷ drop (position + 1) (statements b)) ≡ paths_from position (drop position (statements b))
    paths-here = ap (paths_from position) (sym (drop-found (statements b) position x found))

    -- it is the statement at the position
    pub path-begins : left ≡ 0 → position_text position ++ [] ≡ path_at (paths_in (tree_of b)) number
    path-begins none = (λ i. path_at (paths-here i) (sym none i)) ∙ so

    module _ (l : ℕ) (is : left ≡ suc l) where
      -- it is inside the statement at the position
      pub path-inside : l < counted (paths_inside (node_of x)) →
          position_text position ++ path_at (paths_inside (node_of x)) l ≡ path_at (paths_in (tree_of b)) number
      path-inside lt =
          path_at-first (position_text position) (paths_inside (node_of x)) (paths_from (position + 1) (drop (position + 1) (statements b))) l lt
          ∙ ((λ i. path_at (paths-here i) (sym is i)) ∙ so)

      -- it comes after the statement at the position
      pub path-later : left ≤ number → number < 2 ^ 64 → ¬ (l < counted (paths_inside (node_of x))) →
          path_at (paths_from (position + 1) (drop (position + 1) (statements b))) (l - counted (paths_inside (node_of x))) ≡ path_at (paths_in (tree_of b)) number
      path-later le within ge =
          path_at-later (position_text position) (paths_inside (node_of x)) (paths_from (position + 1) (drop (position + 1) (statements b))) l
          (lower-than (2 ^ 64 - 1) left number l is le within) ge
          ∙ ((λ i. path_at (paths-here i) (sym is i)) ∙ so)
