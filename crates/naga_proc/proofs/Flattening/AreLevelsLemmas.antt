-- The steps of flattening: the handles that are opened, and those that are yielded.
use Rattle.std.proofs.Common.{◌≡◌, ℕ, ◌+◌, ◌<◌, List, [], ◌∷◌, ◌++◌, sym, ap, subst, ◌∙◌, length}
use Rattle.std.proofs.lemmas.List.Elements.{All-tail}
use Rattle.naga_arena.specs.declared.span.Span.{Span}
use Rattle.naga_ir.specs.declared.expression.Expression.{Expression}
use Rattle.naga_proc.specs.Flatten.{AreIn, AreLevels, opened, parts}

-- everything that is looked up in these levels is there, and `handles` are the handles that they yield
pub record Left (arena : List (Expression × Span)) (inner middle outer handles : List ℕ) : Type 0 where
  pub levels : AreLevels arena inner middle outer
  pub same : inner ++ opened arena (middle ++ opened arena outer) ≡ handles

-- `handle` was yielded, and these levels are left
pub record Gave (arena : List (Expression × Span)) (handle : ℕ) (inner middle outer handles : List ℕ) : Type 0 where
  pub levels : AreLevels arena inner middle outer
  pub same : handles ≡ handle ∷ (inner ++ opened arena (middle ++ opened arena outer))

-- an upper bound of the number of handles that are still to be opened
abbrev pub work : List (Expression × Span) → List ℕ → List ℕ → ℕ
work arena middle outer = length (middle ++ opened arena outer) + length outer

module _ (arena : List (Expression × Span)) (first : ℕ) where
  Gave-from_inner : (rest middle outer handles : List ℕ) → Left arena (first ∷ rest) middle outer handles → Gave arena first rest middle outer handles
  Gave-from_inner rest middle outer handles left =
      record {
        levels = record {
          outer_in = left.levels.outer_in;
          middle_in = left.levels.middle_in;
          inner_in = All-tail (λ handle. handle < length arena) first _ left.levels.inner_in;
        };
        same = sym left.same;
      }

  Left-into_inner : (components rest outer handles : List ℕ) → parts arena first ≡ components → Left arena [] (first ∷ rest) outer handles → Left arena components rest outer handles
  Left-into_inner components rest outer handles is left =
      let opens : opened arena (first ∷ rest ++ opened arena outer) ≡ components ++ opened arena (rest ++ opened arena outer) =
      ap (λ given. given ++ opened arena (rest ++ opened arena outer)) is
      in
      record {
        levels = record {
          outer_in = left.levels.outer_in;
          middle_in = All-tail (λ handle. handle < length arena) first _ left.levels.middle_in;
          inner_in = subst (AreIn arena) opens left.levels.inner_in;
        };
        same = sym opens ∙ left.same;
      }

  Left-into_middle : (components rest handles : List ℕ) → parts arena first ≡ components → Left arena [] [] (first ∷ rest) handles → Left arena [] components rest handles
  Left-into_middle components rest handles is left =
      let opens : opened arena (first ∷ rest) ≡ components ++ opened arena rest =
      ap (λ given. given ++ opened arena rest) is
      in
      record {
        levels = record {
          outer_in = All-tail (λ handle. handle < length arena) first _ left.levels.outer_in;
          middle_in = subst (AreIn arena) opens left.levels.middle_in;
          inner_in = subst (λ once. AreIn arena (opened arena once)) opens left.levels.inner_in;
        };
        same = ap (opened arena) (sym opens) ∙ left.same;
      }

  -- the same for levels that are only known to be equal to such levels
  pub Gave-inner : (inner rest middle outer handles : List ℕ) → inner ≡ first ∷ rest → Left arena inner middle outer handles → Gave arena first rest middle outer handles
  Gave-inner inner rest middle outer handles some left =
      Gave-from_inner rest middle outer handles (subst (λ i. Left arena i middle outer handles) some left)

  Left-middle : (inner middle rest outer handles : List ℕ) → inner ≡ [] → middle ≡ first ∷ rest → Left arena inner middle outer handles → Left arena [] (first ∷ rest) outer handles
  Left-middle inner middle rest outer handles none some left =
      subst (λ m. Left arena [] m outer handles) some (subst (λ i. Left arena i middle outer handles) none left)

  Left-outer : (inner middle outer rest handles : List ℕ) → inner ≡ [] → middle ≡ [] → outer ≡ first ∷ rest → Left arena inner middle outer handles → Left arena [] [] (first ∷ rest) handles
  Left-outer inner middle outer rest handles none also_none some left =
      subst (λ o. Left arena [] [] o handles) some
      (subst (λ m. Left arena [] m outer handles) also_none (subst (λ i. Left arena i middle outer handles) none left))

  pub Left-opened_middle : (inner middle components rest outer handles : List ℕ) → inner ≡ [] → middle ≡ first ∷ rest → parts arena first ≡ components → Left arena inner middle outer handles → Left arena components rest outer handles
  Left-opened_middle inner middle components rest outer handles none some is left =
      Left-into_inner components rest outer handles is (Left-middle inner middle rest outer handles none some left)

  pub Gave-middle : (inner middle rest outer handles : List ℕ) → inner ≡ [] → middle ≡ first ∷ rest → parts arena first ≡ first ∷ [] → Left arena inner middle outer handles → Gave arena first inner rest outer handles
  Gave-middle inner middle rest outer handles none some is left =
      let gave = Gave-from_inner [] rest outer handles (Left-into_inner (first ∷ []) rest outer handles is (Left-middle inner middle rest outer handles none some left)) in
      subst (λ i. Gave arena first i rest outer handles) (sym none) gave

  pub Left-opened_outer : (inner middle outer components rest handles : List ℕ) → inner ≡ [] → middle ≡ [] → outer ≡ first ∷ rest → parts arena first ≡ components → Left arena inner middle outer handles → Left arena inner components rest handles
  Left-opened_outer inner middle outer components rest handles none also_none some is left =
      subst (λ i. Left arena i components rest handles) (sym none)
      (Left-into_middle components rest handles is (Left-outer inner middle outer rest handles none also_none some left))

  pub Gave-outer : (inner middle outer rest handles : List ℕ) → inner ≡ [] → middle ≡ [] → outer ≡ first ∷ rest → parts arena first ≡ first ∷ [] → Left arena inner middle outer handles → Gave arena first inner middle rest handles
  Gave-outer inner middle outer rest handles none also_none some is left =
      let once = Left-into_middle (first ∷ []) rest handles is (Left-outer inner middle outer rest handles none also_none some left) in
      let gave = Gave-from_inner [] [] rest handles (Left-into_inner (first ∷ []) [] rest handles is once) in
      subst (λ m. Gave arena first inner m rest handles) (sym also_none) (subst (λ i. Gave arena first i [] rest handles) (sym none) gave)
