-- The appends, starts and finishes of a concatenation of two lists of commands.
use Rattle.std.proofs.Common.{◌≡◌, ◌∙◌, sym, ap, refl, ℕ, zero, suc, ◌+◌, List, [], ◌∷◌, ◌++◌, length, map, append_assoc, append-nil, arith}
use Rattle.std.proofs.lemmas.List.{map-append, length-map}
use Rattle.std.specs.List.{zip}
use Rattle.std.specs.Prelude.{option_to_list}
use Rattle.naga_arena.specs.declared.span.Span.{Span}
use Rattle.naga_ir.specs.declared.expression.Expression.{Expression}
use Rattle.naga_proc.specs.Building.{appended, starts, finishes, lengths, listed_with}
use Rattle.naga_proc.specs.Building.Emission.{emission}
use Rattle.naga_proc.specs.declared.builder.BuildCommand.{BuildCommand}
use Rattle.naga_proc.specs.declared.builder.BuildCommand.TheVariants.{Start, Append, Finish, Push}
use Rattle.naga_proc.proofs.Building.ZipLemmas.{zip-unpaired, zip-append}

pub appended-append : (xs ys : List BuildCommand) → appended (xs ++ ys) ≡ appended xs ++ appended ys
appended-append [] ys = refl
appended-append (Append expression span ∷ xs) ys =
    ap (λ rest. (expression, span) ∷ rest) (appended-append xs ys)
appended-append (_ ∷ xs) ys = appended-append xs ys

-- each number of the list, increased by the first argument
abbrev pub raised : ℕ → List ℕ → List ℕ
raised zero numbers = numbers
raised (suc by) numbers = map suc (raised by numbers)

pub raised-nil : (by : ℕ) → raised by [] ≡ []
raised-nil zero = refl
raised-nil (suc by) = ap (map suc) (raised-nil by)

pub raised-cons : (by number : ℕ) (numbers : List ℕ) → raised by (number ∷ numbers) ≡ (by + number) ∷ raised by numbers
raised-cons zero number numbers = let here : number ≡ 0 + number = omega arith in ap (λ n. n ∷ numbers) here
raised-cons (suc by) number numbers =
    let here : suc (by + number) ≡ suc by + number = omega arith in
    ap (map suc) (raised-cons by number numbers) ∙ ap (λ n. n ∷ map suc (raised by numbers)) here

pub starts-append : (xs ys : List BuildCommand) → starts (xs ++ ys) ≡ starts xs ++ raised (length (appended xs)) (starts ys)
starts-append [] ys = refl
starts-append (Start ∷ xs) ys = ap (λ rest. 0 ∷ rest) (starts-append xs ys)
starts-append (Append expression span ∷ xs) ys = ap (map suc) (starts-append xs ys) ∙ map-append suc (starts xs) _
starts-append (_ ∷ xs) ys = starts-append xs ys

pub finishes-append : (xs ys : List BuildCommand) → finishes (xs ++ ys) ≡ finishes xs ++ raised (length (appended xs)) (finishes ys)
finishes-append [] ys = refl
finishes-append (Finish ∷ xs) ys = ap (λ rest. 0 ∷ rest) (finishes-append xs ys)
finishes-append (Append expression span ∷ xs) ys =
    ap (map suc) (finishes-append xs ys) ∙ map-append suc (finishes xs) _
finishes-append (_ ∷ xs) ys = finishes-append xs ys

-- ---- one more command

module _ (commands : List BuildCommand) where
  raised-none-after : (by : ℕ) (xs none : List ℕ) → none ≡ [] → xs ++ raised by none ≡ xs
  raised-none-after by xs none e = ap (λ ys. xs ++ raised by ys) e ∙ ap (λ ys. xs ++ ys) (raised-nil by) ∙ append-nil xs

  raised-zero-after : (by : ℕ) (xs : List ℕ) → xs ++ raised by (0 ∷ []) ≡ xs ++ by ∷ []
  raised-zero-after by xs =
      let here : by + 0 ≡ by = omega arith in
      ap (λ ys. xs ++ ys) (raised-cons by 0 [] ∙ ap (λ n. n ∷ raised by []) here ∙ ap (λ ys. by ∷ ys) (raised-nil by))

  pub appended-without : (command : BuildCommand) → appended (command ∷ []) ≡ [] → appended (commands ++ command ∷ []) ≡ appended commands
  appended-without command none = appended-append commands (command ∷ []) ∙ ap (λ more. appended commands ++ more) none ∙ append-nil _

  pub starts-without : (command : BuildCommand) → starts (command ∷ []) ≡ [] → starts (commands ++ command ∷ []) ≡ starts commands
  starts-without command none = starts-append commands (command ∷ []) ∙ raised-none-after (length (appended commands)) (starts commands) _ none

  pub finishes-without : (command : BuildCommand) → finishes (command ∷ []) ≡ [] → finishes (commands ++ command ∷ []) ≡ finishes commands
  finishes-without command none = finishes-append commands (command ∷ []) ∙ raised-none-after (length (appended commands)) (finishes commands) _ none

  pub starts-Start : starts (commands ++ Start ∷ []) ≡ starts commands ++ length (appended commands) ∷ []
  starts-Start = starts-append commands (Start ∷ []) ∙ raised-zero-after (length (appended commands)) (starts commands)

  pub finishes-Finish : finishes (commands ++ Finish ∷ []) ≡ finishes commands ++ length (appended commands) ∷ []
  finishes-Finish = finishes-append commands (Finish ∷ []) ∙ raised-zero-after (length (appended commands)) (finishes commands)

  pub lengths-without : (command : BuildCommand) → starts (command ∷ []) ≡ [] → finishes (command ∷ []) ≡ [] → lengths (commands ++ command ∷ []) ≡ lengths commands
  lengths-without command no_start no_finish =
      λ i. zip (starts-without command no_start i) (finishes-without command no_finish i)

  pub lengths-Start : length (starts commands) ≡ length (finishes commands) → lengths (commands ++ Start ∷ []) ≡ lengths commands
  lengths-Start matched =
      (λ i. zip (starts-Start i) (finishes-without Start refl i)) ∙ zip-unpaired (starts commands) (finishes commands) (length (appended commands)) matched

  pub lengths-Finish : (earlier : List ℕ) (start : ℕ) → starts commands ≡ earlier ++ start ∷ [] → length earlier ≡ length (finishes commands) → lengths (commands ++ Finish ∷ []) ≡ lengths commands ++ (start, length (appended commands)) ∷ []
  lengths-Finish earlier start begun matched =
      (λ i. zip ((starts-without Finish refl ∙ begun) i) (finishes-Finish i))
      ∙ zip-append earlier (start ∷ []) (finishes commands) (length (appended commands) ∷ []) matched
      ∙ ap (λ pairs. pairs ++ (start, length (appended commands)) ∷ [])
      (sym ((λ i. zip (begun i) (finishes commands)) ∙ zip-unpaired earlier (finishes commands) start matched))

-- ---- the listed statements

module _ (arena : List (Expression × Span)) where
  pub listed_with-append : (xs ys : List BuildCommand) (ranges more : List (ℕ × ℕ)) → length ranges ≡ length (finishes xs) → listed_with arena (xs ++ ys) (ranges ++ more) ≡ listed_with arena xs ranges ++ listed_with arena ys more
  listed_with-append [] ys [] more e = refl
  listed_with-append [] ys (range ∷ ranges) more e = absurd (omega arith)
  listed_with-append (Push statement span ∷ xs) ys ranges more e =
      ap (λ rest. (statement, span) ∷ rest) (listed_with-append xs ys ranges more e)
  listed_with-append (Finish ∷ xs) ys [] more e = absurd (omega arith)
  listed_with-append (Finish ∷ xs) ys (range ∷ ranges) more e =
      ap (λ rest. option_to_list (emission arena range) ++ rest) (listed_with-append xs ys ranges more (omega arith))
      ∙ sym (append_assoc (option_to_list (emission arena range)) (listed_with arena xs ranges) (listed_with arena ys more))
  listed_with-append (Append expression span ∷ xs) ys ranges more e =
      listed_with-append xs ys ranges more (e ∙ length-map (finishes xs) suc)
  listed_with-append (Start ∷ xs) ys ranges more e = listed_with-append xs ys ranges more e
