-- Counts of blocks, one block after another.
use Rattle.std.proofs.Common.{◌≡◌, ◌∙◌, sym, ap, ℕ, ◌+◌, ◌-◌, ◌^◌, ◌<◌, ◌≤◌, List, [], ◌∷◌, ◌++◌, length, get_or, drop, map, zero-add, add-one, arith}
use Rattle.std.proofs.Math.Seq.{drop-cons}
use Rattle.std.proofs.lemmas.List.{drop_all}
use Rattle.std.proofs.lemmas.List.Sums.{sum_by-append}
use Rattle.std.specs.Prelude.{min, sum_by}
use Rattle.naga_ir.specs.Tree.{Tree}
use Rattle.naga_proc.specs.declared.terminator.rule.Rule.TheVariants.{New, Old}
use Rattle.naga_look.specs.Counts.{open_tails, statement_count}
use Rattle.naga_look.specs.Summary.{no_counts, plus, saturating_sum, with_blocks}
use Rattle.naga_look.specs.declared.summary.counts.Counts.{Counts}
use Rattle.naga_look.proofs.SaturatingSumLemmas.{saturating_sum-again, saturating_sum-fits, saturating_sum-none}

-- equal parts make equal counts
Counts-parts : {a a' b b' c c' : ℕ} → a ≡ a' → b ≡ b' → c ≡ c' →
    ◌≡◌ {A = Counts} (record { statements = a; open_tails = b; open_tails_old = c }) (record { statements = a'; open_tails = b'; open_tails_old = c' })
Counts-parts p q r = λ i. record { statements = p i; open_tails = q i; open_tails_old = r i }

again : (counted : ℕ) (f : Tree → ℕ) (xs ys : List Tree) → saturating_sum (saturating_sum counted (sum_by f xs)) (sum_by f ys) ≡ saturating_sum counted (sum_by f (xs ++ ys))
again counted f xs ys =
    saturating_sum-again counted (sum_by f xs) (sum_by f ys) ∙ ap (saturating_sum counted) (sym (sum_by-append f xs ys))

-- more blocks, one list after the other
pub with_blocks-again : (counts : Counts) (xs ys : List Tree) → with_blocks (with_blocks counts xs) ys ≡ with_blocks counts (xs ++ ys)
with_blocks-again counts xs ys =
    Counts-parts (again counts.statements statement_count xs ys) (again counts.open_tails (open_tails New) xs ys) (again counts.open_tails_old (open_tails Old) xs ys)

-- each count fits its type
pub record AreInRange (counts : Counts) : Type 0 where
  pub statements : counts.statements < 2 ^ 64
  pub open_tails : counts.open_tails < 2 ^ 64
  pub open_tails_old : counts.open_tails_old < 2 ^ 64

pub with_blocks-none : (counts : Counts) → AreInRange counts → counts ≡ with_blocks counts []
with_blocks-none counts fits =
    Counts-parts (saturating_sum-none counts.statements fits.statements) (saturating_sum-none counts.open_tails fits.open_tails) (saturating_sum-none counts.open_tails_old fits.open_tails_old)

pub no_counts-fits : AreInRange no_counts
no_counts-fits = record { statements = omega arith; open_tails = omega arith; open_tails_old = omega arith }

pub with_blocks-fits : (now new : Counts) (blocks : List Tree) → new ≡ with_blocks now blocks → AreInRange new
with_blocks-fits now new blocks is = record {
  statements = saturating_sum-fits now.statements new.statements (sum_by statement_count blocks) (ap (λ c. c.statements) is);
  open_tails = saturating_sum-fits now.open_tails new.open_tails (sum_by (open_tails New) blocks) (ap (λ c. c.open_tails) is);
  open_tails_old = saturating_sum-fits now.open_tails_old new.open_tails_old (sum_by (open_tails Old) blocks) (ap (λ c. c.open_tails_old) is);
}

min-both : (m x y : ℕ) → min (min (0 + x) m + min (0 + y) m) m ≡ min (0 + (x + y)) m
min-both m x y = omega arith

both : (f : Tree → ℕ) (xs ys : List Tree) → saturating_sum (saturating_sum 0 (sum_by f xs)) (saturating_sum 0 (sum_by f ys)) ≡ saturating_sum 0 (sum_by f (xs ++ ys))
both f xs ys = min-both (2 ^ 64 - 1) (sum_by f xs) (sum_by f ys) ∙ ap (saturating_sum 0) (sym (sum_by-append f xs ys))

-- the counts of two lists together
pub with_blocks-plus : (xs ys : List Tree) → plus (with_blocks no_counts xs) (with_blocks no_counts ys) ≡ with_blocks no_counts (xs ++ ys)
with_blocks-plus xs ys = Counts-parts (both statement_count xs ys) (both (open_tails New) xs ys) (both (open_tails Old) xs ys)

one : (counted : ℕ) (f : Tree → ℕ) (block : Tree) → saturating_sum counted (f block) ≡ saturating_sum counted (sum_by f (block ∷ []))
one counted f block = ap (saturating_sum counted) (sym (zero-add (f block)))

-- the counts of one block
pub with_blocks-one : (counts : Counts) (block : Tree) (a b c : ℕ) →
    a ≡ saturating_sum counts.statements (statement_count block) → b ≡ saturating_sum counts.open_tails (open_tails New block) → c ≡ saturating_sum counts.open_tails_old (open_tails Old block) →
    ◌≡◌ {A = Counts} (record { statements = a; open_tails = b; open_tails_old = c }) (with_blocks counts (block ∷ []))
with_blocks-one counts block a b c p q r =
    Counts-parts (p ∙ one counts.statements statement_count block) (q ∙ one counts.open_tails (open_tails New) block) (r ∙ one counts.open_tails_old (open_tails Old) block)

-- ---- the blocks of a list, by the index of the first one that is still to be counted

module _ {X : Type 0} (body : X → Tree) where
  pub counted-at : (now new whole : Counts) (items : List X) (i : ℕ) (x : X) → i < length items → x ≡ get_or items i x → with_blocks now (map body (drop i items)) ≡ whole → new ≡ with_blocks now (body x ∷ []) → with_blocks new (map body (drop (i + 1) items)) ≡ whole
  counted-at now new whole items i x inside is so first =
      let split : drop i items ≡ x ∷ drop (i + 1) items =
      drop-cons items i x inside ∙ ap (λ n. get_or items i x ∷ drop n items) (sym (add-one i)) ∙ ap (λ y. y ∷ drop (i + 1) items) (sym is)
      in
      ap (λ t. with_blocks t (map body (drop (i + 1) items))) first
      ∙ (with_blocks-again now (body x ∷ []) (map body (drop (i + 1) items))
      ∙ (ap (λ xs. with_blocks now (map body xs)) (sym split) ∙ so))

  pub counted-past : (now whole : Counts) (items : List X) (i : ℕ) → length items ≤ i → AreInRange now → with_blocks now (map body (drop i items)) ≡ whole → now ≡ whole
  counted-past now whole items i past fits so =
      with_blocks-none now fits ∙ (ap (λ xs. with_blocks now (map body xs)) (sym (drop_all i items past)) ∙ so)
