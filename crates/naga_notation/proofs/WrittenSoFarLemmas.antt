-- The text written so far of a block and of a list of cases, one statement or case at a time.
use Rattle.std.proofs.Common.{◌≡◌, ℕ, ◌+◌, ◌<◌, List, [], ◌∷◌, ◌++◌, length, map, take, get_or, refl, ap, ◌∙◌, sym, subst, append_assoc, append-nil, length-append, arith, codes, is_some, Option}
use Rattle.std.specs.Prelude.{Result, Ok, Err, OnOk, is_ok, if◌then◌else◌}
use Rattle.std.proofs.Math.Seq.{get_or-append_seam}
use Rattle.std.proofs.lemmas.List.{take_more}
use Rattle.naga_arena.specs.declared.span.Span.{Span}
use Rattle.naga_ir.specs.Block.{pairs, statements}
use Rattle.naga_ir.specs.View.{node_of, tree, tree_of, cases_of}
use Rattle.naga_ir.specs.declared.block.Block.{Block, size-Block}
use Rattle.naga_ir.specs.declared.statement.Statement.{Statement, size-Statement}
use Rattle.naga_ir.specs.declared.statement.SwitchCase.{SwitchCase}
use Rattle.naga_ir.proofs.PushedLemmas.{tree-push}
use Rattle.naga_ir.proofs.SizeBlockLemmas.{size-Statement-lt}
use Rattle.naga_ir.specs.Tree.{nested, branch, switch, loop}
use Rattle.naga_notation.specs.Outline.{no_cases, loop_text, item_text, outline_text, case_text, cases_text, item_of, outline_of, cases_after}
use Rattle.naga_notation.proofs.OutlineOfLemmas.{cases_after-with_case}
use Rattle.naga_notation.proofs.ReachedOfLemmas.{cases_of-push}
use Rattle.naga_kinds.specs.Switch.{is_default_value}

-- the text of the pairs `front` has been written, and the statements `ahead` are the others of the block
pub record WrittenSoFar (block : Block) (ahead : List Statement) (old new : List ℕ) : Type 0 where
  pub front : List (Statement × Span)
  pub rest : List (Statement × Span)
  pub is : pairs block ≡ front ++ rest
  pub statements_are : map (λ pair. pair.0) rest ≡ ahead
  pub text : new ≡ old ++ outline_text (outline_of (tree front))

pub WrittenSoFar-start : (block : Block) (ahead : List Statement) (old : List ℕ) → ahead ≡ statements block → WrittenSoFar block ahead old old
WrittenSoFar-start block ahead old are =
    record { front = []; rest = pairs block; is = refl; statements_are = sym are; text = sym (append-nil old) }

WrittenSoFar-first : (pair : Statement × Span) (pairs : List (Statement × Span)) (s : Statement) (ahead : List Statement) → map (λ p. p.0) (pair ∷ pairs) ≡ s ∷ ahead → (pair.0 ≡ s) × (map (λ p. p.0) pairs ≡ ahead)
WrittenSoFar-first pair pairs s ahead are = (cc, cc)

WrittenSoFar-next_by : (block : Block) (front rest : List (Statement × Span)) (s : Statement) (ahead : List Statement) (old before after : List ℕ) → pairs block ≡ front ++ rest → map (λ pair. pair.0) rest ≡ s ∷ ahead → before ≡ old ++ outline_text (outline_of (tree front)) → after ≡ before ++ item_text (item_of (node_of s)) → WrittenSoFar block ahead old after
WrittenSoFar-next_by block front [] s ahead old before after is are written one_more = absurd cc
WrittenSoFar-next_by block front (pair ∷ rest) s ahead old before after is are written one_more =
    let first = WrittenSoFar-first pair rest s ahead are in
    let text : List ℕ = outline_text (outline_of (tree front)) in
    record {
      front = front ++ pair ∷ [];
      rest = rest;
      is = is ∙ sym (append_assoc front (pair ∷ []) rest);
      statements_are = first.1;
      text =
          one_more ∙ ap (λ t. t ++ item_text (item_of (node_of s))) written
          ∙ append_assoc old text (item_text (item_of (node_of s)))
          ∙ ap (λ n. old ++ (text ++ item_text (item_of (node_of n)))) (sym first.0)
          ∙ ap (λ t. old ++ outline_text (outline_of t)) (sym (tree-push front pair.0 pair.1));
    }

pub WrittenSoFar-next : (block : Block) (s : Statement) (ahead : List Statement) (old before after : List ℕ) → WrittenSoFar block (s ∷ ahead) old before → after ≡ before ++ item_text (item_of (node_of s)) → WrittenSoFar block ahead old after
WrittenSoFar-next block s ahead old before after so one_more =
    WrittenSoFar-next_by block so.front so.rest s ahead old before after so.is so.statements_are so.text one_more

WrittenSoFar-lt_by : (block : Block) (front rest : List (Statement × Span)) (s : Statement) (ahead : List Statement) → pairs block ≡ front ++ rest → map (λ pair. pair.0) rest ≡ s ∷ ahead → size-Statement s < size-Block block
WrittenSoFar-lt_by block front [] s ahead is are = absurd cc
WrittenSoFar-lt_by block front (pair ∷ rest) s ahead is are =
    let within : length front < length (pairs block) = omega (arith, ap length is, length-append front (pair ∷ rest)) in
    let here : get_or (pairs block) (length front) pair ≡ pair = ap (λ xs. get_or xs (length front) pair) is ∙ get_or-append_seam front pair rest pair in
    let first = WrittenSoFar-first pair rest s ahead are in
    subst (λ t. size-Statement t < size-Block block) (ap (λ p. p.0) here ∙ first.0) (size-Statement-lt block (length front) pair within)

-- the next statement is smaller than the block
pub WrittenSoFar-lt : (block : Block) (s : Statement) (ahead : List Statement) (old new : List ℕ) → WrittenSoFar block (s ∷ ahead) old new → size-Statement s < size-Block block
WrittenSoFar-lt block s ahead old new so = WrittenSoFar-lt_by block so.front so.rest s ahead so.is so.statements_are

WrittenSoFar-end_by : (block : Block) (front rest : List (Statement × Span)) (old new : List ℕ) → pairs block ≡ front ++ rest → map (λ pair. pair.0) rest ≡ [] → new ≡ old ++ outline_text (outline_of (tree front)) → new ≡ old ++ outline_text (outline_of (tree_of block))
WrittenSoFar-end_by block front [] old new is are written =
    written ∙ ap (λ xs. old ++ outline_text (outline_of (tree xs))) (sym (is ∙ append-nil front))
WrittenSoFar-end_by block front (pair ∷ rest) old new is are written = absurd cc

-- if no statement is left, the text of the block has been written
pub WrittenSoFar-end : (block : Block) (old new : List ℕ) → WrittenSoFar block [] old new → new ≡ old ++ outline_text (outline_of (tree_of block))
WrittenSoFar-end block old new so = WrittenSoFar-end_by block so.front so.rest old new so.is so.statements_are so.text

-- the text of the first cases and one more
pub cases_text-more : (cases : List SwitchCase) (i : ℕ) (s : SwitchCase) (old before after : List ℕ) → i < length cases → s ≡ get_or cases i s → before ≡ old ++ cases_text (cases_after (cases_of (take i cases)) no_cases) → after ≡ before ++ case_text (is_default_value s.value) (outline_text (outline_of (tree_of s.body))) s.fall_through → after ≡ old ++ cases_text (cases_after (cases_of (take (i + 1) cases)) no_cases)
cases_text-more cases i s old before after within is written one_more =
    let longer : take (i + 1) cases ≡ take i cases ++ s ∷ [] = take_more cases i s within ∙ ap (λ x. take i cases ++ x ∷ []) (sym is) in
    let last : List ℕ = case_text (is_default_value s.value) (outline_text (outline_of (tree_of s.body))) s.fall_through in
    one_more ∙ ap (λ t. t ++ last) written
    ∙ append_assoc old (cases_text (cases_after (cases_of (take i cases)) no_cases)) last
    ∙ ap (λ t. old ++ t) (sym (
    ap (λ xs. cases_text (cases_after (cases_of xs) no_cases)) longer
    ∙ ap (λ cs. cases_text (cases_after cs no_cases)) (cases_of-push (take i cases) s)
    ∙ ap cases_text (cases_after-with_case (cases_of (take i cases)) no_cases s.value (tree_of s.body) s.fall_through)
    ))

-- ---- the pieces of the text of a statement

pub OnOk-push_str : {A E P : Type 0} (r : Result A E) (new old last : List ℕ) → (new ≡ old ++ last → P) → new ≡ (if is_ok r then old ++ last else old) → OnOk r P
OnOk-push_str (Ok x) new old last f h = f h
OnOk-push_str (Err e) new old last f h = tt

regroup-enclosed : (old a x b : List ℕ) → ((old ++ a) ++ x) ++ b ≡ old ++ (a ++ (x ++ b))
regroup-enclosed old a x b = simp append_assoc

regroup-pair : (old a x b y d : List ℕ) → ((((old ++ a) ++ x) ++ b) ++ y) ++ d ≡ old ++ (a ++ (x ++ (b ++ (y ++ d))))
regroup-pair old a x b y d = simp append_assoc

enclosed : (old a x b opened filled new : List ℕ) → opened ≡ old ++ a → filled ≡ opened ++ x → new ≡ filled ++ b → new ≡ old ++ (a ++ (x ++ b))
enclosed old a x b opened filled new p q r = r ∙ ap (λ t. t ++ b) (q ∙ ap (λ t. t ++ x) p) ∙ regroup-enclosed old a x b

enclosed_pair : (old a x b y d opened filled parted refilled new : List ℕ) → opened ≡ old ++ a → filled ≡ opened ++ x → parted ≡ filled ++ b → refilled ≡ parted ++ y → new ≡ refilled ++ d → new ≡ old ++ (a ++ (x ++ (b ++ (y ++ d))))
enclosed_pair old a x b y d opened filled parted refilled new p q r s u =
    u ∙ ap (λ t. t ++ d) (s ∙ ap (λ t. t ++ y) (r ∙ ap (λ t. t ++ b) (q ∙ ap (λ t. t ++ x) p))) ∙ regroup-pair old a x b y d

pub written-Block : (s : Statement) (b : Block) (old opened filled new : List ℕ) → node_of s ≡ nested (tree_of b) → opened ≡ old ++ codes "{" → filled ≡ opened ++ outline_text (outline_of (tree_of b)) → new ≡ filled ++ codes "}" → new ≡ old ++ item_text (item_of (node_of s))
written-Block s b old opened filled new is p q r =
    enclosed old (codes "{") (outline_text (outline_of (tree_of b))) (codes "}") opened filled new p q r
    ∙ ap (λ n. old ++ item_text (item_of n)) (sym is)

pub written-If : (s : Statement) (condition : ℕ) (a b : Block) (old opened filled parted refilled new : List ℕ) → node_of s ≡ branch condition (tree_of a) (tree_of b) → opened ≡ old ++ codes "i{" → filled ≡ opened ++ outline_text (outline_of (tree_of a)) → parted ≡ filled ++ codes "}{" → refilled ≡ parted ++ outline_text (outline_of (tree_of b)) → new ≡ refilled ++ codes "}" → new ≡ old ++ item_text (item_of (node_of s))
written-If s condition a b old opened filled parted refilled new is p q r u v =
    enclosed_pair old (codes "i{") (outline_text (outline_of (tree_of a))) (codes "}{") (outline_text (outline_of (tree_of b))) (codes "}") opened filled parted refilled new p q r u v
    ∙ ap (λ n. old ++ item_text (item_of n)) (sym is)

pub written-Switch : (s : Statement) (selector : ℕ) (cases : List SwitchCase) (old opened filled new : List ℕ) → node_of s ≡ switch selector (cases_of cases) → opened ≡ old ++ codes "s(" → filled ≡ opened ++ cases_text (cases_after (cases_of cases) no_cases) → new ≡ filled ++ codes ")" → new ≡ old ++ item_text (item_of (node_of s))
written-Switch s selector cases old opened filled new is p q r =
    enclosed old (codes "s(") (cases_text (cases_after (cases_of cases) no_cases)) (codes ")") opened filled new p q r
    ∙ ap (λ n. old ++ item_text (item_of n)) (sym is)

pub written-Loop : (s : Statement) (break_if : Option ℕ) (a b : Block) (old opening opened filled parted refilled new : List ℕ) → node_of s ≡ loop (tree_of a) (tree_of b) break_if → opening ≡ loop_text (is_some break_if) ++ codes "{" → opened ≡ old ++ opening → filled ≡ opened ++ outline_text (outline_of (tree_of a)) → parted ≡ filled ++ codes "}{" → refilled ≡ parted ++ outline_text (outline_of (tree_of b)) → new ≡ refilled ++ codes "}" → new ≡ old ++ item_text (item_of (node_of s))
written-Loop s break_if a b old opening opened filled parted refilled new is opens p q r u v =
    let rest : List ℕ = outline_text (outline_of (tree_of a)) ++ (codes "}{" ++ (outline_text (outline_of (tree_of b)) ++ codes "}")) in
    enclosed_pair old opening (outline_text (outline_of (tree_of a))) (codes "}{") (outline_text (outline_of (tree_of b))) (codes "}") opened filled parted refilled new p q r u v
    ∙ ap (λ x. old ++ (x ++ rest)) opens
    ∙ ap (λ x. old ++ x) (append_assoc (loop_text (is_some break_if)) (codes "{") rest)
    ∙ ap (λ n. old ++ item_text (item_of n)) (sym is)
