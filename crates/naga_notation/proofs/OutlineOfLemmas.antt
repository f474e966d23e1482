-- Outlines and their trees.
use Rattle.std.proofs.Common.{◌≡◌, ◌≤◌, ℕ, suc, List, ◌++◌, length, refl, ap, ◌∙◌, sym, Bool, true, false, arith, length-append, codes}
use Rattle.naga_kinds.specs.declared.switch.SwitchValue.{SwitchValue}
use Rattle.naga_ir.specs.Tree.{Tree, Cases}
use Rattle.naga_notation.specs.Outline.{Item, passes, breaks, continues, returns, kills, simple, nested, branch, switch, loop, Outline, empty, push, CaseOutlines, no_cases, more, outline_text, cases_text, default_text, fall_through_text, case_count, with_case, value_after, drawn_item, drawn, drawn_cases, Notation, item_of, outline_of, cases_after}
use Rattle.naga_kinds.specs.Switch.{is_default_value}

pub is_default_value-value_after : (cases : Cases) (is_default : Bool) → is_default_value (value_after cases is_default) ≡ is_default
is_default_value-value_after cases false = refl
is_default_value-value_after cases true = refl

-- the outlines of cases with one more appended
pub cases_after-with_case : (cases : Cases) (front : CaseOutlines) (value : SwitchValue) (body : Tree) (falls : Bool) → cases_after (with_case cases value body falls) front ≡ more (cases_after cases front) (is_default_value value) (outline_of body) falls
cases_after-with_case Cases.no_cases front value body falls = refl
cases_after-with_case (Cases.case first_value first_body first_falls others) front value body falls =
    cases_after-with_case others (more front (is_default_value first_value) (outline_of first_body) first_falls) value body falls

mutual
  pub item_of-drawn : (item : Item) → item_of (drawn_item item) ≡ item
  item_of-drawn (simple passes) = refl
  item_of-drawn (simple breaks) = refl
  item_of-drawn (simple continues) = refl
  item_of-drawn (simple returns) = refl
  item_of-drawn (simple kills) = refl
  item_of-drawn (nested inner) = ap nested (outline_of-drawn inner)
  item_of-drawn (branch accept reject) = λ i. branch (outline_of-drawn accept i) (outline_of-drawn reject i)
  item_of-drawn (switch cases) = ap switch (cases_after-drawn cases)
  item_of-drawn (loop false body continuing) = λ i. loop false (outline_of-drawn body i) (outline_of-drawn continuing i)
  item_of-drawn (loop true body continuing) = λ i. loop true (outline_of-drawn body i) (outline_of-drawn continuing i)

  -- the outline of the tree of an outline is that outline
  pub outline_of-drawn : (outline : Outline) → outline_of (drawn outline) ≡ outline
  outline_of-drawn empty = refl
  outline_of-drawn (push front last) = λ i. push (outline_of-drawn front i) (item_of-drawn last i)

  pub cases_after-drawn : (cases : CaseOutlines) → cases_after (drawn_cases cases) no_cases ≡ cases
  cases_after-drawn no_cases = refl
  cases_after-drawn (more front is_default body falls) =
      cases_after-with_case (drawn_cases front) no_cases (value_after (drawn_cases front) is_default) (drawn body) falls
      ∙ (λ i. more (cases_after-drawn front i) (is_default_value-value_after (drawn_cases front) is_default i) (outline_of-drawn body i) falls)

-- a tree has at most one notation
pub Notation-one_text : (tree : Tree) (text other : List ℕ) → Notation text tree → Notation other tree → text ≡ other
Notation-one_text tree text other (o, is, draws) (p, also, draws_too) =
    let same : o ≡ p = sym (outline_of-drawn o) ∙ ap outline_of (sym draws ∙ draws_too) ∙ outline_of-drawn p in
    is ∙ ap outline_text same ∙ sym also

-- the notation of a tree is the text of its outline
pub Notation-is : (tree : Tree) (text : List ℕ) → Notation text tree → text ≡ outline_text (outline_of tree)
Notation-is tree text (o, is, draws) = is ∙ ap outline_text (sym (outline_of-drawn o) ∙ ap outline_of (sym draws))

pub case_count-with_case : (cases : Cases) (value : SwitchValue) (body : Tree) (falls : Bool) → case_count (with_case cases value body falls) ≡ suc (case_count cases)
case_count-with_case Cases.no_cases value body falls = refl
case_count-with_case (Cases.case first_value first_body first_falls others) value body falls =
    ap suc (case_count-with_case others value body falls)

-- the text of each case has at least one byte
pub case_count-le : (cases : CaseOutlines) → case_count (drawn_cases cases) ≤ length (cases_text cases)
case_count-le no_cases = omega arith
case_count-le (more front is_default body falls) =
    let before = case_count-le front in
    let one = case_count-with_case (drawn_cases front) (value_after (drawn_cases front) is_default) (drawn body) falls in
    let rest = codes "[" ++ (outline_text body ++ (fall_through_text falls ++ codes "]")) in
    omega (arith, before, one, length-append (cases_text front) (default_text is_default ++ rest), length-append (default_text is_default) rest)
