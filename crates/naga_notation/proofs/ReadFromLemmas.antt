-- Reading the notation of a block returns the block.
use Rattle.std.proofs.Common.{◌≡◌, ℕ, List, [], ◌∷◌, ◌++◌, refl, ap, ◌∙◌, sym, append_assoc, append-nil, Bool, true, false, Option, Some, None, codes}
use Rattle.naga_kinds.specs.declared.switch.SwitchValue.{SwitchValue}
use Rattle.naga_ir.specs.Tree.{Tree, Cases}
use Rattle.naga_notation.specs.Outline.{Item, Simple, passes, breaks, continues, returns, kills, simple, nested, branch, switch, loop, Outline, empty, push, CaseOutlines, no_cases, more, simple_text, simple_node, loop_text, break_if_of, item_text, outline_text, cases_text, default_text, fall_through_text, with_case, value_after, drawn_item, drawn, drawn_cases, Notation}
use Rattle.naga_notation.specs.Reading.State.{in_block, in_accept, in_reject, in_body, in_continuing, of_part, of_case, listing}
use Rattle.naga_notation.specs.Reading.{Place, Outer, Reached, begun_at, at_statement, after_statement, read_byte, read_from, read}

pub read_from-append : (reached : Option Reached) (xs ys : List ℕ) → read_from reached (xs ++ ys) ≡ read_from (read_from reached xs) ys
read_from-append None xs ys = refl
read_from-append (Some reached) [] ys = refl
read_from-append (Some reached) (x ∷ xs) ys = read_from-append (read_byte reached x) xs ys

-- reading the rest of a text, after these statements of a block
abbrev from : List Outer → Tree → List ℕ → Option Reached
from outers current rest = read_from (Some (at_statement outers current)) rest

-- reading the rest of a text in a block that has just opened
abbrev within : Place → List Outer → Tree → List ℕ → Option Reached
within place outers current rest = from (record { statements = current; place = place } ∷ outers) Tree.empty rest

abbrev inside : Place → List Outer → Tree → List Outer
inside place outers current = record { statements = current; place = place } ∷ outers

read_from-simple : (what : Simple) (outers : List Outer) (current : Tree) (rest : List ℕ) → from outers current (simple_text what ++ rest) ≡ read_from (Some (after_statement outers current (simple_node what))) rest
read_from-simple passes outers current rest = refl
read_from-simple breaks outers current rest = refl
read_from-simple continues outers current rest = refl
read_from-simple returns outers current rest = refl
read_from-simple kills outers current rest = refl

read_from-loop : (has_break_if : Bool) (outers : List Outer) (current : Tree) (text rest : List ℕ) → from outers current ((loop_text has_break_if ++ (codes "{" ++ text)) ++ rest) ≡ within (of_part (in_body (break_if_of has_break_if))) outers current (text ++ rest)
read_from-loop false outers current text rest = refl
read_from-loop true outers current text rest = refl

read_from-open_case : (is_default : Bool) (outers : List Outer) (current : Tree) (cases : Cases) (text rest : List ℕ) → read_from (Some (begun_at outers current (listing cases))) ((default_text is_default ++ (codes "[" ++ text)) ++ rest) ≡ within (of_case (cases, value_after cases is_default)) outers current (text ++ rest)
read_from-open_case false outers current cases text rest = refl
read_from-open_case true outers current cases text rest = refl

read_from-close_case : (falls : Bool) (outers : List Outer) (current : Tree) (cases : Cases) (value : SwitchValue) (body : Tree) (rest : List ℕ) → from (inside (of_case (cases, value)) outers current) body ((fall_through_text falls ++ codes "]") ++ rest) ≡ read_from (Some (begun_at outers current (listing (with_case cases value body falls)))) rest
read_from-close_case false outers current cases value body rest = refl
read_from-close_case true outers current cases value body rest = refl

mutual
  pub read_from-item : (item : Item) (outers : List Outer) (current : Tree) (rest : List ℕ) → read_from (Some (at_statement outers current)) (item_text item ++ rest) ≡ read_from (Some (after_statement outers current (drawn_item item))) rest
  read_from-item (simple what) outers current rest = read_from-simple what outers current rest
  read_from-item (nested inner) outers current rest =
      ap (within (of_part in_block) outers current) (append_assoc (outline_text inner) (codes "}") rest)
      ∙ read_from-outline inner (inside (of_part in_block) outers current) (codes "}" ++ rest)
  read_from-item (branch accept reject) outers current rest =
      ap (within (of_part in_accept) outers current) (append_assoc (outline_text accept) (codes "}{" ++ (outline_text reject ++ codes "}")) rest)
      ∙ read_from-outline accept (inside (of_part in_accept) outers current) ((codes "}{" ++ (outline_text reject ++ codes "}")) ++ rest)
      ∙ ap (within (of_part (in_reject (drawn accept))) outers current) (append_assoc (outline_text reject) (codes "}") rest)
      ∙ read_from-outline reject (inside (of_part (in_reject (drawn accept))) outers current) (codes "}" ++ rest)
  read_from-item (switch cases) outers current rest =
      ap (read_from (Some (begun_at outers current (listing Cases.no_cases)))) (append_assoc (cases_text cases) (codes ")") rest)
      ∙ read_from-cases cases outers current (codes ")" ++ rest)
  read_from-item (loop has_break_if body continuing) outers current rest =
      read_from-loop has_break_if outers current (outline_text body ++ (codes "}{" ++ (outline_text continuing ++ codes "}"))) rest
      ∙ ap (within (of_part (in_body (break_if_of has_break_if))) outers current) (append_assoc (outline_text body) (codes "}{" ++ (outline_text continuing ++ codes "}")) rest)
      ∙ read_from-outline body (inside (of_part (in_body (break_if_of has_break_if))) outers current) ((codes "}{" ++ (outline_text continuing ++ codes "}")) ++ rest)
      ∙ ap (within (of_part (in_continuing (drawn body) (break_if_of has_break_if))) outers current) (append_assoc (outline_text continuing) (codes "}") rest)
      ∙ read_from-outline continuing (inside (of_part (in_continuing (drawn body) (break_if_of has_break_if))) outers current) (codes "}" ++ rest)

  pub read_from-outline : (block : Outline) (outers : List Outer) (rest : List ℕ) → read_from (Some (at_statement outers Tree.empty)) (outline_text block ++ rest) ≡ read_from (Some (at_statement outers (drawn block))) rest
  read_from-outline empty outers rest = refl
  read_from-outline (push front last) outers rest =
      ap (from outers Tree.empty) (append_assoc (outline_text front) (item_text last) rest)
      ∙ read_from-outline front outers (item_text last ++ rest)
      ∙ read_from-item last outers (drawn front) rest

  pub read_from-cases : (cases : CaseOutlines) (outers : List Outer) (current : Tree) (rest : List ℕ) → read_from (Some (begun_at outers current (listing Cases.no_cases))) (cases_text cases ++ rest) ≡ read_from (Some (begun_at outers current (listing (drawn_cases cases)))) rest
  read_from-cases no_cases outers current rest = refl
  read_from-cases (more front is_default body falls) outers current rest =
      let value = value_after (drawn_cases front) is_default in
      let ends = fall_through_text falls ++ codes "]" in
      ap (read_from (Some (begun_at outers current (listing Cases.no_cases)))) (append_assoc (cases_text front) (default_text is_default ++ (codes "[" ++ (outline_text body ++ ends))) rest)
      ∙ read_from-cases front outers current ((default_text is_default ++ (codes "[" ++ (outline_text body ++ ends))) ++ rest)
      ∙ read_from-open_case is_default outers current (drawn_cases front) (outline_text body ++ ends) rest
      ∙ ap (within (of_case (drawn_cases front, value)) outers current) (append_assoc (outline_text body) ends rest)
      ∙ read_from-outline body (inside (of_case (drawn_cases front, value)) outers current) (ends ++ rest)
      ∙ read_from-close_case falls outers current (drawn_cases front) value (drawn body) rest

-- reading a notation to its end leads to its tree
pub read-notation : (text : List ℕ) (tree : Tree) → Notation text tree → read text ≡ Some (at_statement [] tree)
read-notation text tree (outline, is, draws) =
    ap read (is ∙ sym (append-nil (outline_text outline))) ∙ read_from-outline outline [] [] ∙ ap (λ t. Some (at_statement [] t)) (sym draws)

-- the statements of the innermost block
abbrev current_of : Option Reached → Tree
current_of None = Tree.empty
current_of (Some reached) = reached.current

-- each text is the notation of at most one tree
pub Notation-one_block : (text : List ℕ) (b c : Tree) → Notation text b → Notation text c → b ≡ c
Notation-one_block text b c is also = ap current_of (sym (read-notation text b is) ∙ read-notation text c also)
