-- Sketches: states of reading that carry outlines, each with the text that leads to it and its ending.
use Rattle.std.proofs.Common.{◌≡◌, ℕ, ◌≤◌, List, [], ◌∷◌, ◌++◌, length, map, refl, ap, ◌∙◌, append_assoc, append-nil, arith, length-append, Bool, true, false, codes}
use Rattle.naga_ir.specs.Tree.{Tree}
use Rattle.naga_notation.specs.Outline.{Item, nested, branch, switch, loop, Outline, empty, push, CaseOutlines, no_cases, more, loop_text, break_if_of, item_text, outline_text, cases_text, default_text, value_after, drawn, drawn_cases, Notation}
use Rattle.naga_notation.specs.Reading.State.{Part, in_block, in_accept, in_reject, in_body, in_continuing, Place, of_part, of_case, Outer, Begun, nothing, awaiting, switching, listing, defaulting, falling, State}
use Rattle.naga_notation.specs.Reading as reading
use Rattle.naga_notation.specs.Reading.{Reached, cases_begun}
use Rattle.naga_notation.specs.Reading.Unfinished.{part_ending, place_ending, begun_ending, outers_ending, ending}
use Rattle.naga_notation.proofs.OutlineOfLemmas.{case_count-le}

abbrev pub PartSketch : Type 0
PartSketch = Part Outline Bool

abbrev pub PlaceSketch : Type 0
PlaceSketch = Place Outline (CaseOutlines × Bool) Bool

abbrev pub OuterSketch : Type 0
OuterSketch = Outer Outline (CaseOutlines × Bool) Bool

abbrev pub BegunSketch : Type 0
BegunSketch = Begun Outline CaseOutlines (CaseOutlines × Bool) Bool

abbrev pub Sketch : Type 0
Sketch = State Outline CaseOutlines (CaseOutlines × Bool) Bool

abbrev pub sketched : List OuterSketch → Outline → BegunSketch → Sketch
sketched outers current begun = record { outers = outers; current = current; begun = begun }

-- ---- the state of a sketch

abbrev pub part_drawn : PartSketch → reading.Part
part_drawn in_block = in_block
part_drawn in_accept = in_accept
part_drawn (in_reject accept) = in_reject (drawn accept)
part_drawn (in_body has_break_if) = in_body (break_if_of has_break_if)
part_drawn (in_continuing body has_break_if) = in_continuing (drawn body) (break_if_of has_break_if)

abbrev pub case_drawn : CaseOutlines × Bool → reading.OpenedCase
case_drawn case = (drawn_cases case.0, value_after (drawn_cases case.0) case.1)

abbrev pub place_drawn : PlaceSketch → reading.Place
place_drawn (of_part part) = of_part (part_drawn part)
place_drawn (of_case case) = of_case (case_drawn case)

abbrev pub outer_drawn : OuterSketch → reading.Outer
outer_drawn outer = record { statements = drawn outer.statements; place = place_drawn outer.place }

abbrev pub begun_drawn : BegunSketch → reading.Begun
begun_drawn nothing = nothing
begun_drawn (awaiting part) = awaiting (part_drawn part)
begun_drawn switching = switching
begun_drawn (listing cases) = listing (drawn_cases cases)
begun_drawn (defaulting cases) = defaulting (drawn_cases cases)
begun_drawn (falling case body) = falling (case_drawn case) (drawn body)

abbrev pub drawn_state : Sketch → Reached
drawn_state sketch = record { outers = map outer_drawn sketch.outers; current = drawn sketch.current; begun = begun_drawn sketch.begun }

-- ---- the text that leads to the state

abbrev pub part_text : PartSketch → List ℕ
part_text in_block = []
part_text in_accept = codes "i"
part_text (in_reject accept) = codes "i{" ++ (outline_text accept ++ codes "}")
part_text (in_body has_break_if) = loop_text has_break_if
part_text (in_continuing body has_break_if) = loop_text has_break_if ++ (codes "{" ++ (outline_text body ++ codes "}"))

abbrev pub case_text : CaseOutlines × Bool → List ℕ
case_text case = codes "s(" ++ (cases_text case.0 ++ (default_text case.1 ++ codes "["))

abbrev pub place_text : PlaceSketch → List ℕ
place_text (of_part part) = part_text part ++ codes "{"
place_text (of_case case) = case_text case

abbrev pub outers_text : List OuterSketch → List ℕ
outers_text [] = []
outers_text (outer ∷ outers) = outers_text outers ++ (outline_text outer.statements ++ place_text outer.place)

abbrev pub begun_text : BegunSketch → List ℕ
begun_text nothing = []
begun_text (awaiting part) = part_text part
begun_text switching = codes "s"
begun_text (listing cases) = codes "s(" ++ cases_text cases
begun_text (defaulting cases) = codes "s(" ++ (cases_text cases ++ codes "d")
begun_text (falling case body) = case_text case ++ (outline_text body ++ codes ">")

abbrev pub written : Sketch → List ℕ
written sketch = outers_text sketch.outers ++ (outline_text sketch.current ++ begun_text sketch.begun)

-- ---- the block that the ending completes

abbrev part_item : PartSketch → Outline → Item
part_item in_block inner = nested inner
part_item in_accept inner = branch inner empty
part_item (in_reject accept) inner = branch accept inner
part_item (in_body has_break_if) inner = loop has_break_if inner empty
part_item (in_continuing body has_break_if) inner = loop has_break_if body inner

abbrev place_item : PlaceSketch → Outline → Item
place_item (of_part part) inner = part_item part inner
place_item (of_case case) inner = switch (more case.0 case.1 inner false)

abbrev outers_block : List OuterSketch → Outline → Outline
outers_block [] inner = inner
outers_block (outer ∷ outers) inner = outers_block outers (push outer.statements (place_item outer.place inner))

abbrev begun_block : Outline → BegunSketch → Outline
begun_block current nothing = current
begun_block current (awaiting part) = push current (part_item part empty)
begun_block current switching = push current (switch no_cases)
begun_block current (listing cases) = push current (switch cases)
begun_block current (defaulting cases) = push current (switch (more cases true empty false))
begun_block current (falling case body) = push current (switch (more case.0 case.1 body true))

abbrev ended_block : Sketch → Outline
ended_block sketch = outers_block sketch.outers (begun_block sketch.current sketch.begun)

part-ended : (part : PartSketch) (inner : Outline) → part_text part ++ (codes "{" ++ (outline_text inner ++ part_ending (part_drawn part))) ≡ item_text (part_item part inner)
part-ended in_block inner = refl
part-ended in_accept inner = refl
part-ended (in_reject accept) inner = simp append_assoc
part-ended (in_body has_break_if) inner = refl
part-ended (in_continuing body has_break_if) inner = simp append_assoc

place-ended : (place : PlaceSketch) (inner : Outline) → place_text place ++ (outline_text inner ++ place_ending (place_drawn place)) ≡ item_text (place_item place inner)
place-ended (of_part part) inner = append_assoc (part_text part) (codes "{") (outline_text inner ++ part_ending (part_drawn part)) ∙ part-ended part inner
place-ended (of_case case) inner = simp append_assoc

abbrev endings : List OuterSketch → List ℕ
endings outers = outers_ending (map outer_drawn outers)

regroup-ended : (p c x i e rest : List ℕ) → (p ++ (c ++ x)) ++ (i ++ (e ++ rest)) ≡ p ++ ((c ++ (x ++ (i ++ e))) ++ rest)
regroup-ended p c x i e rest = simp append_assoc

outers-ended : (outers : List OuterSketch) (inner : Outline) → outers_text outers ++ (outline_text inner ++ endings outers) ≡ outline_text (outers_block outers inner)
outers-ended [] inner = append-nil (outline_text inner)
outers-ended (outer ∷ outers) inner =
    regroup-ended (outers_text outers) (outline_text outer.statements) (place_text outer.place) (outline_text inner) (place_ending (place_drawn outer.place)) (endings outers)
    ∙ ap (λ t. outers_text outers ++ ((outline_text outer.statements ++ t) ++ endings outers)) (place-ended outer.place inner)
    ∙ outers-ended outers (push outer.statements (place_item outer.place inner))

-- what has begun, with its ending, is a whole statement
regroup-begun_text : (p c x e rest : List ℕ) → (p ++ (c ++ x)) ++ (e ++ rest) ≡ p ++ ((c ++ (x ++ e)) ++ rest)
regroup-begun_text p c x e rest = simp append_assoc

regroup-begun : (p c x e rest t : List ℕ) → x ++ e ≡ t → (p ++ (c ++ x)) ++ (e ++ rest) ≡ p ++ ((c ++ t) ++ rest)
regroup-begun p c x e rest t is = regroup-begun_text p c x e rest ∙ ap (λ y. p ++ ((c ++ y) ++ rest)) is

next_part-ended : (part : PartSketch) → part_text part ++ (codes "{" ++ part_ending (part_drawn part)) ≡ item_text (part_item part empty)
next_part-ended part = part-ended part empty

begun-ended : (outers : List OuterSketch) (current : Outline) (begun : BegunSketch) → (outers_text outers ++ (outline_text current ++ begun_text begun)) ++ (begun_ending (begun_drawn begun) ++ endings outers) ≡ outline_text (outers_block outers (begun_block current begun))
begun-ended outers current nothing =
    ap (λ t. (outers_text outers ++ t) ++ endings outers) (append-nil (outline_text current))
    ∙ append_assoc (outers_text outers) (outline_text current) (endings outers)
    ∙ outers-ended outers current
begun-ended outers current (awaiting part) =
    regroup-begun (outers_text outers) (outline_text current) (part_text part) (codes "{" ++ part_ending (part_drawn part)) (endings outers) (item_text (part_item part empty)) (next_part-ended part)
    ∙ outers-ended outers (push current (part_item part empty))
begun-ended outers current switching =
    regroup-begun (outers_text outers) (outline_text current) (codes "s") (codes "()") (endings outers) (item_text (switch no_cases)) refl
    ∙ outers-ended outers (push current (switch no_cases))
begun-ended outers current (listing cases) =
    regroup-begun (outers_text outers) (outline_text current) (codes "s(" ++ cases_text cases) (codes ")") (endings outers) (item_text (switch cases)) refl
    ∙ outers-ended outers (push current (switch cases))
begun-ended outers current (defaulting cases) =
    regroup-begun (outers_text outers) (outline_text current) (codes "s(" ++ (cases_text cases ++ codes "d")) (codes "[])") (endings outers) (item_text (switch (more cases true empty false))) (simp append_assoc)
    ∙ outers-ended outers (push current (switch (more cases true empty false)))
begun-ended outers current (falling case body) =
    regroup-begun (outers_text outers) (outline_text current) (case_text case ++ (outline_text body ++ codes ">")) (codes "])") (endings outers) (item_text (switch (more case.0 case.1 body true))) (simp append_assoc)
    ∙ outers-ended outers (push current (switch (more case.0 case.1 body true)))

-- the text of a sketch with the ending of what is unfinished is a notation
pub Notation-ending : (sketch : Sketch) → (tree : Tree) × Notation (written sketch ++ ending (drawn_state sketch)) tree
Notation-ending sketch =
    (drawn (ended_block sketch), (ended_block sketch, begun-ended sketch.outers sketch.current sketch.begun, refl))

-- ---- the number of cases so far in a list that has begun

longer : (p c x : List ℕ) (n : ℕ) → n ≤ length x → n ≤ length (p ++ (c ++ x))
longer p c x n h = omega (arith, h, length-append p (c ++ x), length-append c x)

longer-list : (n : ℕ) (cs x : List ℕ) → n ≤ length cs → n ≤ length (codes "s(" ++ (cs ++ x))
longer-list n cs x h = omega (arith, h, length-append cs x)

longer-cases : (n : ℕ) (cs : List ℕ) → n ≤ length cs → n ≤ length (codes "s(" ++ cs)
longer-cases n cs h = omega (arith, h)

cases_begun-begun : (outers : List OuterSketch) (current : Outline) (begun : BegunSketch) → cases_begun (begun_drawn begun) ≤ length (outers_text outers ++ (outline_text current ++ begun_text begun))
cases_begun-begun outers current nothing = omega arith
cases_begun-begun outers current (awaiting part) = omega arith
cases_begun-begun outers current switching = omega arith
cases_begun-begun outers current (listing cases) =
    longer (outers_text outers) (outline_text current) _ _ (longer-cases _ (cases_text cases) (case_count-le cases))
cases_begun-begun outers current (defaulting cases) =
    longer (outers_text outers) (outline_text current) _ _ (longer-list _ (cases_text cases) (codes "d") (case_count-le cases))
cases_begun-begun outers current (falling case body) = omega arith

pub cases_begun-le : (sketch : Sketch) → cases_begun (drawn_state sketch).begun ≤ length (written sketch)
cases_begun-le sketch = cases_begun-begun sketch.outers sketch.current sketch.begun
