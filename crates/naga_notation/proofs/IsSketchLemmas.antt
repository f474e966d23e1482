-- The state of reading determines the text that was read.
use Rattle.std.proofs.Common.{◌≡◌, ℕ, ◌≤◌, List, [], ◌∷◌, ◌++◌, length, map, refl, ap, ◌∙◌, sym, subst, append_assoc, append-nil, Option, Some, None, Bool, true, false, cond, ◌⊎◌, inl, inr, codes, ◌==◌, take, arith}
use Rattle.std.proofs.lemmas.List.{length-take}
use Rattle.std.proofs.lemmas.Bool.{eqb-true}
use Rattle.naga_ir.specs.Tree.{Tree}
use Rattle.naga_notation.specs.Limits.{most_bytes}
use Rattle.naga_notation.specs.declared.sign.Compound.{Compound}
use Rattle.naga_notation.specs.declared.sign.Compound.TheVariants.{If, Switch, Loop, BreakingLoop}
use Rattle.naga_notation.specs.declared.sign.Sign.{Sign}
use Rattle.naga_notation.specs.declared.sign.Sign.TheVariants.{Statement, Begin, Open, Close, OpenCases, CloseCases, DefaultCase, OpenCase, FallThrough, CloseCase}
use Rattle.naga_notation.specs.Outline.{simple, nested, branch, switch, loop, Outline, empty, push, CaseOutlines, no_cases, more, simple_text, loop_text, outline_text, cases_text, default_text, drawn, drawn_cases, Notation}
use Rattle.naga_notation.specs.Reading.State.{in_block, in_accept, in_reject, in_body, in_continuing, of_part, of_case, nothing, awaiting, switching, listing, defaulting, falling}
use Rattle.naga_notation.specs.Reading.{signs, sign_among, sign_of, simple_of, Reached, start, part_closed, case_closed, case_ended, next, after_sign, read_byte, read_from, read, finished, cases_begun}
use Rattle.naga_notation.proofs.SketchLemmas.{PartSketch, PlaceSketch, OuterSketch, BegunSketch, Sketch, sketched, part_drawn, case_drawn, outer_drawn, begun_drawn, drawn_state, part_text, case_text, outers_text, written, cases_begun-le}

-- ---- the text of a sign is one byte

abbrev begin_text : Compound → List ℕ
begin_text If = codes "i"
begin_text Switch = codes "s"
begin_text Loop = codes "l"
begin_text BreakingLoop = codes "w"

abbrev pub sign_text : Sign → List ℕ
sign_text (Statement what) = simple_text (simple_of what)
sign_text (Begin what) = begin_text what
sign_text Open = codes "{"
sign_text Close = codes "}"
sign_text OpenCases = codes "("
sign_text CloseCases = codes ")"
sign_text DefaultCase = codes "d"
sign_text OpenCase = codes "["
sign_text FallThrough = codes ">"
sign_text CloseCase = codes "]"

-- each sign of the list is paired with the byte of its text
abbrev AreWritten : List (ℕ × Sign) → Type 0
AreWritten [] = Unit {0}
AreWritten (sign ∷ others) = (sign.0 ∷ [] ≡ sign_text sign.1) × AreWritten others

cond_cases : {A : Type 0} (test : Bool) (x y z : A) → cond test x y ≡ z → ((test ≡ true) × (x ≡ z)) ⊎ ((test ≡ false) × (y ≡ z))
cond_cases true x y z e = inl (refl, e)
cond_cases false x y z e = inr (refl, e)

sign_or : Sign → Option Sign → Sign
sign_or sign None = sign
sign_or sign (Some other) = other

sign_text-Some : (sign other : Sign) → Some sign ≡ Some other → sign_text sign ≡ sign_text other
unfolding sign_or
sign_text-Some sign other e = ap (λ found. sign_text (sign_or sign found)) e

sign_among-written : (among : List (ℕ × Sign)) (byte : ℕ) (sign : Sign) → AreWritten among → sign_among among byte ≡ Some sign → byte ∷ [] ≡ sign_text sign
sign_among-written [] byte sign are e = absurd cc
sign_among-written (first ∷ others) byte sign are e =
    elim (cond_cases (byte == first.0) (Some first.1) (sign_among others byte) (Some sign) e) [
      | inl found ↦ ap (λ b. b ∷ []) (eqb-true byte first.0 found.0) ∙ are.0 ∙ sign_text-Some first.1 sign found.1
      | inr later ↦ sign_among-written others byte sign are.1 later.1
    ]

pub sign_of-written : (byte : ℕ) (sign : Sign) → sign_of byte ≡ Some sign → byte ∷ [] ≡ sign_text sign
sign_of-written byte sign = sign_among-written signs byte sign (refl, (refl, (refl, (refl, (refl, (refl, (refl, (refl, (refl, (refl, (refl, (refl, (refl, (refl, (refl, (refl, (refl, tt)))))))))))))))))

-- ---- one more sign

reached_or_start : Option Reached → Reached
reached_or_start None = start
reached_or_start (Some reached) = reached

pub Some-Reached : (r s : Reached) → Some r ≡ Some s → r ≡ s
unfolding reached_or_start
Some-Reached r s e = ap reached_or_start e

-- the sign leads from the state of the sketch to `r`, which has a sketch with one more sign in its text
record Step (sketch : Sketch) (sign : Sign) (r : Reached) : Type 0 where
  next : Sketch
  is : drawn_state next ≡ r
  one_more : written next ≡ written sketch ++ sign_text sign

-- regroupings of the texts below: p is the text of the outer blocks, c or b that of a block, x that of what has begun
-- after it
regroup-last : (p c x y : List ℕ) → p ++ ((c ++ (x ++ y)) ++ []) ≡ (p ++ (c ++ x)) ++ y
regroup-last p c x y = simp (append_assoc, append-nil)

regroup-more : (p c x y : List ℕ) → p ++ (c ++ (x ++ y)) ≡ (p ++ (c ++ x)) ++ y
regroup-more p c x y = simp append_assoc

regroup-open : (p c x y : List ℕ) → (p ++ (c ++ (x ++ y))) ++ ([] ++ []) ≡ (p ++ (c ++ x)) ++ y
regroup-open p c x y = simp (append_assoc, append-nil)

regroup-default : (p c cs : List ℕ) → (p ++ (c ++ (codes "s(" ++ (cs ++ (codes "d" ++ codes "["))))) ++ ([] ++ []) ≡ (p ++ (c ++ (codes "s(" ++ (cs ++ codes "d")))) ++ codes "["
regroup-default p c cs = simp (append_assoc, append-nil)

regroup-close_last : (p b x i t : List ℕ) → t ≡ x ++ (codes "{" ++ (i ++ codes "}")) → p ++ ((b ++ t) ++ []) ≡ ((p ++ (b ++ (x ++ codes "{"))) ++ (i ++ [])) ++ codes "}"
regroup-close_last p b x i t is = ap (λ y. p ++ ((b ++ y) ++ [])) is ∙ simp (append_assoc, append-nil)

regroup-close_next : (p b x i t : List ℕ) → t ≡ x ++ (codes "{" ++ (i ++ codes "}")) → p ++ (b ++ t) ≡ ((p ++ (b ++ (x ++ codes "{"))) ++ (i ++ [])) ++ codes "}"
regroup-close_next p b x i t is = ap (λ y. p ++ (b ++ y)) is ∙ simp (append_assoc, append-nil)

regroup-fall_through : (p b x i : List ℕ) → p ++ (b ++ (x ++ (i ++ codes ">"))) ≡ ((p ++ (b ++ x)) ++ (i ++ [])) ++ codes ">"
regroup-fall_through p b x i = simp (append_assoc, append-nil)

regroup-close_case : (p b cs d i f : List ℕ) → p ++ (b ++ (codes "s(" ++ (cs ++ (d ++ (codes "[" ++ (i ++ (f ++ codes "]"))))))) ≡ ((p ++ (b ++ (codes "s(" ++ (cs ++ (d ++ codes "["))))) ++ (i ++ f)) ++ codes "]"
regroup-close_case p b cs d i f = simp append_assoc

regroup-reject : (a i : List ℕ) → codes "i{" ++ (a ++ (codes "}{" ++ (i ++ codes "}"))) ≡ (codes "i{" ++ (a ++ codes "}")) ++ (codes "{" ++ (i ++ codes "}"))
regroup-reject a i = simp append_assoc

regroup-continuing : (w b i : List ℕ) → w ++ (codes "{" ++ (b ++ (codes "}{" ++ (i ++ codes "}")))) ≡ (w ++ (codes "{" ++ (b ++ codes "}"))) ++ (codes "{" ++ (i ++ codes "}"))
regroup-continuing w b i = simp append_assoc

Step-close : (outers : List OuterSketch) (before : Outline) (place : PlaceSketch) (inner : Outline) (r : Reached) → part_closed (outer_drawn (record { statements = before; place = place }) ∷ map outer_drawn outers) (drawn inner) ≡ Some r → Step (sketched (record { statements = before; place = place } ∷ outers) inner nothing) Close r
Step-close outers before (of_part in_block) inner r e = record {
  next = sketched outers (push before (nested inner)) nothing;
  is = Some-Reached _ r e;
  one_more = regroup-close_last (outers_text outers) (outline_text before) [] (outline_text inner) _ refl;
}
Step-close outers before (of_part in_accept) inner r e = record {
  next = sketched outers before (awaiting (in_reject inner));
  is = Some-Reached _ r e;
  one_more = regroup-close_next (outers_text outers) (outline_text before) (codes "i") (outline_text inner) _ refl;
}
Step-close outers before (of_part (in_reject accept)) inner r e = record {
  next = sketched outers (push before (branch accept inner)) nothing;
  is = Some-Reached _ r e;
  one_more = regroup-close_last (outers_text outers) (outline_text before) (part_text (in_reject accept)) (outline_text inner) _ (regroup-reject (outline_text accept) (outline_text inner));
}
Step-close outers before (of_part (in_body has_break_if)) inner r e = record {
  next = sketched outers before (awaiting (in_continuing inner has_break_if));
  is = Some-Reached _ r e;
  one_more = regroup-close_next (outers_text outers) (outline_text before) (loop_text has_break_if) (outline_text inner) _ refl;
}
Step-close outers before (of_part (in_continuing body has_break_if)) inner r e = record {
  next = sketched outers (push before (loop has_break_if body inner)) nothing;
  is = Some-Reached _ r e;
  one_more = regroup-close_last (outers_text outers) (outline_text before) (part_text (in_continuing body has_break_if)) (outline_text inner) _ (regroup-continuing (loop_text has_break_if) (outline_text body) (outline_text inner));
}
Step-close outers before (of_case case) inner r e = absurd cc

Step-close_case : (outers : List OuterSketch) (before : Outline) (place : PlaceSketch) (body : Outline) (r : Reached) → case_closed false (outer_drawn (record { statements = before; place = place }) ∷ map outer_drawn outers) (drawn body) ≡ Some r → Step (sketched (record { statements = before; place = place } ∷ outers) body nothing) CloseCase r
Step-close_case outers before (of_part part) body r e = absurd cc
Step-close_case outers before (of_case case) body r e = record {
  next = sketched outers before (listing (more case.0 case.1 body false));
  is = Some-Reached _ r e;
  one_more = regroup-close_case (outers_text outers) (outline_text before) (cases_text case.0) (default_text case.1) (outline_text body) [];
}

Step-fall_through : (outers : List OuterSketch) (before : Outline) (place : PlaceSketch) (body : Outline) (r : Reached) → case_ended (outer_drawn (record { statements = before; place = place }) ∷ map outer_drawn outers) (drawn body) ≡ Some r → Step (sketched (record { statements = before; place = place } ∷ outers) body nothing) FallThrough r
Step-fall_through outers before (of_part part) body r e = absurd cc
Step-fall_through outers before (of_case case) body r e = record {
  next = sketched outers before (falling case body);
  is = Some-Reached _ r e;
  one_more = regroup-fall_through (outers_text outers) (outline_text before) (case_text case) (outline_text body);
}

Step-begin : (outers : List OuterSketch) (current : Outline) (sign : Sign) (r : Reached) → next (map outer_drawn outers) (drawn current) nothing sign ≡ Some r → Step (sketched outers current nothing) sign r
Step-begin outers current (Statement what) r e = record {
  next = sketched outers (push current (simple (simple_of what))) nothing;
  is = Some-Reached _ r e;
  one_more = regroup-last (outers_text outers) (outline_text current) [] (simple_text (simple_of what));
}
Step-begin outers current (Begin If) r e = record {
  next = sketched outers current (awaiting in_accept);
  is = Some-Reached _ r e;
  one_more = regroup-more (outers_text outers) (outline_text current) [] (codes "i");
}
Step-begin outers current (Begin Switch) r e = record {
  next = sketched outers current switching;
  is = Some-Reached _ r e;
  one_more = regroup-more (outers_text outers) (outline_text current) [] (codes "s");
}
Step-begin outers current (Begin Loop) r e = record {
  next = sketched outers current (awaiting (in_body false));
  is = Some-Reached _ r e;
  one_more = regroup-more (outers_text outers) (outline_text current) [] (codes "l");
}
Step-begin outers current (Begin BreakingLoop) r e = record {
  next = sketched outers current (awaiting (in_body true));
  is = Some-Reached _ r e;
  one_more = regroup-more (outers_text outers) (outline_text current) [] (codes "w");
}
Step-begin outers current Open r e = record {
  next = sketched (record { statements = current; place = of_part in_block } ∷ outers) empty nothing;
  is = Some-Reached _ r e;
  one_more = regroup-open (outers_text outers) (outline_text current) [] (codes "{");
}
Step-begin [] current Close r e = absurd cc
Step-begin (outer ∷ outers) current Close r e = Step-close outers outer.statements outer.place current r e
Step-begin [] current FallThrough r e = absurd cc
Step-begin (outer ∷ outers) current FallThrough r e = Step-fall_through outers outer.statements outer.place current r e
Step-begin [] current CloseCase r e = absurd cc
Step-begin (outer ∷ outers) current CloseCase r e = Step-close_case outers outer.statements outer.place current r e
Step-begin outers current sign r e = absurd cc

Step-part : (outers : List OuterSketch) (current : Outline) (part : PartSketch) (sign : Sign) (r : Reached) → next (map outer_drawn outers) (drawn current) (awaiting (part_drawn part)) sign ≡ Some r → Step (sketched outers current (awaiting part)) sign r
Step-part outers current part Open r e = record {
  next = sketched (record { statements = current; place = of_part part } ∷ outers) empty nothing;
  is = Some-Reached _ r e;
  one_more = regroup-open (outers_text outers) (outline_text current) (part_text part) (codes "{");
}
Step-part outers current part sign r e = absurd cc

Step-switch : (outers : List OuterSketch) (current : Outline) (sign : Sign) (r : Reached) → next (map outer_drawn outers) (drawn current) switching sign ≡ Some r → Step (sketched outers current switching) sign r
Step-switch outers current OpenCases r e = record {
  next = sketched outers current (listing no_cases);
  is = Some-Reached _ r e;
  one_more = regroup-more (outers_text outers) (outline_text current) (codes "s") (codes "(");
}
Step-switch outers current sign r e = absurd cc

Step-cases : (outers : List OuterSketch) (current : Outline) (cases : CaseOutlines) (sign : Sign) (r : Reached) → next (map outer_drawn outers) (drawn current) (listing (drawn_cases cases)) sign ≡ Some r → Step (sketched outers current (listing cases)) sign r
Step-cases outers current cases OpenCase r e = record {
  next = sketched (record { statements = current; place = of_case (cases, false) } ∷ outers) empty nothing;
  is = Some-Reached _ r e;
  one_more = regroup-open (outers_text outers) (outline_text current) (codes "s(" ++ cases_text cases) (codes "[");
}
Step-cases outers current cases DefaultCase r e = record {
  next = sketched outers current (defaulting cases);
  is = Some-Reached _ r e;
  one_more = regroup-more (outers_text outers) (outline_text current) (codes "s(" ++ cases_text cases) (codes "d");
}
Step-cases outers current cases CloseCases r e = record {
  next = sketched outers (push current (switch cases)) nothing;
  is = Some-Reached _ r e;
  one_more = regroup-last (outers_text outers) (outline_text current) (codes "s(" ++ cases_text cases) (codes ")");
}
Step-cases outers current cases sign r e = absurd cc

Step-default : (outers : List OuterSketch) (current : Outline) (cases : CaseOutlines) (sign : Sign) (r : Reached) → next (map outer_drawn outers) (drawn current) (defaulting (drawn_cases cases)) sign ≡ Some r → Step (sketched outers current (defaulting cases)) sign r
Step-default outers current cases OpenCase r e = record {
  next = sketched (record { statements = current; place = of_case (cases, true) } ∷ outers) empty nothing;
  is = Some-Reached _ r e;
  one_more = regroup-default (outers_text outers) (outline_text current) (cases_text cases);
}
Step-default outers current cases sign r e = absurd cc

regroup-end : (p b cs d i : List ℕ) → p ++ (b ++ (codes "s(" ++ (cs ++ (d ++ (codes "[" ++ (i ++ (codes ">" ++ codes "]"))))))) ≡ (p ++ (b ++ ((codes "s(" ++ (cs ++ (d ++ codes "["))) ++ (i ++ codes ">")))) ++ codes "]"
regroup-end p b cs d i = simp append_assoc

Step-end : (outers : List OuterSketch) (before : Outline) (case : CaseOutlines × Bool) (body : Outline) (sign : Sign) (r : Reached) → next (map outer_drawn outers) (drawn before) (falling (case_drawn case) (drawn body)) sign ≡ Some r → Step (sketched outers before (falling case body)) sign r
Step-end outers before case body CloseCase r e = record {
  next = sketched outers before (listing (more case.0 case.1 body true));
  is = Some-Reached _ r e;
  one_more = regroup-end (outers_text outers) (outline_text before) (cases_text case.0) (default_text case.1) (outline_text body);
}
Step-end outers before case body sign r e = absurd cc

Step-begun : (outers : List OuterSketch) (current : Outline) (begun : BegunSketch) (sign : Sign) (r : Reached) → next (map outer_drawn outers) (drawn current) (begun_drawn begun) sign ≡ Some r → Step (sketched outers current begun) sign r
Step-begun outers current nothing sign r e = Step-begin outers current sign r e
Step-begun outers current (awaiting part) sign r e = Step-part outers current part sign r e
Step-begun outers current switching sign r e = Step-switch outers current sign r e
Step-begun outers current (listing cases) sign r e = Step-cases outers current cases sign r e
Step-begun outers current (defaulting cases) sign r e = Step-default outers current cases sign r e
Step-begun outers current (falling case body) sign r e = Step-end outers current case body sign r e

Step-sign : (sketch : Sketch) (sign : Sign) (r : Reached) → after_sign (drawn_state sketch) (Some sign) ≡ Some r → Step sketch sign r
Step-sign sketch sign r e = Step-begun sketch.outers sketch.current sketch.begun sign r e

-- ---- a text that has been read

-- `r` is the state of a sketch, whose text is `text`
pub record IsSketch (text : List ℕ) (r : Reached) : Type 0 where
  pub sketch : Sketch
  pub is : drawn_state sketch ≡ r
  pub leads : written sketch ≡ text

Step-byte : (sketch : Sketch) (byte : ℕ) (sign : Option Sign) (r : Reached) → sign_of byte ≡ sign → after_sign (drawn_state sketch) sign ≡ Some r → IsSketch (written sketch ++ byte ∷ []) r
Step-byte sketch byte None r is e = absurd cc
Step-byte sketch byte (Some sign) r is e =
    let made = Step-sign sketch sign r e in
    record {
      sketch = made.next;
      is = made.is;
      leads = made.one_more ∙ ap (λ text. written sketch ++ text) (sym (sign_of-written byte sign is));
    }

-- if a text is read to its end, the state before it exists
pub read_from-some : (reached : Option Reached) (rest : List ℕ) (last : Reached) → read_from reached rest ≡ Some last → (r : Reached) × (reached ≡ Some r)
read_from-some None rest last e = absurd cc
read_from-some (Some r) rest last e = (r, refl)

IsSketch-read_from : (text before : List ℕ) (r s : Reached) → IsSketch before r → read_from (Some r) text ≡ Some s → IsSketch (before ++ text) s
IsSketch-read_from [] before r s known e = record {
  sketch = known.sketch;
  is = known.is ∙ Some-Reached r s e;
  leads = known.leads ∙ sym (append-nil before);
}
IsSketch-read_from (byte ∷ text) before r s known e =
    let next = read_from-some (read_byte r byte) text s e in
    let made = Step-byte known.sketch byte (sign_of byte) next.0 refl (ap (λ reached. read_byte reached byte) known.is ∙ next.1) in
    let one : IsSketch (before ++ byte ∷ []) next.0 = record { sketch = made.sketch; is = made.is; leads = made.leads ∙ ap (λ t. t ++ byte ∷ []) known.leads } in
    subst (λ t. IsSketch t s) (append_assoc before (byte ∷ []) text)
    (IsSketch-read_from text (before ++ byte ∷ []) next.0 s one (ap (λ reached. read_from reached text) (sym next.1) ∙ e))

pub IsSketch-read : (text : List ℕ) (r : Reached) → read text ≡ Some r → IsSketch text r
IsSketch-read text r e = IsSketch-read_from text [] start r (record { sketch = sketched [] empty nothing; is = refl; leads = refl }) e

-- a list of cases has at most as many cases as the text has bytes
pub cases_begun-read : (text : List ℕ) (r : Reached) → read text ≡ Some r → cases_begun r.begun ≤ length text
cases_begun-read text r e =
    let known = IsSketch-read text r e in
    subst (λ (s : Reached). cases_begun s.begun ≤ length text) known.is
    (subst (λ t. cases_begun (drawn_state known.sketch).begun ≤ length t) known.leads (cases_begun-le known.sketch))

pub cases_begun-take : (text : List ℕ) (i : ℕ) (r : Reached) → length text ≤ most_bytes → read (take i text) ≡ Some r → cases_begun r.begun ≤ most_bytes
cases_begun-take text i r short e = omega (arith, short, cases_begun-read (take i text) r e, length-take i text)

block_or_empty : Option Tree → Tree
block_or_empty None = Tree.empty
block_or_empty (Some block) = block

Some-block : (b c : Tree) → Some b ≡ Some c → b ≡ c
unfolding block_or_empty
Some-block b c e = ap block_or_empty e

finished-begun : (outers : List OuterSketch) (current : Outline) (begun : BegunSketch) (block : Tree) → finished (drawn_state (sketched outers current begun)) ≡ Some block → Notation (written (sketched outers current begun)) block
finished-begun [] current nothing block e = (current, append-nil (outline_text current), sym (Some-block (drawn current) block e))
finished-begun [] current (awaiting part) block e = absurd cc
finished-begun [] current switching block e = absurd cc
finished-begun [] current (listing cases) block e = absurd cc
finished-begun [] current (defaulting cases) block e = absurd cc
finished-begun [] current (falling case body) block e = absurd cc
finished-begun (outer ∷ outers) current begun block e = absurd cc

finished-sketch : (sketch : Sketch) (block : Tree) → finished (drawn_state sketch) ≡ Some block → Notation (written sketch) block
finished-sketch sketch block e = finished-begun sketch.outers sketch.current sketch.begun block e

-- if a text is read to its end and nothing is unfinished there, the text is the notation of the block
pub Notation-finished : (text : List ℕ) (r : Reached) (block : Tree) → read text ≡ Some r → finished r ≡ Some block → Notation text block
Notation-finished text r block e done =
    let known = IsSketch-read text r e in
    subst (λ t. Notation t block) known.leads (finished-sketch known.sketch block (ap finished known.is ∙ done))
