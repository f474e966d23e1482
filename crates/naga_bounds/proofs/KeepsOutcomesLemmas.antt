-- A function whose accesses are clamped has the outcomes that it had, of executions that were in bounds.
use Rattle.std.proofs.Common.{◌≡◌, ◌∙◌, ◌+◌, ◌-◌, ◌<◌, ◌≤◌, ap, arith, length, refl, subst, sym, inl, inr, ℕ, zero, suc, Bool, true, false, List, [], ◌∷◌, ◌++◌, map, Option, Some, None}
use Rattle.std.proofs.lemmas.Bool.Decides.{nat_tests}
use Rattle.std.proofs.lemmas.List.Elements.{All-contains, All-cons, All-head, All-nil, All-tail}
use Rattle.std.specs.List.{Contains, cons_option, range_with_len}
use Rattle.std.specs.Prelude.{All, if◌then◌else◌, nat_eq, nat_lt, option_map}
use Rattle.naga_arena.specs.Range.{handles_of}
use Rattle.naga_arena.specs.Span.{undefined}
use Rattle.naga_arena.specs.declared.span.Span.{Span}
use Rattle.naga_ir.specs.Tree.{Tree, empty, push, Node, plain, nested, branch, switch, loop, jump, Cases, no_cases, case, break, continue, kill, return}
use Rattle.naga_ir.specs.declared.expression.Expression.{Expression}
use Rattle.naga_ir.specs.declared.module.LocalVariable.{LocalVariable}
use Rattle.naga_ir.specs.declared.statement.Statement as statement
use Rattle.naga_runs.specs.declared.run.Ending.{Ending}
use Rattle.naga_runs.specs.declared.run.Ending.TheVariants.{Normal, Break, Continue, Return, Kill, Cut}
use Rattle.naga_valid.specs.Operands.{expression_of, expressions_of, operands_of}
use Rattle.naga_valid.specs.Reference.{operands, present}
use Rattle.naga_valid.specs.Statements.{references_of_cases, references_of_node, references_of_statement, references_of_tree}
use Rattle.naga_valid.specs.declared.reference.Reference.{Reference}
use Rattle.naga_valid.specs.declared.reference.Reference.TheVariants as reference
use Rattle.naga_flow.proofs.ResultsLemmas.{ResultIsNamed, result-named}
use Rattle.naga_flow.specs.Results.{emitted_by, result_of, used_by, without, without_first}
use Rattle.naga_flow.specs.Uses.{operands_found}
use Rattle.naga_compact.specs.Functions.{initial_values}
use Rattle.naga_compact.specs.Mapping.{map_tree}
use Rattle.naga_compact.specs.Mapping.Runs.{map_ending}
use Rattle.naga_compact.specs.Operands.{IsReached, OperandsPrecede}
use Rattle.naga_compact.specs.Reachability.{by_step, from_root}
use Rattle.naga_compact.specs.Renaming.{Renaming, rename_range}
use Rattle.naga_compact.specs.Renaming.Declarations.{rename_local_variable}
use Rattle.naga_compact.specs.Renaming.Functions.{map_values}
use Rattle.naga_compact.specs.derived.Renaming.{rename_statement}
use Rattle.naga_compact.proofs.RenamedOperandsLemmas.{used_by-renamed}
use Rattle.naga_compact.proofs.derived_lemmas.RenamedVariantsLemmas.{references_of_statement-renamed}
use Rattle.naga_meaning.specs.Forms.{ExpressionForm}
use Rattle.naga_meaning.specs.Functions.{Meanings, action_of, initials, looked_up, parts}
use Rattle.naga_meaning.specs.Machine.{CasesAreIn, Done, IfAny, IsIn, NodeIsIn, does}
use Rattle.naga_meaning.specs.Renaming.{Each}
use Rattle.naga_meaning.specs.Values.{Code, Outcome, World, act, acted, emit, emitted_value, ends, entered, machine, outcome, outcome_of, put, result_of_ending, stopped, value}
use Rattle.naga_meaning.proofs.EachLemmas.{each-contained}
use Rattle.naga_meaning.proofs.FormsLemmas.{only_evaluates-renamed}
use Rattle.naga_meaning.proofs.MatchesLemmas.{does-matches}
use Rattle.naga_meaning.proofs.RenamesCodeLemmas.{EachPresent, eq-either, eq-no, eq-yes}
use Rattle.naga_meaning.proofs.Simulation.{EndsIn, Matches, Simulates}
use Rattle.naga_meaning.proofs.SimulatesLemmas.{tree-same}
use Rattle.naga_meaning.proofs.SimulatesLemmas as again
use Rattle.naga_meaning.proofs.Uses.RenamesLemmas.{result_of-renamed}
use Rattle.naga_meaning.proofs.derived.FormsLemmas.{statement_form-renamed}
use Rattle.naga_bounds.specs.Changes.{AreChanges}
use Rattle.naga_bounds.specs.Fits.{misfit}
use Rattle.naga_bounds.specs.Reach.{Typed, contents_at, expression_at, length_at}
use Rattle.naga_bounds.specs.Respects.{HasElements, HaveShortLengths, RespectsClamps, RespectsIndices}
use Rattle.naga_bounds.specs.Restricted.{inserted, moving, new_of, start_of}
use Rattle.naga_bounds.specs.Watched.{StaysInBounds, are_in_bounds, is_in_bounds, watched}
use Rattle.naga_bounds.specs.declared.change.Change.{Change}
use Rattle.naga_bounds.specs.declared.change.Change.TheVariants.{Stays, Clamped}
use Rattle.naga_bounds.specs.declared.length.Length.TheVariants.{Overridden}
use Rattle.naga_bounds.proofs.ClampOfLemmas.{changed-as, stays}
use Rattle.naga_bounds.proofs.ClampedValuesLemmas.{bound, c, c', emit-append, group-fits, moves, names-same, range-append, stays-same}
use Rattle.naga_bounds.proofs.InBoundsLemmas.{both}
use Rattle.naga_bounds.proofs.MovedLemmas.{AreClosed, Inside, Moved, MovesCode, acted-moved, emitted_value-moved, entered-moved, inside-less, less-inside, put-moved, stopped-moved, value-moved}
use Rattle.naga_bounds.proofs.NewHandlesLemmas.{front_at, made, new-is, new-next, start-rises, value-there}
use Rattle.naga_bounds.proofs.RestrictedFitsLemmas.{operands-within, stays-found}
use Rattle.naga_bounds.proofs.TracksLemmas.{SimulatesWhile, does-tracks}

-- ---- lists of references

pub references-left : (P : Reference → Type 0) (xs ys : List Reference) → All P (xs ++ ys) → All P xs
references-left P [] ys h = All-nil P
references-left P (x ∷ xs) ys h = All-cons P x xs (All-head P x (xs ++ ys) h) (references-left P xs ys (All-tail P x (xs ++ ys) h))

pub references-right : (P : Reference → Type 0) (xs ys : List Reference) → All P (xs ++ ys) → All P ys
references-right P [] ys h = h
references-right P (x ∷ xs) ys h = references-right P xs ys (All-tail P x (xs ++ ys) h)

initials-renamed : (r : Renaming) (variables : List (LocalVariable × Span)) → initials (map_values (rename_local_variable r) variables) ≡ map (option_map r.expressions) (initials variables)
initials-renamed r [] = refl
initials-renamed r (variable ∷ rest) = ap (λ inits. option_map r.expressions variable.0.init ∷ inits) (initials-renamed r rest)

each-option : (P : ℕ → Type 0) (first : Option ℕ) (rest : List ℕ) → Each P (cons_option first rest) → IfAny P first × Each P rest
each-option P None rest h = (tt, h)
each-option P (Some x) rest h = (h.0, h.1)

each-present : (P : ℕ → Type 0) (variables : List (LocalVariable × Span)) → Each P (initial_values variables) → EachPresent P (initials variables)
each-present P [] h = tt
each-present P (variable ∷ rest) h =
    let pair = each-option P variable.0.init (initial_values rest) h in
    (pair.0, each-present P rest pair.1)

module _ {Thing Value State : Type 0} (look : Reference → Thing) (by : Meanings Thing Value State) (number unsigned_number : Value → Option ℕ)
    (counts : ℕ → Bool) (code code' : Typed) (changes : List Change) (planned : AreChanges counts code changes)
    (precede : OperandsPrecede code.arena) (arena_is : code'.arena ≡ made changes code.arena planned.all) (types_are : code'.types ≡ code.types)
    (contents_are : (x : ℕ) → x < length code.arena → contents_at code' (new_of changes x) ≡ contents_at code x)
    (IsSize : ℕ → Type 0) (sizes : (base handle : ℕ) → length_at code base ≡ Some (Overridden handle) → IsSize handle)
    (respects : RespectsIndices look by number unsigned_number) (clamps : RespectsClamps look by number unsigned_number)
    (has : HasElements look by number IsSize) (short : HaveShortLengths look by number IsSize) where
  abbrev F : ℕ → ℕ
  F = new_of changes

  abbrev R : Renaming
  R = moving changes

  abbrev N : ℕ
  N = length code.arena

  abbrev start : ℕ → ℕ
  start = start_of changes

  abbrev C : Code (Option (ExpressionForm × List (Option Thing)))
  C = c look by number unsigned_number counts code code' changes planned precede arena_is types_are contents_are

  abbrev C' : Code (Option (ExpressionForm × List (Option Thing)))
  C' = c' look by number unsigned_number counts code code' changes planned precede arena_is types_are contents_are

  abbrev In : ℕ → Type 0
  In = Inside by N F C C'

  abbrev Same : World Value State → World Value State → Type 0
  Same = Moved by N F C C'

  less-in : (x : ℕ) → x < N → In x
  less-in = less-inside by N F C C'

  in-less : (x : ℕ) → In x → x < N
  in-less = inside-less by N F C C'

  abbrev moved-code : MovesCode by N F C C'
  moved-code = moves look by number unsigned_number counts code code' changes planned precede arena_is types_are contents_are

  -- ---- emits

  one-fits : (x : ℕ) → In x → (a b : World Value State) → Same a b → is_in_bounds look by number code a x ≡ true →
      Same a (emit by C' (range_with_len (start x) (F x - start x)) b) × (emitted_value by C' (emit by C' (range_with_len (start x) (F x - start x)) b) (F x) ≡ emitted_value by C a x)
  one-fits x inside a b s in_bounds =
      let e = (value-there code.arena x (in-less x inside)).0 in
      let found = (value-there code.arena x (in-less x inside)).1 in
      elim (changed-as counts code changes planned x e found) [
        | inl stays ↦
            let none : F x - start x ≡ 0 = (let whole = new-is changes code.arena planned.all x Stays e stays.0 found in omega (arith, whole)) in
            let same = stays-same look by number unsigned_number counts code code' changes planned precede arena_is types_are contents_are x e found
            (stays-found counts code code' changes planned precede arena_is types_are contents_are x e found stays.0) in
            subst (λ k. Same a (emit by C' (range_with_len (start x) k) b) × (emitted_value by C' (emit by C' (range_with_len (start x) k) b) (F x) ≡ emitted_value by C a x)) (sym none)
            (s, emitted_value-moved by N F C C' moved-code x a b s inside same)
        | inr clamped ↦
            let front = front_at changes code.arena planned.all x in
            let some : F x - start x ≡ length (inserted R (Clamped clamped.0) front (start x)) =
            (let whole = new-is changes code.arena planned.all x (Clamped clamped.0) e clamped.1 found in omega (arith, whole))
            in
            subst (λ k. Same a (emit by C' (range_with_len (start x) k) b) × (emitted_value by C' (emit by C' (range_with_len (start x) k) b) (F x) ≡ emitted_value by C a x)) (sym some)
            (group-fits look by number unsigned_number counts code code' changes planned precede arena_is types_are contents_are IsSize sizes respects clamps has short x e clamped.0 found clamped.1 clamped.2 a
            (bound look by number unsigned_number counts code code' changes planned precede arena_is types_are contents_are IsSize sizes respects clamps has short x e clamped.0 found clamped.1 clamped.2 a in_bounds) b s)
      ]

  -- the expressions with what is inserted before them
  abbrev stretched : List ℕ → List ℕ
  stretched [] = []
  stretched (x ∷ rest) = range_with_len (start x) (F x - start x) ++ F x ∷ stretched rest

  emits-moved : (xs : List ℕ) → Each In xs → (a b : World Value State) → Same a b → are_in_bounds look by number code xs a ≡ true → Same (emit by C xs a) (emit by C' (stretched xs) b)
  emits-moved [] inside a b s h = s
  emits-moved (x ∷ xs) inside a b s h =
      let next : World Value State = put x (emitted_value by C a x) a in
      let pair = both (is_in_bounds look by number code a x) (are_in_bounds look by number code xs next) h in
      let group = range_with_len (start x) (F x - start x) in
      let b' : World Value State = emit by C' group b in
      let one = one-fits x inside.0 a b s pair.0 in
      subst (Same (emit by C xs next)) (sym (emit-append look by number unsigned_number counts code code' changes planned precede arena_is types_are contents_are group (F x ∷ stretched xs) b))
      (emits-moved xs inside.1 next (put (F x) (emitted_value by C' b' (F x)) b') (put-moved by N F C C' moved-code x (emitted_value by C a x) (emitted_value by C' b' (F x)) a b' one.0 inside.0 one.1) pair.1)

  stretched-range : (k s : ℕ) → s + k ≤ N → range_with_len (start s) (start (s + k) - start s) ≡ stretched (range_with_len s k)
  stretched-range zero s within =
      let none : start (s + 0) - start s ≡ 0 = (let same : s + 0 ≡ s = omega arith in let starts = ap start same in omega (arith, starts)) in
      ap (range_with_len (start s)) none
  stretched-range (suc k) s within =
      let all = planned.all in
      let next = new-next changes s (omega (arith, within, all)) in
      let rises = start-rises changes s (s + 1) (omega arith) (omega (arith, within, all)) in
      let later = start-rises changes (s + 1) ((s + 1) + k) (omega arith) (omega (arith, within, all)) in
      let same : s + suc k ≡ (s + 1) + k = omega arith in
      let ends = ap start same in
      let total : start (s + suc k) - start s ≡ (F s - start s) + suc (start ((s + 1) + k) - start (s + 1)) = omega (arith, next, rises, later, ends) in
      let there : start s + (F s - start s) ≡ F s = omega (arith, next, rises) in
      let after : F s + 1 ≡ start (s + 1) = next in
      ap (range_with_len (start s)) total
      ∙ range-append (start s) (F s - start s) (suc (start ((s + 1) + k) - start (s + 1)))
      ∙ ap (λ p. range_with_len (start s) (F s - start s) ++ p ∷ range_with_len (p + 1) (start ((s + 1) + k) - start (s + 1))) there
      ∙ ap (λ p. range_with_len (start s) (F s - start s) ++ F s ∷ range_with_len p (start ((s + 1) + k) - start (s + 1))) after
      ∙ ap (λ rest. range_with_len (start s) (F s - start s) ++ F s ∷ rest) (stretched-range k (s + 1) (omega (arith, within)))

  range-stretched : (first past : ℕ) → first ≤ past → past ≤ N → handles_of (rename_range start (first, past)) ≡ stretched (handles_of (first, past))
  range-stretched first past before within = go (nat_lt (start first) (start past)) refl
    where
      whole : first + (past - first) ≡ past
      whole = omega (arith, before)

      long : start (first + (past - first)) - start first ≡ start past - start first
      long = ap (λ p. start p - start first) whole

      is : range_with_len (start first) (start past - start first) ≡ stretched (handles_of (first, past))
      is = ap (range_with_len (start first)) (sym long) ∙ stretched-range (past - first) first (let w = whole in omega (arith, w, within))

      go : (t : Bool) → nat_lt (start first) (start past) ≡ t → handles_of (rename_range start (first, past)) ≡ stretched (handles_of (first, past))
      go true test = ap (λ t. handles_of (if t then (start first, start past) else (0, 0))) test ∙ is
      go false test =
          let none : start past - start first ≡ 0 = (let behind : start past ≤ start first = grind (arith, nat_tests) in omega (arith, behind)) in
          ap (λ t. handles_of (if t then (start first, start past) else (0, 0))) test ∙ sym (ap (range_with_len (start first)) none) ∙ is

  -- ---- statements

  -- handles and ranges of expressions that are within their limits are those of the function
  module _ (Within : Reference → Type 0) (handle-within : (handle : ℕ) → Within (reference.Expression handle) → handle < N)
      (range-within : (first past : ℕ) → Within (reference.Expressions first past) → (first ≤ past) × (past ≤ N)) where
    abbrev AreInside : statement.Statement → Type 0
    AreInside what = All Within (references_of_statement what)

    one-inside : (x : Reference) (rest : List ℕ) → Within x → Each In rest → Each In (cons_option (expression_of x) rest)
    one-inside (reference.Expression handle) rest w h = (less-in handle (handle-within handle w), h)
    one-inside _ rest w h = h

    each-inside : (xs : List Reference) → All Within xs → Each In (expressions_of xs)
    each-inside [] h = tt
    each-inside (x ∷ xs) h = one-inside x (expressions_of xs) (All-head Within x xs h) (each-inside xs (All-tail Within x xs h))

    range-inside : (k s : ℕ) → s + k ≤ N → Each In (range_with_len s k)
    range-inside zero s within = tt
    range-inside (suc k) s within = (less-in s (omega (arith, within)), range-inside k (s + 1) (omega (arith, within)))

    emitted-inside : (what : statement.Statement) → AreInside what → Each In (emitted_by what)
    emitted-inside (statement.Emit range) h =
        let pair = range-within range.0 range.1 (All-head Within (reference.Expressions range.0 range.1) [] h) in
        let ordered = pair.0 in
        let bounded = pair.1 in
        range-inside (range.1 - range.0) range.0 (omega (arith, ordered, bounded))
    emitted-inside _ h = tt

    emitted-stretched : (what : statement.Statement) → AreInside what → emitted_by (rename_statement R what) ≡ stretched (emitted_by what)
    emitted-stretched (statement.Emit range) h =
        let pair = range-within range.0 range.1 (All-head Within (reference.Expressions range.0 range.1) [] h) in
        let ordered = pair.0 in
        let bounded = pair.1 in
        range-stretched range.0 range.1 ordered bounded
    emitted-stretched _ h = refl

    -- ---- what a statement uses

    without-inside : (result : Option ℕ) (xs : List ℕ) → Each In xs → Each In (without result xs)
    without-inside None xs h = h
    without-inside (Some y) xs h = first xs h
      where
        first : (xs : List ℕ) → Each In xs → Each In (without_first y xs)
        first [] h = tt
        first (x ∷ xs) h = go (nat_eq x y) (first xs h.1)
          where
            go : (t : Bool) → Each In (without_first y xs) → Each In (if t then xs else x ∷ without_first y xs)
            go true rest = h.1
            go false rest = (h.0, rest)

    same-test : (x y : ℕ) → In x → In y → nat_eq (F x) (F y) ≡ nat_eq x y
    same-test x y inside inside' = elim (eq-either x y) [
      | yes e ↦ eq-yes (F x) (F y) (ap F e) ∙ sym (eq-yes x y e)
      | no other ↦ eq-no (F x) (F y) (λ e. other (moved-code.distinct x y inside inside' e)) ∙ sym (eq-no x y other)
    ]

    without_first-moved : (y : ℕ) (xs : List ℕ) → In y → Each In xs → without_first (F y) (map F xs) ≡ map F (without_first y xs)
    without_first-moved y [] inside h = refl
    without_first-moved y (x ∷ xs) inside h =
        (λ i. if same-test x y h.0 inside i then map F xs else F x ∷ without_first-moved y xs inside h.1 i) ∙ go (nat_eq x y)
      where
        go : (t : Bool) → (if t then map F xs else F x ∷ map F (without_first y xs)) ≡ map F (if t then xs else x ∷ without_first y xs)
        go true = refl
        go false = refl

    contained-inside : (xs : List ℕ) (y : ℕ) → Each In xs → Contains xs y → In y
    contained-inside [] y h inside = absurd (omega (arith, inside.1))
    contained-inside (x ∷ xs) y h inside = All-contains In (x ∷ xs) y (all-of (x ∷ xs) h) inside
      where
        all-of : (xs : List ℕ) → Each In xs → All In xs
        all-of [] h = All-nil In
        all-of (x ∷ xs) h = All-cons In x xs h.0 (all-of xs h.1)

    result-inside : (result : Option ℕ) (xs : List ℕ) → ResultIsNamed result xs → Each In xs → IfAny In result
    result-inside None xs named h = tt
    result-inside (Some y) xs named h = contained-inside xs y h named

    without-moved : (result : Option ℕ) (xs : List ℕ) → ResultIsNamed result xs → Each In xs → without (option_map F result) (map F xs) ≡ map F (without result xs)
    without-moved None xs named h = refl
    without-moved (Some y) xs named h = without_first-moved y xs (contained-inside xs y h named) h

    pub used-moved : (what : statement.Statement) → AreInside what → used_by (rename_statement R what) ≡ map F (used_by what)
    used-moved what h =
        (λ i. without (result_of-renamed R what i) (used_by-renamed R (push empty (plain what) undefined) i))
        ∙ without-moved (result_of what) (expressions_of (references_of_statement what)) (result-named what) (each-inside (references_of_statement what) h)

    pub used-inside : (what : statement.Statement) → AreInside what → Each In (used_by what)
    used-inside what h = without-inside (result_of what) (expressions_of (references_of_statement what)) (each-inside (references_of_statement what) h)

    action-same : (what : statement.Statement) → action_of look (rename_statement R what) ≡ action_of look what
    action-same what = λ i. if only_evaluates-renamed R what i
        then None
        else Some (
          statement_form-renamed R what i,
          (ap (map (looked_up look)) (references_of_statement-renamed R what)
              ∙ names-same look by number unsigned_number counts code code' changes planned precede arena_is types_are contents_are (references_of_statement what)) i,
        )

    -- ---- the machines

    abbrev Related : World Value State × Bool → World Value State → Type 0
    Related noted b = Same noted.0 b

    abbrev is_good : World Value State × Bool → Bool
    is_good noted = noted.1

    emitted-moved : (what : statement.Statement) → AreInside what → (a b : World Value State) → Same a b → are_in_bounds look by number code (emitted_by what) a ≡ true →
        Same (emit by C (emitted_by what) a) (emit by C' (emitted_by (rename_statement R what)) b)
    emitted-moved what h a b s good =
        subst (λ xs. Same (emit by C (emitted_by what) a) (emit by C' xs b)) (sym (emitted-stretched what h)) (emits-moved (emitted_by what) (emitted-inside what h) a b s good)

    simulates : SimulatesWhile Related F In is_good AreInside (rename_statement R) (watched look by number code) (machine (parts look) by C')
    simulates = record {
      keeps = λ what noted good. (both noted.1 (are_in_bounds look by number code (emitted_by what) noted.0) good).0;
      performs = λ what h noted b s good.
          (let emitted = emitted-moved what h noted.0 b s (both noted.1 (are_in_bounds look by number code (emitted_by what) noted.0) good).1 in
          subst (Same (act (parts look) by C what (emit by C (emitted_by what) noted.0)))
          (sym (λ i. acted by C' (action-same what i) (used-moved what h i) (result_of-renamed R what i) (emit by C' (emitted_by (rename_statement R what)) b)))
          (acted-moved by N F C C' moved-code (action_of look what) (used_by what) (result_of what) (used-inside what h)
          (result-inside (result_of what) (expressions_of (references_of_statement what)) (result-named what) (each-inside (references_of_statement what) h))
          (emit by C (emitted_by what) noted.0) (emit by C' (emitted_by (rename_statement R what)) b) emitted));
      stops = λ what h noted b s good.
          (let emitted = emitted-moved what h noted.0 b s (both noted.1 (are_in_bounds look by number code (emitted_by what) noted.0) good).1 in
          (λ i. stopped by C' (action-same what i) (used-moved what h i) (emit by C' (emitted_by (rename_statement R what)) b))
          ∙ stopped-moved by N F C C' moved-code (action_of look what) (used_by what) (used-inside what h) (emit by C (emitted_by what) noted.0) (emit by C' (emitted_by (rename_statement R what)) b) emitted);
      answers = λ handle inside noted b s. ap by.decide (value-moved by N F C C' moved-code handle noted.0 b s inside);
      choices = λ handle vs inside noted b s. ap (λ v. by.choose v vs) (value-moved by N F C C' moved-code handle noted.0 b s inside);
    }

    abbrev Noted : World Value State → World Value State × Bool → Type 0
    Noted w noted = noted.0 ≡ w

    -- noting changes nothing
    notes : Simulates Noted (λ x. x) In AreInside (λ what. what) (machine (parts look) by C) (watched look by number code)
    notes = record {
      performs = λ what h w noted s. ap (λ w. act (parts look) by C what (emit by C (emitted_by what) w)) s;
      stops = λ what h w noted s. ap (λ w. ends (parts look) by C what (emit by C (emitted_by what) w)) s;
      answers = λ handle h w noted s. ap (λ w. by.decide (value by C w handle)) s;
      choices = λ handle vs h w noted s. ap (λ w. by.choose (value by C w handle) vs) s;
    }

    -- ---- blocks

    in-one : (handle : ℕ) → All Within (operands (handle ∷ [])) → In handle
    in-one handle h = less-in handle (handle-within handle (All-head Within (reference.Expression handle) [] h))

    in-any : (value : Option ℕ) → All Within (present (value ∷ [])) → IfAny In value
    in-any None h = tt
    in-any (Some handle) h = in-one handle h

    mutual
      tree-in : (block : Tree) → All Within (references_of_tree block) → IsIn AreInside In block
      tree-in empty h = tt
      tree-in (push front last span) h =
          (tree-in front (references-left Within (references_of_tree front) (references_of_node last) h), node-in last (references-right Within (references_of_tree front) (references_of_node last) h))

      node-in : (node : Node) → All Within (references_of_node node) → NodeIsIn AreInside In node
      node-in (plain what) h = h
      node-in (nested inner) h = tree-in inner h
      node-in (branch condition accept reject) h =
          let own = references-right Within (operands (condition ∷ [])) (references_of_tree accept ++ references_of_tree reject) h in (
            in-one condition (references-left Within (operands (condition ∷ [])) (references_of_tree accept ++ references_of_tree reject) h),
            tree-in accept (references-left Within (references_of_tree accept) (references_of_tree reject) own),
            tree-in reject (references-right Within (references_of_tree accept) (references_of_tree reject) own),
          )
      node-in (switch selector cases) h = (
        in-one selector (references-left Within (operands (selector ∷ [])) (references_of_cases cases) h),
        cases-in cases (references-right Within (operands (selector ∷ [])) (references_of_cases cases) h),
      )
      node-in (loop body continuing break_if) h =
          let own = references-right Within (present (break_if ∷ [])) (references_of_tree body ++ references_of_tree continuing) h in (
            tree-in body (references-left Within (references_of_tree body) (references_of_tree continuing) own),
            tree-in continuing (references-right Within (references_of_tree body) (references_of_tree continuing) own),
            in-any break_if (references-left Within (present (break_if ∷ [])) (references_of_tree body ++ references_of_tree continuing) h),
          )
      node-in (jump break) h = tt
      node-in (jump continue) h = tt
      node-in (jump kill) h = tt
      node-in (jump (return value)) h = in-any value h

      cases-in : (cases : Cases) → All Within (references_of_cases cases) → CasesAreIn AreInside In cases
      cases-in no_cases h = tt
      cases-in (case value body falls_through others) h =
          (tree-in body (references-left Within (references_of_tree body) (references_of_cases others) h), cases-in others (references-right Within (references_of_tree body) (references_of_cases others) h))

    -- ---- outcomes

    ending-same : (e : Ending) → map_ending (λ handle. 0) (map_ending F e) ≡ map_ending (λ handle. 0) e
    ending-same Normal = refl
    ending-same Break = refl
    ending-same Continue = refl
    ending-same (Return None) = refl
    ending-same (Return (Some x)) = refl
    ending-same Kill = refl
    ending-same Cut = refl

    returned-same : (e : Ending) (a b : World Value State) → Same a b → EndsIn In e → option_map (value by C' b) (result_of_ending (map_ending F e)) ≡ option_map (value by C a) (result_of_ending e)
    returned-same Normal a b s h = refl
    returned-same Break a b s h = refl
    returned-same Continue a b s h = refl
    returned-same (Return None) a b s h = refl
    returned-same (Return (Some x)) a b s h = ap Some (value-moved by N F C C' moved-code x a b s h)
    returned-same Kill a b s h = refl
    returned-same Cut a b s h = refl

    -- what is left, without the note
    abbrev unnoted : Done (World Value State × Bool) → Outcome Value State
    unnoted left = outcome_of by C (record { state = left.state.0; ending = left.ending; slipped = left.slipped })

    outcome-moved : (left : Done (World Value State × Bool)) (left' : Done (World Value State)) → Matches Related F In left left' → outcome_of by C' left' ≡ unnoted left
    outcome-moved left left' m = λ i. record {
      state = m.state.state i;
      ending = (ap (map_ending (λ handle. 0)) m.ending ∙ ending-same left.ending) i;
      slipped = m.slipped i;
      returned = (ap (λ e. option_map (value by C' left'.state) (result_of_ending e)) m.ending ∙ returned-same left.ending left.state.0 left'.state m.state m.within) i;
    }

    outcome-noted : (turns : ℕ) (body : Tree) → All Within (references_of_tree body) → (w : World Value State) → unnoted (does (watched look by number code) turns body (w, true)) ≡ outcome (parts look) by C turns body w
    outcome-noted turns body h w =
        let left = does (machine (parts look) by C) turns body w in
        let seen = does (watched look by number code) turns (again.tree_again body) (w, true) in
        let m : Matches Noted (λ x. x) In left seen =
        does-matches Noted (λ x. x) In AreInside (λ what. what) (machine (parts look) by C) (watched look by number code) notes turns body (tree-in body h) w (w, true) refl
        in
        ap (λ block. unnoted (does (watched look by number code) turns block (w, true))) (sym (tree-same body))
        ∙ (λ i. outcome_of by C (record { state = m.state i; ending = (m.ending ∙ again.ending-same left.ending) i; slipped = m.slipped i }))

    -- each execution that stays in bounds keeps its outcome
    pub outcomes-kept : (turns : ℕ) (body : Tree) → All Within (references_of_tree body) → (a b : World Value State) → Same a b → StaysInBounds look by number code turns body a →
        outcome (parts look) by C' turns (map_tree (rename_statement R) F body) b ≡ outcome (parts look) by C turns body a
    outcomes-kept turns body h a b s stays =
        let tracks = does-tracks Related F In is_good AreInside (rename_statement R) (watched look by number code) (machine (parts look) by C') simulates turns body (tree-in body h) in
        outcome-moved (does (watched look by number code) turns body (a, true)) (does (machine (parts look) by C') turns (map_tree (rename_statement R) F body) b) (tracks.matches (a, true) b s stays)
        ∙ outcome-noted turns body h a

    -- ---- initial values

    -- initial values need the expression
    abbrev NeededBy : List (LocalVariable × Span) → ℕ → Type 0
    NeededBy variables y = IsReached code.arena (Contains (initial_values variables)) y × (y < N)

    pub started : (variables : List (LocalVariable × Span)) → All (λ handle. handle < N) (initial_values variables) →
        ((handle : ℕ) → IsReached code.arena (Contains (initial_values variables)) handle → misfit code handle ≡ None) → (a b : World Value State) → Same a b →
        Same (entered by C (initials variables) a) (entered by C' (initials (map_values (rename_local_variable R) variables)) b)
    started variables inside fit a b s =
        subst (λ inits. Same (entered by C (initials variables) a) (entered by C' inits b)) (sym (initials-renamed R variables))
        (entered-moved by N F C C' moved-code (NeededBy variables) closed (initials variables) a b s
        (each-present (NeededBy variables) variables (each-contained (NeededBy variables) (initial_values variables) (λ y there. (from_root there, All-contains (λ handle. handle < N) (initial_values variables) y inside there)))))
      where
        operands-needed : (x : ℕ) → NeededBy variables x → (e : Expression) → expression_at code x ≡ Some e → Each (NeededBy variables) (operands_of e)
        operands-needed x needed e found =
            each-contained (NeededBy variables) (operands_of e)
            (λ y there. (
              by_step needed.0 (record { expression = e; found = found; contained = there }),
              go (operands_of e) y (operands-within counts code code' changes planned precede arena_is types_are contents_are x e found) there,
            ))
          where
            go : (ys : List ℕ) (y : ℕ) → Each (λ y. y < x) ys → Contains ys y → y < N
            go ys y h there = let less : y < x = All-contains (λ y. y < x) ys y (all-of ys h) there in let below : x < N = needed.1 in omega (arith, less, below)
              where
                all-of : (xs : List ℕ) → Each (λ y. y < x) xs → All (λ y. y < x) xs
                all-of [] h = All-nil (λ y. y < x)
                all-of (z ∷ xs) h = All-cons (λ y. y < x) z xs h.0 (all-of xs h.1)

        closed : AreClosed by N F C C' moved-code (NeededBy variables)
        closed = record {
          inside = λ x needed. less-in x needed.1;
          same = λ x needed.
              (let e = (value-there code.arena x needed.1).0 in
              let found = (value-there code.arena x needed.1).1 in
              stays-same look by number unsigned_number counts code code' changes planned precede arena_is types_are contents_are x e found
              (stays-found counts code code' changes planned precede arena_is types_are contents_are x e found (stays counts code changes planned x e found (fit x needed.0))));
          operands = λ x needed.
              (let e = (value-there code.arena x needed.1).0 in
              let found = (value-there code.arena x needed.1).1 in
              subst (λ v. Each (NeededBy variables) (operands_found v)) (sym found) (operands-needed x needed e found));
        }
