-- An `Emit` need not evaluate what is evaluated where it is used.
use Rattle.std.proofs.Common.{◌≡◌, ◌∙◌, sym, ap, refl, inl, inr, ℕ, zero, suc, ◌<◌, Bool, true, false, List, [], ◌∷◌, map, Option, Some, None, arith}
use Rattle.std.proofs.lemmas.Bool.{cases_Bool}
use Rattle.std.specs.Prelude.{⊤, if◌then◌else◌, option_map}
use Rattle.naga_ir.specs.Tree.{Tree, empty, push, Node, plain, nested, branch, switch, loop, jump, break, continue, kill, return, Cases, no_cases, case}
use Rattle.naga_ir.specs.declared.statement.Statement.{Statement}
use Rattle.naga_compact.specs.Mapping.Runs.{map_ending}
use Rattle.naga_wgsl.specs.Inlining.{not_skipped, skipping}
use Rattle.naga_meaning.specs.Machine.{Machine, IfAny, IsIn, NodeIsIn, CasesAreIn, does}
use Rattle.naga_meaning.specs.Replacing.{ChainsGoBack}
use Rattle.naga_meaning.specs.Values.{Interpretation, Code, Parts, World, put, put_result, result_of_ending, value_within, value, emitted_value, emit, acted, machine, outcome, stopped}
use Rattle.naga_meaning.proofs.EachLemmas.{map-each}
use Rattle.naga_meaning.proofs.MatchesLemmas.{does-matches}
use Rattle.naga_meaning.proofs.RedirectsLemmas.{put-here, put-there}
use Rattle.naga_meaning.proofs.RenamesCodeLemmas.{eq-either}
use Rattle.naga_meaning.proofs.Simulation.{Matches, Simulates}
use Rattle.naga_meaning.proofs.SimulatesLemmas.{ending-same, tree_again, tree-same}

-- ---- a property of nothing

abbrev Plain : Statement → Type 0
Plain what = ⊤

abbrev Any : ℕ → Type 0
Any handle = Unit {0}

any-if : (value : Option ℕ) → IfAny Any value
any-if None = tt
any-if (Some x) = tt

mutual
  any-block : (block : Tree) → IsIn Plain Any block
  any-block empty = tt
  any-block (push front last span) = (any-block front, any-node last)

  any-node : (node : Node) → NodeIsIn Plain Any node
  any-node (plain what) = tt
  any-node (nested inner) = any-block inner
  any-node (branch condition accept reject) = (tt, any-block accept, any-block reject)
  any-node (switch selector cases) = (tt, any-cases cases)
  any-node (loop body continuing break_if) = (any-block body, any-block continuing, any-if break_if)
  any-node (jump break) = tt
  any-node (jump continue) = tt
  any-node (jump kill) = tt
  any-node (jump (return value)) = any-if value

  any-cases : (cases : Cases) → CasesAreIn Plain Any cases
  any-cases no_cases = tt
  any-cases (case value body falls_through others) = (any-block body, any-cases others)

module _ {Shape Action Value State : Type 0} (parts : Parts Action) (by : Interpretation Shape Action Value State) (code : Code Shape) (back : ChainsGoBack by code) (skipped : ℕ → Bool)
    (only : (x : ℕ) → skipped x ≡ true → code.at_use x ≡ true) where
  -- the same state, and the same values of what is not evaluated where it is used
  abbrev pub SameRead : World Value State → World Value State → Type 0
  SameRead a b = (b.state ≡ a.state) × ((x : ℕ) → code.at_use x ≡ false → b.values x ≡ a.values x)

  within-read : (k x : ℕ) (a b : World Value State) → SameRead a b → x < k → value_within by code k b x ≡ value_within by code k a x
  within-read zero x a b s less = absurd (omega (arith, less))
  within-read (suc k) x a b s less = elim (cases_Bool (code.at_use x)) [
    | inl is ↦
        (λ i. if is i then by.compute (code.shape x) (map (value_within by code k b) (code.operands x)) b.state else b.values x)
        ∙ (λ i. by.compute (code.shape x)
        (map-each (λ y. y < x) (value_within by code k a) (value_within by code k b) (λ y before. within-read k y a b s (omega (arith, less, before))) (code.operands x) (back x is) i) (s.0 i))
        ∙ sym (λ i. if is i then by.compute (code.shape x) (map (value_within by code k a) (code.operands x)) a.state else a.values x)
    | inr is ↦
        (λ i. if is i then by.compute (code.shape x) (map (value_within by code k b) (code.operands x)) b.state else b.values x)
        ∙ s.1 x is
        ∙ sym (λ i. if is i then by.compute (code.shape x) (map (value_within by code k a) (code.operands x)) a.state else a.values x)
  ]

  value-read : (x : ℕ) (a b : World Value State) → SameRead a b → value by code b x ≡ value by code a x
  value-read x a b s = within-read (suc x) x a b s (omega arith)

  values-read : (xs : List ℕ) (a b : World Value State) → SameRead a b → map (value by code b) xs ≡ map (value by code a) xs
  values-read xs a b s = λ i. map (λ y. value-read y a b s i) xs

  put-read : (x : ℕ) (v w : Value) (a b : World Value State) → SameRead a b → w ≡ v → SameRead (put x v a) (put x w b)
  put-read x v w a b s is = (
    s.0,
    λ y other. elim (eq-either y x) [
      | yes e ↦ put-here x y w b e ∙ is ∙ sym (put-here x y v a e)
      | no e ↦ put-there x y w b e ∙ s.1 y other ∙ sym (put-there x y v a e)
    ],
  )

  -- what is skipped is not read
  put-skipped : (x : ℕ) (v : Value) (a b : World Value State) → SameRead a b → skipped x ≡ true → SameRead (put x v a) b
  put-skipped x v a b s is = (
    s.0,
    λ y other. elim (eq-either y x) [
      | yes e ↦ absurd (let clash : true ≡ false = sym (only x is) ∙ sym (ap code.at_use e) ∙ other in cc)
      | no e ↦ s.1 y other ∙ sym (put-there x y v a e)
    ],
  )

  emit-skipped : (xs : List ℕ) (a b : World Value State) → SameRead a b → SameRead (emit by code xs a) (emit by code (not_skipped skipped xs) b)
  emit-skipped [] a b s = s
  emit-skipped (x ∷ xs) a b s = go (skipped x) refl (λ c d t. emit-skipped xs c d t)
    where
      go : (t : Bool) → skipped x ≡ t → ((c d : World Value State) → SameRead c d → SameRead (emit by code xs c) (emit by code (not_skipped skipped xs) d)) →
          SameRead (emit by code (x ∷ xs) a) (emit by code (if t then not_skipped skipped xs else x ∷ not_skipped skipped xs) b)
      go true is later = later (put x (emitted_value by code a x) a) b (put-skipped x (emitted_value by code a x) a b s is)
      go false is later =
          later (put x (emitted_value by code a x) a) (put x (emitted_value by code b x) b)
          (put-read x (emitted_value by code a x) (emitted_value by code b x) a b s (λ i. by.compute (code.shape x) (values-read (code.operands x) a b s i) (s.0 i)))

  result-read : (result : Option ℕ) (v w : Value) (a b : World Value State) → SameRead a b → w ≡ v → SameRead (put_result result v a) (put_result result w b)
  result-read None v w a b s is = s
  result-read (Some x) v w a b s is = put-read x v w a b s is

  acted-read : (action : Option Action) (uses : List ℕ) (result : Option ℕ) (a b : World Value State) → SameRead a b → SameRead (acted by code action uses result a) (acted by code action uses result b)
  acted-read None uses result a b s = s
  acted-read (Some action) uses result a b s =
      let after = by.perform action (map (value by code a) uses) a.state in
      let after' = by.perform action (map (value by code b) uses) b.state in
      let same : after' ≡ after = λ i. by.perform action (values-read uses a b s i) (s.0 i) in
      result-read result after.1 after'.1 (record a { state = after.0 }) (record b { state = after'.0 }) (ap (λ x. x.0) same, s.1) (ap (λ x. x.1) same)

  stopped-read : (action : Option Action) (uses : List ℕ) (a b : World Value State) → SameRead a b → stopped by code action uses b ≡ stopped by code action uses a
  stopped-read None uses a b s = refl
  stopped-read (Some action) uses a b s = λ i. by.stop action (values-read uses a b s i) (s.0 i)

  abbrev M : Machine (World Value State)
  M = machine parts by code

  abbrev M' : Machine (World Value State)
  M' = machine (skipping skipped parts) by code

  simulates : Simulates SameRead (λ x. x) Any Plain (λ what. what) M M'
  simulates = record {
    performs = λ what keeps a b s.
        acted-read (parts.action what) (parts.uses what) (parts.result what) (emit by code (parts.emits what) a) (emit by code (not_skipped skipped (parts.emits what)) b) (emit-skipped (parts.emits what) a b s);
    stops = λ what keeps a b s.
        stopped-read (parts.action what) (parts.uses what) (emit by code (parts.emits what) a) (emit by code (not_skipped skipped (parts.emits what)) b) (emit-skipped (parts.emits what) a b s);
    answers = λ handle so a b s. ap by.decide (value-read handle a b s);
    choices = λ handle vs so a b s. ap (λ v. by.choose v vs) (value-read handle a b s);
  }

  pub outcome-skipped : (turns : ℕ) (body : Tree) (a b : World Value State) → SameRead a b → outcome (skipping skipped parts) by code turns body b ≡ outcome parts by code turns body a
  outcome-skipped turns body a b s =
      let left = does M turns body a in
      let left' = does M' turns (tree_again body) b in
      let m : Matches SameRead (λ x. x) Any left left' = does-matches SameRead (λ x. x) Any Plain (λ what. what) M M' simulates turns body (any-block body) a b s in
      let ends : left'.ending ≡ left.ending = m.ending ∙ ending-same left.ending in
      ap (λ block. outcome (skipping skipped parts) by code turns block b) (sym (tree-same body))
      ∙ (λ i. record {
        state = m.state.0 i;
        ending = map_ending (λ x. 0) (ends i);
        slipped = m.slipped i;
        returned = (ap (λ e. option_map (value by code left'.state) (result_of_ending e)) ends
            ∙ (λ j. option_map (λ y. value-read y left.state left'.state m.state j) (result_of_ending left.ending))) i;
      })
